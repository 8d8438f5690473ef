-- What the proofs share.
mod Needed
mod Answers
mod Scored
