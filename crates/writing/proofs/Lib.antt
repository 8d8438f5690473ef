-- What the proofs share, and what a caller's proof cites.
mod Lengths
mod Putting
pub mod Longest
