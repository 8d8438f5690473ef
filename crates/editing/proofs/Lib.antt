-- What the proofs share.
mod Naming
