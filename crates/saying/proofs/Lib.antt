-- What the proofs of the functions cite.
pub mod Needs
pub mod Read
