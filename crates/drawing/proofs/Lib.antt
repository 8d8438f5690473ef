-- What the proofs of drawing share.
pub mod Passed
