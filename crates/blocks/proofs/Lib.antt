-- What the proofs of blocks share.
pub mod Standing
