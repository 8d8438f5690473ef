-- What the proofs share: text put after text, and how long it can be.
pub mod Putting
