-- What the proofs share, and what a caller takes.
mod Reading
pub mod Once
