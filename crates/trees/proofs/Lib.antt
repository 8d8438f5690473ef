-- Laws of the tree as positions.
pub mod Arrays
pub mod Seeking
pub mod Lefts
pub mod Ways
