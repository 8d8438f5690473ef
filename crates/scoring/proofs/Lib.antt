-- Laws of the score's steps.
pub mod Literals
pub mod Listed
pub mod Extents
pub mod Sums
pub mod Front
