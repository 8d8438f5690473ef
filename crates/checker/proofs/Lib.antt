-- Laws of the checker's steps.
pub mod FirstFault
pub mod Extents
pub mod Passing
