-- Laws of a leaf's list.
pub mod Edges
pub mod Carrying
pub mod Descending
pub mod Widths
pub mod Covering
