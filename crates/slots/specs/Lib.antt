-- The chip's size, how a slot, and all slots of a node, are written, and the bytes lent for them.
pub mod Size
pub mod Written
pub mod Lent
