-- The tree of a design as positions.
pub mod Positions
