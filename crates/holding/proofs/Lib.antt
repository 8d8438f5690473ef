-- Laws of what a rectangle holds.
pub mod Holding
