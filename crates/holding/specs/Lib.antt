-- What counting what a rectangle holds computes, column by column.
pub mod Held
