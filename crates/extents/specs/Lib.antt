-- Extents by their sides.
pub mod Sides
