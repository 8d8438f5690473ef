-- The order of a design's numbers, and where each begins.
pub mod Order
