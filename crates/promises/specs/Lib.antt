-- The three demands (00), in the user's words and order, and order 1's promises of a score (02), as statements about any services; proofs/ shows
-- them of all that keep their contracts.
pub mod Services
pub mod Demand1
pub mod Demand2
pub mod Demand3
pub mod Same
pub mod Scoring
