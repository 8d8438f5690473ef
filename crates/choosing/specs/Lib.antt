-- What choosing computes, step by step; proofs/ takes it to the rules' own words.
pub mod Choose
pub mod Descend
