-- What the checker's functions compute, step by step.
pub mod Modules
pub mod Cuts
