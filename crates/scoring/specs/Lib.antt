-- What the score's functions compute, step by step.
pub mod Amounts
