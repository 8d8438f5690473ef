-- What the reading of tokens keeps of the things standing.
pub mod Stack
pub mod Tested
