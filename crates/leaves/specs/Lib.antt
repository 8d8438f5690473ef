-- What listing a leaf asks for, what its walk carries, and how it steps down.
pub mod Leaf
pub mod Room
pub mod Step
