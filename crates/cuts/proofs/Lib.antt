-- Laws of a cut's slots.
pub mod Least
pub mod Tops
pub mod Filling
pub mod Laying
pub mod Cutting
pub mod Nodes
