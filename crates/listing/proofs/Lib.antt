-- Laws of a pass over the nodes.
pub mod Passing
mod Nodes
