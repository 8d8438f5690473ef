-- Laws of the scan's loops, and of what they leave.
pub mod Runs
pub mod Beside
pub mod Above
pub mod Corners
pub mod Storing
pub mod Vertical
pub mod Horizontal
pub mod FromTheLowest
pub mod FromTheNarrowest
pub mod Nodes
