-- What the scan's loops find in a run of bytes, and what listing a cut by it asks for and leaves.
pub mod Run
pub mod Scan
