-- Laws of placing from stored lists.
pub mod Rows
pub mod Going
pub mod Answering
