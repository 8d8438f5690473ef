-- What is a case.
pub mod Case
