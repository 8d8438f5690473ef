-- What a caller's proof cites.
pub mod Putting
