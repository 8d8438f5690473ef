-- What the services test before they begin.
pub mod Tested
