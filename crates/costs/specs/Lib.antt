-- Terms and nets in slices.
pub mod Slices
pub mod Places
