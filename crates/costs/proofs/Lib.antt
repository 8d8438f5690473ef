-- Laws of terms and nets in slices.
pub mod Pairing
pub mod Netting
pub mod Saying
