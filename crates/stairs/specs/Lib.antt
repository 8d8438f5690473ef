-- How the stair test goes over the bytes.
pub mod Walk
