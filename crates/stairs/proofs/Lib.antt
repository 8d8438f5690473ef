-- Laws of the stair test.
pub mod Walking
