-- What the plan program's answer is.
pub mod Run
