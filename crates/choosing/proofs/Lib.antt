-- That what is computed step by step is what the rules say.
pub mod Slots
pub mod Best
pub mod Pairs
pub mod Steps
pub mod Layouts
pub mod Suited
