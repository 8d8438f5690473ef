-- What placing from stored lists asks for, and what it answers.
pub mod Place
