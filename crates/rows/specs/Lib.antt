-- What a row can hold.
pub mod Row
