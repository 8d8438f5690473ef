-- What keeps places on the sheet small enough to count with.
pub mod Sheet
