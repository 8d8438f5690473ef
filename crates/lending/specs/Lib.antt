-- What the contracts cite.
pub mod Lent
