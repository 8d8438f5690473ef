-- What the code of a cut node computes on the way.
pub mod Cut
