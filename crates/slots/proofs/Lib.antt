-- Laws of written bytes, and of the bytes lent for slots.
pub mod Filling
pub mod Writing
pub mod Lending
pub mod Covering
