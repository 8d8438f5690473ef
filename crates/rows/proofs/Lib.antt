-- What fits a row. That a row read back is the rectangle stored stands in rules (proofs/RowsOut).
pub mod Fitting
