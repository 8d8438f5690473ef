-- What the contracts cite besides the rules.
pub mod Parts
