-- What is held, column by column.
use Rattle.std.specs.Prelude.{ℕ, ◌+◌, ◌≤◌, eqb}
use Rattle.rules.specs.declared.Need.{Need}
use Rattle.rules.proofs.Test.{only_if}

-- at most so many of each kind
pub record EachUpTo (most : ℕ) (n : Need) : Type 0 where
  pub clbs : n.clbs ≤ most
  pub rams : n.rams ≤ most
  pub multipliers : n.multipliers ≤ most

-- what a column of each kind holds in so many rows, in which so many of its blocks stand whole
abbrev pub column_in : ℕ → ℕ → Need
column_in rows blocks = record { clbs = rows; rams = blocks; multipliers = blocks }

-- one column more, which adds what it holds of its own kind
unfoldable pub with_column : Need → ℕ → Need → Need
with_column held kind column = record {
  clbs = held.clbs + only_if (eqb kind 0) column.clbs;
  rams = held.rams + only_if (eqb kind 1) column.rams;
  multipliers = held.multipliers + only_if (eqb kind 2) column.multipliers;
}
