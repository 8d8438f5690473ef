-- What the walk carries, and its two steps: what a column adds to the room, and what a row takes away from it.
use Rattle.std.specs.Prelude.{◌≡◌, Bool, true, false, ℕ, ◌-◌, ◌*◌, ◌/◌, ◌≤◌, ◌<◌, ltb, eqb}
use Rattle.rules.specs.declared.Chip.{Chip}
use Rattle.rules.specs.declared.Need.{Need}
use Rattle.rules.specs.declared.Rows.{Rows}
use Rattle.rules.specs.Design.{most_columns, most_rows, no_need}
use Rattle.rules.proofs.Test.{only_if, blocks_between}
use Rattle.holding.specs.Held.{EachUpTo, with_column, column_in}
use Rattle.leaves.specs.declared.room.Room.{Room}

abbrev pub as_rows : ℕ → Rows
as_rows n = record { 0 = n }

-- the rows from a low one up to where the last of so many blocks ends; 0 without any block
abbrev pub edge_above : ℕ → ℕ → ℕ → ℕ
edge_above low end blocks = only_if (ltb 0 blocks) (end - low)

-- where the blocks of B rows that stand whole from row y to row `far` end
abbrev pub edge_of : ℕ → ℕ → ℕ → ℕ
edge_of B y far = edge_above y (far / B * B) (blocks_between B y far)

-- all rows above row y, and no column yet
unfoldable pub no_columns : ℕ → ℕ → ℕ → Room
no_columns H B y = record {
  rows = as_rows (H - y);
  blocks = blocks_between B y H;
  edge = as_rows (edge_of B y H);
  row = no_need;
  held = no_need;
}

abbrev pub full_at : Chip → ℕ → Room
full_at C y = no_columns C.height.0 C.block.0 y

-- what a column adds, of its kind: to what a row can take away one, to what is held what it holds in the room's rows
abbrev pub one_each : Need
one_each = column_in 1 1

abbrev pub column_adds : Room → Need
column_adds r = column_in r.rows.0 r.blocks

-- the room with one column more
unfoldable pub wider : Room → ℕ → Room
wider r kind = record {
  rows = r.rows;
  blocks = r.blocks;
  edge = r.edge;
  row = with_column r.row kind one_each;
  held = with_column r.held kind (column_adds r);
}

-- a block of each block column ends with the highest row
abbrev pub ends : Room → Bool
ends r = eqb r.rows.0 r.edge.0

-- what the highest row takes away: a CLB of each CLB column, and the blocks that end with it
abbrev pub row_takes : Room → Need
row_takes r = record {
  clbs = r.row.clbs;
  rams = only_if (ends r) r.row.rams;
  multipliers = only_if (ends r) r.row.multipliers;
}

-- the room with one row less
unfoldable pub lower : ℕ → Room → Room
lower B r = record {
  rows = as_rows (r.rows.0 - 1);
  blocks = r.blocks - only_if (ends r) 1;
  edge = as_rows (elim (ends r) [ true ↦ edge_above B r.edge.0 (r.blocks - 1) | false ↦ r.edge.0 ]);
  row = r.row;
  held = record {
    clbs = r.held.clbs - (row_takes r).clbs;
    rams = r.held.rams - (row_takes r).rams;
    multipliers = r.held.multipliers - (row_takes r).multipliers;
  };
}

-- what these ask for: a row of a chip within the limits; numbers small enough to add; and enough to take away from
pub record Standing (C : Chip) (y : ℕ) : Type 0 where
  pub block : 1 ≤ C.block.0
  pub blocks : C.block.0 ≤ most_rows
  pub row : y < C.height.0
  pub rows : C.height.0 ≤ most_rows

pub record Widens (r : Room) : Type 0 where
  pub rows : r.rows.0 ≤ most_rows
  pub blocks : r.blocks ≤ most_rows
  pub row : EachUpTo (most_columns * most_rows) r.row
  pub held : EachUpTo (most_columns * most_rows) r.held

pub record Lowers (B : ℕ) (r : Room) : Type 0 where
  pub some : 1 ≤ r.rows.0
  pub clbs : r.row.clbs ≤ r.held.clbs
  pub blocks : r.rows.0 ≡ r.edge.0 → 1 ≤ r.blocks
  pub rams : r.rows.0 ≡ r.edge.0 → r.row.rams ≤ r.held.rams
  pub multipliers : r.rows.0 ≡ r.edge.0 → r.row.multipliers ≤ r.held.multipliers
  pub edge : r.rows.0 ≡ r.edge.0 → 1 < r.blocks → B ≤ r.edge.0
