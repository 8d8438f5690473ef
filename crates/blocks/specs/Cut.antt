-- What a region covers of a block, and what it cuts.
use Rattle.std.specs.Prelude.{◌≡◌, ℕ, ◌+◌, ◌*◌, ◌<◌, ◌≤◌, Bool, true, false, not, ◌&&◌, nat_le, nat_lt}
use Rattle.rules.specs.declared.Chip.{Chip}
use Rattle.rules.specs.declared.Rectangle.{Rectangle}
use Rattle.rules.specs.Chip.{Column, left, right, bottom, top}
use Rattle.rules.specs.Design.{most_columns, most_rows}

-- a chip within the limits
pub record Within (C : Chip) : Type 0 where
  pub width : C.width.0 ≤ most_columns
  pub height : C.height.0 ≤ most_rows
  pub some_rows : 0 < C.block.0
  pub block : C.block.0 ≤ C.height.0

-- a rectangle is block j of column x
pub record IsBlock (c : Column) (x j : ℕ) (b : Rectangle) : Type 0 where
  pub column : left b ≡ x
  pub wide : b.shape.w.0 ≡ 1
  pub low : bottom b ≡ c.first + j * c.high
  pub high : b.shape.h.0 ≡ c.high

-- a region covers all rows of a block that stands in one of its columns: `covers_block` of the rules, for the block's rectangle
unfoldable pub covers : Rectangle → Rectangle → Bool
covers r b = nat_le (bottom r) (bottom b) && nat_le (top b) (top r)

-- two rectangles have a cell in common
unfoldable pub meets : Rectangle → Rectangle → Bool
meets r b = nat_lt (left b) (right r) && nat_lt (left r) (right b) && nat_lt (bottom b) (top r) && nat_lt (bottom r) (top b)

-- some cells of the block are the region's, and not all
unfoldable pub cuts : Rectangle → Rectangle → Bool
cuts r b = meets r b && not (covers r b)

-- a count, with one more if that is so
abbrev pub counted : Bool → ℕ → ℕ
counted is n = elim is [ true ↦ 1 + n | false ↦ n ]
