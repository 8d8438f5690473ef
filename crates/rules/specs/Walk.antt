-- The walk along the stair: rule 33 of docs/RULES.md, order 2 of 02. "A leaf is to be listed from one column at full height, stepping down
-- while the rectangle still suits and otherwise adding a column." It is over any test of the rooms at one corner: `suits w h` asks whether
-- the room of w columns and h rows passes.
use Rattle.std.specs.Prelude.{Bool, true, false, ◌&&◌, ℕ, zero, suc, ltb}

-- "stepping down while the rectangle still suits": from h rows down, the first number of rows that does not suit, or 0 where the rows are
-- used up
unfoldable pub stepped_down : (ℕ → Bool) → ℕ → ℕ
stepped_down suits zero = 0
stepped_down suits (suc h) = elim (suits (suc h)) [ true ↦ stepped_down suits h | false ↦ suc h ]

-- "from one column at full height", "and otherwise adding a column": the rows at which the walk leaves width w
unfoldable pub rows_after : (ℕ → ℕ → Bool) → ℕ → ℕ → ℕ
rows_after suits rows zero = rows
rows_after suits rows (suc w) = stepped_down (suits (suc w)) (rows_after suits rows w)

-- At a corner (x, y) the columns are W-x, and the rows, the full height, H-y. Byte j of the slot, that of width j + 1: the last height that
-- suited there, which is one more than where the walk leaves it; or 0, where none did or the columns are used up.
unfoldable pub walked : (ℕ → ℕ → Bool) → ℕ → ℕ → ℕ → ℕ
walked suits columns rows j =
    let h = rows_after suits rows (suc j) in elim (ltb j columns && ltb h (rows_after suits rows j)) [ true ↦ suc h | false ↦ 0 ]
