-- The stair test as the code goes: byte by byte along a slot, then slot by slot. proofs/Walking shows that it decides 01's rule.
use Rattle.std.specs.Prelude.{Bool, true, false, List, ℕ, zero, suc, ltb, eqb, get_or, Option, Some, None}
use Rattle.rules.specs.declared.Corner.{Corner}
use Rattle.rules.specs.Search.{all}
use Rattle.rules.specs.Chip.{corner}
use Rattle.rules.proofs.Test.{is_stair, are_stairs}
use Rattle.slots.specs.declared.Board.{Board}

-- a byte, and whether it is zero
abbrev pub byte_at : List ℕ → ℕ → ℕ
byte_at bytes j = get_or bytes j 0

abbrev pub zero_at : List ℕ → ℕ → Bool
zero_at bytes j = eqb (byte_at bytes j) 0

-- What the next nonzero byte of a slot has to stay below, after a byte at a width that is on the chip or not: a zero leaves it, a
-- byte that falls takes its place, and it is 0 once the slot is no stair.
unfoldable pub next_low : ℕ → ℕ → Bool → ℕ
next_low low byte on =
    elim (eqb byte 0) [ true ↦ low | false ↦ elim on [ true ↦ elim (ltb byte low) [ true ↦ byte | false ↦ 0 ] | false ↦ 0 ] ]

-- and after the n bytes from j on, of a slot with so many columns on the chip
unfoldable pub low_after : ℕ → (ℕ → ℕ) → ℕ → ℕ → ℕ → ℕ
low_after columns bytes j zero low = low
low_after columns bytes j (suc n) low = low_after columns bytes (suc j) n (next_low low (bytes j) (ltb j columns))

-- that height, if there is one
unfoldable pub low_left : ℕ → Option ℕ
low_left low = elim (ltb 0 low) [ true ↦ Some low | false ↦ None ]

-- on a board the slot at column x of row y, the slots of row y, all slots of node t, and those of the first n nodes, are stairs
abbrev pub slot_stair : Board → (Corner → ℕ → ℕ) → ℕ → ℕ → Bool
slot_stair b slots y x = is_stair b.width.0 b.height.0 (corner x y) (slots (corner x y))

abbrev pub row_stairs : Board → (Corner → ℕ → ℕ) → ℕ → Bool
row_stairs b slots y = all b.width.0 (slot_stair b slots y)

abbrev pub node_stairs : Board → (ℕ → Corner → ℕ → ℕ) → ℕ → Bool
node_stairs b slots t = all b.listed.0 (row_stairs b (slots t))

abbrev pub stairs_on : Board → ℕ → (ℕ → Corner → ℕ → ℕ) → Bool
stairs_on b n slots = are_stairs b.width.0 b.height.0 b.listed.0 n slots
