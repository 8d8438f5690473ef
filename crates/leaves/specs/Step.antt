-- Stepping down, over what the walk carries: a room less a row, while what it holds is at least the need.
use Rattle.std.specs.Prelude.{◌≡◌, true, false, ℕ, zero, suc, ◌≤◌, ltb, Option, Some, None}
use Rattle.rules.specs.declared.Need.{Need}
use Rattle.rules.specs.Check.{is_at_most}
use Rattle.rules.specs.Design.{most_rows}
use Rattle.leaves.specs.declared.room.Room.{Room}
use Rattle.leaves.specs.Room.{lower, Lowers}

-- what is left of h rows
unfoldable pub descended : Need → ℕ → ℕ → Room → Room
descended need B zero r = r
descended need B (suc h) r = elim (is_at_most need r.held) [ true ↦ descended need B h (lower B r) | false ↦ r ]

-- each of the h rows can be taken away in turn
unfoldable pub Descends : ℕ → ℕ → Room → Type 0
Descends B zero r = r.rows.0 ≡ 0
Descends B (suc h) r = (r.rows.0 ≡ suc h) × Lowers B r × Descends B h (lower B r)

pub record Steppable (B : ℕ) (from : Room) : Type 0 where
  pub some : 1 ≤ from.rows.0
  pub rows : from.rows.0 ≤ most_rows
  pub down : Descends B from.rows.0 from

-- the room where it stops, if that has rows
unfoldable pub step_to : Room → Option Room
step_to r = elim (ltb 0 r.rows.0) [ true ↦ Some r | false ↦ None ]

-- the height kept once h rows of so many are left: the last one that suited, or what stood there if none did
abbrev pub last_of : ℕ → ℕ → ℕ → ℕ
last_of h rows was = elim (ltb h rows) [ true ↦ suc h | false ↦ was ]

pub record Stepped (need : Need) (B : ℕ) (from : Room) (before after : ℕ) (r : Option Room) : Type 0 where
  pub to : r ≡ step_to (descended need B from.rows.0 from)
  pub height : after ≡ last_of (descended need B from.rows.0 from).rows.0 from.rows.0 before
