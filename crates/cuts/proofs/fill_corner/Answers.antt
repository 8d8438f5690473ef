-- `cuts::fill_corner` meets its contract: the slot's bytes are those lent for it, and its top sides stand in the line. Assumes nothing.
use mathlib.Core.Path.{◌≡◌}
use mathlib.Core.List.{List}
use Prim.Native.Nat.{ℕ, ◌+◌, ◌-◌, ◌≤◌}
use native.Mathlib.Omega.{arith}
use borrow.Rule.Slice.PartMut.{mid_of}
use lib.ListN.{length}
use Rattle.std.proofs.lemmas.List.{places}
use Rattle.slots.specs.Lent.{slots_on}
use Rattle.cuts.proofs.Filling.{corner_filled}
use Rattle.cuts.proofs.fill_corner.Goals as goal

pub slot_part-slot-requires : goal.slot_part-slot-requires
slot_part-slot-requires c = let p = c.requires in (p.0, p.1, omega arith)

-- the places of its top sides
side_long : (to x n : ℕ) (line : List ℕ) → to + x + 1 + n ≤ length line → length (mid_of (to + x + 1) (to + x + 1 + n - (to + x + 1)) line) ≡ n
side_long to x n line h = search (arith, places)

pub fill_slot-requires : goal.fill_slot-requires
fill_slot-requires c = let a = c.args in let p = c.requires in (omega (arith, side_long a.to a.at.x.0 (a.board.width.0 - a.at.x.0) a.line.now (omega (arith, c.requires.2, c.requires.1.column, c.requires.0.columns, c.told-line)), c.slot_part-slot.ensures.long), omega (arith, p.1.row), omega (arith, p.0.rows))

pub returns : goal.returns
returns c = let a = c.args in let p = c.slot_part-slot.ensures in let r = c.requires in
    corner_filled a.board.height.0 a.at.y.0 (slots_on a.board a.work.now a.t a.at) c.slot_part-slot.result.now c.fill_slot.new.tops
    (omega (arith, r.2, r.1.column, r.0.columns, c.told-line)) (omega arith) (omega (arith, p.long, c.fill_slot.auto.tops, side_long a.to a.at.x.0 (a.board.width.0 - a.at.x.0) a.line.now (omega (arith, c.requires.2, c.requires.1.column, c.requires.0.columns, c.told-line)))) p.long p.at c.fill_slot.ensures
