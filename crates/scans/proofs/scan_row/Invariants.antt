-- `scans::scan_row` meets its contract. The loop's invariant: the corners of the row before column x have their slots, and nothing else has changed.
-- Assumes nothing.
use mathlib.Core.Path.{◌≡◌}
use Prim.Native.Nat.{◌≤◌}
use Rattle.slots.specs.Lent.{PartOn, in_row}
use Rattle.cuts.specs.Cut.{paired_slot}
use Rattle.scans.proofs.scan_row.Given as goal

abbrev pub invariant-loop-x : goal.invariant-loop-x
invariant-loop-x l =
    (l.x ≤ l.cut.board.width.0) × (l.x-end ≡ l.cut.board.width.0) × PartOn l.cut.board l.cut.t (paired_slot l.cut l.initial.work) (in_row l.y.0 l.x) l.initial.work l.work
