-- `scans::scan_node` meets its contract. The loop's invariant: the rows below row y have their slots, and nothing else has changed. Assumes nothing.
use mathlib.Core.Path.{◌≡◌}
use Prim.Native.Nat.{◌≤◌}
use Rattle.slots.specs.Lent.{PartOn, below}
use Rattle.cuts.specs.Cut.{paired_slot}
use Rattle.scans.proofs.scan_node.Given as goal

abbrev pub invariant-loop-y : goal.invariant-loop-y
invariant-loop-y l =
    (l.y ≤ l.cut.board.listed.0) × (l.y-end ≡ l.cut.board.listed.0) × PartOn l.cut.board l.cut.t (paired_slot l.cut l.initial.work) (below l.y) l.initial.work l.work
