-- `cuts::cut_node` meets its contract. The loop's invariant: the lines so far have their slots, and all other bytes
-- stand. Assumes nothing.
use mathlib.Core.Path.{◌≡◌}
use Prim.Native.Nat.{◌≤◌}
use Rattle.slots.specs.Lent.{PartOn}
use Rattle.cuts.specs.Cut.{paired_slot, TailsNone, lines, before_line}
use Rattle.cuts.proofs.cut_node.Given as goal

abbrev pub invariant-loop-n : goal.invariant-loop-n
invariant-loop-n l =
    (l.n ≤ l.n-end) × (l.n-end ≡ lines l.cut.direction l.cut.board) × TailsNone l.cut.board l.line
    × PartOn l.cut.board l.cut.t (paired_slot l.cut l.initial.work) (before_line l.cut.direction l.n) l.initial.work l.work
