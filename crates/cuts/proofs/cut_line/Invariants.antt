-- `cuts::cut_line` meets its contract. The loop's invariant: so many corners of the line have their slots, and all
-- other bytes stand. Assumes nothing.
use mathlib.Core.Path.{◌≡◌}
use Prim.Native.Nat.{◌≤◌}
use Rattle.slots.specs.Lent.{PartOn}
use Rattle.cuts.specs.Cut.{paired_slot, places, on_line}
use Rattle.cuts.proofs.cut_line.Given as goal

abbrev pub invariant-loop-p : goal.invariant-loop-p
invariant-loop-p l =
    (l.p ≤ l.p-end) × (l.p-end ≡ places l.cut.direction l.cut.board)
    × PartOn l.cut.board l.cut.t (paired_slot l.cut l.initial.work) (on_line l.cut.direction l.on.0 l.p) l.initial.work l.work
