-- `cuts::fill_line` meets its contract. The loop's invariant: so many places of the line are filled. Assumes nothing.
use mathlib.Core.Path.{◌≡◌}
use Prim.Native.Nat.{◌≤◌}
use Rattle.slots.specs.Lent.{slots_on}
use Rattle.cuts.specs.Cut.{places, LineFilled}
use Rattle.cuts.proofs.fill_line.Given as goal

abbrev pub invariant-loop-p : goal.invariant-loop-p
invariant-loop-p l =
    (l.p ≤ l.p-end) × (l.p-end ≡ places l.cut.direction l.cut.board) × LineFilled l.cut.direction l.cut.board (slots_on l.cut.board l.work l.cut.right) l.on.0 l.p l.line
