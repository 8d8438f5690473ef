-- While the loop goes on, every row so far has stairs alone; the first that has not settles it. Assumes nothing.
use mathlib.Core.Path.{◌≡◌}
use mathlib.Core.Bool.{true}
use Prim.Native.Nat.{◌≤◌}
use Rattle.rules.specs.Search.{all}
use Rattle.slots.specs.Lent.{slots_on}
use Rattle.stairs.specs.Walk.{row_stairs}
use Rattle.stairs.proofs.node_stairs.Given as goal

abbrev pub invariant-loop-y : goal.invariant-loop-y
invariant-loop-y l = (l.y ≤ l.rows) × (all l.y (row_stairs l.board (slots_on l.board l.work l.t)) ≡ true)
