-- While the loop goes on, every node so far has stairs alone; the first that has not settles it. Assumes nothing.
use mathlib.Core.Path.{◌≡◌}
use mathlib.Core.Bool.{true}
use Prim.Native.Nat.{◌≤◌}
use Rattle.rules.specs.Search.{all}
use Rattle.slots.specs.Lent.{slots_on}
use Rattle.stairs.specs.Walk.{node_stairs}
use Rattle.stairs.proofs.all_stairs.Given as goal

abbrev pub invariant-loop-t : goal.invariant-loop-t
invariant-loop-t l =
    (l.t ≤ l.nodes) × (all l.t (node_stairs l.board (slots_on l.board l.work)) ≡ true)
