-- While the loop goes on, every slot of the row so far is a stair; the first that is not settles it. The bytes tested are those
-- from where the slot starts, and the bytes lent reach its end. Assumes nothing.
use mathlib.Core.Path.{◌≡◌}
use mathlib.Core.Bool.{true}
use Prim.Native.Nat.{◌≤◌}
use Rattle.rules.specs.Search.{all}
use Rattle.slots.specs.Lent.{slots_on}
use Rattle.stairs.specs.Walk.{slot_stair}
use Rattle.stairs.proofs.row_stairs.Given as goal

abbrev pub invariant-loop-x : goal.invariant-loop-x
invariant-loop-x l =
    (l.x ≤ l.width) × (all l.x (slot_stair l.board (slots_on l.board l.work l.t) l.y.0) ≡ true)
