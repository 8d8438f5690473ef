-- `leaves::Leaf::step_down` meets its contract. The loop's invariant: it has come down to a room that has rows, with the last height that suited
-- kept. The measure is how many rows are left. Assumes nothing.
use Prim.Native.Nat.{◌<◌}
use Rattle.leaves.proofs.Descending.{Steps}
use Rattle.leaves.proofs.Leaf.step_down.Given as goal

abbrev pub invariant-loop-height : goal.invariant-loop-height
invariant-loop-height l = (0 < l.room.rows.0) × Steps l.self.need l.self.chip.block.0 l.initial.room l.initial.height l.room l.height

abbrev pub decreases-loop-height : goal.decreases-loop-height
decreases-loop-height l = l.room.rows.0
