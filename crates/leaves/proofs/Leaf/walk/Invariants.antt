-- `leaves::Leaf::walk` meets its contract. The loop's invariant: the first j widths are walked, the room left there is carried, and the slot has
-- their bytes. Assumes nothing.
use Rattle.leaves.proofs.Widths.{Walks}
use Rattle.leaves.proofs.Leaf.walk.Given as goal

abbrev pub invariant-loop-j : goal.invariant-loop-j
invariant-loop-j l = Walks l.self.chip l.self.need l.fn.at l.initial.slot l.j l.room l.slot
