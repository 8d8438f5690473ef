-- While the loop goes on, the nodes so far are marked as their trees span the position; the next mark follows from its children's.
-- Assumes nothing.
use Rattle.trees.proofs.Ways.{Marked}
use Rattle.trees.proofs.way_up.Given as goal

abbrev pub invariant-loop-t : goal.invariant-loop-t
invariant-loop-t l = Marked l.fn.design l.at l.t l.marks
