-- While the loop goes on, the places so far have the last thing but one before each token. After a module that is the node before the
-- module; after a cut it is what stood below the left child, which the place after the left child has. Assumes nothing.
use Prim.Native.Nat.{◌≤◌}
use Rattle.trees.proofs.Lefts.{Found}
use Rattle.trees.proofs.left_children.Given as goal

abbrev pub invariant-loop-t : goal.invariant-loop-t
invariant-loop-t l = (2 ≤ l.t) × Found l.design l.t l.lefts
