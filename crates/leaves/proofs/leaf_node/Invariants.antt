-- `leaves::leaf_node` meets its contract. The loop's invariant: the rows below row y are listed, and nothing else has changed. Assumes nothing.
use Rattle.slots.specs.Lent.{PartOn, below}
use Rattle.leaves.specs.Leaf.{leaf_bytes}
use Rattle.leaves.proofs.leaf_node.Given as goal

abbrev pub invariant-loop-y : goal.invariant-loop-y
invariant-loop-y l = PartOn l.fn.board l.fn.t (leaf_bytes l.fn.chip l.fn.need) (below l.y) l.initial.work l.work
