-- `leaves::Leaf::list_row` meets its contract. The loop's invariant: the corners of the row before column x are listed, and nothing else has
-- changed. Assumes nothing.
use Rattle.slots.specs.Lent.{PartOn, in_row}
use Rattle.leaves.specs.Leaf.{leaf_bytes}
use Rattle.leaves.proofs.Leaf.list_row.Given as goal

abbrev pub invariant-loop-x : goal.invariant-loop-x
invariant-loop-x l = PartOn l.self.board l.self.t (leaf_bytes l.self.chip l.self.need) (in_row l.y.0 l.x) l.initial.work l.work
