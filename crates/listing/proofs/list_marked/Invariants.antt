-- `listing::list_marked` meets its contract. The loop's invariant: of the nodes before t the marked ones are listed; where all are marked, these have
-- their own lists, which is what the scan asks for. Assumes nothing.
use Prim.Native.Nat.{◌≤◌}
use Rattle.listing.specs.Making.{Made, is_marked}
use Rattle.listing.proofs.list_marked.Given as goal

abbrev pub invariant-loop-t : goal.invariant-loop-t
invariant-loop-t l = (l.t ≤ l.nodes) × Made l.design (is_marked l.marks) l.t l.initial.work l.work
