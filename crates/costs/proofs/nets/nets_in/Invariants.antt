-- `costs::nets::nets_in` meets its contract: net after net is taken, until the bytes end or the places do.
-- Assumes nothing.
use Rattle.costs.specs.Places.{Taking}
use Rattle.costs.proofs.nets.nets_in.Given as goal

abbrev pub invariant-loop-count : goal.invariant-loop-count
invariant-loop-count l = Taking l.bytes l.nets l.count l.rest
