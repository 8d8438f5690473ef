-- The loop has put out the rows of the modules before k. Assumes nothing.
use Rattle.choosing.specs.Descend.{place_of}
use Rattle.placing.proofs.Rows.{Out}
use Rattle.placing.proofs.rows_out.Given as goal

abbrev pub invariant-loop-k : goal.invariant-loop-k
invariant-loop-k l = Out l.k (place_of l.places) l.initial.rows l.rows
