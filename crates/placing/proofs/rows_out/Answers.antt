-- The loop has put out the rows of the modules before k. Assumes nothing.
use native.Mathlib.Omega.{arith}
use Rattle.placing.proofs.Rows.{none_out, one_out}
use Rattle.placing.proofs.rows_out.Goals as goal

pub loop-k-init : goal.loop-k-init
loop-k-init c = none_out

pub loop-k-preserved : goal.loop-k-preserved
loop-k-preserved c = one_out (omega arith) c.loop-k.invariant c.row_out.ensures
