-- `scans::walk_on` meets its contract. The loop's invariant: the bytes from k on are lower than the stop, their shapes are put, and `last` is the
-- first of them. Assumes nothing.
use mathlib.Core.Path.{refl}
use native.Mathlib.Omega.{arith}
use Rattle.scans.proofs.Runs.{one_more, first_here, first_past, walk_more, walk_past}
use Rattle.scans.proofs.walk_on.Goals as goal

pub loop-k-preserved-then-h-ne0 : goal.loop-k-preserved-then-h-ne0
loop-k-preserved-then-h-ne0 c = let l = c.loop-k in let i = l.invariant in (
  one_more l.k (omega arith) i.0 (omega arith),
  first_here (omega arith) (omega arith),
  walk_more c.args.wide (omega arith) i.2 (omega arith) (omega arith) refl (omega arith),
  omega arith,
)

pub loop-k-preserved : goal.loop-k-preserved
loop-k-preserved c = let l = c.loop-k in let i = l.invariant in (
  one_more l.k (omega arith) i.0 (omega arith),
  first_past (omega arith) i.1 (omega arith),
  walk_past c.args.wide (omega arith) i.2 (omega arith),
  i.3,
)
