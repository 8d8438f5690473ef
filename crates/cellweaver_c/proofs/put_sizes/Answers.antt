-- `cellweaver_c::put_sizes` meets its contract: within the limits the rows' bytes fit, and the rest is copied. Assumes nothing.
use native.Mathlib.Omega.{arith}
use Rattle.rules.proofs.Limits.{limits}
use Rattle.cellweaver_c.proofs.put_sizes.Goals as goal

pub overflow_mul-rows : goal.overflow_mul-rows
overflow_mul-rows c = let l = limits _ c.requires in omega arith
