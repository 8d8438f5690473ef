-- The search stops at the first left shape with which there is a pair. Assumes nothing.
use native.Mathlib.Omega.{arith}
use Rattle.choosing.proofs.left_in.Goals as goal

pub returns : goal.returns
returns c = grind arith
