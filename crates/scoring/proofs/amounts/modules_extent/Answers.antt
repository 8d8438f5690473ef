-- `scoring::amounts::modules_extent` meets its contract: with each module its rectangle is put to those before.
-- Assumes nothing.
use native.Mathlib.Omega.{arith}
use Rattle.scoring.proofs.Extents.{one_reached, next_reached, all_reached}
use Rattle.scoring.proofs.amounts.modules_extent.Goals as goal

pub loop-k-init : goal.loop-k-init
loop-k-init c = (omega arith, omega arith, one_reached c.module_extent-extent.ensures)

pub loop-k-preserved : goal.loop-k-preserved
loop-k-preserved c =
    let i = c.loop-k.invariant in
    (omega arith, omega arith, next_reached i.0 i.2 c.module_extent.ensures c.together-extent.ensures)

pub returns : goal.returns
returns c = all_reached (omega arith) c.loop-k.invariant.2
