-- `scoring::amounts::ratio_of` meets its contract: with each module its two quotients are added.
-- Assumes nothing.
use mathlib.Core.Path.{◌≡◌}
use native.Mathlib.Omega.{arith}
use Rattle.scoring.proofs.Sums.{no_ratio, ratio_next}
use Rattle.scoring.proofs.amounts.ratio_of.Goals as goal

pub loop-k-init : goal.loop-k-init
loop-k-init c = (omega arith, no_ratio _)

pub loop-k-preserved : goal.loop-k-preserved
loop-k-preserved c =
    let i = c.loop-k.invariant in
    (omega arith, ratio_next _ _ _ _ _ i.1 c.rectangle_at-rectangle.ensures.0 c.ratio_more-sum.ensures)

pub returns : goal.returns
returns c =
    let e : c.loop-k.k ≡ c.args.modules = omega arith in rw e at c.loop-k.invariant.1
