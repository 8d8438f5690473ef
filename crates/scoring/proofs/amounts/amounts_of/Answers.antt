-- `scoring::amounts::amounts_of` meets its contract: each amount is its function's, and the whole numbers are small.
-- Assumes nothing.
use mathlib.Core.Path.{◌∙◌, ap}
use native.Mathlib.Omega.{arith}
use Rattle.rules.specs.Score.{exact}
use Rattle.rules.proofs.Limits.{limits}
use Rattle.scoring.proofs.amounts.amounts_of.Goals as goal

pub ratio_of-requires : goal.ratio_of-requires
ratio_of-requires c = let p = c.requires in let m = limits _ p.design in (omega arith, p.places)

pub returns : goal.returns
returns c =
    let a = c in let b = a in
    λ i. record {
      area = (a.exact_of.ensures ∙ ap exact b.area_of.ensures.0) i;
      ratio = c.ratio_of.ensures i;
      wire = (c.exact_of-2.ensures ∙ ap exact c.wire_of.ensures.0) i;
    }
