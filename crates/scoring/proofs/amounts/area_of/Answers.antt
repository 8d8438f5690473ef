-- `scoring::amounts::area_of` meets its contract: the far corner of all modules' extent is the box's, and it is small.
-- Assumes nothing.
use native.Mathlib.Omega.{arith}
use Rattle.rules.proofs.Limits.{limits}
use Rattle.scoring.proofs.Extents.{area_is, area_near}
use Rattle.scoring.proofs.amounts.area_of.Goals as goal

pub modules_extent-extent-requires : goal.modules_extent-extent-requires
modules_extent-extent-requires c = let p = c.requires in let m = limits _ p.0 in (omega arith, omega arith, p.1)

pub overflow_mul-result : goal.overflow_mul-result
overflow_mul-result c = let z = area_near _ c.modules_extent-extent.ensures.1 in record { fits = omega arith }

pub returns : goal.returns
returns c =
    let p = c.requires in let e = c.modules_extent-extent.ensures in
    (area_is _ p.0 _ _ e.0, area_near _ e.1)
