-- `scoring::amounts::half_perimeter` meets its contract: the sides of the members' extent are those of the rules' box.
-- Assumes nothing.
use native.Mathlib.Omega.{arith}
use Rattle.scoring.proofs.Extents.{perimeter_is}
use Rattle.scoring.proofs.amounts.half_perimeter.Goals as goal

pub returns : goal.returns
returns c =
    let e = c.members_extent-extent.ensures in let n = e.1 in let x = n.right in let y = n.top in
    (perimeter_is _ _ _ e.0, omega arith)
