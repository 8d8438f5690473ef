-- `scoring::amounts::module_point` meets its contract: it is that of the rectangle in the rows.
-- Assumes nothing.
use mathlib.Core.Path.{◌∙◌, ap}
use Rattle.scoring.specs.Amounts.{point_of}
use Rattle.scoring.proofs.amounts.module_point.Goals as goal

pub returns : goal.returns
returns c = let e = c.point_of.ensures in (e.0 ∙ ap point_of c.rectangle_at.ensures.0, e.1)
