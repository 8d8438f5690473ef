-- `scoring::amounts::module_extent` meets its contract: it is the rectangle's in the rows, of four bytes.
-- Assumes nothing.
use mathlib.Core.Path.{◌∙◌, ap}
use Rattle.extents.specs.Sides.{extent_of}
use Rattle.scoring.proofs.Extents.{near_rectangle}
use Rattle.scoring.proofs.amounts.module_extent.Goals as goal

pub returns : goal.returns
returns c =
    let r = c.rectangle_at.ensures in
    (c.extent_of.ensures ∙ ap extent_of r.0, rw c.extent_of.ensures (near_rectangle _ r.1))
