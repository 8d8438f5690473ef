-- The root's slot at (0, 0) is the list's, and so its best shape is the rules'. Assumes nothing.
use mathlib.Core.Path.{◌∙◌}
use Rattle.choosing.proofs.Best.{same_best}
use Rattle.choosing.proofs.best_shape.Goals as goal

pub returns : goal.returns
returns c = c.best_in.ensures ∙ rw c.slot.ensures.long (same_best _ _ _ (λ j h. c.slot.ensures.same j h))
