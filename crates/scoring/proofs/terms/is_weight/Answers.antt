-- `scoring::terms::is_weight` meets its contract: it asks the rules' two comparisons, one after the other.
-- Assumes nothing.
use mathlib.Core.Path.{◌∙◌}
use Rattle.scoring.proofs.Literals.{weight_from_0, weight_below_0}
use Rattle.scoring.proofs.terms.is_weight.Goals as goal

pub returns-then-w : goal.returns-then-w
returns-then-w c = weight_from_0 _ c.if-w.true

pub returns-else-w : goal.returns-else-w
returns-else-w c = c.if-w.false ∙ weight_below_0 _ c.if-w.false
