-- `scoring::score_rows` meets its contract: the terms' score, with the amounts of this floorplan, is the rules'.
-- Assumes nothing.
use Rattle.rules.specs.Score.{cost}
use Rattle.scoring.proofs.Sums.{score_by}
use Rattle.scoring.proofs.score_rows.Goals as goal

pub returns : goal.returns
returns c = score_by _ _ (cost _ _ _ _) _ _ c.amounts_of.ensures c.score_terms.ensures
