-- `scoring::amounts::ratio_more` meets its contract: the two quotients are added one after the other.
-- Assumes nothing.
use Rattle.scoring.proofs.amounts.ratio_more.Goals as goal

pub returns : goal.returns
returns c = rw (c.exact_of-w.ensures, c.exact_of-h.ensures)
