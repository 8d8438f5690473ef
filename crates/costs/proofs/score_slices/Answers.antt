-- `costs::score_slices` meets its contract: what stands in the places is the cost that the slices say, so the score is the same.
-- Assumes nothing.
use Rattle.rules.proofs.Costs.{scores_alike}
use Rattle.costs.proofs.score_slices.Goals as goal

pub returns : goal.returns
returns c =
    let nets = c.nets_in-taken.ensures in let count = c.term_count-count.ensures in
    scores_alike _ _ (record {
      term_count = count;
      net_count = nets.many;
      terms = λ i h. c.terms_in-terms.ensures i (rw count at h);
      nets = nets.same;
    }) c.score.ensures
