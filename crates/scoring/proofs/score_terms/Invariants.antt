-- `scoring::score_terms` meets its contract: term after term is added, in list order.
-- Assumes nothing.
use mathlib.Core.Path.{◌≡◌}
use Prim.Native.Nat.{◌≤◌}
use Rattle.scoring.specs.Amounts.{after_terms}
use Rattle.scoring.proofs.score_terms.Given as goal

abbrev pub invariant-loop-term : goal.invariant-loop-term
invariant-loop-term l = (l.term-index ≤ l.fn.cost.term_count) × (l.score ≡ after_terms l.amounts l.fn.cost.terms l.term-index)
