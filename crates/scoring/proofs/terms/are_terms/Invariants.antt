-- `scoring::terms::are_terms` meets its contract: the count is tested, and then each weight until one fails.
-- Assumes nothing.
use mathlib.Core.Path.{◌≡◌}
use mathlib.Core.Bool.{true}
use Prim.Native.Nat.{◌≤◌}
use Rattle.rules.specs.Search.{all}
use Rattle.rules.specs.Score.{lawful_weight, weight_of, term_at}
use Rattle.scoring.proofs.terms.are_terms.Given as goal

abbrev pub invariant-loop-term : goal.invariant-loop-term
invariant-loop-term l = (l.term-index ≤ l.fn.cost.term_count) × (all l.term-index (λ i. lawful_weight (weight_of (term_at l.fn.cost.terms i))) ≡ true)
