-- `scoring::terms::are_terms` meets its contract: the count is tested, and then each weight until one fails.
-- Assumes nothing.
use mathlib.Core.Path.{◌≡◌, ◌∙◌, ap, sym}
use native.Mathlib.Omega.{arith}
use borrow.Author.Rules.{rules}
use Rattle.rules.specs.Score.{lawful_weight, weight_of, term_at}
use Rattle.rules.proofs.Testing.{all_none, all_more}
use Rattle.std.proofs.lemmas.List.{length-take}
use Rattle.std.specs.Float.{nan}
use Rattle.rules.specs.declared.Term.TheVariants.{Area}
use Rattle.scoring.proofs.Front.{before, one_of_all}
use Rattle.scoring.proofs.Listed.{terms_many, term_fails, terms_pass}
use Rattle.scoring.proofs.terms.are_terms.Goals as goal
use Rattle.scoring.proofs.terms.are_terms.Goals.{After-is_weight}

pub returns-then-cost-gt-MOST_TERMS : goal.returns-then-cost-gt-MOST_TERMS
returns-then-cost-gt-MOST_TERMS c = terms_many _ _ c.if-cost-gt-MOST_TERMS.true

pub loop-term-init : goal.loop-term-init
loop-term-init c = (search rules, all_none _)

-- the weight that is tested is that of the term at this place
tested : (c : After-is_weight) → c.is_weight.result ≡ lawful_weight (weight_of (term_at c.args.cost.terms c.loop-term.term-index))
tested c =
    let k = c.args.cost in
    rw (one_of_all k.term_count k.terms c.loop-term-test.true (Area nan)) at (c.is_weight.ensures ∙ ap lawful_weight c.weight_of.ensures)

pub returns-then-not-is_weight : goal.returns-then-not-is_weight
returns-then-not-is_weight c =
    let k = c.args.cost in let h = c.loop-term-test.true in
    term_fails _ _ _ (before k.term_count k.terms h) (sym (tested (goal.at.returns-then-not-is_weight c).After-is_weight) ∙ c.if-not-is_weight.true)

pub loop-term-preserved : goal.loop-term-preserved
loop-term-preserved c =
    (search rules, all_more _ _ c.loop-term.invariant.1 (sym (tested (goal.at.loop-term-preserved c).After-is_weight) ∙ c.if-not-is_weight.false))

pub returns : goal.returns
returns c =
    let k = c.args.cost in
    let e : c.loop-term.term-index ≡ k.term_count = omega (arith, length-take k.term_count k.terms) in
    terms_pass _ _ c.if-cost-gt-MOST_TERMS.false (rw e at c.loop-term.invariant.1)
