-- `scoring::score_terms` meets its contract: term after term is added, in list order.
-- Assumes nothing.
use mathlib.Core.Path.{◌≡◌}
use native.Mathlib.Omega.{arith}
use Rattle.std.proofs.lemmas.List.{length-take}
use Rattle.std.specs.Float.{nan}
use Rattle.rules.specs.declared.Term.TheVariants.{Area}
use Rattle.scoring.proofs.Front.{one_of_all}
use Rattle.scoring.proofs.Sums.{no_terms, terms_next}
use Rattle.scoring.proofs.score_terms.Goals as goal

pub loop-term-init : goal.loop-term-init
loop-term-init c = (omega arith, no_terms _ _)

pub loop-term-preserved : goal.loop-term-preserved
loop-term-preserved c =
    let k = c.args.cost in
    let e = rw (one_of_all k.term_count k.terms c.loop-term-test.true (Area nan)) at c.after_term-score.ensures in
    (omega arith, terms_next _ _ _ _ _ c.loop-term.invariant.1 e)

pub returns : goal.returns
returns c =
    let k = c.args.cost in
    let e : c.loop-term.term-index ≡ k.term_count = omega (arith, length-take k.term_count k.terms) in
    rw e at c.loop-term.invariant.1
