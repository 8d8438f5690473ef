-- `cellweaver::score` meets its contract: the checker's verdict first, then the terms, then the nets, and the score where all pass.
-- Assumes nothing.
use Rattle.std.proofs.lemmas.Result.{err_from_is_err_and}
use mathlib.Core.Path.{sym, ◌∙◌}
use Rattle.cellweaver.proofs.Scored.{score_refuses, score_bad_term, score_bad_net, score_ready, score_done}
use Rattle.cellweaver.proofs.score.Goals as goal

pub returns-in_err-check : goal.returns-in_err-check
returns-in_err-check c =
    let p = err_from_is_err_and c.from_residual.result c.from_residual.ensures.1 in
    rw (p.1, p.2) (let k = c.check.ensures in score_refuses _ k.sized _ _ (sym k.judged ∙ c.in_err-check.was))

pub returns-then-not-are_terms : goal.returns-then-not-are_terms
returns-then-not-are_terms c =
    let k = c.check.ensures in
    score_bad_term _ k.sized _ _ (sym k.judged ∙ c.in_ok-check.was)
    (sym c.are_terms.ensures ∙ c.if-not-are_terms.true)

pub returns-then-not-are_nets : goal.returns-then-not-are_nets
returns-then-not-are_nets c =
    let k = c.check.ensures in
    score_bad_net _ k.sized _ _ (sym k.judged ∙ c.in_ok-check.was)
    (sym c.are_terms.ensures ∙ c.if-not-are_terms.false) (sym c.are_nets.ensures ∙ c.if-not-are_nets.true)

pub score_rows-requires : goal.score_rows-requires
score_rows-requires c =
    let k = c.check.ensures in
    score_ready _ k.sized _ _ (sym k.judged ∙ c.in_ok-check.was)
    (sym c.are_terms.ensures ∙ c.if-not-are_terms.false) (sym c.are_nets.ensures ∙ c.if-not-are_nets.false)

pub returns : goal.returns
returns c =
    let k = c.check.ensures in
    score_done _ k.sized _ _ (sym k.judged ∙ c.in_ok-check.was)
    (sym c.are_terms.ensures ∙ c.if-not-are_terms.false) (sym c.are_nets.ensures ∙ c.if-not-are_nets.false)
    c.score_rows.ensures
