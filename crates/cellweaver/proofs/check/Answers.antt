-- `cellweaver::check` meets its contract: the design's own tests, then 8, then the rows are judged. Assumes nothing.
use Rattle.std.proofs.lemmas.Result.{err_from_is_err_and}
use mathlib.Core.Path.{sym, ◌∙◌}
use native.Mathlib.Omega.{arith}
use Rattle.rules.specs.Design.{Sized, LawfulDesign}
use Rattle.rules.proofs.Limits.{limits}
use Rattle.cellweaver.proofs.Answers.{check_refuses, check_short, check_judged}
use Rattle.cellweaver.proofs.check.Goals as goal
use Rattle.cellweaver.proofs.check.Goals.{In_ok-value_test}

-- past the tests
is_lawful : (c : In_ok-value_test) → LawfulDesign c.args.design
is_lawful c = sym c.value_test.ensures.is ∙ c.in_ok-value_test.was

has-places : (c : In_ok-value_test) → Sized c.args.design
has-places c = c.value_test.ensures.sized

pub returns-in_err-value_test : goal.returns-in_err-value_test
returns-in_err-value_test c =
    let p = err_from_is_err_and c.from_residual.result c.from_residual.ensures.1 in
    rw (p.1, p.2) (check_refuses _ c.value_test.ensures.sized _ (sym c.value_test.ensures.is ∙ c.in_err-value_test.was))

pub overflow_mul-design : goal.overflow_mul-design
overflow_mul-design c = let l = limits _ (is_lawful (goal.at.overflow_mul-design c).In_ok-value_test) in omega arith

pub returns-then-rows-design : goal.returns-then-rows-design
returns-then-rows-design c = check_short _ (has-places (goal.at.returns-then-rows-design c).In_ok-value_test) _ (is_lawful (goal.at.returns-then-rows-design c).In_ok-value_test) c.if-rows-design.true

pub judge_rows-requires : goal.judge_rows-requires
judge_rows-requires c = (is_lawful (goal.at.judge_rows-requires c).In_ok-value_test, c.if-rows-design.false)

pub returns : goal.returns
returns c = check_judged _ (has-places (goal.at.returns c).In_ok-value_test) _ (is_lawful (goal.at.returns c).In_ok-value_test) c.if-rows-design.false c.judge_rows.ensures
