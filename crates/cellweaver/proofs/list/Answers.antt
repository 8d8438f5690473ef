-- `cellweaver::list` meets its contract: the design's own tests, then 8, then all nodes are listed. Assumes nothing.
use Rattle.std.proofs.lemmas.Result.{err_from_is_err_and}
use mathlib.Core.Path.{sym, ◌∙◌}
use native.Mathlib.Omega.{arith}
use Rattle.rules.specs.Design.{Sized, LawfulDesign}
use Rattle.cellweaver.proofs.Answers.{list_refuses, list_short, list_done}
use Rattle.cellweaver.proofs.list.Goals as goal
use Rattle.cellweaver.proofs.list.Goals.{In_ok-value_test}

-- past the tests
is_lawful : (c : In_ok-value_test) → LawfulDesign c.args.design
is_lawful c = sym c.value_test.ensures.is ∙ c.in_ok-value_test.was

has-places : (c : In_ok-value_test) → Sized c.args.design
has-places c = c.value_test.ensures.sized

pub returns-in_err-value_test : goal.returns-in_err-value_test
returns-in_err-value_test c =
    let p = err_from_is_err_and c.from_residual.result c.from_residual.ensures.1 in
    rw (p.1, p.2) (list_refuses _ c.value_test.ensures.sized _ (sym c.value_test.ensures.is ∙ c.in_err-value_test.was))

pub work_needed-requires : goal.work_needed-requires
work_needed-requires c = is_lawful (goal.at.work_needed-requires c).In_ok-value_test

pub returns-then-work-work_needed : goal.returns-then-work-work_needed
returns-then-work-work_needed c = list_short _ (has-places (goal.at.returns-then-work-work_needed c).In_ok-value_test) _ (is_lawful (goal.at.returns-then-work-work_needed c).In_ok-value_test) (omega arith)

pub list_all-requires : goal.list_all-requires
list_all-requires c = (is_lawful (goal.at.list_all-requires c).In_ok-value_test, omega arith)

pub returns : goal.returns
returns c = list_done _ (has-places (goal.at.returns c).In_ok-value_test) _ (is_lawful (goal.at.returns c).In_ok-value_test) (omega arith) c.list_all.ensures
