-- `cellweaver::plan` meets its contract: the design's own tests, then 8, then all nodes are listed, and the floorplan is placed from
-- the design's own lists, which are stairs. Assumes nothing.
use Rattle.std.proofs.lemmas.Result.{err_from_is_err_and}
use mathlib.Core.Path.{sym, ◌∙◌}
use Rattle.rules.specs.Design.{Sized, LawfulDesign}
use Rattle.rules.specs.Service.{Enough}
use Rattle.rules.proofs.Floorplans.{own_stairs}
use Rattle.cellweaver.proofs.Answers.{enough, enough_kept, plan_refuses, plan_short, plan_done}
use Rattle.cellweaver.proofs.plan.Goals as goal
use Rattle.cellweaver.proofs.plan.Goals.{Else-not-enough_lent, In_ok-value_test}

-- past the tests, and past 8
is_lawful : (c : In_ok-value_test) → LawfulDesign c.args.design
is_lawful c = sym c.value_test.ensures.is ∙ c.in_ok-value_test.was

has-places : (c : In_ok-value_test) → Sized c.args.design
has-places c = c.value_test.ensures.sized

has-enough : (c : Else-not-enough_lent) → Enough c.args.design c.args.work.now c.args.rows.now
has-enough c = enough _ _ _ (is_lawful c.before.before) (sym c.enough_lent.ensures ∙ c.if-not-enough_lent.false)

pub returns-in_err-value_test : goal.returns-in_err-value_test
returns-in_err-value_test c =
    let p = err_from_is_err_and c.from_residual.result c.from_residual.ensures.1 in
    rw (p.1, p.2) (plan_refuses _ c.value_test.ensures.sized _ _ (sym c.value_test.ensures.is ∙ c.in_err-value_test.was))

pub enough_lent-requires : goal.enough_lent-requires
enough_lent-requires c = is_lawful (goal.at.enough_lent-requires c).In_ok-value_test

pub returns-then-not-enough_lent : goal.returns-then-not-enough_lent
returns-then-not-enough_lent c = plan_short _ (has-places (goal.at.returns-then-not-enough_lent c).In_ok-value_test) _ _ (is_lawful (goal.at.returns-then-not-enough_lent c).In_ok-value_test) (sym c.enough_lent.ensures ∙ c.if-not-enough_lent.true)

pub list_all-requires : goal.list_all-requires
list_all-requires c = let e = has-enough (goal.at.list_all-requires c).Else-not-enough_lent in (e.lawful, e.bytes)

pub place_lists-requires : goal.place_lists-requires
place_lists-requires c =
    let e = has-enough (goal.at.place_lists-requires c).Else-not-enough_lent in let z = c.list_all.ensures in
    (enough_kept e z.0.length, own_stairs _ e.lawful _ z.1)

pub returns : goal.returns
returns c =
    plan_done _ (has-places (goal.at.returns c).In_ok-value_test) _ _ (has-enough (goal.at.returns c).Else-not-enough_lent) c.list_all.ensures c.place_lists.ensures
