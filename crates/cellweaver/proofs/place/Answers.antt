-- `cellweaver::place` meets its contract: the design's own tests, then 8, then 9 where a slot is no stair; then the floorplan is placed
-- from the lists as they stand. Assumes nothing.
use Rattle.std.proofs.lemmas.Result.{err_from_is_err_and}
use mathlib.Core.Path.{sym, ◌∙◌}
use Rattle.rules.specs.Design.{Sized, LawfulDesign}
use Rattle.rules.specs.Service.{Enough}
use Rattle.cellweaver.proofs.Needed.{no_stairs, stairs}
use Rattle.cellweaver.proofs.Answers.{enough, place_refuses, place_short, place_stranger, place_done}
use Rattle.cellweaver.proofs.place.Goals as goal
use Rattle.cellweaver.proofs.place.Goals.{Else-not-enough_lent, In_ok-value_test}

-- past the tests
is_lawful : (c : In_ok-value_test) → LawfulDesign c.args.design
is_lawful c = sym c.value_test.ensures.is ∙ c.in_ok-value_test.was

has_places : (c : In_ok-value_test) → Sized c.args.design
has_places c = c.value_test.ensures.sized

-- and past 8
has_enough : (c : Else-not-enough_lent) → LawfulDesign c.args.design → Enough c.args.design c.args.work.now c.args.rows.now
has_enough c lawful = enough _ _ _ lawful (sym c.enough_lent.ensures ∙ c.if-not-enough_lent.false)

pub returns-in_err-value_test : goal.returns-in_err-value_test
returns-in_err-value_test c =
    let p = err_from_is_err_and c.from_residual.result c.from_residual.ensures.1 in
    rw (p.1, p.2) (place_refuses _ c.value_test.ensures.sized _ _ (sym c.value_test.ensures.is ∙ c.in_err-value_test.was))

pub enough_lent-requires : goal.enough_lent-requires
enough_lent-requires c = is_lawful (goal.at.enough_lent-requires c).In_ok-value_test

pub returns-then-not-enough_lent : goal.returns-then-not-enough_lent
returns-then-not-enough_lent c =
    let tested = (goal.at.returns-then-not-enough_lent c).In_ok-value_test in
    place_short _ (has_places tested) _ _ (is_lawful tested) (sym c.enough_lent.ensures ∙ c.if-not-enough_lent.true)

pub are_stairs-requires : goal.are_stairs-requires
are_stairs-requires c =
    let at = goal.at.are_stairs-requires c in let e = has_enough at.Else-not-enough_lent (is_lawful at.In_ok-value_test) in (e.lawful, e.bytes)

pub returns-then-not-are_stairs : goal.returns-then-not-are_stairs
returns-then-not-are_stairs c =
    let at = goal.at.returns-then-not-are_stairs c in
    place_stranger _ (has_places at.In_ok-value_test) _ _ (has_enough at.Else-not-enough_lent (is_lawful at.In_ok-value_test))
    (no_stairs c.args.design _ c.are_stairs.ensures c.if-not-are_stairs.true)

pub place_lists-requires : goal.place_lists-requires
place_lists-requires c =
    let at = goal.at.place_lists-requires c in
    (has_enough at.Else-not-enough_lent (is_lawful at.In_ok-value_test), stairs c.args.design _ c.are_stairs.ensures c.if-not-are_stairs.false)

pub returns : goal.returns
returns c =
    let at = goal.at.returns c in
    place_done _ (has_places at.In_ok-value_test) _ _ (has_enough at.Else-not-enough_lent (is_lawful at.In_ok-value_test))
    (stairs c.args.design _ c.are_stairs.ensures c.if-not-are_stairs.false) c.place_lists.ensures
