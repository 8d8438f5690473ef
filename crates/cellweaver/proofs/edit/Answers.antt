-- `cellweaver::edit` meets its contract: the design's own tests, then 11, 8, 9; then the design with its one change, and the way from the
-- changed node listed. Assumes nothing.
use mathlib.Core.Path.{sym, ◌∙◌}
use mathlib.Core.Bool.{So}
use native.Mathlib.Omega.{arith}
use Rattle.rules.specs.declared.Design.{Design}
use Rattle.rules.specs.Design.{Sized, LawfulDesign}
use Rattle.rules.specs.Edit.{names_place}
use Rattle.rules.proofs.Searching.{absurd_so}
use Rattle.listing.proofs.Passing.{way_made}
use Rattle.cellweaver.proofs.Needed.{no_stairs, stairs, edited_lawful, edited_work}
use Rattle.cellweaver.proofs.Answers.{edit_refuses, edit_unnamed, edit_short, edit_stranger, edit_done}
use Rattle.cellweaver.proofs.edit.Goals as goal
use Rattle.cellweaver.proofs.edit.Goals.{Else-not-names_place, In_default}

-- past the tests, and past 11
is_lawful : (c : In_default) → LawfulDesign c.args.design
is_lawful c = sym c.value_test.ensures.is ∙ c.in_default.is

has-places : (c : In_default) → Sized c.args.design
has-places c = c.value_test.ensures.sized

abbrev the-design : Else-not-names_place → Design
the-design c = c.args.design

is-named : (c : Else-not-names_place) → So (names_place c.args.design c.args.change)
is-named c = sym c.names_place.ensures ∙ c.if-not-names_place.false

pub returns-in-Err : goal.returns-in-Err
returns-in-Err c =
    edit_refuses _ c.value_test.ensures.sized _ _ c.refused.ensures (sym c.value_test.ensures.is ∙ c.in-Err.is)

pub names_place-requires : goal.names_place-requires
names_place-requires c = is_lawful (goal.at.names_place-requires c).In_default

pub returns-then-not-names_place : goal.returns-then-not-names_place
returns-then-not-names_place c =
    edit_unnamed _ (has-places (goal.at.returns-then-not-names_place c).In_default) _ _ (is_lawful (goal.at.returns-then-not-names_place c).In_default) c.refused-then-not-names_place.ensures (λ s. absurd_so (sym (sym c.names_place.ensures ∙ c.if-not-names_place.true) ∙ s))

pub work_needed-requires : goal.work_needed-requires
work_needed-requires c = is_lawful (goal.at.work_needed-requires c).In_default

pub returns-then-work-work_needed : goal.returns-then-work-work_needed
returns-then-work-work_needed c =
    edit_short _ (has-places (goal.at.returns-then-work-work_needed c).In_default) _ _ (is_lawful (goal.at.returns-then-work-work_needed c).In_default) (is-named (goal.at.returns-then-work-work_needed c).Else-not-names_place) c.refused-then-work-work_needed.ensures (omega arith)

pub are_stairs-requires : goal.are_stairs-requires
are_stairs-requires c = (is_lawful (goal.at.are_stairs-requires c).In_default, omega arith)

pub returns-then-not-are_stairs : goal.returns-then-not-are_stairs
returns-then-not-are_stairs c =
    edit_stranger _ (has-places (goal.at.returns-then-not-are_stairs c).In_default) _ _ (is_lawful (goal.at.returns-then-not-are_stairs c).In_default) (is-named (goal.at.returns-then-not-are_stairs c).Else-not-names_place) (omega arith) c.refused-then-not-are_stairs.ensures (no_stairs (the-design (goal.at.returns-then-not-are_stairs c).Else-not-names_place) _ c.are_stairs.ensures c.if-not-are_stairs.true)

pub with_change-next-requires : goal.with_change-next-requires
with_change-next-requires c = (is_lawful (goal.at.with_change-next-requires c).In_default, is-named (goal.at.with_change-next-requires c).Else-not-names_place)

pub changed_node-requires : goal.changed_node-requires
changed_node-requires c = (is_lawful (goal.at.changed_node-requires c).In_default, is-named (goal.at.changed_node-requires c).Else-not-names_place)

pub list_way-requires : goal.list_way-requires
list_way-requires c =
    let m = edited_work _ _ c.with_change-next.ensures in (edited_lawful _ _ (is_lawful (goal.at.list_way-requires c).In_default) (is-named (goal.at.list_way-requires c).Else-not-names_place) c.with_change-next.ensures, omega arith)

pub returns : goal.returns
returns c =
    edit_done _ (has-places (goal.at.returns c).In_default) _ _ (is_lawful (goal.at.returns c).In_default) (is-named (goal.at.returns c).Else-not-names_place) (omega arith) c.with_change-next.ensures (stairs (the-design (goal.at.returns c).Else-not-names_place) _ c.are_stairs.ensures c.if-not-are_stairs.false)
    (way_made _ _ (rw (c.with_change-next.ensures, c.changed_node.ensures) at c.list_way.ensures))
