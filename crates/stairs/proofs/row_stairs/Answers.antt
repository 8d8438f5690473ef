-- While the loop goes on, every slot of the row so far is a stair; the first that is not settles it. The bytes tested are those
-- from where the slot starts, and the bytes lent reach its end. Assumes nothing.
use mathlib.Core.Path.{◌≡◌, sym, ◌∙◌, ap}
use Prim.Native.Nat.{◌+◌, ◌≤◌}
use native.Mathlib.Omega.{arith}
use lib.ListN.{length}
use borrow.Author.Rules.{rules}
use Rattle.std.proofs.lemmas.List.Edits.{length-between, get_or-between}
use Rattle.rules.specs.Chip.{corner}
use Rattle.rules.proofs.Testing.{all_none, all_more, all_fails}
use Rattle.slots.specs.Lent.{ListedOn, slots_on}
use Rattle.slots.proofs.Lending.{on_board, addressed, slot_lent, slot_bytes}
use Rattle.stairs.specs.Walk.{slot_stair}
use Rattle.stairs.proofs.Walking.{stair_same}
use Rattle.stairs.proofs.row_stairs.Goals as goal
use Rattle.stairs.proofs.row_stairs.Goals.{After-is_stair, In-loop-x}

-- what the test of the slot at column x has answered
answered : (c : After-is_stair)
    → let a = c.args in
    c.is_stair.result ≡ slot_stair a.board (slots_on a.board a.work.now a.t) a.y.0 c.loop-x.x
answered c =
    let a = c.args in
    let from = c.slot_start-start.result in let W = a.board.width.0 in
    c.is_stair.ensures
    ∙ stair_same W a.board.height.0 _ _ _ (λ j h. get_or-between a.work.now from (from + W) j 0 (omega arith)
    ∙ ap (λ f. f j) (slot_bytes a.board a.t _ a.work.now c.slot_start-start.ensures.0))

-- the corner at column x is one that has slots
here : (c : In-loop-x) → ListedOn c.args.board (corner c.loop-x.x c.args.y.0)
here c = record { column = c.loop-x-test.true; row = c.requires.1 }

pub loop-x-init : goal.loop-x-init
loop-x-init c = (search rules, all_none _)

pub slot_start-start-requires : goal.slot_start-start-requires
slot_start-start-requires c =
    addressed c.requires.0 _ (omega arith) (here c)

pub slice_bounds-is_stair-end : goal.slice_bounds-is_stair-end
slice_bounds-is_stair-end c =
    let on = here (goal.at.slice_bounds-is_stair-end c).In-loop-x in
    omega (arith, slot_lent c.requires.0 c.args.t (omega arith) on, c.slot_start-start.ensures.0)

pub is_stair-requires : goal.is_stair-requires
is_stair-requires c =
    let l = c.requires.0 in let on = here (goal.at.is_stair-requires c).In-loop-x in let from = c.slot_start-start.result in
    let inside : from + c.args.board.width.0 ≤ length c.args.work.now =
    omega (arith, slot_lent l c.args.t (omega arith) on, c.slot_start-start.ensures.0) in
    (length-between c.args.work.now from (from + c.args.board.width.0) inside ∙ omega arith, on_board l on, l.rows)

pub returns-then-not-is_stair : goal.returns-then-not-is_stair
returns-then-not-is_stair c = sym (all_fails _ _ _ c.loop-x-test.true (sym (answered (goal.at.returns-then-not-is_stair c).After-is_stair) ∙ c.if-not-is_stair.true))

pub loop-x-preserved : goal.loop-x-preserved
loop-x-preserved c = (omega arith, all_more _ _ c.loop-x.invariant.1 (sym (answered (goal.at.loop-x-preserved c).After-is_stair) ∙ c.if-not-is_stair.false))

pub returns : goal.returns
returns c =
    let e : c.loop-x.x ≡ c.args.board.width.0 = omega arith in
    rw e at (sym c.loop-x.invariant.1)
