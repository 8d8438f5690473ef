-- `leaves::Leaf::step_down` meets its contract. The loop's invariant: it has come down to a room that has rows, with the last height that suited
-- kept. The measure is how many rows are left. Assumes nothing.
use mathlib.Core.Path.{sym, ◌∙◌, ap}
use native.Mathlib.Omega.{arith}
use Rattle.leaves.specs.Room.{lower}
use Rattle.leaves.proofs.Descending.{steps_first, steps_lowers, steps_down, steps_left, steps_out}
use Rattle.leaves.proofs.Leaf.step_down.Goals as goal

pub loop-height-init : goal.loop-height-init
loop-height-init c = (c.requires.some, steps_first c.requires)

pub overflow_cast-height : goal.overflow_cast-height
overflow_cast-height c = let z = c.loop-height.invariant.1 in let u = z.under in omega (arith, z.few)

pub lower-room-requires : goal.lower-room-requires
lower-room-requires c = let i = c.loop-height.invariant in steps_lowers i.1 i.0

pub returns-then-room-eq0 : goal.returns-then-room-eq0
returns-then-room-eq0 c =
    let i = c.loop-height.invariant in
    steps_out (steps_down i.1 i.0 (sym c.is_at_most.ensures ∙ c.loop-height-test.true) c.lower-room.ensures) c.if-room-eq0.true

pub loop-height-smaller : goal.loop-height-smaller
unfolding lower
loop-height-smaller c = let e = ap (λ r. r.rows.0) c.lower-room.ensures in omega (arith, c.loop-height.invariant.0)

pub loop-height-preserved : goal.loop-height-preserved
loop-height-preserved c =
    let i = c.loop-height.invariant in
    (omega (arith, c.if-room-eq0.false), steps_down i.1 i.0 (sym c.is_at_most.ensures ∙ c.loop-height-test.true) c.lower-room.ensures)

pub returns : goal.returns
returns c =
    let i = c.loop-height.invariant in steps_left i.1 i.0 (sym c.is_at_most.ensures ∙ c.loop-height-test.false)
