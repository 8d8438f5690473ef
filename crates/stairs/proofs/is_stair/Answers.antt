-- The slot is walked in parts: zeros change nothing, and any other part goes byte by byte. While the loop goes on, what is left of
-- the walk gives what all of it gives, and the walk along the whole slot decides whether it is a stair. Assumes nothing.
use mathlib.Core.Path.{sym, ◌∙◌}
use Rattle.stairs.proofs.Walking.{all_left, zeros_left, walk_left, no_stair, stair_walked}
use Rattle.stairs.proofs.is_stair.Goals as goal
use Rattle.stairs.proofs.is_stair.Goals.{then-not-eight_zero+in-Some-walk, else-not-eight_zero}

pub loop-part-init : goal.loop-part-init
loop-part-init c = rw (c.into_iter-part-iterator.ensures.into_iter_gives, c.chunks-part-items.ensures.rest) all_left

pub walk-requires : goal.walk-requires
walk-requires c = c.loop-part.invariant.some

pub returns-in_default : goal.returns-in_default
returns-in_default c =
    no_stair c.loop-part.invariant _ _ c.in-Some.ensures.steps.1.0 c.requires.0 (sym c.in_default.is ∙ c.walk.ensures)

pub loop-part-preserved : goal.loop-part-preserved
loop-part-preserved c =
    let z = c.loop-part.invariant in let cut = c.in-Some.ensures.steps.1.0 in let e = c.saturating_sub-columns.ensures in
    elim c.if-not-eight_zero.branch [
      | then-not-eight_zero+in-Some-walk w ↦ rw w.low-is (walk_left z _ _ cut e (sym w.in-Some-walk.is ∙ w.walk.ensures))
      | else-not-eight_zero w ↦ rw w.low-is (zeros_left z _ _ cut e (c.eight_zero.ensures w.if-not-eight_zero.false))
    ]

pub returns : goal.returns
returns c = stair_walked c.loop-part.invariant c.requires.0 c.in-None.ensures.steps.1.0
