-- While the loop goes on, what is left of the walk gives what all of it gives. A zero leaves the height, a byte that falls takes its
-- place, and one that does not, or stands off the chip, ends the walk at 0, where it stays. Assumes nothing.
use native.Mathlib.Omega.{arith}
use Rattle.stairs.proofs.Walking.{walk_starts, walk_ends, zero_walked, fall_walked, off_chip, too_high, none_left, some_left}
use Rattle.stairs.proofs.walk.Goals as goal
use Rattle.stairs.proofs.walk.Goals.{then-byte-ne0+else-columns-j+else-low-byte, else-byte-ne0}

pub loop-j-init : goal.loop-j-init
loop-j-init c = (c.requires, walk_starts)

pub returns-then-columns-j : goal.returns-then-columns-j
returns-then-columns-j c = none_left (off_chip c.loop-j.invariant.1 c.loop-j-test.true c.if-byte-ne0.true c.if-columns-j.true)

pub returns-then-low-byte : goal.returns-then-low-byte
returns-then-low-byte c = none_left (too_high c.loop-j.invariant.1 c.loop-j-test.true c.if-byte-ne0.true (omega (arith, c.if-low-byte.true)))

pub loop-j-preserved : goal.loop-j-preserved
loop-j-preserved c =
    let (p, w) = c.loop-j.invariant in let h = c.loop-j-test.true in
    elim c.if-byte-ne0.branch [
      | then-byte-ne0+else-columns-j+else-low-byte s ↦ rw s.low-is (omega (arith, s.if-byte-ne0.true), fall_walked w h s.if-byte-ne0.true s.if-columns-j.false (omega (arith, s.if-low-byte.false)))
      | else-byte-ne0 s ↦ rw s.low-is (p, zero_walked w h s.if-byte-ne0.false)
    ]

pub returns : goal.returns
returns c = let (p, w) = c.loop-j.invariant in some_left p (walk_ends w (omega arith))
