-- While the loop goes on, what is left of the walk gives what all of it gives. A zero leaves the height, a byte that falls takes its
-- place, and one that does not, or stands off the chip, ends the walk at 0, where it stays. Assumes nothing.
use Prim.Native.Nat.{◌<◌}
use lib.ListN.{length}
use Rattle.stairs.specs.Walk.{byte_at}
use Rattle.stairs.proofs.Walking.{Walking}
use Rattle.stairs.proofs.walk.Given as goal

abbrev pub invariant-loop-j : goal.invariant-loop-j
invariant-loop-j l = (0 < l.low) × Walking l.columns (byte_at l.bytes) (length l.bytes) l.first l.j l.low
