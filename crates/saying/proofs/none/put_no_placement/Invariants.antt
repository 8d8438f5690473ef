-- The line has the room that it had. Assumes nothing.
use Rattle.std.proofs.Common.{◌≡◌}
use Rattle.saying.proofs.none.put_no_placement.Given as goal

abbrev pub invariant-loop-kind : goal.invariant-loop-kind
invariant-loop-kind l = l.line.room ≡ l.fn.line.room
