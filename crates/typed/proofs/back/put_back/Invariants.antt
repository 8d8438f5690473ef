-- The text has the room that it had. Assumes nothing.
use Rattle.std.proofs.Common.{◌≡◌}
use Rattle.typed.proofs.back.put_back.Given as goal

abbrev pub invariant-loop-line : goal.invariant-loop-line
invariant-loop-line l = l.text.room ≡ l.fn.text.room
