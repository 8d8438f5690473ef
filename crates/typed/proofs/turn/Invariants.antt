-- The text has the room that it had. Assumes nothing.
use Rattle.std.proofs.Common.{◌≡◌}
use Rattle.typed.proofs.turn.Given as goal

abbrev pub invariant-loop-at : goal.invariant-loop-at
invariant-loop-at l =
    (goal.iterator-loop-at).can_next l.at-iterator ×
    (goal.iterator-loop-at).is_finite l.at-iterator ×
    (l.out.room ≡ l.fn.out.room)
