-- After i digits the value is below 10 to the power i, and there are at most 18 of them, so nothing wraps. Assumes nothing.
use Rattle.std.proofs.Common.{◌^◌, ◌<◌}
use Rattle.words.proofs.numbers.number_in.Given as goal

abbrev pub invariant-loop-b : goal.invariant-loop-b
invariant-loop-b l = l.n < 10 ^ l.b-index
