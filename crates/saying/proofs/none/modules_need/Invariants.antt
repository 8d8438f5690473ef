-- No need is over its limit, so the sums stay small. Assumes nothing.
use Prim.Native.Nat.{◌*◌, ◌≤◌}
use Rattle.rules.specs.Design.{most_number}
use Rattle.saying.proofs.none.modules_need.Given as goal

abbrev pub invariant-loop-need : goal.invariant-loop-need
invariant-loop-need l = record {
  clbs : l.sum.clbs ≤ most_number * l.need-index;
  rams : l.sum.rams ≤ most_number * l.need-index;
  multipliers : l.sum.multipliers ≤ most_number * l.need-index;
}
