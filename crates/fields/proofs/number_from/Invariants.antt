-- After each turn the place is that of the number of the turns. Assumes nothing.
use mathlib.Core.Path.{◌≡◌}
use Rattle.fields.specs.Order.{place_of}
use Rattle.fields.proofs.number_from.Given as goal

abbrev pub invariant-loop-index : goal.invariant-loop-index
invariant-loop-index l = l.at ≡ place_of l.s l.index
