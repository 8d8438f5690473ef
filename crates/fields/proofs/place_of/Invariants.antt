-- After each turn the place is that of the number of the turns. Assumes nothing.
use mathlib.Core.Path.{◌≡◌}
use Rattle.fields.specs.Order.{place_of}
use Rattle.fields.proofs.place_of.Given as goal

abbrev pub invariant-loop : goal.invariant-loop
invariant-loop l = l.at ≡ place_of l.s l.counter
