-- `holding::held` meets its contract. The loop has counted the columns so far; on the chip all counts stay small. Assumes nothing.
use mathlib.Core.Path.{◌≡◌}
use Rattle.holding.proofs.Holding.{held_in}
use Rattle.holding.proofs.held.Given as goal

abbrev pub invariant-loop-kind : goal.invariant-loop-kind
invariant-loop-kind l = l.held ≡ held_in l.fn.chip l.column l.left l.kind-index
