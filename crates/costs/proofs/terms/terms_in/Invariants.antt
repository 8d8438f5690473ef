-- `costs::terms::terms_in` meets its contract: pair after pair is put into its place.
-- Assumes nothing.
use mathlib.Core.Path.{◌≡◌}
use Prim.Native.Nat.{◌≤◌}
use Rattle.costs.specs.Places.{pairs}
use Rattle.costs.proofs.Pairing.{Placed}
use Rattle.costs.proofs.terms.terms_in.Given as goal

abbrev pub invariant-loop-i : goal.invariant-loop-i
invariant-loop-i l = (l.i ≤ l.i-end) × (l.i-end ≡ pairs l.kinds l.weights) × Placed l.kinds l.weights l.i l.terms
