-- The invariant: the best is the rules' best of the bytes so far. Assumes nothing.
use Rattle.std.specs.Prelude.{◌≡◌, IfSome}
use Rattle.choosing.specs.Choose.{Storable, byte_in, chosen_shape}
use Rattle.choosing.proofs.best_in.Given as goal

abbrev pub invariant-loop-j : goal.invariant-loop-j
invariant-loop-j l = IfSome l.best (λ s. Storable s) × (l.best ≡ chosen_shape l.j (byte_in l.slot))
