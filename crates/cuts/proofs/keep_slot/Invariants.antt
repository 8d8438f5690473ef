-- `cuts::keep_slot` meets its contract. The loop's invariant: so many bytes of the slot are kept. Assumes nothing.
use mathlib.Core.Path.{◌≡◌}
use Prim.Native.Nat.{ℕ, ◌<◌, ◌+◌, suc}
use lib.ListN.{get_or}
use Rattle.cuts.specs.Cut.{kept_byte}
use Rattle.cuts.proofs.keep_slot.Given as goal

abbrev pub invariant-loop-j : goal.invariant-loop-j
invariant-loop-j l = (k : ℕ) → k < l.j → get_or l.slot k 0 ≡ kept_byte l.y (get_or l.tops (l.x + k) 0) (get_or l.tops (l.x + suc k) 0)
