-- `cuts::fill_slot` meets its contract. The loop's invariant: `low` is the least of the heights so far, and so many bytes are
-- filled. Assumes nothing.
use mathlib.Core.Path.{◌≡◌}
use Prim.Native.Nat.{ℕ, ◌<◌, ◌-◌, suc}
use lib.ListN.{get_or}
use Rattle.slots.specs.Lent.{bytes}
use Rattle.cuts.specs.Cut.{least_of, slot_top}
use Rattle.cuts.proofs.fill_slot.Given as goal

abbrev pub invariant-loop-j : goal.invariant-loop-j
invariant-loop-j l =
    (l.low ≡ least_of (suc (l.height - l.y)) (bytes l.slot) l.j) × ((k : ℕ) → k < l.j → get_or l.tops k 0 ≡ slot_top l.height l.y (bytes l.slot) (suc k))
