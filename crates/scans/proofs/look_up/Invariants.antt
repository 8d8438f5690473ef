-- `scans::look_up` meets its contract. The loop's invariant: the bytes from k on are no higher than the left shape, and `found` is the first of
-- them that holds a shape. Assumes nothing.
use Prim.Native.Nat.{ℕ, ◌≤◌, ◌<◌}
use lib.ListN.{length}
use Rattle.std.specs.Prelude.{IfSome}
use Rattle.scans.specs.Run.{bytes, or_end, FirstAfter}
use Rattle.scans.proofs.look_up.Given as goal

abbrev pub invariant-loop-k : goal.invariant-loop-k
invariant-loop-k l = let n = length l.right in
    ((j : ℕ) → l.k ≤ j → j < n → bytes l.right j ≤ l.height) × FirstAfter (bytes l.right) l.k n (or_end n l.found) × IfSome l.found (λ k. k < n)
