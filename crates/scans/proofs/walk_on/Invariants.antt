-- `scans::walk_on` meets its contract. The loop's invariant: the bytes from k on are lower than the stop, their shapes are put, and `last` is the
-- first of them. Assumes nothing.
use Prim.Native.Nat.{ℕ, ◌+◌, ◌≤◌, ◌<◌}
use lib.ListN.{length}
use Rattle.std.specs.Prelude.{IfSome}
use Rattle.scans.specs.Run.{bytes, or_end, FirstAfter, Put, Walks}
use Rattle.scans.proofs.walk_on.Given as goal

abbrev pub invariant-loop-k : goal.invariant-loop-k
invariant-loop-k l = let n = length l.right in
    ((j : ℕ) → l.k ≤ j → j < n → bytes l.right j < l.stop) × FirstAfter (bytes l.right) l.k n (or_end n l.last)
    × Put (Walks (bytes l.right) l.k n) (λ j. l.wide + j) (bytes l.right) l.initial.slot l.slot × IfSome l.last (λ k. k < n)
