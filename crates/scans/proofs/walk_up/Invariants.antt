-- `scans::walk_up` meets its contract. The loop's invariant: of the bytes from a up to k those that stay lower are put. Assumes nothing.
use Prim.Native.Nat.{◌≤◌}
use lib.ListN.{length}
use Rattle.scans.specs.Run.{bytes, WalkedUp}
use Rattle.scans.proofs.walk_up.Given as goal

abbrev pub invariant-loop-k : goal.invariant-loop-k
invariant-loop-k l = (l.k ≤ length l.right) × WalkedUp (bytes l.right) l.a l.k l.height l.low l.initial.slot l.slot l.last
