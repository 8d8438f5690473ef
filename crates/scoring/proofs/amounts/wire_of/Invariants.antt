-- `scoring::amounts::wire_of` meets its contract: with each net its half perimeter is added, and each is small.
-- Assumes nothing.
use mathlib.Core.Path.{◌≡◌}
use Prim.Native.Nat.{◌*◌, ◌≤◌}
use Rattle.rules.specs.Check.{from_rows}
use Rattle.rules.specs.Score.{most_nets, wire_of}
use Rattle.scoring.specs.Amounts.{most_centre}
use Rattle.scoring.proofs.amounts.wire_of.Given as goal

abbrev pub invariant-loop-net : goal.invariant-loop-net
invariant-loop-net l =
    (l.net-index ≤ l.fn.cost.net_count) × (l.fn.cost.net_count ≤ most_nets) × (l.sum ≡ wire_of (from_rows l.rows) l.fn.cost.nets l.net-index) × (l.sum ≤ l.net-index * (2 * most_centre))
