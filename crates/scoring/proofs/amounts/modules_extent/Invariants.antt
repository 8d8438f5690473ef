-- `scoring::amounts::modules_extent` meets its contract: with each module its rectangle is put to those before.
-- Assumes nothing.
use Prim.Native.Nat.{◌≤◌}
use Rattle.rules.specs.Check.{from_rows}
use Rattle.extents.specs.Sides.{extent_of}
use Rattle.scoring.proofs.Extents.{Reached}
use Rattle.scoring.proofs.amounts.modules_extent.Given as goal

abbrev pub invariant-loop-k : goal.invariant-loop-k
invariant-loop-k l = (1 ≤ l.k) × (l.k ≤ l.modules) × Reached (λ k. extent_of (from_rows l.rows k)) l.k l.extent
