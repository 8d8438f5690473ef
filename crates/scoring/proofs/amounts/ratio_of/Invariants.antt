-- `scoring::amounts::ratio_of` meets its contract: with each module its two quotients are added.
-- Assumes nothing.
use mathlib.Core.Path.{◌≡◌}
use Prim.Native.Nat.{◌≤◌}
use Rattle.rules.specs.Check.{from_rows}
use Rattle.rules.specs.Score.{ratio_of}
use Rattle.scoring.proofs.amounts.ratio_of.Given as goal

abbrev pub invariant-loop-k : goal.invariant-loop-k
invariant-loop-k l = (l.k ≤ l.modules) × (l.sum ≡ ratio_of l.k (from_rows l.rows))
