-- `scans::scan_horizontal` meets its contract. The loop's invariant: the scan has come to a left shape's width. The measure is how many columns are
-- left. Assumes nothing.
use Prim.Native.Nat.{◌-◌}
use Rattle.scans.proofs.FromTheNarrowest.{LeftsFrom}
use Rattle.scans.proofs.scan_horizontal.Given as goal

abbrev pub invariant-loop-i : goal.invariant-loop-i
invariant-loop-i l = LeftsFrom l.cut l.at l.children l.slot l.i l.low

abbrev pub decreases-loop-i : goal.decreases-loop-i
decreases-loop-i l = l.columns - l.i
