-- `scans::scan_vertical` meets its contract. The loop's invariant: the scan has come to a left shape's height. The measure is that shape's width.
-- Assumes nothing.
use Rattle.scans.proofs.FromTheLowest.{LeftsTo}
use Rattle.scans.proofs.scan_vertical.Given as goal

abbrev pub invariant-loop-wide : goal.invariant-loop-wide
invariant-loop-wide l = LeftsTo l.cut l.at l.children l.slot l.wide l.height l.last

abbrev pub decreases-loop-wide : goal.decreases-loop-wide
decreases-loop-wide l = l.wide
