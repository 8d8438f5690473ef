-- `scoring::amounts::members_extent` meets its contract: with each member its doubled centre is put to those before. A lawful net's members are
-- modules, so their rows are there. Assumes nothing.
use Prim.Native.Nat.{◌+◌, ◌≤◌}
use lib.ListN.{get_or}
use Rattle.rules.specs.Check.{from_rows}
use Rattle.scoring.specs.Amounts.{point_of}
use Rattle.scoring.proofs.Extents.{Reached}
use Rattle.scoring.proofs.amounts.members_extent.Given as goal

abbrev pub invariant-loop-member : goal.invariant-loop-member
invariant-loop-member l =
    (l.member-index + 1 ≤ l.fn.net.count) × Reached (λ j. point_of (from_rows l.rows (get_or l.fn.net.modules j 0))) (l.member-index + 1) l.extent
