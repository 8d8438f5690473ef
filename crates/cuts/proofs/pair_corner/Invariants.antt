-- `cuts::pair_corner` meets its contract. The loop's invariant: the top sides are the least of the boxes of so many
-- left shapes. Assumes nothing.
use Rattle.slots.specs.Lent.{slots_on}
use Rattle.cuts.specs.Cut.{held_top, least_top, TopsAre}
use Rattle.cuts.proofs.pair_corner.Given as goal

abbrev pub invariant-loop-i : goal.invariant-loop-i
invariant-loop-i l = TopsAre l.at.x.0 (least_top l.cut.direction l.cut.board (held_top l.line) l.at (slots_on l.cut.board l.work l.cut.left l.at) l.i) l.tops
