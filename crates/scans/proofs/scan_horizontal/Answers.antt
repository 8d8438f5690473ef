-- `scans::scan_horizontal` meets its contract. The loop's invariant: the scan has come to a left shape's width. The measure is how many columns are
-- left. Assumes nothing.
use mathlib.Core.Path.{◌∙◌}
use native.Mathlib.Omega.{arith}
use native.Mathlib.Numerals.{add-one}
use Rattle.scans.proofs.Corners.{part_first, child_lent}
use Rattle.scans.proofs.FromTheNarrowest.{lefts_begin, lefts_end, above_ready, lefts_more}
use Rattle.scans.proofs.scan_horizontal.Goals as goal

pub overflow_sub-columns : goal.overflow_sub-columns
overflow_sub-columns c = let x = c.requires.lefts.corner.column in omega arith

pub overflow_sub-low : goal.overflow_sub-low
overflow_sub-low c = let y = c.requires.lefts.corner.row in omega arith

pub slot_part-left-requires : goal.slot_part-left-requires
slot_part-left-requires c = let p = c.requires.lefts in (child_lent p, p.corner, omega arith)

pub loop-i-init : goal.loop-i-init
loop-i-init c = lefts_begin c.requires (part_first c.slot_part-left.ensures c.first_after-i.ensures)

pub first_after-next-requires : goal.first_after-next-requires
first_after-next-requires c = let l = c.slot_part-left.ensures.long in omega arith

pub bounds-left-i : goal.bounds-left-i
bounds-left-i c = let l = c.slot_part-left.ensures.long in omega arith

pub scan_above-low-requires : goal.scan_above-low-requires
scan_above-low-requires c =
    let p = c.slot_part-left.ensures in
    above_ready c.requires c.loop-i.invariant (omega arith) (rw add-one at (part_first p c.first_after-next.ensures)) (c.as_number-height.ensures.0 ∙ p.at c.loop-i.i (omega arith))

pub loop-i-smaller : goal.loop-i-smaller
loop-i-smaller c = omega (arith, c.first_after-next.ensures.from)

pub loop-i-preserved : goal.loop-i-preserved
loop-i-preserved c =
    let p = c.slot_part-left.ensures in
    lefts_more c.requires c.loop-i.invariant (omega arith) (rw add-one at (part_first p c.first_after-next.ensures)) (c.as_number-height.ensures.0 ∙ p.at c.loop-i.i (omega arith)) c.scan_above-low.ensures

pub returns : goal.returns
returns c = lefts_end c.requires c.loop-i.invariant (omega arith)
