-- `scans::scan_vertical` meets its contract. The loop's invariant: the scan has come to a left shape's height. The measure is that shape's width.
-- Assumes nothing.
use mathlib.Core.Path.{◌∙◌}
use Prim.Native.Nat.{◌-◌}
use native.Mathlib.Omega.{arith}
use Rattle.scans.proofs.Corners.{part_up, taken_up, taken_stop, child_lent}
use Rattle.scans.proofs.FromTheLowest.{lefts_begin, lefts_end, beside_ready, lefts_more}
use Rattle.scans.proofs.scan_vertical.Goals as goal

pub overflow_sub-columns : goal.overflow_sub-columns
overflow_sub-columns c = let x = c.requires.lefts.corner.column in omega arith

pub slot_part-left-requires : goal.slot_part-left-requires
slot_part-left-requires c = let p = c.requires.lefts in (child_lent p, p.corner, omega arith)

pub loop-wide-init : goal.loop-wide-init
loop-wide-init c =
    let p = c.slot_part-left.ensures in let u = part_up p c.up_to_last-wide.ensures in
    lefts_begin c.requires u (c.stop_at-height.ensures ∙ taken_stop p _ u.within)

pub scan_beside-last-requires : goal.scan_beside-last-requires
scan_beside-last-requires c =
    let p = c.slot_part-left.ensures in let z = c.loop-wide.invariant in let n = z.within in
    let u = taken_up p (c.loop-wide.wide - 1) (omega arith) c.up_to_last-next.ensures in
    beside_ready c.requires z (omega arith) u (c.stop_at-stop.ensures ∙ taken_stop p c.up_to_last-next.result (omega (arith, u.within)))

pub loop-wide-smaller : goal.loop-wide-smaller
loop-wide-smaller c =
    let p = c.slot_part-left.ensures in let z = c.loop-wide.invariant in let n = z.within in
    omega (arith, (taken_up p (c.loop-wide.wide - 1) (omega arith) c.up_to_last-next.ensures).within)

pub loop-wide-preserved : goal.loop-wide-preserved
loop-wide-preserved c =
    let p = c.slot_part-left.ensures in let z = c.loop-wide.invariant in let n = z.within in
    let u = taken_up p (c.loop-wide.wide - 1) (omega arith) c.up_to_last-next.ensures in
    lefts_more c.requires z (omega arith) u (c.stop_at-stop.ensures ∙ taken_stop p c.up_to_last-next.result (omega (arith, u.within))) c.scan_beside-last.ensures

pub returns : goal.returns
returns c = lefts_end c.requires c.loop-wide.invariant (omega arith)
