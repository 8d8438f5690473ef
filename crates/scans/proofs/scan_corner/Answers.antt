-- `scans::scan_corner` meets its contract: the slot is cleared, and what the scan of the cut's direction leaves in it is the slot of all pairs. Assumes
-- nothing.
use mathlib.Core.Path.{sym}
use Prim.Native.Nat.{◌≤◌}
use native.Mathlib.Omega.{arith}
use lib.ListN.{length}
use Rattle.std.proofs.lemmas.List.{length-take-le}
use Rattle.slots.proofs.Filling.{same_length}
use Rattle.slots.proofs.Lending.{last_lent}
use Rattle.scans.proofs.Nodes.{cleared_ready, corner_paired}
use Rattle.scans.proofs.scan_corner.Goals as goal
use Rattle.scans.proofs.scan_corner.Goals.{After-split_at_mut-children}

pub clear-requires : goal.clear-requires
clear-requires c =
    let p = c.requires in let e = c.slot_start-to.ensures in (omega (arith, e.0, last_lent p.0.cuttable.lent p.1), e.1)

pub split_at_mut-children-requires : goal.split_at_mut-children-requires
split_at_mut-children-requires c = let p = c.requires in omega (arith, same_length c.clear.ensures, c.slot_start-to.ensures.0, last_lent p.0.cuttable.lent p.1)

-- the bytes from the slot on
rest_long : (c : After-split_at_mut-children) → c.args.cut.board.width.0 ≤ length c.split_at_mut-children.result.1.now
rest_long c = let p = c.requires in
    omega (arith, same_length c.clear.ensures, c.slot_start-to.ensures.0, last_lent p.0.cuttable.lent p.1, c.split_at_mut-children.ensures.back_len)

pub slice_bounds-slot-end : goal.slice_bounds-slot-end
slice_bounds-slot-end c = rest_long c

pub slice_bounds-slot-end-2 : goal.slice_bounds-slot-end-2
slice_bounds-slot-end-2 c = sym (length-take-le _ _ (rest_long c.before))

pub scan_vertical-requires : goal.scan_vertical-requires
scan_vertical-requires c =
    let p = c.requires in let m = c.split_at_mut-children.ensures in
    cleared_ready p.0 p.1 c.slot_start-to.ensures.0 c.split_at_mut-children.result.0.now c.split_at_mut-children.result.1.now c.clear.ensures m.value m.front_len

pub scan_horizontal-requires : goal.scan_horizontal-requires
scan_horizontal-requires c =
    let p = c.requires in let m = c.split_at_mut-children.ensures in
    cleared_ready p.0 p.1 c.slot_start-to.ensures.0 c.split_at_mut-children.result.0.now c.split_at_mut-children.result.1.now c.clear.ensures m.value m.front_len

pub returns-in-Vertical : goal.returns-in-Vertical
returns-in-Vertical c =
    let p = c.requires in let m = c.split_at_mut-children.ensures in
    corner_paired p.0 p.1 c.slot_start-to.ensures.0 c.split_at_mut-children.result.0.now c.split_at_mut-children.result.1.now c.clear.ensures m.value m.front_len c.scan_vertical.new.slot c.scan_vertical.auto.slot c.in-Vertical.is c.scan_vertical.ensures

pub returns-in-Horizontal : goal.returns-in-Horizontal
returns-in-Horizontal c =
    let p = c.requires in let m = c.split_at_mut-children.ensures in
    corner_paired p.0 p.1 c.slot_start-to.ensures.0 c.split_at_mut-children.result.0.now c.split_at_mut-children.result.1.now c.clear.ensures m.value m.front_len c.scan_horizontal.new.slot c.scan_horizontal.auto.slot c.in-Horizontal.is c.scan_horizontal.ensures
