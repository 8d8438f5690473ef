-- `cuts::pair_corner` meets its contract. The loop's invariant: the top sides are the least of the boxes of so many
-- left shapes. Assumes nothing.
use mathlib.Core.Path.{◌≡◌}
use Prim.Native.Nat.{◌-◌}
use native.Mathlib.Omega.{arith}
use Rattle.cuts.proofs.Laying.{shapes_none, shapes_next, can_pair}
use Rattle.cuts.proofs.pair_corner.Goals as goal

pub slot_part-slot-requires : goal.slot_part-slot-requires
slot_part-slot-requires c = let p = c.requires.0 in (p.lent, p.corner, omega arith)

pub loop-i-init : goal.loop-i-init
loop-i-init c = let a = c.args in shapes_none a.cut.direction a.cut.board a.work.now a.line.now a.cut.left a.at c.requires.1

pub pair_shape-requires : goal.pair_shape-requires
pair_shape-requires c =
    let a = c.args in let p = c.requires.0 in let l = c.slot_part-slot.ensures.long in
    (can_pair a.cut.direction a.cut.board a.work.now a.line.now a.cut.left a.at c.loop-i.i p.lent p.corner p.tails c.loop-i.invariant, omega arith)

pub loop-i-preserved : goal.loop-i-preserved
loop-i-preserved c =
    let a = c.args in let p = c.slot_part-slot.ensures in let l = p.long in
    shapes_next a.cut.direction a.cut.board a.work.now a.line.now a.cut.left a.at c.loop-i.i (p.at c.loop-i.i (omega arith)) c.loop-i.invariant c.pair_shape.ensures

pub returns : goal.returns
returns c =
    let a = c.args in let l = c.slot_part-slot.ensures.long in
    let e : c.loop-i.i ≡ a.cut.board.width.0 - a.at.x.0 = omega arith in rw e at c.loop-i.invariant
