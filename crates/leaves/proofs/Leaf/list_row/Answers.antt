-- `leaves::Leaf::list_row` meets its contract. The loop's invariant: the corners of the row before column x are listed, and nothing else has
-- changed. Assumes nothing.
use mathlib.Core.Path.{◌≡◌, ap}
use native.Mathlib.Omega.{arith}
use Rattle.rules.proofs.Limits.{chip_limits}
use Rattle.slots.proofs.Covering.{none_in_row, one_in_row}
use Rattle.slots.proofs.Lending.{lent_same}
use Rattle.leaves.proofs.Covering.{corner_ready}
use Rattle.leaves.proofs.Leaf.list_row.Goals as goal

pub no_columns-full-requires : goal.no_columns-full-requires
no_columns-full-requires c =
    let s = c.args.self.now in let l = chip_limits _ s.lawful in let h = c.requires.0.chip in
    let H : s.board.height.0 ≡ s.chip.height.0 = ap (λ h. h.0) s.height in
    record { block = l.some_rows; blocks = omega arith; row = omega (arith, c.requires.1, h, H); rows = l.height }

pub loop-x-init : goal.loop-x-init
loop-x-init c = none_in_row _ _

pub list_slot-requires : goal.list_slot-requires
list_slot-requires c =
    let p = c.requires in
    (corner_ready c.loop-x.x _ (omega arith) p.1 (lent_same p.0 c.loop-x.invariant.long), c.no_columns-full.ensures)

pub loop-x-preserved : goal.loop-x-preserved
loop-x-preserved c = one_in_row c.loop-x.x _ _ _ _ (omega arith) c.requires.1 c.loop-x.invariant c.list_slot.ensures

pub returns : goal.returns
returns c =
    let l = c.loop-x in let e : l.x ≡ c.args.self.now.board.width.0 = omega arith in rw e at l.invariant
