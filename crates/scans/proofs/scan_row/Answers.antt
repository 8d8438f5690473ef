-- `scans::scan_row` meets its contract. The loop's invariant: the corners of the row before column x have their slots, and nothing else has changed.
-- Assumes nothing.
use mathlib.Core.Path.{◌≡◌, refl}
use native.Mathlib.Omega.{arith}
use borrow.Author.Rules.{rules}
use Rattle.slots.proofs.Lending.{on_board}
use Rattle.slots.proofs.Covering.{none_in_row, one_in_row}
use Rattle.scans.proofs.Nodes.{still_scannable, same_slots, slot_as}
use Rattle.scans.proofs.scan_row.Goals as goal

pub loop-x-init : goal.loop-x-init
loop-x-init c = (search rules, refl, none_in_row _ _)

pub scan_corner-requires : goal.scan_corner-requires
scan_corner-requires c =
    let p = c.requires in
    (still_scannable p.0 c.loop-x.invariant.2, on_board p.0.cuttable.lent (record { column = omega arith; row = p.1 }))

pub loop-x-preserved : goal.loop-x-preserved
loop-x-preserved c =
    let p = c.requires in let z = c.loop-x.invariant in (
      omega arith,
      refl,
      one_in_row c.loop-x.x _ _ _ _ (omega arith) p.1 z.2
          (slot_as (same_slots p.0 z.2 _ (record { column = omega arith; row = p.1 })) c.scan_corner.ensures),
    )

pub returns : goal.returns
returns c =
    let l = c.loop-x in let e : l.x ≡ c.args.cut.board.width.0 = omega arith in rw e at l.invariant.2
