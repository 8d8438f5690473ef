-- `scans::scan_beside` meets its contract: the right child's slot at the corner beside falls, and what is kept of it is what is to be kept. Assumes
-- nothing.
use mathlib.Core.Path.{refl}
use native.Mathlib.Omega.{arith}
use lib.ListN.{length}
use Rattle.scans.proofs.Corners.{child_lent, child_falls, kept_in_slot}
use Rattle.scans.proofs.scan_beside.Goals as goal

pub returns-then-cut-x : goal.returns-then-cut-x
returns-then-cut-x c = record { off = λ _. (refl, refl); on = λ h. absurd (omega (arith, c.if-cut-x.true)) }

pub slot_part-right-requires : goal.slot_part-right-requires
slot_part-right-requires c = let p = c.requires in (child_lent p.reads, record { column = c.if-cut-x.false; row = p.reads.corner.row }, omega (arith, p.narrow))

pub keep_beside-requires : goal.keep_beside-requires
keep_beside-requires c =
    let p = c.requires in let z = c.slot_part-right.ensures in let w = p.narrow in let v = p.room in
    record {
      within = (omega (arith, z.long, p.long), p.lower);
      falls = child_falls p.reads (record { column = c.if-cut-x.false; row = p.reads.corner.row }) z (omega arith);
    }

pub returns-in-Some : goal.returns-in-Some
returns-in-Some c =
    kept_in_slot c.in-Some.k c.if-cut-x.false c.slot_part-right.ensures (omega arith) (omega arith) (rw c.in-Some.is at c.keep_beside.ensures)

pub returns-in-None : goal.returns-in-None
returns-in-None c =
    let p = c.requires in let z = c.slot_part-right.ensures in
    kept_in_slot (length c.slot_part-right.result.now) c.if-cut-x.false z p.room z.long (rw c.in-None.is at c.keep_beside.ensures)
