-- `scans::scan_above` meets its contract: the right child's slot at the corner above falls, and what is kept of it is what is to be kept. Assumes
-- nothing.
use mathlib.Core.Path.{refl}
use native.Mathlib.Omega.{arith}
use Rattle.scans.proofs.Corners.{child_lent, child_falls, kept_up_slot}
use Rattle.scans.proofs.scan_above.Goals as goal

pub returns-then-cut-y : goal.returns-then-cut-y
returns-then-cut-y c = record { off = λ _. (refl, refl); on = λ h. absurd (omega (arith, c.if-cut-y.true)) }

pub slot_part-right-requires : goal.slot_part-right-requires
slot_part-right-requires c = let p = c.requires in (child_lent p.reads, record { column = p.reads.corner.column; row = c.if-cut-y.false }, omega (arith, p.within))

pub keep_above-requires : goal.keep_above-requires
keep_above-requires c =
    let p = c.requires in let z = c.slot_part-right.ensures in let w = p.within in let h = p.reads.lent.rows in let g = p.high in let f = p.few in
    record {
      within = (omega (arith, z.long, p.wider), omega (arith, z.long, p.long), omega arith, omega arith);
      falls = child_falls p.reads (record { column = p.reads.corner.column; row = c.if-cut-y.false }) z (omega arith);
    }

pub returns : goal.returns
returns c = kept_up_slot c.requires.wider c.if-cut-y.false c.slot_part-right.ensures c.keep_above.ensures
