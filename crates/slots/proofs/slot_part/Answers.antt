-- `slots::slot_part` meets its contract: the slot stands among these bytes. Assumes nothing.
use native.Mathlib.Omega.{arith}
use Rattle.slots.proofs.Lending.{last_addressed, last_lent, part_of}
use Rattle.slots.proofs.slot_part.Goals as goal

pub slot_start-from-requires : goal.slot_start-from-requires
slot_start-from-requires c = let p = c.requires in last_addressed p.0 p.1

pub slice_bounds-result-end : goal.slice_bounds-result-end
slice_bounds-result-end c = let p = c.requires in let e = c.slot_start-from.ensures.0 in omega (arith, last_lent p.0 p.1)

pub returns : goal.returns
returns c = let p = c.requires in part_of c.slot_start-from.ensures.0 (last_lent p.0 p.1) p.2
