-- The parts are put one behind the other, and so the design is; what is put in front comes first, and what stood past it
-- stays. Assumes nothing.
use Rattle.putting.proofs.Putting.{both_put, put_in_front}
use Rattle.writing.proofs.Lengths.{needs_fit, design_listed}
use Rattle.writing.proofs.put_design.Goals as goal

pub put_row-at-requires-3-clause-fit : goal.put_row-at-requires-3-clause-fit
put_row-at-requires-3-clause-fit c = needs_fit _ c.requires.lawful.0 c.requires.lawful.1

pub returns : goal.returns
returns c =
    let p = both_put c.put_row-at.ensures (both_put c.put_row-at-2.ensures
    (both_put c.put-at.ensures (both_put c.put_row-at-3.ensures c.put_row.ensures))) in
    rw (design_listed _ c.requires.lawful.0 c.requires.lawful.1 c.head.ensures) (put_in_front p)
