-- The slot lies in the bytes lent, and its bytes are the list's. Assumes nothing.
use native.Mathlib.Omega.{arith}
use Rattle.slots.proofs.Lending.{on_listed, slot_lent}
use Rattle.choosing.proofs.Slots.{read_slot}
use Rattle.choosing.proofs.Lists.slot.Goals as goal

pub slice_bounds-result-end : goal.slice_bounds-result-end
slice_bounds-result-end c =
    let l = c.args.self.lent in let p = c.requires in
    let h = slot_lent l c.args.t p.0 (on_listed l p.1) in let e = c.slot_start-from.ensures.0 in omega arith

pub returns : goal.returns
returns c =
    let l = c.args.self.lent in let p = c.requires in
    let a = c.args in
    read_slot a.self.board a.t a.at a.self.work.now c.slot_start-from.ensures.0 (slot_lent l c.args.t p.0 (on_listed l p.1))
