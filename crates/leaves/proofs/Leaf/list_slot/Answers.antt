-- `leaves::Leaf::list_slot` meets its contract: the slot is cleared, and what the walk writes over it is the list. Assumes nothing.
use mathlib.Core.Path.{◌≡◌, ap}
use Prim.Native.Nat.{◌+◌}
use native.Mathlib.Omega.{arith}
use Rattle.std.proofs.lemmas.List.Edits.{length-between}
use Rattle.leaves.proofs.Covering.{slot_put}
use Rattle.leaves.proofs.Leaf.list_slot.Goals as goal

pub returns : goal.returns
returns c =
    let p = c.requires.0 in let e = c.slot_start-start.ensures in let w = c.walk.ensures in let s = c.args.self.now in
    let W : s.board.width.0 ≡ s.chip.width.0 = ap (λ w. w.0) s.width in
    let long = length-between c.args.work.now c.slot_start-start.result (c.slot_start-start.result + s.board.width.0) (omega (arith, p.slot, e.0)) in
    slot_put s.board s.t c.args.at _ _ e.0 (omega arith) p.slot (omega (arith, w.long, c.fill.ensures.len, long)) (λ j h. w.bytes j (omega arith))
