-- `cuts::fill_slot` meets its contract. The loop's invariant: `low` is the least of the heights so far, and so many bytes are
-- filled. Assumes nothing.
use mathlib.Core.Path.{◌∙◌, ap}
use Prim.Native.Nat.{◌-◌, ◌+◌, suc}
use native.Mathlib.Omega.{arith}
use native.Mathlib.Numerals.{add-one}
use borrow.Author.Count.{below_more}
use Rattle.std.proofs.lemmas.List.{get_or-set_same, get_or-set_other}
use Rattle.slots.specs.Lent.{bytes}
use Rattle.cuts.specs.Cut.{least_of, slot_top}
use Rattle.cuts.proofs.Filling.{least_next}
use Rattle.cuts.proofs.fill_slot.Goals as goal

pub loop-j-init : goal.loop-j-init
unfolding least_of
loop-j-init c = (add-one _, λ k h. absurd (omega arith))

pub overflow_add-tops : goal.overflow_add-tops
overflow_add-tops c =
    let a = c.args in let l = c.loop-j in
    omega (arith, (least_next (suc (a.height - a.y)) (bytes a.slot.now) l.j l.invariant.0 c.lowered_by-low.ensures).1)

pub loop-j-preserved : goal.loop-j-preserved
unfolding slot_top
loop-j-preserved c =
    let a = c.args in let l = c.loop-j in
    let e = (least_next (suc (a.height - a.y)) (bytes a.slot.now) l.j l.invariant.0 c.lowered_by-low.ensures).0 in
    (rw add-one e, below_more _ _ (λ k h. get_or-set_other l.tops l.j k _ 0 (λ q. omega arith) ∙ l.invariant.1 k h) (get_or-set_same l.tops l.j _ 0 (omega arith) ∙ ap (λ z. a.y + z) e))
