-- `slots::clear` meets its contract: the run of bytes that is filled is the slot. Assumes nothing.
use mathlib.Core.Path.{◌≡◌, ◌∙◌, ap}
use Prim.Native.Nat.{◌-◌, ◌+◌}
use native.Mathlib.Omega.{arith}
use borrow.Rule.Slice.PartMut.{mid_of}
use lib.ListN.{length, get_or, get_or-replicate}
use Rattle.std.proofs.lemmas.List.{places}
use Rattle.slots.proofs.Filling.{run_filled}
use Rattle.slots.proofs.clear.Goals as goal

pub returns : goal.returns
returns c =
    let a = c.args in
    let long : length (mid_of a.start (a.start + a.width.0 - a.start) a.work.now) ≡ a.width.0 = search (arith, places) in
    let zeros = c.fill.ensures.after (λ y e. e) in
    run_filled c.fill.new.self (omega arith) (omega arith) (omega (arith, long, c.fill.ensures.len))
    (λ k h. ap (λ w. get_or w k 0) zeros ∙ get_or-replicate _ k 0 0 (omega (arith, long)))
