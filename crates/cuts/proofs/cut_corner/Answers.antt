-- `cuts::cut_corner` meets its contract: the top sides start with none, all left shapes are paired, and what is kept of
-- them is the slot. Assumes nothing.
use mathlib.Core.Path.{◌≡◌, ◌∙◌}
use mathlib.Core.List.{List}
use Prim.Native.Nat.{ℕ, ◌+◌, ◌-◌, ◌≤◌}
use native.Mathlib.Omega.{arith}
use borrow.Rule.Slice.PartMut.{mid_of}
use lib.ListN.{length}
use Rattle.std.proofs.lemmas.List.{places}
use Rattle.slots.proofs.Filling.{run_filled}
use Rattle.slots.specs.Lent.{slots_on}
use Rattle.slots.proofs.Lending.{fewer_lent, last_addressed, last_lent}
use Rattle.cuts.specs.Cut.{held_top}
use Rattle.cuts.proofs.Cutting.{fresh_tops, tops_above, corner_cut}
use Rattle.cuts.proofs.cut_corner.Goals as goal

pub pair_corner-requires : goal.pair_corner-requires
pair_corner-requires c =
    let a = c.args in let p = c.requires.0 in
    (record { lent = fewer_lent p.lent _ (omega (arith, c.requires.1)); corner = p.corner; tails = p.tails }, fresh_tops a.at.x.0 a.cut.board.height.0)

pub slot_start-base-requires : goal.slot_start-base-requires
slot_start-base-requires c = let p = c.requires in last_addressed p.0.lent p.0.corner

-- the bytes of the slot
part_long : (work : List ℕ) (base W : ℕ) → base + W ≤ length work → length (mid_of base (base + W - base) work) ≡ W
part_long work base W h = search (arith, places)

pub slice_bounds-keep_slot-end : goal.slice_bounds-keep_slot-end
slice_bounds-keep_slot-end c = let p = c.requires.0 in omega (arith, last_lent p.lent p.corner, c.slot_start-base.ensures.0)

pub keep_slot-requires : goal.keep_slot-requires
keep_slot-requires c =
    let a = c.args in let p = c.requires.0 in
    let fits : c.slot_start-base.result + a.cut.board.width.0 ≤ length a.work.now = omega (arith, last_lent p.lent p.corner, c.slot_start-base.ensures.0) in
    record {
      sides = omega (arith, p.lent.columns, p.corner.column, part_long a.work.now c.slot_start-base.result a.cut.board.width.0 fits);
      row = omega (arith, p.lent.rows, p.corner.row);
      above =
          tops_above a.cut.direction a.cut.board (held_top a.line.now) a.at (slots_on a.cut.board a.work.now a.cut.left a.at) p.corner c.pair_corner.ensures;
    }

pub returns : goal.returns
returns c =
    let a = c.args in let p = c.requires.0 in
    let fits : c.slot_start-base.result + a.cut.board.width.0 ≤ length a.work.now = omega (arith, last_lent p.lent p.corner, c.slot_start-base.ensures.0) in
    let long : length c.keep_slot.new.slot ≡ a.cut.board.width.0 = c.keep_slot.auto.slot ∙ part_long a.work.now c.slot_start-base.result a.cut.board.width.0 fits in
    corner_cut a.cut.direction a.cut.board (held_top a.line.now) a.at (slots_on a.cut.board a.work.now a.cut.left a.at) p.corner c.pair_corner.ensures
    a.cut.t p.lent c.slot_start-base.ensures.0 (run_filled c.keep_slot.new.slot fits (omega arith) long (λ k h. c.keep_slot.ensures k (omega arith)))
