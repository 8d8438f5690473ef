-- `cuts::cut_line` meets its contract. The loop's invariant: so many corners of the line have their slots, and all
-- other bytes stand. Assumes nothing.
use mathlib.Core.Path.{◌≡◌}
use native.Mathlib.Omega.{arith}
use borrow.Author.Rules.{rules}
use Rattle.slots.proofs.Lending.{fewer_lent, lent_same, on_listed}
use Rattle.cuts.specs.Cut.{paired_slot, places}
use Rattle.cuts.proofs.Filling.{corner_met}
use Rattle.cuts.proofs.Nodes.{node_kept, slot_laid, no_place, place_done}
use Rattle.cuts.proofs.cut_line.Goals as goal

pub fill_line-requires : goal.fill_line-requires
fill_line-requires c =
    let p = c.requires in
    (fewer_lent p.0.lent _ (omega (arith, p.0.first, p.0.second)), p.1)

pub loop-p-init : goal.loop-p-init
loop-p-init c =
    let a = c.args in
    (search rules, c.places-places.ensures, no_place a.cut.direction _ _ a.cut.t a.on.0 (paired_slot a.cut a.work.now) a.work.now)

pub cut_corner-requires : goal.cut_corner-requires
cut_corner-requires c =
    let p = c.requires.0 in let l = c.loop-p in
    let a = c.args in let o = corner_met a.cut.direction a.cut.board c.requires.1.on c.loop-p-test.true l.invariant.1 c.corner_at-at.ensures in
    (record { lent = lent_same p.lent l.invariant.2.long; corner = o; tails = c.fill_line.ensures.tails }, p.first)

pub loop-p-preserved : goal.loop-p-preserved
loop-p-preserved c =
    let l = c.loop-p in let a = c.args in let p = c.requires.0 in let e = c.corner_at-at.ensures in
    let o = corner_met a.cut.direction a.cut.board c.requires.1.on c.loop-p-test.true l.invariant.1 e in (
      omega arith,
      l.invariant.1,
      place_done a.cut.direction _ _ a.cut.t a.on.0 (paired_slot a.cut a.work.now) l.p e (on_listed p.lent o) l.invariant.2
          (slot_laid a.cut a.on.0 l.p a.work.now l.work c.fill_line.ensures e o (on_listed p.lent o)
          (node_kept l.invariant.2 a.cut.left (λ q. omega (arith, p.first))) c.cut_corner.ensures),
    )

pub returns : goal.returns
returns c =
    let l = c.loop-p in let a = c.args in
    let e : l.p ≡ places a.cut.direction a.cut.board = omega (arith, l.invariant.1, c.loop-p-test.false) in
    record { written = rw e at l.invariant.2; tails = c.fill_line.ensures.tails }
