-- `cuts::fill_line` meets its contract. The loop's invariant: so many places of the line are filled. Assumes nothing.
use mathlib.Core.Path.{◌≡◌}
use native.Mathlib.Omega.{arith}
use borrow.Author.Rules.{rules}
use Rattle.cuts.specs.Cut.{places}
use Rattle.cuts.proofs.Filling.{corner_met, few_places, line_none, line_next}
use Rattle.cuts.proofs.fill_line.Goals as goal

pub loop-p-init : goal.loop-p-init
loop-p-init c = (search rules, c.places-places.ensures, line_none c.requires.1.tails)

pub overflow_mul-p : goal.overflow_mul-p
overflow_mul-p c =
    let a = c.args in let r = c.requires.0 in
    omega (arith, few_places a.cut.direction a.cut.board r.columns r.rows, c.loop-p.invariant.1, c.loop-p-test.true)

pub fill_corner-requires : goal.fill_corner-requires
fill_corner-requires c =
    let a = c.args in let r = c.requires.0 in let l = c.loop-p in let t = c.loop-p-test.true in
    let few = few_places a.cut.direction a.cut.board r.columns r.rows in
    (r, corner_met a.cut.direction a.cut.board c.requires.1.on t l.invariant.1 c.corner_at-at.ensures, omega arith)

pub loop-p-preserved : goal.loop-p-preserved
loop-p-preserved c =
    let a = c.args in let r = c.requires.0 in let l = c.loop-p in let t = c.loop-p-test.true in let e = c.corner_at-at.ensures in
    let few = few_places a.cut.direction a.cut.board r.columns r.rows in
    (omega arith, l.invariant.1, line_next l.invariant.2 e (corner_met a.cut.direction a.cut.board c.requires.1.on t l.invariant.1 e) r.columns (omega arith) c.fill_corner.ensures)

pub returns : goal.returns
returns c =
    let a = c.args in let l = c.loop-p in
    let e : l.p ≡ places a.cut.direction a.cut.board = omega (arith, l.invariant.1, c.loop-p-test.false) in
    rw e at l.invariant.2
