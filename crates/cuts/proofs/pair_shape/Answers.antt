-- `cuts::pair_shape` meets its contract. A shape of no height, one that ends above the chip and one with no right
-- child's corner beside it have no box; for any other the filled slot beside it is laid. Assumes nothing.
use mathlib.Core.Path.{refl}
use Prim.Native.Nat.{◌≤◌, ◌<◌}
use native.Mathlib.Omega.{arith}
use Rattle.cuts.specs.Cut.{most_places, places}
use Rattle.cuts.proofs.Filling.{few_places}
use Rattle.cuts.proofs.Laying.{first_on, no_corner, never_met, shape_laid}
use Rattle.cuts.proofs.pair_shape.Goals as goal
use Rattle.cuts.proofs.pair_shape.Goals.{After-first_right-first, Else-places-place}

-- once the right child's corner is on the chip: its place is on the line, and the first right side on the chip
on_line : (c : Else-places-place) → c.place_of-place.result.0 < places c.args.cut.direction c.args.cut.board
on_line c = omega (arith, c.places.ensures, c.if-places-place.false)

few : (c : Else-places-place) → places c.args.cut.direction c.args.cut.board ≤ most_places
few c = few_places c.args.cut.direction c.args.cut.board c.requires.0.columns c.requires.0.rows

side : (c : After-first_right-first) → c.first_right-first.result.0 ≤ c.args.cut.board.width.0
side c =
    let a = c.args in
    let h = first_on a.cut.direction a.cut.board a.at a.i a.height c.requires.1 (omega (arith, on_line c.before.before.before, c.place_of-place.ensures)) in
    omega (arith, c.first_right-first.ensures, h)

pub returns-then-h-eq0 : goal.returns-then-h-eq0
returns-then-h-eq0 c =
    let a = c.args in
    never_met a.cut.direction a.cut.board a.at a.i a.height a.line.now a.tops.now c.requires.0 (λ b m. omega (arith, m.some, c.if-h-eq0.true))

pub returns-then-cut-far : goal.returns-then-cut-far
returns-then-cut-far c =
    let a = c.args in
    never_met a.cut.direction a.cut.board a.at a.i a.height a.line.now a.tops.now c.requires.0 (λ b m. omega (arith, m.rows, c.if-cut-far.true))

pub returns-then-places-place : goal.returns-then-places-place
returns-then-places-place c =
    let a = c.args in
    never_met a.cut.direction a.cut.board a.at a.i a.height a.line.now a.tops.now c.requires.0
    (λ b m. no_corner a.cut.direction a.cut.board a.at a.i a.height b c.place_of-place.ensures (omega (arith, c.places.ensures, c.if-places-place.true)) m)

pub overflow_mul-place : goal.overflow_mul-place
overflow_mul-place c = omega (arith, on_line c.before.before.before.before, few c.before.before.before.before)

pub overflow_add-place : goal.overflow_add-place
overflow_add-place c =
    omega (arith, on_line c.before.before.before.before.before, few c.before.before.before.before.before, side c.before.before, c.requires.0.columns)

pub overflow_add-cut : goal.overflow_add-cut
overflow_add-cut c =
    omega (arith, c.requires.0.columns)

pub overflow_sub-cut : goal.overflow_sub-cut
overflow_sub-cut c = omega (arith, side c.before.before.before.before.before.before)

pub lay_slot-requires : goal.lay_slot-requires
lay_slot-requires c =
    let p = c.requires.0 in
    let n = on_line c.before.before.before.before.before.before.before.before.before in let m = few c.before.before.before.before.before.before.before.before.before in let s = side c.before.before.before.before.before.before in let w = p.columns in
    record { line = omega arith; sides = omega arith; long = p.long }

pub returns : goal.returns
returns c =
    let a = c.args in
    shape_laid a.cut.direction a.cut.board a.at a.i a.height a.line.now a.tops.now c.requires.0
    (omega (arith, c.if-h-eq0.false)) c.if-cut-far.false refl c.place_of-place.ensures
    (on_line c.before.before.before.before.before.before.before.before.before.before) (few c.before.before.before.before.before.before.before.before.before.before) refl c.first_right-first.ensures (side c.before.before.before.before.before.before.before) refl
    c.lay_slot.ensures
