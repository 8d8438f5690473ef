-- `leaves::Leaf::walk` meets its contract. The loop's invariant: the first j widths are walked, the room left there is carried, and the slot has
-- their bytes. Assumes nothing.
use mathlib.Core.Path.{◌≡◌}
use Prim.Native.Nat.{◌+◌, ◌<◌}
use native.Mathlib.Omega.{arith}
use lib.ListN.{get_or}
use Rattle.std.specs.List.{between}
use Rattle.std.proofs.lemmas.List.Edits.{length-between, get_or-between}
use Rattle.rules.specs.Chip.{kind_at}
use Rattle.rules.proofs.Limits.{chip_limits}
use Rattle.leaves.proofs.Widths.{walks_first, kind_known, widens, steppable, walks_more, walks_low, walks_out}
use Rattle.leaves.proofs.Leaf.walk.Goals as goal
use Rattle.leaves.proofs.Leaf.walk.Goals.{In-loop-j}

-- the column come to is one of the chip's, and its kind is the one read
on_chip : (c : In-loop-j) → c.args.at.x.0 + c.loop-j.j < c.args.self.now.chip.width.0
on_chip c =
    let C = c.args.self.now.chip in
    omega (arith, c.loop-j-test.true, length-between C.kinds c.args.at.x.0 C.width.0 (omega (arith, chip_limits _ c.args.self.now.lawful)))

kind_read : (c : In-loop-j) → let C = c.args.self.now.chip in
    get_or (between c.args.at.x.0 C.width.0 C.kinds) c.loop-j.j 0 ≡ kind_at C (c.args.at.x.0 + c.loop-j.j)
kind_read c = let C = c.args.self.now.chip in get_or-between C.kinds c.args.at.x.0 C.width.0 c.loop-j.j 0 (on_chip c)

pub slice_bounds-kind-items-end : goal.slice_bounds-kind-items-end
slice_bounds-kind-items-end c = omega (arith, chip_limits _ c.args.self.now.lawful)

pub loop-j-init : goal.loop-j-init
loop-j-init c = walks_first c.args.self.now.lawful c.requires.0 c.requires.1

pub wider-requires : goal.wider-requires
wider-requires c =
    let p = (goal.at.wider-requires c).In-loop-j in let z = c.loop-j.invariant in let lawful = c.args.self.now.lawful in
    rw (kind_read p) (kind_known lawful z (on_chip p), widens lawful z)

pub step_down-requires : goal.step_down-requires
step_down-requires c =
    let p = (goal.at.step_down-requires c).In-loop-j in steppable c.args.self.now.lawful c.loop-j.invariant (on_chip p) (rw (kind_read p) at c.wider.ensures)

pub returns-in_default : goal.returns-in_default
returns-in_default c =
    let p = (goal.at.returns-in_default c).In-loop-j in
    walks_low c.args.self.now.lawful c.loop-j.invariant (on_chip p) (rw (kind_read p) at c.wider.ensures) c.step_down.ensures c.in_default.is

pub loop-j-preserved : goal.loop-j-preserved
loop-j-preserved c =
    let p = (goal.at.loop-j-preserved c).In-loop-j in
    walks_more c.args.self.now.lawful c.loop-j.invariant (on_chip p) (rw (kind_read p) at c.wider.ensures) c.step_down.ensures c.in-Some.is

pub returns : goal.returns
returns c =
    let C = c.args.self.now.chip in let on = c.requires.0.corner in
    let long = length-between C.kinds c.args.at.x.0 C.width.0 (omega (arith, chip_limits _ c.args.self.now.lawful)) in
    walks_out c.args.self.now.lawful c.loop-j.invariant (omega (arith, c.loop-j-test.false, long))
