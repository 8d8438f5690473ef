-- `holding::held` meets its contract. The loop has counted the columns so far; on the chip all counts stay small. Assumes nothing.
use mathlib.Core.Path.{◌≡◌, ◌∙◌}
use Prim.Native.Nat.{◌+◌, ◌≤◌, ◌<◌}
use native.Mathlib.Omega.{arith}
use native.Mathlib.Numerals.{add-one}
use lib.ListN.{length, get_or}
use Rattle.std.specs.List.{between}
use Rattle.std.proofs.lemmas.List.Edits.{length-between, get_or-between}
use Rattle.rules.specs.declared.Chip.{Chip}
use Rattle.rules.specs.declared.Rectangle.{Rectangle}
use Rattle.rules.specs.Chip.{kind_at, left, right}
use Rattle.rules.proofs.Limits.{chip_limits}
use Rattle.holding.proofs.Holding.{none_held, one_more_held, few_held, all_held}
use Rattle.holding.proofs.held.Goals as goal
use Rattle.holding.proofs.held.Goals.{In-loop-kind}

-- the kinds that are gone over are those of the rectangle's columns
long : (C : Chip) (r : Rectangle) → right r ≤ length C.kinds → length (between (left r) (right r) C.kinds) ≡ r.shape.w.0
long C r h = length-between C.kinds (left r) (right r) h ∙ omega arith

-- the column come to is one of them, and its kind is the one read
inside : (c : In-loop-kind) → c.loop-kind.kind-index < c.args.r.shape.w.0
inside c = omega (arith, c.loop-kind-test.true, long c.args.chip c.args.r (omega (arith, chip_limits _ c.requires.0)))

kind_read : (c : In-loop-kind) → let C = c.args.chip in let r = c.args.r in
    get_or (between (left r) (right r) C.kinds) c.loop-kind.kind-index 0 ≡ kind_at C (left r + c.loop-kind.kind-index)
kind_read c =
    let r = c.args.r in let h = inside c in
    get_or-between c.args.chip.kinds (left r) (right r) c.loop-kind.kind-index 0 (omega arith)

pub blocks_between-blocks-requires : goal.blocks_between-blocks-requires
blocks_between-blocks-requires c = omega (arith, chip_limits _ c.requires.0)

pub slice_bounds-kind-items-end : goal.slice_bounds-kind-items-end
slice_bounds-kind-items-end c = omega (arith, chip_limits _ c.requires.0)

pub loop-kind-init : goal.loop-kind-init
loop-kind-init c = none_held _ _ _

pub with_column-held-requires : goal.with_column-held-requires
with_column-held-requires c =
    let l = chip_limits _ c.requires.0 in let q = goal.at.with_column-held-requires c in let h = inside q.In-loop-kind in
    rw (kind_read q.In-loop-kind)
    (l.kinds _ (omega arith), few_held _ _ _ _ _ (omega arith) (omega arith) c.loop-kind.invariant, omega arith)

pub loop-kind-preserved : goal.loop-kind-preserved
loop-kind-preserved c =
    let q = goal.at.loop-kind-preserved c in
    rw add-one (rw (kind_read q.In-loop-kind) at c.with_column-held.ensures ∙ one_more_held _ _ _ _ _ c.loop-kind.invariant)

pub returns : goal.returns
returns c =
    let p = c.requires in let r = c.args.r in
    let e = long c.args.chip r (omega (arith, chip_limits _ p.0)) in
    all_held _ p.0 _ p.1 _ _ _ c.blocks_between-blocks.ensures.0 (omega (arith, e, c.loop-kind-test.false)) c.loop-kind.invariant
