-- While the loop goes on, every row so far has stairs alone; the first that has not settles it. Assumes nothing.
use mathlib.Core.Path.{◌≡◌, sym, ◌∙◌}
use native.Mathlib.Omega.{arith}
use borrow.Author.Rules.{rules}
use Rattle.rules.proofs.Testing.{all_none, all_more, all_fails}
use Rattle.stairs.proofs.node_stairs.Goals as goal

pub loop-y-init : goal.loop-y-init
loop-y-init c = (search rules, all_none _)

pub returns-then-not-row_stairs : goal.returns-then-not-row_stairs
returns-then-not-row_stairs c = sym (all_fails _ _ _ c.loop-y-test.true (sym c.row_stairs.ensures ∙ c.if-not-row_stairs.true))

pub loop-y-preserved : goal.loop-y-preserved
loop-y-preserved c =
    (omega arith, all_more _ _ c.loop-y.invariant.1 (sym c.row_stairs.ensures ∙ c.if-not-row_stairs.false))

pub returns : goal.returns
returns c =
    let e : c.loop-y.y ≡ c.args.board.listed.0 = omega arith in
    rw e at (sym c.loop-y.invariant.1)
