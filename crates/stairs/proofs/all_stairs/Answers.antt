-- While the loop goes on, every node so far has stairs alone; the first that has not settles it. Assumes nothing.
use mathlib.Core.Path.{◌≡◌, sym, ◌∙◌}
use native.Mathlib.Omega.{arith}
use borrow.Author.Rules.{rules}
use Rattle.rules.proofs.Test.{are_stairs}
use Rattle.rules.proofs.Testing.{all_none, all_more, all_fails}
use Rattle.slots.proofs.Lending.{fewer_lent}
use Rattle.stairs.proofs.all_stairs.Goals as goal

pub loop-t-init : goal.loop-t-init
loop-t-init c = (search rules, all_none _)

pub node_stairs-requires : goal.node_stairs-requires
node_stairs-requires c = fewer_lent c.requires _ c.loop-t-test.true

pub returns-then-not-node_stairs : goal.returns-then-not-node_stairs
unfolding are_stairs
returns-then-not-node_stairs c = sym (all_fails _ _ _ c.loop-t-test.true (sym c.node_stairs.ensures ∙ c.if-not-node_stairs.true))

pub loop-t-preserved : goal.loop-t-preserved
loop-t-preserved c =
    (omega arith, all_more _ _ c.loop-t.invariant.1 (sym c.node_stairs.ensures ∙ c.if-not-node_stairs.false))

pub returns : goal.returns
unfolding are_stairs
returns c =
    let e : c.loop-t.t ≡ c.args.nodes = omega arith in rw e at (sym c.loop-t.invariant.1)
