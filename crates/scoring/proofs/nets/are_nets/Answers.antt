-- `scoring::nets::are_nets` meets its contract: the count is tested, and then each net until one fails.
-- Assumes nothing.
use mathlib.Core.Path.{◌≡◌, sym, ◌∙◌}
use native.Mathlib.Omega.{arith}
use borrow.Author.Rules.{rules}
use Rattle.rules.proofs.Testing.{all_none, all_more}
use Rattle.std.proofs.lemmas.List.{length-take}
use Rattle.rules.specs.Score.{no_net}
use Rattle.scoring.proofs.Front.{before, one_of_all}
use Rattle.scoring.proofs.Listed.{nets_many, net_fails, nets_pass}
use Rattle.scoring.proofs.nets.are_nets.Goals as goal

pub returns-then-cost-gt-MOST_NETS : goal.returns-then-cost-gt-MOST_NETS
returns-then-cost-gt-MOST_NETS c = nets_many _ _ _ c.if-cost-gt-MOST_NETS.true

pub loop-net-init : goal.loop-net-init
loop-net-init c = (search rules, all_none _)

pub returns-then-not-is_net : goal.returns-then-not-is_net
returns-then-not-is_net c =
    let k = c.args.cost in let h = c.loop-net-test.true in
    let e = sym c.is_net.ensures ∙ c.if-not-is_net.true in
    net_fails _ _ _ _ (before k.net_count k.nets h) (rw (one_of_all k.net_count k.nets h no_net) at e)

pub loop-net-preserved : goal.loop-net-preserved
loop-net-preserved c =
    let k = c.args.cost in let h = c.loop-net-test.true in
    let e = sym c.is_net.ensures ∙ c.if-not-is_net.false in
    (search rules, all_more _ _ c.loop-net.invariant.1 (rw (one_of_all k.net_count k.nets h no_net) at e))

pub returns : goal.returns
returns c =
    let k = c.args.cost in
    let e : c.loop-net.net-index ≡ k.net_count = omega (arith, length-take k.net_count k.nets) in
    nets_pass _ _ _ c.if-cost-gt-MOST_NETS.false (rw e at c.loop-net.invariant.1)
