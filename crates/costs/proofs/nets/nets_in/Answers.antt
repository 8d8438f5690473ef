-- Net after net is taken, until the bytes end or the places do. Assumes nothing.
use Rattle.std.proofs.Common.{◌≡◌, arith}
use Rattle.std.proofs.lemmas.Bool.Decides.{nat_tests}
use Rattle.rules.specs.Score.{most_nets}
use Rattle.costs.proofs.Netting.{take_next, take_all, take_over}
use Rattle.costs.proofs.nets.nets_in.Goals as goal

pub returns-then-is_empty : goal.returns-then-is_empty
returns-then-is_empty c = take_all _ _ _ _ c.loop-count.invariant (grind (arith, nat_tests))

pub loop-count-preserved : goal.loop-count-preserved
loop-count-preserved c =
    take_next _ _ _ _ c.loop-count.invariant (grind (arith, nat_tests)) (omega arith) _ c.first_net.ensures.net _ c.first_net.ensures.past

pub returns-then-is_empty-2 : goal.returns-then-is_empty-2
returns-then-is_empty-2 c =
    let z = c.loop-count.invariant in let few = z.few in let e : c.loop-count.count ≡ most_nets = omega arith in
    rw e at (take_all _ _ _ _ z (grind (arith, nat_tests)))

pub returns : goal.returns
returns c =
    let z = c.loop-count.invariant in let few = z.few in let e : c.loop-count.count ≡ most_nets = omega arith in
    rw e at (take_over _ _ _ _ z e (grind (arith, nat_tests)))
