-- `scoring::amounts::wire_of` meets its contract: with each net its half perimeter is added, and each is small.
-- Assumes nothing.
use mathlib.Core.Path.{◌≡◌}
use native.Mathlib.Omega.{arith}
use Rattle.rules.proofs.Scoring.{nets_limits}
use Rattle.std.proofs.lemmas.List.{length-take}
use Rattle.rules.specs.Score.{no_net}
use Rattle.scoring.proofs.Front.{before, one_of_all}
use Rattle.scoring.proofs.Listed.{net_lawful}
use Rattle.scoring.proofs.Sums.{no_wire, wire_next}
use Rattle.scoring.proofs.amounts.wire_of.Goals as goal

pub loop-net-init : goal.loop-net-init
loop-net-init c = (omega arith, (nets_limits _ _ _ c.requires.0).most, no_wire _ _, omega arith)

pub shared_ref_as_front-net-items : goal.shared_ref_as_front-net-items
shared_ref_as_front-net-items c = omega (arith, (nets_limits _ _ _ c.requires.0).most)

pub half_perimeter-sum-requires : goal.half_perimeter-sum-requires
half_perimeter-sum-requires c =
    let k = c.args.cost in let h = c.loop-net-test.true in let p = c.requires in
    (rw (one_of_all k.net_count k.nets h no_net) (net_lawful _ _ _ _ p.0 (before k.net_count k.nets h)), p.1)

pub overflow_add-sum : goal.overflow_add-sum
overflow_add-sum c = let h = c.half_perimeter-sum.ensures.1 in let b = length-take c.args.cost.net_count c.args.cost.nets in omega arith

pub loop-net-preserved : goal.loop-net-preserved
loop-net-preserved c =
    let k = c.args.cost in let i = c.loop-net.invariant in let h = c.half_perimeter-sum.ensures in
    let e = rw (one_of_all k.net_count k.nets c.loop-net-test.true no_net) at h.0 in
    let b = before k.net_count k.nets c.loop-net-test.true in
    (omega arith, i.1, wire_next _ _ _ _ _ i.2 e, omega arith)

pub returns : goal.returns
returns c =
    let k = c.args.cost in let i = c.loop-net.invariant in
    let e : c.loop-net.net-index ≡ k.net_count = omega (arith, length-take k.net_count k.nets) in (rw e at i.2, omega arith)
