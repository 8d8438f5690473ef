-- `scoring::nets::is_net` meets its contract: the count is tested, and then each member until one is missing.
-- Assumes nothing.
use mathlib.Core.Path.{◌≡◌}
use native.Mathlib.Omega.{arith}
use borrow.Author.Rules.{rules}
use borrow.Author.Tests.{lt-ltb}
use Rattle.rules.proofs.Testing.{all_none, all_more}
use Rattle.std.proofs.lemmas.List.{length-take}
use Rattle.scoring.proofs.Front.{before, one_of_all}
use Rattle.scoring.proofs.Listed.{net_empty, net_long, member_missing, net_passes}
use Rattle.scoring.proofs.nets.is_net.Goals as goal

pub returns-then-net-lt1 : goal.returns-then-net-lt1
returns-then-net-lt1 c = net_empty _ _ c.if-net-lt1.true

pub returns-then-net-gt-MOST_MODULES : goal.returns-then-net-gt-MOST_MODULES
returns-then-net-gt-MOST_MODULES c = net_long _ _ c.if-net-gt-MOST_MODULES.true

pub loop-member-init : goal.loop-member-init
loop-member-init c = (search rules, all_none _)

pub returns-then-modules-member : goal.returns-then-modules-member
returns-then-modules-member c =
    let n = c.args.net in let h = c.loop-member-test.true in
    member_missing _ n _ (before n.count n.modules h) (rw (one_of_all n.count n.modules h 0) at c.if-modules-member.true)

pub loop-member-preserved : goal.loop-member-preserved
loop-member-preserved c =
    let n = c.args.net in let h = c.loop-member-test.true in
    let l = lt-ltb _ _ c.if-modules-member.false in
    (search rules, all_more _ _ c.loop-member.invariant.1 (rw (one_of_all n.count n.modules h 0) at l))

pub returns : goal.returns
returns c =
    let n = c.args.net in
    let e : c.loop-member.member-index ≡ n.count = omega (arith, length-take n.count n.modules) in
    net_passes _ _ c.if-net-lt1.false c.if-net-gt-MOST_MODULES.false (rw e at c.loop-member.invariant.1)
