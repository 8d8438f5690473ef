-- `scoring::amounts::members_extent` meets its contract: with each member its doubled centre is put to those before. A lawful net's members are
-- modules, so their rows are there. Assumes nothing.
use mathlib.Core.Path.{◌≡◌, ◌∙◌}
use Prim.Native.Nat.{◌+◌, ◌-◌, ◌<◌}
use native.Mathlib.Omega.{arith}
use lib.ListN.{get_or, take, drop}
use Rattle.std.proofs.lemmas.List.{length-take, get_or-take}
use Rattle.std.proofs.lemmas.Grind.{get_or_after_one}
use Rattle.rules.proofs.Scoring.{net_limits}
use Rattle.scoring.proofs.Extents.{one_reached, next_reached, all_reached}
use Rattle.scoring.proofs.amounts.members_extent.Goals as goal
use Rattle.scoring.proofs.amounts.members_extent.Goals.{In-loop-member}

pub module_point-extent-requires : goal.module_point-extent-requires
module_point-extent-requires c =
    let p = c.requires in let n = net_limits _ _ p.0 in let m = n.members 0 n.some in omega arith

pub slice_bounds-member-items-count : goal.slice_bounds-member-items-count
slice_bounds-member-items-count c = (net_limits _ _ c.requires.0).some

pub slice_bounds-member-items-start : goal.slice_bounds-member-items-start
slice_bounds-member-items-start c = (net_limits _ _ c.requires.0).some

pub slice_bounds-member-items-end : goal.slice_bounds-member-items-end
slice_bounds-member-items-end c = let m = (net_limits _ _ c.requires.0).most in omega arith

pub loop-member-init : goal.loop-member-init
loop-member-init c = ((net_limits _ _ c.requires.0).some, one_reached c.module_point-extent.ensures)

-- the member at hand, by its place among all of them
there : (c : In-loop-member) → c.loop-member.member-index + 1 < c.args.net.count
there c =
    let n = c.args.net in
    omega (arith, c.loop-member-test.true, length-take (n.count - 1) (drop 1 n.modules))

member : (c : In-loop-member) → get_or (take (c.args.net.count - 1) (drop 1 c.args.net.modules)) c.loop-member.member-index 0
    ≡ get_or c.args.net.modules (c.loop-member.member-index + 1) 0
member c =
    let n = c.args.net in let i = c.loop-member.member-index in let h = there c in let q : 1 + i ≡ i + 1 = omega arith in
    get_or-take (n.count - 1) (drop 1 n.modules) i 0 (omega arith) ∙ get_or_after_one n.modules i 0 ∙ rw q

pub module_point-requires : goal.module_point-requires
module_point-requires c =
    let p = c.requires in let w = (goal.at.module_point-requires c).In-loop-member in
    let m = (net_limits _ _ p.0).members _ (there w) in let e = member w in omega arith

pub loop-member-preserved : goal.loop-member-preserved
loop-member-preserved c =
    let i = c.loop-member.invariant in let w = (goal.at.loop-member-preserved c).In-loop-member in
    (omega (arith, there w), next_reached (omega arith) i.1 (rw (member w) at c.module_point.ensures) c.together-extent.ensures)

pub returns : goal.returns
returns c =
    let n = c.args.net in
    let b = (net_limits _ _ c.requires.0).most in
    let e : c.loop-member.member-index + 1 ≡ n.count = omega (arith, length-take (n.count - 1) (drop 1 n.modules)) in
    all_reached (omega arith) c.loop-member.invariant.1
