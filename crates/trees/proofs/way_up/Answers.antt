-- While the loop goes on, the nodes so far are marked as their trees span the position; the next mark follows from its children's.
-- Assumes nothing.
use mathlib.Core.Path.{◌≡◌}
use Prim.Native.Nat.{◌<◌}
use native.Mathlib.Omega.{arith}
use lib.ListN.{get_or, take, length-take}
use Rattle.std.proofs.lemmas.List.{get_or-take}
use Rattle.rules.specs.Design.{nodes}
use Rattle.rules.proofs.Limits.{limits}
use Rattle.trees.proofs.Arrays.{one_more}
use Rattle.trees.proofs.Lefts.{left_earlier}
use Rattle.trees.proofs.Ways.{none_marked, all_marked, mark_right}
use Rattle.trees.proofs.way_up.Goals as goal
use Rattle.trees.proofs.way_up.Goals.{In-loop-t}

-- the token come to is a node's, and it is the one read
inside : (c : In-loop-t) → c.loop-t.t < nodes c.args.design
inside c = omega (arith, c.loop-t-test.true, length-take (nodes c.args.design) c.args.design.tokens)

read : (c : In-loop-t) → get_or (take (nodes c.args.design) c.args.design.tokens) c.loop-t.t 0 ≡ get_or c.args.design.tokens c.loop-t.t 0
read c = get_or-take (nodes c.args.design) c.args.design.tokens c.loop-t.t 0 (inside c)

pub loop-t-init : goal.loop-t-init
loop-t-init c = none_marked _ _ c.requires.0

pub mark_of-mark-requires : goal.mark_of-mark-requires
mark_of-mark-requires c =
    let s = c.requires in let p = (goal.at.mark_of-mark-requires c).In-loop-t in let few = (limits _ s.0).modules in
    (omega (arith, inside p), λ q. left_earlier s.0 s.1 (inside p) (rw (c.token_of.ensures, read p) at q))

pub loop-t-preserved : goal.loop-t-preserved
loop-t-preserved c =
    let s = c.requires in let p = (goal.at.loop-t-preserved c).In-loop-t in
    let m = rw (c.token_of.ensures, read p) at c.mark_of-mark.ensures in
    one_more _ c.loop-t.invariant (inside p) (mark_right s.0 s.1 _ c.loop-t.invariant (inside p) m)

pub returns : goal.returns
returns c =
    let d = c.args.design in
    all_marked c.loop-t.invariant (omega (arith, c.loop-t-test.false, length-take (nodes d) d.tokens, (limits _ c.requires.0).modules))
