-- `checker::judge_cuts` meets its contract. Up to token t every cut is kept, and the pass has the extents of what stands; the pass says
-- whether the next cut is kept.
-- Assumes nothing.
use mathlib.Core.Path.{sym}
use native.Mathlib.Omega.{arith}
use Rattle.rules.proofs.Limits.{limits}
use Rattle.checker.proofs.FirstFault.{none_searched, cut_kept, cut_refused, cuts_kept}
use Rattle.checker.proofs.Passing.{passed_start, is_ready, passed_next, passed_out}
use Rattle.checker.proofs.judge_cuts.Goals as goal

pub overflow_mul-nodes : goal.overflow_mul-nodes
overflow_mul-nodes c = omega (arith, limits _ c.requires.0)

pub overflow_sub-nodes : goal.overflow_sub-nodes
overflow_sub-nodes c = omega (arith, limits _ c.requires.0)

pub loop-t-init : goal.loop-t-init
loop-t-init c = (none_searched, rw c.at_start-pass.ensures (passed_start c.args.d _))

pub bounds-d-t : goal.bounds-d-t
bounds-d-t c = omega (arith, limits _ c.requires.0)

pub after_token-requires : goal.after_token-requires
after_token-requires c =
    let p = c.requires in
    is_ready _ p.0 _ c.loop-t-test.true c.loop-t.invariant.1 c.token_of.ensures _ p.1

pub returns-in_default : goal.returns-in_default
returns-in_default c =
    let h = c.loop-t-test.true in let i = c.loop-t.invariant in
    let k = passed_out _ c.requires.0 _ h i.1 c.token_of.ensures c.after_token.ensures c.in_default.is in
    sym (cut_refused _ _ h k i.0)

pub loop-t-preserved : goal.loop-t-preserved
loop-t-preserved c =
    let h = c.loop-t-test.true in let i = c.loop-t.invariant in
    let k = passed_next _ c.requires.0 _ h i.1 c.token_of.ensures c.after_token.ensures c.in-Some.is in
    (cut_kept _ _ h k.1 i.0, k.0)

pub returns : goal.returns
returns c = sym (cuts_kept _ _ c.loop-t-test.false c.loop-t.invariant.0)
