-- `cellweaver::enough_lent` meets its contract: two lengths, compared one after the other. Assumes nothing.
use Prim.Native.Nat.{◌≤◌, ◌<◌}
use native.Mathlib.Omega.{arith}
use lib.ListN.{length}
use borrow.Author.Tests.{le-leb, lt-leb}
use Rattle.rules.specs.Service.{work_of}
use Rattle.rules.proofs.Limits.{limits}
use Rattle.cellweaver.proofs.enough_lent.Goals as goal

pub overflow_mul-result : goal.overflow_mul-result
overflow_mul-result c = let l = limits _ c.requires in omega arith

pub returns-then-work_needed-work : goal.returns-then-work_needed-work
returns-then-work_needed-work c =
    let e = c.work_needed.ensures in let s = c.args in
    let h : work_of s.design ≤ length s.work.now = omega arith in simp (le-leb _ _ h)

pub returns-else-work_needed-work : goal.returns-else-work_needed-work
returns-else-work_needed-work c =
    let e = c.work_needed.ensures in let s = c.args in
    let h : length s.work.now < work_of s.design = omega arith in rw e (simp (lt-leb _ _ h))
