-- `listing::list_marked` meets its contract. The loop's invariant: of the nodes before t the marked ones are listed; where all are marked, these have
-- their own lists, which is what the scan asks for. Assumes nothing.
use mathlib.Core.Path.{◌≡◌, sym, ◌∙◌}
use Prim.Native.Nat.{◌-◌, ◌*◌}
use native.Mathlib.Omega.{arith}
use Rattle.rules.proofs.Searching.{absurd_so}
use Rattle.rules.proofs.Limits.{limits}
use Rattle.listing.proofs.Passing.{listable_kept, none_made, one_passed, one_made, below_made}
use Rattle.listing.proofs.list_marked.Goals as goal
use Rattle.listing.proofs.list_marked.Goals.{then-marks-t, else-marks-t}

pub overflow_mul-nodes : goal.overflow_mul-nodes
overflow_mul-nodes c = let l = limits _ c.requires.0.lawful in omega arith

pub overflow_sub-nodes : goal.overflow_sub-nodes
overflow_sub-nodes c = let l = limits _ c.requires.0.lawful in omega arith

pub loop-t-init : goal.loop-t-init
loop-t-init c = (omega arith, none_made _ _ _)

pub bounds-marks-t : goal.bounds-marks-t
bounds-marks-t c = let l = limits _ c.requires.0.lawful in omega arith

pub list_node-requires : goal.list_node-requires
list_node-requires c =
    let p = c.requires in let m = c.loop-t.invariant.1 in
    (listable_kept m.long p.0, omega arith, λ s. below_made p.0.lawful (omega arith) (p.1 s) m)

pub loop-t-preserved : goal.loop-t-preserved
loop-t-preserved c =
    let lawful = c.requires.0.lawful in let m = c.loop-t.invariant.1 in
    elim c.if-marks-t.branch [
      | then-marks-t w ↦ (omega arith, rw w.work-is (one_made lawful (omega arith) w.if-marks-t.true m w.list_node.ensures))
      | else-marks-t w ↦ (omega arith, rw w.work-is (one_passed (λ s. absurd_so (sym w.if-marks-t.false ∙ s)) m))
    ]

pub returns : goal.returns
returns c = let l = c.loop-t in let e : l.t ≡ 2 * c.args.design.modules - 1 = omega arith in rw e at l.invariant.1
