-- While the loop goes on, the places so far have the last thing but one before each token. After a module that is the node before the
-- module; after a cut it is what stood below the left child, which the place after the left child has. Assumes nothing.
use mathlib.Core.Path.{◌≡◌, sym, ◌∙◌, ap}
use Prim.Native.Nat.{◌+◌, ◌-◌, ◌<◌}
use native.Mathlib.Omega.{arith}
use lib.ListN.{get_or}
use Rattle.rules.specs.Tree.{is_cut}
use Rattle.rules.specs.Design.{token_at}
use Rattle.trees.proofs.Arrays.{one_more}
use Rattle.trees.proofs.Lefts.{none_found, all_found, module_found, left_found, cut_found}
use mathlib.Core.Bool.{true}
use Rattle.trees.proofs.left_children.Goals as goal
use Rattle.trees.proofs.left_children.Goals.{After-is_cut, then-is_cut, else-is_cut}

-- the code asks whether the token before is a cut
asked : (c : After-is_cut) → let l = c in
    is_cut (token_at l.args.design (l.loop-t.t - 1)) ≡ c.is_cut.result
asked c = sym (c.is_cut.ensures ∙ ap is_cut c.token_of.ensures)

-- the left child of a cut just read is an earlier node
left : (c : After-is_cut) → c.is_cut.result ≡ true → get_or c.loop-t.lefts (c.loop-t.t - 1) 0 + 1 < c.loop-t.t - 1
left c e = left_found _ c.requires c.loop-t.invariant.1 c.loop-t.invariant.0 (omega arith) (asked c ∙ e)

pub loop-t-init : goal.loop-t-init
loop-t-init c = (omega arith, none_found _ c.requires)

pub overflow_add-lefts : goal.overflow_add-lefts
overflow_add-lefts c = omega (arith, left c.before c.if-is_cut.true)

pub bounds-lefts-left : goal.bounds-lefts-left
bounds-lefts-left c = omega (arith, left c.before c.if-is_cut.true)

pub loop-t-preserved : goal.loop-t-preserved
loop-t-preserved c =
    let (g, f) = c.loop-t.invariant in let a = asked c.before in (
      omega arith,
      elim c.if-is_cut.branch [
        | then-is_cut w ↦ rw w.lefts-is (one_more _ f (omega arith) (cut_found _ c.requires f g (omega arith) (a ∙ w.if-is_cut.true)))
        | else-is_cut w ↦ rw w.lefts-is (one_more _ f (omega arith) (module_found _ c.requires f g (omega arith) (a ∙ w.if-is_cut.false)))
      ],
    )

pub returns : goal.returns
returns c = all_found c.loop-t.invariant.1 (omega arith)
