-- The invariant: going down the nodes that are left ends where going down all of them does. For a lawful design that is going down its
-- tree. Assumes nothing.
use mathlib.Core.Path.{refl}
use Rattle.choosing.proofs.Steps.{first_settled}
use Rattle.choosing.proofs.Layouts.{one_down, all_down, none_down}
use Rattle.choosing.proofs.lay_out.Goals as goal

pub loop-t-init : goal.loop-t-init
loop-t-init c = record { settled = rw c.first_descent-descent.ensures (first_settled _ _ c.args.lists.lent); same = refl }

pub returns-in_err-descent : goal.returns-in_err-descent
returns-in_err-descent c =
    rw c.from_residual.ensures (none_down c.loop-t.t c.loop-t-test.true c.loop-t.invariant c.in_err-descent.ensures c.first_descent-descent.ensures)

pub loop-t-preserved : goal.loop-t-preserved
loop-t-preserved c = one_down c.loop-t.t c.loop-t-test.true c.loop-t.invariant c.in_ok-descent.ensures

pub returns : goal.returns
returns c = all_down c.loop-t-test.false c.loop-t.invariant c.first_descent-descent.ensures
