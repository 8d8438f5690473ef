-- `leaves::leaf_node` meets its contract. The loop's invariant: the rows below row y are listed, and nothing else has changed. Assumes nothing.
use mathlib.Core.Path.{◌≡◌}
use native.Mathlib.Omega.{arith}
use Rattle.slots.proofs.Covering.{none_below, one_row_more, all_rows}
use Rattle.slots.proofs.Lending.{lent_same}
use Rattle.leaves.proofs.leaf_node.Goals as goal

pub loop-y-init : goal.loop-y-init
loop-y-init c = none_below _

pub list_row-requires : goal.list_row-requires
list_row-requires c = let l = c.loop-y in (lent_same c.requires.lent l.invariant.long, omega arith)

pub loop-y-preserved : goal.loop-y-preserved
loop-y-preserved c = one_row_more c.loop-y.y _ _ _ c.loop-y.invariant c.list_row.ensures

pub returns : goal.returns
returns c =
    let l = c.loop-y in let e : l.y ≡ c.args.board.listed.0 = omega arith in
    all_rows _ _ (rw e at l.invariant)
