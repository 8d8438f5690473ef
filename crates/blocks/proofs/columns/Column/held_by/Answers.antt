-- `blocks::columns::Column::held_by` meets its contract: the loop has counted the blocks before j. Assumes nothing.
use Rattle.std.proofs.Common.{refl, arith}
use Rattle.rules.specs.Search.{count}
use Rattle.blocks.proofs.Standing.{one_more}
use Rattle.blocks.proofs.columns.Column.held_by.Goals as goal
use Rattle.blocks.proofs.columns.Column.held_by.Goals.{then-covers, else-covers}

pub loop-j-init : goal.loop-j-init
unfolding count
loop-j-init c = (omega arith, c.many-many.ensures.0, refl)

pub loop-j-preserved : goal.loop-j-preserved
loop-j-preserved c =
    let i = c.loop-j.invariant in elim c.if-covers.branch [
      | then-covers w ↦ (omega arith, i.1, one_more _ _ _ _ _ c.block.ensures w.if-covers.ensures i.2 (omega arith))
      | else-covers w ↦ (omega arith, i.1, one_more _ _ _ _ _ c.block.ensures w.if-covers.ensures i.2 w.held-is)
    ]
