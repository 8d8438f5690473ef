-- The next element is put behind the others. Assumes nothing.
use Rattle.writing.proofs.Putting.{row_grown}
use Rattle.writing.proofs.put_row.Goals as goal

pub loop-x-preserved : goal.loop-x-preserved
loop-x-preserved g c =
    row_grown g.T.Written.bytes _ _ _ c.loop-x-test.true c.x-item.is c.loop-x.invariant c.put-next.ensures
