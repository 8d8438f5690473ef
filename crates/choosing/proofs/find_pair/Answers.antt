-- The search stops at the first left shape that has a right one, and that is the pair which the rules take. Assumes nothing.
use Rattle.slots.specs.Lent.{slots_on}
use Rattle.choosing.proofs.Pairs.{pairs_from}
use Rattle.choosing.proofs.find_pair.Goals as goal

pub returns : goal.returns
returns c =
    let a = c.args in let b = a.lists.board in let s = slots_on b a.lists.work.now in
    pairs_from b a.direction (s a.left) (s a.right) a.room.corner a.room.shape c.slot.ensures c.left_in.ensures
