-- The slot is walked in parts: zeros change nothing, and any other part goes byte by byte. While the loop goes on, what is left of
-- the walk gives what all of it gives, and the walk along the whole slot decides whether it is a stair. Assumes nothing.
use Rattle.std.specs.Slice.Iter.{chunks_rest}
use Rattle.stairs.proofs.Walking.{Left}
use Rattle.stairs.proofs.is_stair.Given as goal

abbrev pub invariant-loop-part : goal.invariant-loop-part
invariant-loop-part l = Left l.fn.board.width.0 l.fn.board.height.0 l.fn.at l.slot l.columns (chunks_rest l.part-iterator) l.low
