-- While the loop goes on, what is still to be read, put behind the tokens so far, is the whole row, and the stack mirrors
-- what stands. Assumes nothing.
use Prim.Native.Nat.{◌-◌, ◌*◌}
use Rattle.reading.proofs.Trees.{ReadingTokens}
use Rattle.reading.proofs.read_tokens.Given as goal

abbrev pub invariant-loop-byte : goal.invariant-loop-byte
invariant-loop-byte l =
    ReadingTokens l.s l.m (2 * l.m - 1) l.initial.at l.at l.byte-index l.stack l.byte-items
