-- While the loop goes on, what is still to be read, put behind what was read, is the whole row. Assumes nothing.
use Prim.Native.Nat.{ℕ}
use lib.ListN.{length}
use Rattle.rules.specs.Bytes.{Took}
use Rattle.reading.specs.Stages.{Answers}
use Rattle.reading.proofs.Rows.{ReadingRow}
use Rattle.reading.proofs.read_row.Given as goal

abbrev pub invariant-loop-x : goal.invariant-loop-x
invariant-loop-x g l =
    (f : ℕ → Took _) → Answers f (goal.F-post g l.read) → ReadingRow f (length l.initial.row) l.at l.next l.x-index l.row
