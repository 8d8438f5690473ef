-- What is left after a word is a part of the line. Assumes nothing.
use Rattle.std.proofs.Common.{◌≤◌, length}
use Rattle.words.proofs.from_word.Given as goal

abbrev pub invariant-loop : goal.invariant-loop
invariant-loop l = length l.rest ≤ length l.line
