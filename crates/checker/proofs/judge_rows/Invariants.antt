-- `checker::judge_rows` meets its contract. The modules before k are fine; the first that is not decides, and otherwise the cuts do.
-- Assumes nothing.
use Rattle.rules.specs.Check.{from_rows}
use Rattle.checker.proofs.FirstFault.{Searched, at_fault}
use Rattle.checker.proofs.judge_rows.Given as goal

abbrev pub invariant-loop-k : goal.invariant-loop-k
invariant-loop-k l = Searched (at_fault l.d (from_rows l.rows)) l.d.modules l.k
