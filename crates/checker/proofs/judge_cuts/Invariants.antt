-- `checker::judge_cuts` meets its contract. Up to token t every cut is kept, and the pass has the extents of what stands; the pass says
-- whether the next cut is kept.
-- Assumes nothing.
use Rattle.rules.specs.Design.{nodes}
use Rattle.rules.specs.Check.{from_rows}
use Rattle.checker.proofs.FirstFault.{Searched, not_kept}
use Rattle.checker.proofs.Passing.{PassedAt}
use Rattle.checker.proofs.judge_cuts.Given as goal

abbrev pub invariant-loop-t : goal.invariant-loop-t
invariant-loop-t l = Searched (not_kept l.d (from_rows l.rows)) (nodes l.d) l.t × PassedAt l.d (from_rows l.rows) l.t l.pass
