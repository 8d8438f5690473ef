-- The pairs, and one more where a kind or a weight is left over. Assumes nothing.
use Rattle.std.proofs.Common.{sym, arith}
use Rattle.costs.proofs.Pairing.{count_even, left_over}
use Rattle.costs.proofs.terms.term_count.Goals as goal
use Rattle.costs.proofs.terms.term_count.Goals.{then-kinds-n-via-then-kinds-n, then-kinds-n-via-else-kinds-n+then-weights-n}

pub returns-then-kinds-n : goal.returns-then-kinds-n
returns-then-kinds-n c =
    left_over _ _ _ c.pair_count-n.ensures (λ e f. elim c.then-kinds-n.branch [
      | then-kinds-n-via-then-kinds-n w ↦ w.if-kinds-n.true e
      | then-kinds-n-via-else-kinds-n+then-weights-n w ↦ w.if-weights-n.true f
    ])

pub returns : goal.returns
returns c = let p = c.pair_count-n.ensures in sym (count_even _ _ _ _ c.if-kinds-n.false c.if-weights-n.false (omega arith))
