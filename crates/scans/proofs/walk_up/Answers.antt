-- `scans::walk_up` meets its contract. The loop's invariant: of the bytes from a up to k those that stay lower are put. Assumes nothing.
use native.Mathlib.Omega.{arith}
use Rattle.scans.proofs.Above.{one_up, past_up}
use Rattle.scans.proofs.walk_up.Goals as goal
use Rattle.scans.proofs.walk_up.Goals.{then-h-ne0+then-high-low, then-h-ne0+else-high-low, else-h-ne0}

pub loop-k-preserved : goal.loop-k-preserved
loop-k-preserved c =
    let l = c.loop-k in let i = l.invariant.1 in let v = c.as_number-h.ensures in (
      omega arith,
      elim c.if-h-ne0.branch [
        | then-h-ne0+then-high-low w ↦ rw (w.slot-is, w.last-is) (one_up i (omega arith) (omega arith) (omega arith) (omega arith) (omega arith))
        | then-h-ne0+else-high-low w ↦ rw (w.slot-is, w.last-is) (past_up i (λ z. omega (arith, z.lower)))
        | else-h-ne0 w ↦ rw (w.slot-is, w.last-is) (past_up i (λ z. omega (arith, z.shape)))
      ],
    )
