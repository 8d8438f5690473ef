-- `scans::keep_widest` meets its contract: there is no shape, or it is too high, or it is put. Assumes nothing.
use mathlib.Core.Path.{ap}
use Prim.Native.Nat.{◌+◌}
use native.Mathlib.Omega.{arith}
use Rattle.scans.proofs.Runs.{up_taken}
use Rattle.scans.proofs.Above.{one_widest}
use Rattle.scans.proofs.keep_widest.Goals as goal

pub returns : goal.returns
returns c =
    let p = c.requires in let e = c.as_number.ensures.0 in
    one_widest (up_taken c.args.right.now (omega arith) c.up_to_last-n.ensures) (omega arith) (ap (λ h. c.args.height + h) e) (omega arith) p.1
