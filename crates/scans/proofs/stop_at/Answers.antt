-- `scans::stop_at` meets its contract: the height of the last byte, or none. Assumes nothing.
use mathlib.Core.Path.{◌≡◌, sym, ◌∙◌, ap}
use native.Mathlib.Omega.{arith}
use lib.ListN.{length}
use Rattle.scans.specs.Run.{bytes, stop_at}
use Rattle.scans.proofs.Runs.{stop_some, stop_none}
use Rattle.scans.proofs.stop_at.Goals as goal

pub returns-in-empty : goal.returns-in-empty
returns-in-empty c =
    let f = bytes c.args.slot.now in let e : length c.args.slot.now ≡ 0 = omega arith in sym (ap (stop_at f) e ∙ stop_none f)

pub returns-in-len1-up : goal.returns-in-len1-up
returns-in-len1-up c = sym (stop_some _ _ (omega arith))
