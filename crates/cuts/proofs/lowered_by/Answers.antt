-- `cuts::lowered_by` meets its contract: the definition asks the same test. Assumes nothing.
use mathlib.Core.Path.{◌∙◌, sym}
use native.Mathlib.Omega.{arith}
use Rattle.cuts.proofs.Least.{lowered_none, lowered_some}
use Rattle.cuts.proofs.lowered_by.Goals as goal

pub returns-then-height-eq0 : goal.returns-then-height-eq0
returns-then-height-eq0 c = sym (lowered_none _ _ c.if-height-eq0.true)

pub returns-else-height-eq0 : goal.returns-else-height-eq0
returns-else-height-eq0 c = c.min.ensures ∙ sym (lowered_some _ _ (omega arith))
