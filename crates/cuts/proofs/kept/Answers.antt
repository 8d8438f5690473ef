-- `cuts::kept` meets its contract: the definition asks the same test. Assumes nothing.
use borrow.Author.Tests.{lt-ltb, le-ltb}
use Rattle.cuts.specs.Cut.{kept_byte}
use Rattle.cuts.proofs.kept.Goals as goal

pub returns-then-top-before : goal.returns-then-top-before
unfolding kept_byte
returns-then-top-before c = simp (lt-ltb _ _ c.if-top-before.true)

pub returns-else-top-before : goal.returns-else-top-before
unfolding kept_byte
returns-else-top-before c = simp (le-ltb _ _ c.if-top-before.false)
