-- A design that breaks the rules is refused by its tests; a lawful one is measured, and put if there is room. Assumes nothing.
use mathlib.Core.Path.{sym, ◌∙◌}
use Rattle.rules.specs.Design.{Sized}
use Rattle.rules.proofs.Limits.{Limits, limits}
use Rattle.writing.proofs.write_design.Goals as goal
use Rattle.writing.proofs.write_design.Goals.{In_ok-value_test}

-- past the tests
lawful : (c : In_ok-value_test) → Sized c.args.d × Limits c.args.d
lawful c = (c.value_test.ensures.sized, limits _ (sym c.value_test.ensures.is ∙ c.in_ok-value_test.was))

pub design_len-count-requires : goal.design_len-count-requires
design_len-count-requires c = lawful c

pub put_design-requires-clause-lawful : goal.put_design-requires-clause-lawful
put_design-requires-clause-lawful c = lawful (goal.at.put_design-requires-clause-lawful c).In_ok-value_test
