-- The counts of a stage that was done are within their limits, and bytes after the last are judged last. Assumes nothing.
use native.Mathlib.Omega.{arith}
use Rattle.numbers.proofs.Answers.{was_taken}
use Rattle.reading.proofs.Answers.{goes_on}
use Rattle.reading.proofs.Whole.{in_stages, width_fits, modules_fit}
use Rattle.reading.proofs.read_stages.Goals as goal

pub read_kinds-requires : goal.read_kinds-requires
read_kinds-requires c = width_fits _ (was_taken _ c.read_sizes.ensures c.in_ok-sizes.was)

pub read_tokens-requires : goal.read_tokens-requires
read_tokens-requires c = modules_fit _ _ _ (was_taken _ c.read_needs.ensures c.in_ok-modules.was)

pub returns-then-tree-s : goal.returns-then-tree-s
returns-then-tree-s c =
    rw in_stages (goes_on _ _ c.read_sizes.ensures c.in_ok-sizes.was
    (goes_on _ _ c.read_kinds.ensures c.in_ok-columns.was
    (goes_on _ _ c.read_needs.ensures c.in_ok-modules.was
    (goes_on _ _ c.read_tokens.ensures c.in_ok-tree.was (grind arith)))))
