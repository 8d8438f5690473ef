-- A lawful design is small enough to count its nodes, and its work bytes have their slots. Assumes nothing.
use native.Mathlib.Omega.{arith}
use Rattle.rules.proofs.Limits.{limits}
use Rattle.slots.proofs.Lending.{lent_of}
use Rattle.placing.proofs.lists_of.Goals as goal

pub overflow_mul-result : goal.overflow_mul-result
overflow_mul-result c = omega (arith, limits _ c.requires.0)

pub overflow_sub-result : goal.overflow_sub-result
overflow_sub-result c = omega (arith, limits _ c.requires.0)

pub invariant_of-result : goal.invariant_of-result
invariant_of-result c = record { lent = lent_of _ c.requires.0 c.requires.1 c.board_of.ensures }

pub returns-clause-some : goal.returns-clause-some
returns-clause-some c = omega (arith, limits _ c.requires.0)
