-- `slots::slot_start` meets its contract. Each step multiplies by at least 1, so no step passes the address, and the slot ends within
-- what the largest design needs. Assumes nothing.
use mathlib.Core.Path.{refl}
use native.Mathlib.Omega.{arith}
use Rattle.slots.proofs.Lending.{small}
use Rattle.slots.proofs.slot_start.Goals as goal

pub overflow_mul-result : goal.overflow_mul-result
overflow_mul-result c = omega (arith, (small c.requires).first)

pub overflow_add-result : goal.overflow_add-result
overflow_add-result c = omega (arith, (small c.requires).first)

pub overflow_mul-result-2 : goal.overflow_mul-result-2
overflow_mul-result-2 c = omega (arith, (small c.requires).second)

pub overflow_add-result-2 : goal.overflow_add-result-2
overflow_add-result-2 c = omega (arith, (small c.requires).second)

pub overflow_mul-result-3 : goal.overflow_mul-result-3
overflow_mul-result-3 c = omega (arith, (small c.requires).third)

pub returns : goal.returns
returns c = (refl, (small c.requires).third)
