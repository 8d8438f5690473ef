-- `cellweaver::are_stairs` meets its contract: a lawful design is within the stair test's limits. Assumes nothing.
use native.Mathlib.Omega.{arith}
use Rattle.rules.proofs.Limits.{limits}
use Rattle.slots.proofs.Lending.{lent_of}
use Rattle.cellweaver.proofs.are_stairs.Goals as goal

pub overflow_mul-design : goal.overflow_mul-design
overflow_mul-design c = let l = limits _ c.requires.0 in omega arith

pub overflow_sub-design : goal.overflow_sub-design
overflow_sub-design c = let l = limits _ c.requires.0 in omega arith

pub all_stairs-requires : goal.all_stairs-requires
all_stairs-requires c = let p = c.requires in lent_of _ p.0 p.1 c.board_of.ensures

pub returns : goal.returns
returns c = rw c.board_of.ensures at c.all_stairs.ensures
