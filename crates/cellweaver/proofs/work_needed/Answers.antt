-- `cellweaver::work_needed` meets its contract: within the limits no product is too large. Assumes nothing.
use native.Mathlib.Omega.{arith}
use Rattle.rules.proofs.Limits.{limits}
use Rattle.cellweaver.proofs.Needed.{few}
use Rattle.cellweaver.proofs.work_needed.Goals as goal

pub overflow_mul-nodes : goal.overflow_mul-nodes
overflow_mul-nodes c = let l = limits _ c.requires in omega arith

pub overflow_sub-nodes : goal.overflow_sub-nodes
overflow_sub-nodes c = let l = limits _ c.requires in omega arith

pub overflow_mul-result : goal.overflow_mul-result
overflow_mul-result c = let f = few _ c.requires c.board_of-board.ensures in omega arith

pub overflow_mul-result-2 : goal.overflow_mul-result-2
overflow_mul-result-2 c = let f = few _ c.requires c.board_of-board.ensures in omega arith

pub overflow_mul-result-3 : goal.overflow_mul-result-3
overflow_mul-result-3 c = let f = few _ c.requires c.board_of-board.ensures in omega arith

pub returns : goal.returns
returns c = rw c.board_of-board.ensures
