-- `program::plan_input` meets its contract: the arrays that it makes are zeros, and the part of the input that was read is lent. Assumes nothing.
use mathlib.Core.Path.{sym}
use native.Mathlib.Omega.{arith}
use lib.Seq.{length-take-le}
use borrow.Author.Rules.{rules}
use Rattle.rules.specs.Program.{zeroed}
use Rattle.program.proofs.plan_input.Goals as goal

pub slice_bounds-plan_bytes-end : goal.slice_bounds-plan_bytes-end
slice_bounds-plan_bytes-end c = sym (length-take-le _ _ (omega arith))

pub returns : goal.returns
unfolding zeroed
returns c = record { size = search rules; work = _; rows = _; runs = c.plan_bytes.ensures }
