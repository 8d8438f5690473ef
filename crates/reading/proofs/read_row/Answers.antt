-- What the reader of one thing answers is what the rules take next. Assumes nothing.
use Rattle.std.proofs.lemmas.Result.{err_from_is_err_and}
use mathlib.Core.Path.{refl, ap, ◌∙◌}
use native.Mathlib.Omega.{arith}
use Rattle.std.specs.Prelude.{Err}
use Rattle.numbers.proofs.Answers.{was_taken, was_refused}
use Rattle.reading.proofs.Rows.{row_begun, next_read, next_refused, row_read}
use Rattle.reading.proofs.read_row.Goals as goal

pub loop-x-init : goal.loop-x-init
loop-x-init g c f a = row_begun f refl

pub returns-in_err-taken : goal.returns-in_err-taken
returns-in_err-taken g c f a =
    let n = next_refused f (c.loop-x.invariant f a) (omega arith) (was_refused _ (a _ _ c.read.ensures) c.in_err-taken.was) in
    let p = err_from_is_err_and c.from_residual.result c.from_residual.ensures.1 in
    rw n (p.1 ∙ ap Err p.2)

pub loop-x-preserved : goal.loop-x-preserved
loop-x-preserved g c f a =
    next_read f (c.loop-x.invariant f a) (omega arith) (was_taken _ (a _ _ c.read.ensures) c.in_ok-taken.was)

pub returns : goal.returns
returns g c f a = rw (row_read f (c.loop-x.invariant f a) (omega arith)) (refl, refl)
