-- Each arm of the match is one case of the definition. The first line takes at most 23 bytes and each module's 30, so that all
-- have bytes. Assumes nothing.
use native.Mathlib.Omega.{arith}
use borrow.Author.Rules.{rules}
use Rattle.rules.specs.Program.{plan_text}
use Rattle.putting.proofs.Putting.{same_long, both_put}
use Rattle.printing.proofs.Putting.{plan_end}
use Rattle.printing.proofs.plan_text.Goals as goal

pub put_modules-requires : goal.put_modules-requires
put_modules-requires c =
    let put = c.put_plan-next.ensures in (omega (arith, same_long put, plan_end _ put), search rules)

pub returns-in-Ok : goal.returns-in-Ok
unfolding plan_text
returns-in-Ok c =
    let first = c in
    rw (first.in-Ok.is, plan_text)
    (both_put first.put_plan-next.ensures c.put_modules.ensures)

pub returns-in-Err : goal.returns-in-Err
unfolding plan_text
returns-in-Err c =
    let told = c in let said = told.number_of-said.ensures in
    rw (told.in-Err.is, plan_text, ← said.0, ← said.1)
    c.put_plan.ensures
