-- `checker::judge_rows` meets its contract. The modules before k are fine; the first that is not decides, and otherwise the cuts do.
-- Assumes nothing.
use mathlib.Core.Path.{sym, ◌∙◌}
use Rattle.std.proofs.lemmas.Result.{err_from_is_err_and}
use Rattle.checker.proofs.FirstFault.{module_fine, module_refused, modules_fine}
use Rattle.checker.proofs.judge_rows.Goals as goal

pub returns-in_err-judge_module : goal.returns-in_err-judge_module
returns-in_err-judge_module c =
    let p = err_from_is_err_and c.from_residual.result c.from_residual.ensures.1 in
    let e = sym c.judge_module.ensures ∙ c.in_err-judge_module.was in
    rw (p.1, p.2) (sym (module_refused _ _ c.loop-k-test.true e c.loop-k.invariant))

pub loop-k-preserved : goal.loop-k-preserved
loop-k-preserved c = module_fine _ _ c.loop-k-test.true (sym c.judge_module.ensures ∙ c.in_ok-judge_module.was) c.loop-k.invariant

pub returns : goal.returns
returns c = c.judge_cuts.ensures ∙ sym (modules_fine _ _ c.loop-k-test.false c.loop-k.invariant)
