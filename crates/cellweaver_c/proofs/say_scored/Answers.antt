-- `cellweaver_c::say_scored` meets its contract: both values with 0, or a refusal's answer and zeros. Assumes nothing.
use mathlib.Core.Path.{sym, ◌∙◌, ap}
use Rattle.rules.specs.Reply.{scored_answer}
use Rattle.cellweaver_c.proofs.Asking.{unscored_answer}
use Rattle.cellweaver_c.proofs.say_scored.Goals as goal

pub returns-in-Err : goal.returns-in-Err
returns-in-Err c =
    unscored_answer _ c.say_refused.ensures ∙ ap scored_answer (sym c.in-Err.is)
