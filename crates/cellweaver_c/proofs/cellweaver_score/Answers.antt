-- `cellweaver_c::cellweaver_score` meets its contract: the reading is refused, or the service answers. Assumes nothing.
use mathlib.Core.Path.{ap}
use Rattle.cellweaver_c.proofs.Asking.{unread_asked, read_asked}
use Rattle.cellweaver_c.proofs.cellweaver_score.Goals as goal

pub returns-in-Err : goal.returns-in-Err
returns-in-Err c =
    let s = c.say_scored.ensures in
    unread_asked c.read-handed.ensures c.in-Err.is (ap (λ a. a.reply) s) (ap (λ a. a.values) s)

pub returns : goal.returns
returns c =
    read_asked c.read-handed.ensures c.in_default.is (_, c.score_slices-scored.ensures, c.say_scored-2.ensures)
