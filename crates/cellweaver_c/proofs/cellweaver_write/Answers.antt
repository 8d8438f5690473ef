-- `cellweaver_c::cellweaver_write` meets its contract: the reading is refused, or the service answers. Assumes nothing.
use mathlib.Core.Path.{refl}
use Rattle.cellweaver_c.proofs.Asking.{unread_asked, read_asked}
use Rattle.cellweaver_c.proofs.cellweaver_write.Goals as goal

pub returns-in-Err : goal.returns-in-Err
returns-in-Err c =
    unread_asked c.read-handed.ensures c.in-Err.is c.say_refused.ensures refl

pub returns : goal.returns
returns c =
    read_asked c.read-handed.ensures c.in_default.is (record { r = _; served = c.write.ensures; said = c.say_written.ensures })
