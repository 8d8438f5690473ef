-- `cellweaver_c::cellweaver_place` meets its contract: the reading is refused, or the service answers. Assumes nothing.
use mathlib.Core.Path.{refl}
use Rattle.cellweaver_c.proofs.Asking.{unread_asked, read_asked}
use Rattle.cellweaver_c.proofs.cellweaver_place.Goals as goal

pub returns-in-Err : goal.returns-in-Err
returns-in-Err c =
    unread_asked c.read-handed.ensures c.in-Err.is c.say_planned.ensures refl

pub returns : goal.returns
returns c =
    read_asked c.read-handed.ensures c.in_default.is (record { r = _; served = c.place.ensures; said = c.say_planned-2.ensures })
