-- `cellweaver_c::cellweaver_sizes` meets its contract: the reading is refused, or the sizes of its design are put. Assumes nothing.
use mathlib.Core.Path.{refl}
use Rattle.cellweaver_c.proofs.Asking.{reads_lawful, unread_asked, read_asked}
use Rattle.cellweaver_c.proofs.cellweaver_sizes.Goals as goal

pub returns-in-Err : goal.returns-in-Err
returns-in-Err c =
    unread_asked c.read-handed.ensures c.in-Err.is c.say_refused.ensures refl

pub put_sizes-requires : goal.put_sizes-requires
put_sizes-requires c =
    reads_lawful _ c.read-handed.ensures c.in_default.is

pub returns : goal.returns
returns c =
    read_asked c.read-handed.ensures c.in_default.is (refl, c.put_sizes.ensures)
