-- `cellweaver_c::edit_bytes` meets its contract: the reading is refused, or the design that is read is lawful, and edited. Assumes nothing.
use mathlib.Core.Path.{refl}
use Rattle.cellweaver_c.proofs.Asking.{reads_lawful, unread_asked, read_asked}
use Rattle.cellweaver_c.proofs.edit_bytes.Goals as goal

pub returns-in-Err : goal.returns-in-Err
returns-in-Err c =
    unread_asked c.read-handed.ensures c.in-Err.is c.say_refused.ensures (refl, refl)

pub edit_into-requires : goal.edit_into-requires
edit_into-requires c =
    reads_lawful _ c.read-handed.ensures c.in_default.is

pub returns : goal.returns
returns c =
    read_asked c.read-handed.ensures c.in_default.is c.edit_into.ensures
