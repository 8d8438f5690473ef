-- `cellweaver_c::edit_into` meets its contract: where `out` can't hold every design the edit sees no work and is refused; otherwise a refused
-- edit leaves `out`, and a granted one's design is written. Assumes nothing.
use mathlib.Core.Path.{refl}
use native.Mathlib.Omega.{arith}
use Rattle.cellweaver_c.proofs.Editing.{short_out, edit_refused, edit_put}
use Rattle.cellweaver_c.proofs.edit_into.Goals as goal

pub returns-then-out-design_size : goal.returns-then-out-design_size
returns-then-out-design_size c =
    short_out _ _ c.requires refl c.edit.ensures c.say.ensures (omega arith)

pub returns-in-Err : goal.returns-in-Err
returns-in-Err c =
    edit_refused _ _ c.requires (omega arith) c.edit-handed.ensures c.in-Err.is c.say_refused.ensures

pub returns : goal.returns
returns c =
    edit_put _ _ c.requires (omega arith) c.edit-handed.ensures c.in_default.is
    c.write.ensures c.say_written.ensures
