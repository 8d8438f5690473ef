-- `slots::board_of` meets its contract: the rows that have slots are those of the chip. Assumes nothing.
use mathlib.Core.Path.{refl}
use Rattle.rules.specs.Design.{slot_rows}
use Rattle.slots.proofs.board_of.Goals as goal

pub returns : goal.returns
unfolding slot_rows
returns c = refl
