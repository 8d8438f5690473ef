-- The size of a design's chip, and how many of its rows have slots.
use Rattle.rules.specs.declared.Design.{Design}
use Rattle.rules.specs.Design.{slot_rows}
use Rattle.slots.specs.declared.Board.{Board}

abbrev pub board_of : Design → Board
board_of d = record { width = d.chip.width; height = d.chip.height; listed = record { 0 = slot_rows d } }
