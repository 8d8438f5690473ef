-- What can be drawn: a lawful design, with a row for each of its modules. Its limits stand here one by one, for whoever counts with
-- them.
use Rattle.std.specs.Prelude.{ℕ, ◌*◌, ◌≤◌, List, length}
use Rattle.rules.specs.declared.Design.{Design}
use Rattle.rules.specs.Design.{most_modules, LawfulDesign}
use Rattle.blocks.specs.Cut.{Within}

pub record Drawable (d : Design) (rows : List ℕ) : Type 0 where
  pub lawful : LawfulDesign d
  pub chip : Within d.chip
  pub modules : d.modules ≤ most_modules
  pub places : 4 * d.modules ≤ length rows
