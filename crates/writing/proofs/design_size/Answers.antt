-- `design_size` meets its contract: with the limits as they stand, the definition computes to the constant. Assumes nothing.
use mathlib.Core.Path.{refl}
use Rattle.rules.specs.Bytes.{number_bytes}
use Rattle.writing.specs.Parts.{design_size}
use Rattle.writing.proofs.design_size.Goals as goal

pub returns : goal.returns
unfolding design_size number_bytes
returns c = refl
