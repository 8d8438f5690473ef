-- The constant's bits are those of what is no number. Assumes nothing.
use Rattle.std.proofs.Common.{refl}
use lib.Ieee.{of_bits}
use Rattle.costs.proofs.terms.no_term.Goals as goal

pub returns : goal.returns
unfolding of_bits
returns c = refl
