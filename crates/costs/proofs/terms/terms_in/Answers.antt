-- `costs::terms::terms_in` meets its contract: pair after pair is put into its place.
-- Assumes nothing.
use native.Mathlib.Omega.{arith}
use Rattle.costs.proofs.Pairing.{placed_more, placed_all}
use Rattle.costs.proofs.terms.terms_in.Goals as goal

pub loop-i-preserved : goal.loop-i-preserved
loop-i-preserved c =
    let i = c.loop-i.invariant in
    (omega arith, i.1, placed_more _ _ (omega arith) i.2 c.term_of.ensures)

pub returns : goal.returns
returns c =
    let i = c.loop-i.invariant in placed_all (omega arith) i.2
