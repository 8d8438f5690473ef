-- `cuts::lay_chunk` meets its contract. The loop's invariant: so many top sides are laid. Assumes nothing.
use mathlib.Core.Path.{◌≡◌}
use native.Mathlib.Omega.{arith}
use borrow.Author.Rules.{rules}
use Rattle.slots.proofs.Filling.{none_filled}
use Rattle.cuts.specs.Cut.{chunk}
use Rattle.cuts.proofs.Filling.{one_laid}
use Rattle.cuts.proofs.lay_chunk.Goals as goal

pub loop-k-init : goal.loop-k-init
loop-k-init c = (search rules, none_filled)

pub loop-k-preserved : goal.loop-k-preserved
loop-k-preserved c = let a = c.args in
    (omega arith, one_laid a.top a.from a.line.now c.loop-k.invariant.1 c.min.ensures c.max-box_top.ensures)

pub returns : goal.returns
returns c = let e : c.loop-k.k ≡ chunk = omega arith in rw e at c.loop-k.invariant.1
