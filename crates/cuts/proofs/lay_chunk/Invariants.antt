-- `cuts::lay_chunk` meets its contract. The loop's invariant: so many top sides are laid. Assumes nothing.
use Prim.Native.Nat.{◌≤◌}
use Rattle.slots.specs.Written.{Filled}
use Rattle.cuts.specs.Cut.{chunk, laid_top}
use Rattle.cuts.proofs.lay_chunk.Given as goal

abbrev pub invariant-loop-k : goal.invariant-loop-k
invariant-loop-k l = (l.k ≤ chunk) × Filled l.initial.tops l.to l.k (laid_top l.initial.tops l.to l.top l.line l.from) l.tops
