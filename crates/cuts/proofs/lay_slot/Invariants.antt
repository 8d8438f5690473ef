-- `cuts::lay_slot` meets its contract. The loop's invariant: top sides are laid up to the end of a chunk. Assumes nothing.
use Prim.Native.Nat.{◌<◌, ◌-◌, ◌+◌}
use Rattle.slots.specs.Written.{Filled}
use Rattle.cuts.specs.Cut.{chunk, laid_top}
use Rattle.cuts.proofs.lay_slot.Given as goal

abbrev pub invariant-loop-k : goal.invariant-loop-k
invariant-loop-k l = (l.k < l.n + chunk) × Filled l.initial.tops l.to l.k (laid_top l.initial.tops l.to l.top l.line l.from) l.tops

abbrev pub decreases-loop-k : goal.decreases-loop-k
decreases-loop-k l = l.n + chunk - l.k
