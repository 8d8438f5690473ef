-- `scoring::nets::is_net` meets its contract: the count is tested, and then each member until one is missing.
-- Assumes nothing.
use mathlib.Core.Path.{◌≡◌}
use mathlib.Core.Bool.{true}
use Prim.Native.Nat.{◌≤◌}
use lib.Dec.{ltb}
use lib.ListN.{get_or}
use Rattle.rules.specs.Search.{all}
use Rattle.scoring.proofs.nets.is_net.Given as goal

abbrev pub invariant-loop-member : goal.invariant-loop-member
invariant-loop-member l = (l.member-index ≤ l.fn.net.count) × (all l.member-index (λ j. ltb (get_or l.fn.net.modules j 0) l.modules) ≡ true)
