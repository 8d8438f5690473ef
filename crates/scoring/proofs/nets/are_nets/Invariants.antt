-- `scoring::nets::are_nets` meets its contract: the count is tested, and then each net until one fails.
-- Assumes nothing.
use mathlib.Core.Path.{◌≡◌}
use mathlib.Core.Bool.{true}
use Prim.Native.Nat.{◌≤◌}
use Rattle.rules.specs.Search.{all}
use Rattle.rules.specs.Score.{lawful_net, net_at}
use Rattle.scoring.proofs.nets.are_nets.Given as goal

abbrev pub invariant-loop-net : goal.invariant-loop-net
invariant-loop-net l = (l.net-index ≤ l.fn.cost.net_count) × (all l.net-index (λ i. lawful_net l.modules (net_at l.fn.cost.nets i)) ≡ true)
