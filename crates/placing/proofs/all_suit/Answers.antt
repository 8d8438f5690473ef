-- Each place is on the chip, so each can be tested; all pass if the test of all does. Assumes nothing.
use mathlib.Core.Path.{◌≡◌}
use mathlib.Core.Logic.{◌↔◌}
use mathlib.Core.Bool.{true}
use Prim.Native.Nat.{ℕ, ◌<◌}
use native.Mathlib.Omega.{arith}
use Rattle.rules.specs.Check.{is_suited}
use Rattle.rules.proofs.Searching.{all_iff, same_test}
use Rattle.choosing.specs.Descend.{place_of}
use Rattle.placing.proofs.all_suit.Goals as goal

pub returns : goal.returns
returns c =
    let d = c.args.design in let p = c.args.places.now in
    let q : c.all.result ≡ true ↔ ((k : ℕ) → k < d.modules → is_suited d k (place_of p k) ≡ true) = grind arith in
    let a = all_iff d.modules (λ k. is_suited d k (place_of p k)) in same_test _ _ (λ r. a.1 (q.0 r), λ s. q.1 (a.0 s))
