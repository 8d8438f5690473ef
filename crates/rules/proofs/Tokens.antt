-- Tokens and their numbers. 01's rule counts "k+2 is module k" up from the two cuts, so each law is two steps of that count, and then
-- the test of the bound. Assumes nothing.
use mathlib.Core.Path.{◌≡◌, refl}
use mathlib.Core.Logic.{◌↔◌}
use mathlib.Core.Bool.{Bool, true, false, So}
use mathlib.Core.List.{List}
use Prim.Native.Nat.{ℕ, zero, suc, ◌+◌, ◌-◌, ◌≤◌, ◌<◌}
use native.Mathlib.Omega.{arith}
use native.Mathlib.Decide.{dec_lt}
use lib.Dec.{ltb}
use borrow.Author.Tests.{lt-ltb, le-ltb, ltb-true}
use Rattle.rules.specs.declared.Direction.{Direction}
use Rattle.rules.specs.declared.Direction.TheVariants.{Vertical, Horizontal}
use Rattle.rules.specs.declared.Token.{Token}
use Rattle.rules.specs.declared.Token.TheVariants.{Cut, Module, Beyond}
use Rattle.rules.specs.Tree.{Tree, things, token_of, number_of, is_cut, is_module, after}
use Rattle.rules.proofs.Searching.{absurd_so, eqb_iff}

module _ (most : ℕ) where
  -- a number over 1 says a module, if it is below the bound for modules, and is beyond if not
  pub module_said : (v : ℕ) → 2 ≤ v → v < most + 2 → token_of most v ≡ Module (v - 2)
  module_said zero h g = absurd (omega arith)
  module_said (suc zero) h g = absurd (omega arith)
  module_said (suc (suc k)) h g = let e : suc (suc k) - 2 ≡ k = omega arith in rw (e, token_of, lt-ltb k most (omega arith))

  pub beyond_said : (v : ℕ) → most + 2 ≤ v → token_of most v ≡ Beyond
  beyond_said zero h = absurd (omega arith)
  beyond_said (suc zero) h = absurd (omega arith)
  beyond_said (suc (suc k)) h = rw (token_of, le-ltb k most (omega arith))

  -- so a number that is not beyond is small, also one that a token kept was read from; and a module said is below the bound
  pub small_number : (v : ℕ) → (token_of most v ≡ Beyond → ⊥) → v < most + 2
  small_number v h = go (dec_lt v (most + 2))
    where
      go : Dec (v < most + 2) → v < most + 2
      go (yes l) = l
      go (no l) = absurd (h (beyond_said v (omega arith)))

  pub kept_small : (m t v : ℕ) (ts now : List Tree) → after m t (token_of most v) ts ≡ things now → v < most + 2
  kept_small m t v ts now e = small_number v λ q. let z : ◌≡◌ {A = ℕ} 0 1 = cc (rw q at e) in omega arith

  pub module_below : (v : ℕ) {k : ℕ} → token_of most v ≡ Module k → k < most
  module_below zero e = let z : ◌≡◌ {A = ℕ} 0 1 = cc in absurd (omega arith)
  module_below (suc zero) e = let z : ◌≡◌ {A = ℕ} 0 1 = cc in absurd (omega arith)
  module_below (suc (suc j)) {k} e = go (ltb j most) refl e
    where
      go : (b : Bool) → ltb j most ≡ b → elim b as (λ _. Token) [ true ↦ Module j | false ↦ Beyond ] ≡ Module k → k < most
      go true h e = let q : j ≡ k = cc in rw q at (ltb-true j most h)
      go false h e = let z : ◌≡◌ {A = ℕ} 0 1 = cc in absurd (omega arith)

  -- the number of a token says that token
  pub number_undone : (x : Token) → ((k : ℕ) → x ≡ Module k → k < most) → token_of most (number_of most x) ≡ x
  number_undone (Cut Vertical) h = refl
  number_undone (Cut Horizontal) h = refl
  number_undone (Module k) h =
      let e : k + 2 - 2 ≡ k = omega arith in let l = h k refl in rw e at (module_said (k + 2) (omega arith) (omega arith))
  number_undone Beyond h = beyond_said (most + 2) (omega arith)

  pub cut_undone : (d : Direction) → token_of most (number_of most (Cut d)) ≡ Cut d
  cut_undone d = number_undone (Cut d) λ k e. let z : ◌≡◌ {A = ℕ} 0 1 = cc in absurd (omega arith)

-- what the tests of a token ask
pub cut_iff : (x : Token) → So (is_cut x) ↔ ((d : Direction) × (x ≡ Cut d))
cut_iff (Cut d) = (λ t. (d, refl), λ t. refl)
cut_iff (Module k) = (absurd_so, λ t. let (d, e) = t in let z : ◌≡◌ {A = ℕ} 0 1 = cc in absurd (omega arith))
cut_iff Beyond = (absurd_so, λ t. let (d, e) = t in let z : ◌≡◌ {A = ℕ} 0 1 = cc in absurd (omega arith))

pub module_iff : (k : ℕ) (x : Token) → So (is_module k x) ↔ (x ≡ Module k)
module_iff k (Cut d) = (absurd_so, λ e. let z : ◌≡◌ {A = ℕ} 0 1 = cc in absurd (omega arith))
module_iff k (Module j) = (λ t. let e = (eqb_iff j k).0 t in cc, λ e. let q : j ≡ k = cc in (eqb_iff j k).1 q)
module_iff k Beyond = (absurd_so, λ e. let z : ◌≡◌ {A = ℕ} 0 1 = cc in absurd (omega arith))
