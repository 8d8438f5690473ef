-- Tests that the code asks one after another. Numbers below a bound are tested from 0 up: while each passes, all so far do, and
-- one that fails settles it; the rules' laws of `all` say the rest. Assumes nothing.
use mathlib.Core.Path.{◌≡◌, refl, sym, ◌∙◌}
use mathlib.Core.Logic.{◌↔◌}
use mathlib.Core.Bool.{Bool, true, false, not, ◌&&◌, So}
use Prim.Native.Nat.{ℕ, ◌+◌, ◌≤◌, ◌<◌}
use native.Mathlib.Numerals.{add-one}
use borrow.Author.Tests.{not-true, not-false}
use Rattle.rules.specs.Search.{all}
use Rattle.rules.specs.Design.{in_range}
use Rattle.rules.proofs.Searching.{absurd_so, all_iff, test-iffs}

-- a test that was called has answered r, and the code asks whether it failed
pub failed : {r b : Bool} → r ≡ b → not r ≡ true → b ≡ false
failed e t = sym e ∙ not-true _ t

pub passed : {r b : Bool} → r ≡ b → not r ≡ false → b ≡ true
passed e t = sym e ∙ not-false _ t

pub range_iff : (low most n : ℕ) → So (in_range low most n) ↔ ((low ≤ n) × (n ≤ most))
unfolding in_range
range_iff low most n = simp test-iffs (λ t. t, λ t. t)

pub all_none : (f : ℕ → Bool) → all 0 f ≡ true
unfolding all
all_none f = refl

pub all_more : (i : ℕ) (f : ℕ → Bool) → all i f ≡ true → f i ≡ true → all (i + 1) f ≡ true
unfolding all
all_more i f a t = rw (add-one, all, t) a

-- one number more
pub all_and : (i : ℕ) (f : ℕ → Bool) → all i f && f i ≡ all (i + 1) f
unfolding all
all_and i f = rw add-one (go (all i f) (f i))
  where
    go : (a b : Bool) → a && b ≡ elim b as (λ _. Bool) [ true ↦ a | false ↦ false ]
    go true true = refl
    go true false = refl
    go false true = refl
    go false false = refl

pub all_fails : (n : ℕ) (f : ℕ → Bool) (i : ℕ) → i < n → f i ≡ false → all n f ≡ false
all_fails n f i h e = go (all n f) refl
  where
    go : (b : Bool) → all n f ≡ b → b ≡ false
    go true t = absurd_so (sym e ∙ (all_iff n f).0 t i h)
    go false t = refl
