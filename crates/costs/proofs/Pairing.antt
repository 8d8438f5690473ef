-- Kinds and weights, one after another: as long as both last and there are places each has its term, and then comes no term, if anything.
-- Assumes nothing.
use mathlib.Core.Path.{◌≡◌, refl, sym, ◌∙◌, ap}
use mathlib.Core.Logic.{◌⊎◌, inl, inr}
use mathlib.Core.List.{List, [], ◌∷◌}
use Prim.Native.Nat.{ℕ, zero, suc, ◌+◌, ◌≤◌, ◌<◌, min}
use native.Mathlib.Nat.{eq-or-lt_of_le}
use native.Mathlib.Omega.{arith}
use lib.ListN.{length, get_or, set, length-set}
use lib.Seq.{get_or-set_same, get_or-set_other}
use lib.Ieee.{Float}
use Rattle.rules.specs.declared.Term.{Term}
use Rattle.rules.specs.Score.{most_terms, term_at}
use Rattle.rules.proofs.Searching.{before_or_not}
use Rattle.costs.specs.Slices.{no_term, term_of, terms_in}
use Rattle.costs.specs.Places.{pairs, TermsFrom}

-- as long as both last and there are places
pub pair_at : (most : ℕ) (ks : List ℕ) (ws : List Float) (j : ℕ) (d : Float) → j < length ks → j < length ws → j < most
    → term_at (terms_in most ks ws) j ≡ term_of (get_or ks j 0) (get_or ws j d)
unfolding terms_in
pair_at most [] ws j d a b c = absurd (omega arith)
pair_at most (k ∷ ks) [] j d a b c = absurd (omega arith)
pair_at zero (k ∷ ks) (w ∷ ws) j d a b c = absurd (omega arith)
pair_at (suc most) (k ∷ ks) (w ∷ ws) zero d a b c = refl
pair_at (suc most) (k ∷ ks) (w ∷ ws) (suc j) d a b c = pair_at most ks ws j d (omega arith) (omega arith) (omega arith)

-- and then
pub none_at : (most : ℕ) (ks : List ℕ) (ws : List Float) (j : ℕ) → min (min (length ks) (length ws)) most ≤ j
    → term_at (terms_in most ks ws) j ≡ no_term
unfolding terms_in
none_at most [] [] j h = refl
none_at most [] (w ∷ ws) zero h = refl
none_at most [] (w ∷ ws) (suc j) h = refl
none_at most (k ∷ ks) [] zero h = refl
none_at most (k ∷ ks) [] (suc j) h = refl
none_at zero (k ∷ ks) (w ∷ ws) zero h = refl
none_at zero (k ∷ ks) (w ∷ ws) (suc j) h = refl
none_at (suc most) (k ∷ ks) (w ∷ ws) zero h = absurd (omega arith)
none_at (suc most) (k ∷ ks) (w ∷ ws) (suc j) h = none_at most ks ws j (omega arith)

-- how many
pub count_even : (most : ℕ) (ks : List ℕ) (ws : List Float) (n : ℕ) → length ks ≡ n → length ws ≡ n → n ≤ most
    → length (terms_in most ks ws) ≡ n
unfolding terms_in
count_even most [] [] n a b c = a
count_even most [] (w ∷ ws) n a b c = absurd (omega arith)
count_even most (k ∷ ks) [] n a b c = absurd (omega arith)
count_even zero (k ∷ ks) (w ∷ ws) n a b c = absurd (omega arith)
count_even (suc most) (k ∷ ks) (w ∷ ws) zero a b c = absurd (omega arith)
count_even (suc most) (k ∷ ks) (w ∷ ws) (suc n) a b c =
    let z = count_even most ks ws n (omega arith) (omega arith) (omega arith) in omega arith

pub count_odd : (most : ℕ) (ks : List ℕ) (ws : List Float) → (length ks ≡ length ws → most < length ks)
    → length (terms_in most ks ws) ≡ min (min (length ks) (length ws)) most + 1
unfolding terms_in
count_odd most [] [] f = absurd (omega (arith, f refl))
count_odd most [] (w ∷ ws) f = omega arith
count_odd most (k ∷ ks) [] f = omega arith
count_odd zero (k ∷ ks) (w ∷ ws) f = omega arith
count_odd (suc most) (k ∷ ks) (w ∷ ws) f =
    let z = count_odd most ks ws (λ e. let y = f (ap suc e) in omega arith) in omega arith

pub left_over : (ks : List ℕ) (ws : List Float) (n : ℕ) → n ≡ pairs ks ws → (length ks ≡ n → length ws ≡ n → ⊥)
    → n + 1 ≡ length (terms_in most_terms ks ws)
left_over ks ws n e f = rw e (sym (count_odd most_terms ks ws (λ q. more q (before_or_not most_terms (length ks)))))
  where
    more : length ks ≡ length ws → (most_terms < length ks) ⊎ (length ks ≤ most_terms) → most_terms < length ks
    more q (inl h) = h
    more q (inr h) = absurd (f (omega arith) (omega arith))

-- the terms before i in their places, and none in the others
pub record Placed (ks : List ℕ) (ws : List Float) (i : ℕ) (terms : List Term) : Type 0 where
  pub places : length terms ≡ most_terms
  pub before : (j : ℕ) → j < i → term_at terms j ≡ term_at (terms_in most_terms ks ws) j
  pub others : (j : ℕ) → i ≤ j → term_at terms j ≡ no_term

pub placed_more : {ks : List ℕ} {ws : List Float} {i : ℕ} {terms : List Term} (t : Term) (d : Float) → i < pairs ks ws → Placed ks ws i terms
    → t ≡ term_of (get_or ks i 0) (get_or ws i d) → Placed ks ws (i + 1) (set terms i t)
placed_more {ks} {ws} {i} {terms} t d h z e = record {
  places = length-set terms i t ∙ z.places;
  before = λ j l. go j (eq-or-lt_of_le (omega (arith, l)));
  others = λ j l. get_or-set_other terms i j t no_term (λ w. absurd (omega arith)) ∙ z.others j (omega arith);
}
  where
    go : (j : ℕ) → (suc j ≡ i + 1) ⊎ (suc j < i + 1) → term_at (set terms i t) j ≡ term_at (terms_in most_terms ks ws) j
    go j (inl q) =
        let j-is : j ≡ i = omega arith in let p = z.places in
        rw j-is (get_or-set_same terms i t no_term (omega arith) ∙ e ∙ sym (pair_at most_terms ks ws i d (omega arith) (omega arith) (omega arith)))
    go j (inr l) = get_or-set_other terms i j t no_term (λ w. absurd (omega arith)) ∙ z.before j (omega arith)

pub placed_all : {ks : List ℕ} {ws : List Float} {i : ℕ} {terms : List Term} → i ≡ pairs ks ws → Placed ks ws i terms → TermsFrom ks ws terms
placed_all {ks} {ws} {i} {terms} e z j _ = go (before_or_not j i)
  where
    go : (j < i) ⊎ (i ≤ j) → term_at terms j ≡ term_at (terms_in most_terms ks ws) j
    go (inl h) = z.before j h
    go (inr h) = z.others j h ∙ sym (none_at most_terms ks ws j (omega arith))
