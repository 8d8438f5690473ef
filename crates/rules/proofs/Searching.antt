-- Tests over the numbers below a bound say what they mean: a bounded search finds, the least number that passes is the least,
-- and counts and sums grow with what passes. Each law is an induction on the bound. Assumes nothing.
use mathlib.Core.Path.{◌≡◌, refl, sym, ◌∙◌}
use mathlib.Core.Logic.{◌⊎◌, inl, inr, ◌↔◌}
use mathlib.Core.Bool.{Bool, true, false, not, ◌&&◌, ◌||◌, So, true≢false}
use Prim.Native.Nat.{ℕ, zero, suc, ◌+◌, ◌-◌, ◌≤◌, ◌<◌, min}
use native.Mathlib.Omega.{arith}
use native.Mathlib.Nat.{le_refl}
use native.Mathlib.Decide.{dec_le, ℕ_discrete}
use lib.Dec.{leb, ltb, eqb}
use borrow.Author.Tests.{leb-true, le-leb, ltb-true, lt-ltb, eqb-true, eq-eqb}
use Rattle.rules.specs.Search.{any, all, least, count, total}

-- a test and the fact that it tests
pub absurd_so : {A : Type 0} → So false → A
absurd_so t = absurd (true≢false (sym t))

pub and_iff : (a b : Bool) → So (a && b) ↔ (So a × So b)
and_iff true b = (λ t. (refl, t), λ t. t.1)
and_iff false b = (absurd_so, λ t. t.0)

pub or_iff : (a b : Bool) → So (a || b) ↔ (So a ⊎ So b)
or_iff true b = (λ t. inl refl, λ t. refl)
or_iff false b = (λ t. inr t, from)
  where
    from : So false ⊎ So b → So b
    from (inl t) = absurd_so t
    from (inr t) = t

pub not_iff : (b : Bool) → So (not b) ↔ (So b → ⊥)
not_iff true = (λ t. absurd_so t, λ f. absurd (f refl))
not_iff false = (λ t s. absurd_so s, λ f. refl)

pub leb_iff : (m n : ℕ) → So (leb m n) ↔ (m ≤ n)
leb_iff m n = (leb-true m n, le-leb m n)

pub ltb_iff : (m n : ℕ) → So (ltb m n) ↔ (m < n)
ltb_iff m n = (ltb-true m n, lt-ltb m n)

pub eqb_iff : (m n : ℕ) → So (eqb m n) ↔ (m ≡ n)
eqb_iff m n = (eqb-true m n, eq-eqb m n)

pub know : (b : Bool) → So b ⊎ (So b → ⊥)
know true = inl refl
know false = inr absurd_so

-- a number is before another or not
pub before_or_not : (j i : ℕ) → (j < i) ⊎ (i ≤ j)
before_or_not j i = go (dec_le i j)
  where
    go : Dec (i ≤ j) → (j < i) ⊎ (i ≤ j)
    go (yes h) = inr h
    go (no h) = inl (omega arith)

pub same_test : (a b : Bool) → So a ↔ So b → a ≡ b
same_test true true e = refl
same_test true false e = sym (e.0 refl)
same_test false true e = e.1 refl
same_test false false e = refl

-- bounded search
any_up : (n : ℕ) (f : ℕ → Bool) → So (any n f) → So (any (suc n) f)
unfolding any
any_up n f t = go (f n)
  where
    go : (b : Bool) → So (elim b [ true ↦ true | false ↦ any n f ])
    go true = refl
    go false = t

any_in : (n : ℕ) (f : ℕ → Bool) (i : ℕ) → i < n → So (f i) → So (any n f)
unfolding any
any_in zero f i h t = absurd (omega arith)
any_in (suc n) f i h t = go (ℕ_discrete i n) (any_in n f i)
  where
    go : Dec (i ≡ n) → (i < n → So (f i) → So (any n f)) → So (any (suc n) f)
    go (yes e) ih = let s : So (f n) = rw e at t in rw (s, any)
    go (no e) ih = any_up n f (ih (omega arith) t)

any_out : (n : ℕ) (f : ℕ → Bool) → So (any n f) → (i : ℕ) × (i < n) × So (f i)
unfolding any
any_out zero f t = absurd_so t
any_out (suc n) f t = go (f n) refl t (any_out n f)
  where
    go : (b : Bool) → f n ≡ b → So (elim b [ true ↦ true | false ↦ any n f ]) → (So (any n f) → (i : ℕ) × (i < n) × So (f i))
        → (i : ℕ) × (i < suc n) × So (f i)
    go true e t ih = (n, omega arith, e)
    go false e t ih = let (i, h, s) = ih t in (i, omega arith, s)

pub any_iff : (n : ℕ) (f : ℕ → Bool) → So (any n f) ↔ ((i : ℕ) × (i < n) × So (f i))
any_iff n f = (any_out n f, λ t. any_in n f t.0 t.1 t.2)

all_in : (n : ℕ) (f : ℕ → Bool) → ((i : ℕ) → i < n → So (f i)) → So (all n f)
unfolding all
all_in zero f h = refl
all_in (suc n) f h = let s = h n (omega arith) in rw (s, all) (all_in n f (λ i k. h i (omega arith)))

all_out : (n : ℕ) (f : ℕ → Bool) → So (all n f) → (i : ℕ) → i < n → So (f i)
unfolding all
all_out zero f t i h = absurd (omega arith)
all_out (suc n) f t i h = go (f n) refl t (ℕ_discrete i n) (all_out n f)
  where
    go : (b : Bool) → f n ≡ b → So (elim b [ true ↦ all n f | false ↦ false ]) → Dec (i ≡ n)
        → (So (all n f) → (i : ℕ) → i < n → So (f i)) → So (f i)
    go true e t (yes q) ih = rw q e
    go true e t (no q) ih = ih t i (omega arith)
    go false e t q ih = absurd_so t

pub all_iff : (n : ℕ) (f : ℕ → Bool) → So (all n f) ↔ ((i : ℕ) → i < n → So (f i))
all_iff n f = (all_out n f, all_in n f)

-- for `simp`: nested tests to what they test
pub ruleset test-iffs = (and_iff, leb_iff, ltb_iff, eqb_iff)

pub ruleset search-iffs = (and_iff, leb_iff, ltb_iff, eqb_iff, any_iff)

-- the least number that passes
pub record Least (f : ℕ → Bool) (n i r : ℕ) : Type 0 where
  pub from : i ≤ r
  pub within : r ≤ i + n
  pub passes : r < i + n → So (f r)
  pub least : (k : ℕ) → i ≤ k → k < i + n → So (f k) → r ≤ k

pub least_is : (f : ℕ → Bool) (n i : ℕ) → Least f n i (least f n i)
unfolding least
least_is f zero i = record {
  from = omega arith;
  within = omega arith;
  passes = λ h. absurd (omega arith);
  least = λ k h g t. omega arith;
}
least_is f (suc n) i = go (f i) refl (least_is f n (suc i))
  where
    go : (b : Bool) → f i ≡ b → Least f n (suc i) (least f n (suc i)) → Least f (suc n) i (elim b [ true ↦ i | false ↦ least f n (suc i) ])
    go true e ih = record { from = omega arith; within = omega arith; passes = λ h. e; least = λ k h g t. h }
    go false e ih = record {
      from = omega arith;
      within = omega arith;
      passes = λ h. ih.passes (omega arith);
      least = λ k h g t. later k h g t (ℕ_discrete i k);
    }
      where
        later : (k : ℕ) → i ≤ k → k < i + suc n → So (f k) → Dec (i ≡ k) → least f n (suc i) ≤ k
        later k h g t (yes q) = absurd_so (sym (rw q at e) ∙ t)
        later k h g t (no q) = ih.least k (omega arith) (omega arith) t

-- where some number passes, so does the least one
pub least_found : (f : ℕ → Bool) (n : ℕ) → So (any n f) → (least f n 0 < n) × So (f (least f n 0))
least_found f n t =
    let (i, h, s) = any_out n f t in let l = least_is f n 0 in let q = l.least i (omega arith) (omega arith) s in
    (omega arith, l.passes (omega arith))

-- below a number that passes there is a least one that does
pub first : (f : ℕ → Bool) (n : ℕ) → So (f n) → (r : ℕ) × (r ≤ n) × So (f r) × ((k : ℕ) → So (f k) → r ≤ k)
first f n t =
    let r = least f (suc n) 0 in let l = least_is f (suc n) 0 in let h : r ≤ n = l.least n (omega arith) (omega arith) t in
    (r, h, l.passes (omega arith), λ k s. go r h l.least k s (dec_le r k))
  where
    go : (r : ℕ) → r ≤ n → ((k : ℕ) → 0 ≤ k → k < 0 + suc n → So (f k) → r ≤ k) → (k : ℕ) → So (f k) → Dec (r ≤ k) → r ≤ k
    go r h l k s (yes q) = q
    go r h l k s (no q) = l k (omega arith) (omega arith) s

-- counts
pub count_yes : (n : ℕ) (f : ℕ → Bool) → So (f n) → count (suc n) f ≡ 1 + count n f
unfolding count
count_yes n f t = rw (t, count)

pub count_no : (n : ℕ) (f : ℕ → Bool) → (So (f n) → ⊥) → count (suc n) f ≡ count n f
unfolding count
count_no n f t = go (f n) t
  where
    go : (b : Bool) → (So b → ⊥) → elim b as (λ _. ℕ) [ true ↦ 1 + count n f | false ↦ count n f ] ≡ count n f
    go true t = absurd (t refl)
    go false t = refl

pub count_le : (n : ℕ) (f g : ℕ → Bool) → ((i : ℕ) → So (f i) → So (g i)) → count n f ≤ count n g
unfolding count
count_le zero f g h = le_refl 0
count_le (suc n) f g h = go (know (f n)) (know (g n)) (count_le n f g h)
  where
    go : So (f n) ⊎ (So (f n) → ⊥) → So (g n) ⊎ (So (g n) → ⊥) → count n f ≤ count n g → count (suc n) f ≤ count (suc n) g
    go (inl s) _ ih = let a = count_yes n f s in let b = count_yes n g (h n s) in omega arith
    go (inr s) (inl t) ih = let a = count_no n f s in let b = count_yes n g t in omega arith
    go (inr s) (inr t) ih = let a = count_no n f s in let b = count_no n g t in omega arith

-- counting: one more number that passes is one more, and where as many pass as there are, each passes
pub count_most : (n : ℕ) (f : ℕ → Bool) → count n f ≤ n
unfolding count
count_most zero f = le_refl 0
count_most (suc n) f = go (know (f n)) (count_most n f)
  where
    go : So (f n) ⊎ (So (f n) → ⊥) → count n f ≤ n → count (suc n) f ≤ suc n
    go (inl t) h = omega (arith, count_yes n f t)
    go (inr t) h = omega (arith, count_no n f t)

pub count_one : (k : ℕ) (f : ℕ → Bool) → (So (f k) → ⊥) → (n : ℕ) → count n (λ i. eqb i k || f i) ≡ count n f + min 1 (n - k)
unfolding count
count_one k f h zero = omega arith
count_one k f h (suc n) = go (ℕ_discrete n k) (know (f n)) (count_one k f h n)
  where
    g : ℕ → Bool
    g i = eqb i k || f i

    go : Dec (n ≡ k) → So (f n) ⊎ (So (f n) → ⊥) → count n g ≡ count n f + min 1 (n - k)
        → count (suc n) g ≡ count (suc n) f + min 1 (suc n - k)
    go (yes e) s ih =
        let a = count_yes n g ((or_iff (eqb n k) (f n)).1 (inl ((eqb_iff n k).1 e))) in
        let b = count_no n f (λ t. h (rw e at t)) in omega arith
    go (no e) (inl s) ih = let a = count_yes n g ((or_iff (eqb n k) (f n)).1 (inr s)) in let b = count_yes n f s in omega arith
    go (no e) (inr s) ih = let a = count_no n g (λ t. none ((or_iff (eqb n k) (f n)).0 t)) in let b = count_no n f s in omega arith
      where
        none : So (eqb n k) ⊎ So (f n) → ⊥
        none (inl t) = e ((eqb_iff n k).0 t)
        none (inr t) = s t

pub count_all : (n : ℕ) (f : ℕ → Bool) → n ≤ count n f → (k : ℕ) → k < n → So (f k)
count_all n f h k l = go (know (f k))
  where
    go : So (f k) ⊎ (So (f k) → ⊥) → So (f k)
    go (inl t) = t
    go (inr t) = let a = count_one k f t n in let b = count_most n (λ i. eqb i k || f i) in absurd (omega arith)

pub count_none : (n : ℕ) → count n (λ i. false) ≡ 0
unfolding count
count_none zero = refl
count_none (suc n) = count_none n

-- sums
pub total_yes : (n : ℕ) (f : ℕ → Bool) (u : ℕ → ℕ) → So (f n) → total (suc n) f u ≡ u n + total n f u
unfolding total
total_yes n f u t = rw (t, total)

pub total_no : (n : ℕ) (f : ℕ → Bool) (u : ℕ → ℕ) → (So (f n) → ⊥) → total (suc n) f u ≡ total n f u
unfolding total
total_no n f u t = go (f n) t
  where
    go : (b : Bool) → (So b → ⊥) → elim b as (λ _. ℕ) [ true ↦ u n + total n f u | false ↦ total n f u ] ≡ total n f u
    go true t = absurd (t refl)
    go false t = refl

pub total_le : (n : ℕ) (f g : ℕ → Bool) (u v : ℕ → ℕ) → ((i : ℕ) → So (f i) → So (g i)) → ((i : ℕ) → u i ≤ v i)
    → total n f u ≤ total n g v
unfolding total
total_le zero f g u v h k = le_refl 0
total_le (suc n) f g u v h k = go (know (f n)) (know (g n)) (k n) (total_le n f g u v h k)
  where
    go : So (f n) ⊎ (So (f n) → ⊥) → So (g n) ⊎ (So (g n) → ⊥) → u n ≤ v n → total n f u ≤ total n g v
        → total (suc n) f u ≤ total (suc n) g v
    go (inl s) _ l ih = let a = total_yes n f u s in let b = total_yes n g v (h n s) in omega arith
    go (inr s) (inl t) l ih = let a = total_no n f u s in let b = total_yes n g v t in omega arith
    go (inr s) (inr t) l ih = let a = total_no n f u s in let b = total_no n g v t in omega arith
