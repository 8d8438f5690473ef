-- The least of a start and some heights: it is at most each of them, and it is the start or one of them. By induction on how many
-- there are. Assumes nothing.
use mathlib.Core.Path.{◌≡◌, refl}
use mathlib.Core.Logic.{◌⊎◌, inl, inr, ⊎_elim}
use Prim.Native.Nat.{ℕ, zero, suc, ◌≤◌, ◌<◌, min}
use native.Mathlib.Omega.{arith}
use native.Mathlib.Nat.{le_refl}
use native.Mathlib.Decide.{dec_le, ℕ_discrete}
use borrow.Author.Tests.{eq-eqb, ne_eqb}
use Rattle.cuts.specs.Cut.{lowered, least_of}

pub lowered_none : (low h : ℕ) → h ≡ 0 → lowered low h ≡ low
unfolding lowered
lowered_none low h e = rw (eq-eqb h 0 e, lowered)

pub lowered_some : (low h : ℕ) → 0 < h → lowered low h ≡ min low h
unfolding lowered
lowered_some low h k = rw (ne_eqb h 0 (λ e. omega arith), lowered)

lowered_is : (low h : ℕ) → ((h ≡ 0) × (lowered low h ≡ low)) ⊎ ((0 < h) × (lowered low h ≡ min low h))
lowered_is low h = go (ℕ_discrete h 0)
  where
    go : Dec (h ≡ 0) → ((h ≡ 0) × (lowered low h ≡ low)) ⊎ ((0 < h) × (lowered low h ≡ min low h))
    go (yes e) = inl (e, lowered_none low h e)
    go (no e) = inr (omega arith, lowered_some low h (omega arith))

pub least_start : (s : ℕ) (f : ℕ → ℕ) (n : ℕ) → least_of s f n ≤ s
unfolding least_of
least_start s f zero = le_refl s
least_start s f (suc n) = let h = least_start s f n in ⊎_elim (λ (e, l). omega arith) (λ (e, l). omega arith) (lowered_is (least_of s f n) (f n))

pub least_under : (s : ℕ) (f : ℕ → ℕ) (n k : ℕ) → k < n → 0 < f k → least_of s f n ≤ f k
unfolding least_of
least_under s f zero k h p = absurd (omega arith)
least_under s f (suc n) k h p = go (ℕ_discrete k n) (least_under s f n k)
  where
    go : Dec (k ≡ n) → (k < n → 0 < f k → least_of s f n ≤ f k) → lowered (least_of s f n) (f n) ≤ f k
    go (yes e) ih = let q : 0 < f n = rw e at p in let l = lowered_some (least_of s f n) (f n) q in rw e (omega arith)
    go (no e) ih = let a = ih (omega arith) p in ⊎_elim (λ (e, l). omega arith) (λ (e, l). omega arith) (lowered_is (least_of s f n) (f n))

pub least_found : (s : ℕ) (f : ℕ → ℕ) (n : ℕ) → least_of s f n < s → (k : ℕ) × (k < n) × (0 < f k) × (f k ≡ least_of s f n)
unfolding least_of
least_found s f zero h = absurd (omega arith)
least_found s f (suc n) h = go (lowered_is (least_of s f n) (f n)) (dec_le (least_of s f n) (f n)) (least_found s f n)
  where
    go : ((f n ≡ 0) × (lowered (least_of s f n) (f n) ≡ least_of s f n)) ⊎ ((0 < f n) × (lowered (least_of s f n) (f n) ≡ min (least_of s f n) (f n)))
        → Dec (least_of s f n ≤ f n) → (least_of s f n < s → (k : ℕ) × (k < n) × (0 < f k) × (f k ≡ least_of s f n))
        → (k : ℕ) × (k < suc n) × (0 < f k) × (f k ≡ lowered (least_of s f n) (f n))
    go (inl (e, l)) q ih = let (k, a, b, c) = ih (omega arith) in (k, omega arith, b, omega arith)
    go (inr (e, l)) (yes q) ih = let (k, a, b, c) = ih (omega arith) in (k, omega arith, b, omega arith)
    go (inr (e, l)) (no q) ih = (n, omega arith, e, omega arith)

pub least_same : (s : ℕ) (f g : ℕ → ℕ) (n : ℕ) → ((k : ℕ) → k < n → f k ≡ g k) → least_of s f n ≡ least_of s g n
unfolding least_of
least_same s f g zero h = refl
least_same s f g (suc n) h = rw (h n (omega arith), least_same s f g n (λ k l. h k (omega arith)))
