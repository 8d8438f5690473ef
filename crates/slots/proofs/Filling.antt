-- A run of bytes written one after the other: each stands where it was put, and nothing else has changed. Assumes nothing.
use mathlib.Core.Path.{◌≡◌, refl, sym, ◌∙◌, ap}
use mathlib.Core.Logic.{◌⊎◌, inl, inr, ⊎_elim}
use mathlib.Core.List.{List}
use Prim.Native.Nat.{ℕ, zero, suc, ◌+◌, ◌-◌, ◌≤◌, ◌<◌}
use native.Mathlib.Omega.{arith}
use native.Mathlib.Numerals.{add-one}
use native.Mathlib.Nat.{add-zero, add_assoc, add-suc}
use native.Mathlib.Decide.{dec_lt}
use lib.ListN.{length, get_or, set, length-set}
use lib.Seq.{get_or-set_same, get_or-set_other}
use borrow.Rule.Slice.PartMut.{put_mid}
use Rattle.std.proofs.lemmas.List.{ext_get_or, places}
use Rattle.rules.specs.declared.Corner.{Corner}
use Rattle.rules.specs.Slot.{slot, slot_start}
use Rattle.slots.specs.Written.{over, Filled, SlotIs}

pub length_over : (w : List ℕ) (a n : ℕ) (f : ℕ → ℕ) → length (over w a n f) ≡ length w
unfolding over
length_over w a zero f = refl
length_over w a (suc n) f = length-set (over w a n f) (a + n) (f n) ∙ length_over w a n f

over_in : (w : List ℕ) (a n : ℕ) (f : ℕ → ℕ) (k : ℕ) → k < n → a + n ≤ length w → get_or (over w a n f) (a + k) 0 ≡ f k
unfolding over
over_in w a zero f k h l = absurd (omega arith)
over_in w a (suc n) f k h l = go (dec_lt k n) (over_in w a n f k)
  where
    go : Dec (k < n) → (k < n → a + n ≤ length w → get_or (over w a n f) (a + k) 0 ≡ f k) → get_or (set (over w a n f) (a + n) (f n)) (a + k) 0 ≡ f k
    go (yes p) ih = get_or-set_other (over w a n f) (a + n) (a + k) (f n) 0 (λ e. omega arith) ∙ ih p (omega arith)
    go (no p) ih = let e : n ≡ k = omega arith in rw e (get_or-set_same (over w a k f) (a + k) (f k) 0 (rw length_over (omega arith)))

over_out : (w : List ℕ) (a n : ℕ) (f : ℕ → ℕ) (i : ℕ) → (i < a) ⊎ (a + n ≤ i) → get_or (over w a n f) i 0 ≡ get_or w i 0
unfolding over
over_out w a zero f i h = refl
over_out w a (suc n) f i h =
    get_or-set_other (over w a n f) (a + n) i (f n) 0 (λ e. ⊎_elim (λ (u : i < a). omega arith) (λ (u : a + suc n ≤ i). omega arith) h)
    ∙ over_out w a n f i (⊎_elim (λ (u : i < a). inl u) (λ (u : a + suc n ≤ i). inr (omega arith)) h)

over_same : (w : List ℕ) (a n : ℕ) (f g : ℕ → ℕ) → ((k : ℕ) → k < n → f k ≡ g k) → over w a n f ≡ over w a n g
unfolding over
over_same w a zero f g h = refl
over_same w a (suc n) f g h = rw (h n (omega arith), over_same w a n f g (λ k p. h k (omega arith)))

over_over : (w : List ℕ) (a n m : ℕ) (f : ℕ → ℕ) → over (over w a n f) (a + n) m (λ k. f (n + k)) ≡ over w a (n + m) f
unfolding over
over_over w a n zero f = rw add-zero
over_over w a n (suc m) f = rw (over_over w a n m f, add_assoc, add-suc)

-- the steps of a loop: nothing written, one byte more, a second run behind the first
pub none_filled : {w : List ℕ} {a : ℕ} {f : ℕ → ℕ} → Filled w a 0 f w
unfolding over
none_filled = record { is = refl }

pub one_filled : {v w : List ℕ} {a n x : ℕ} {f : ℕ → ℕ} → Filled w a n f v → x ≡ f n → Filled w a (n + 1) f (set v (a + n) x)
unfolding over
one_filled {v} {w} {a} {n} {x} {f} e h = record { is = rw (e.is, h, add-one) }

pub same_length : {v w : List ℕ} {a n : ℕ} {f : ℕ → ℕ} → Filled w a n f v → length v ≡ length w
same_length {v} {w} {a} {n} {f} e = ap length e.is ∙ length_over w a n f

pub same_filled : {v w : List ℕ} {a n : ℕ} {f : ℕ → ℕ} (g : ℕ → ℕ) → Filled w a n f v → ((k : ℕ) → k < n → f k ≡ g k) → Filled w a n g v
same_filled {v} {w} {a} {n} {f} g e h = record { is = e.is ∙ over_same w a n f g h }

pub then_filled : {u v w : List ℕ} {a n m : ℕ} {f g : ℕ → ℕ} → Filled w a n f v → Filled v (a + n) m g u → ((i : ℕ) → i < m → g i ≡ f (n + i)) → Filled w a (n + m) f u
then_filled {u} {v} {w} {a} {n} {m} {f} {g} e k h = record { is = k.is ∙ over_same v (a + n) m g (λ i. f (n + i)) h ∙ rw e.is (over_over w a n m f) }

pub filled_at : {v w : List ℕ} {a n : ℕ} {f : ℕ → ℕ} → Filled w a n f v → a + n ≤ length w → (k : ℕ) → k < n → get_or v (a + k) 0 ≡ f k
filled_at {v} {w} {a} {n} {f} e l k h = ap (λ x. get_or x (a + k) 0) e.is ∙ over_in w a n f k h l

pub filled_out : {v w : List ℕ} {a n : ℕ} {f : ℕ → ℕ} → Filled w a n f v → (i : ℕ) → (i < a) ⊎ (a + n ≤ i) → get_or v i 0 ≡ get_or w i 0
filled_out {v} {w} {a} {n} {f} e i h = ap (λ x. get_or x i 0) e.is ∙ over_out w a n f i h

-- a run written at once
pub run_filled : {w : List ℕ} (ys : List ℕ) {a m n : ℕ} {f : ℕ → ℕ} → a + n ≤ length w → m ≡ n → length ys ≡ n → ((k : ℕ) → k < n → get_or ys k 0 ≡ f k)
    → Filled w a n f (put_mid a m w ys)
run_filled {w} ys {a} {m} {n} {f} l e q h = record { is = ext_get_or 0 (put_mid a m w ys) (over w a n f) (long ∙ sym (length_over w a n f)) at }
  where
    long : length (put_mid a m w ys) ≡ length w
    long = search (arith, places)

    inner : (i : ℕ) → a ≤ i → i < a + n → get_or (put_mid a m w ys) i 0 ≡ f (i - a)
    inner i p r = let z : i - a < n = omega arith in search (arith, places, h (i - a))

    outer : (i : ℕ) → (i < a) ⊎ (a + n ≤ i) → get_or (put_mid a m w ys) i 0 ≡ get_or w i 0
    outer i (inl p) = search (arith, places)
    outer i (inr p) = search (arith, places)

    at : (i : ℕ) → i < length (put_mid a m w ys) → get_or (put_mid a m w ys) i 0 ≡ get_or (over w a n f) i 0
    at i p = go (dec_lt i a) (dec_lt i (a + n))
      where
        go : Dec (i < a) → Dec (i < a + n) → get_or (put_mid a m w ys) i 0 ≡ get_or (over w a n f) i 0
        go (yes u) v = outer i (inl u) ∙ sym (over_out w a n f i (inl u))
        go (no u) (no v) = outer i (inr (omega arith)) ∙ sym (over_out w a n f i (inr (omega arith)))
        go (no u) (yes v) =
            let z : a + (i - a) ≡ i = omega arith in
            inner i (omega arith) v ∙ sym (rw z at (over_in w a n f (i - a) (omega arith) l))

-- a whole slot filled is the slot written
pub slot_filled : (W R t : ℕ) (c : Corner) (f : ℕ → ℕ) (before after : List ℕ) → slot_start W R t c + W ≤ length before
    → Filled before (slot_start W R t c) W f after → SlotIs W R t c f before after
unfolding slot
slot_filled W R t c f before after l e = record { long = same_length e; inside = filled_at e l; outside = filled_out e }
