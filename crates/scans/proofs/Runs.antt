-- Steps of loops over a run of bytes, most of them from its end down: what holds of the bytes from k on holds from the one before on, too, if it
-- holds of that one. Assumes nothing.
use mathlib.Core.Path.{◌≡◌, refl, sym, ◌∙◌, ap}
use mathlib.Core.Logic.{◌⊎◌, inl, inr, ⊎_elim, ◌↔◌}
use mathlib.Core.List.{List}
use Prim.Native.Nat.{ℕ, ◌+◌, ◌-◌, ◌≤◌, ◌<◌}
use native.Mathlib.Omega.{arith}
use native.Mathlib.Nat.{le_refl}
use native.Mathlib.Decide.{dec_lt, ℕ_discrete}
use lib.ListN.{length, get_or, set, length-set, take, drop}
use lib.Seq.{get_or-set_same, get_or-set_other}
use borrow.Author.Tests.{ne_eqb}
use Rattle.std.specs.Prelude.{Option, Some, IfSome}
use Rattle.std.proofs.lemmas.List.{get_or-take, get_or-drop, length-take-le, length-drop}
use Rattle.scans.specs.Run.{UpToLast, stop_at, FirstAfter, FoundKept, PlaceOf, Put, Walks, WalkedOn, bytes, or_end}

pub one_more : {P : ℕ → Type 0} {n : ℕ} (k : ℕ) → 1 ≤ k → ((i : ℕ) → k ≤ i → i < n → P i) → P (k - 1) → (i : ℕ) → k - 1 ≤ i → i < n → P i
one_more {P} {n} k h f p i u v = go (ℕ_discrete (k - 1) i)
  where
    go : Dec (k - 1 ≡ i) → P i
    go (yes e) = rw e at p
    go (no e) = f i (omega arith) v

pub one_further : {P : ℕ → Type 0} {a : ℕ} (k : ℕ) → ((i : ℕ) → a ≤ i → i < k → P i) → P k → (i : ℕ) → a ≤ i → i < k + 1 → P i
one_further {P} k f p i u v = go (ℕ_discrete k i)
  where
    go : Dec (k ≡ i) → P i
    go (yes e) = rw e at p
    go (no e) = f i u (omega arith)

module _ {f : ℕ → ℕ} {n : ℕ} where
  pub first_none : FirstAfter f n n n
  first_none = record { from = le_refl n; within = le_refl n; holds = λ h. absurd (omega arith); none = λ k p q. absurd (omega arith) }

  pub first_here : {k : ℕ} → k < n → 1 ≤ f k → FirstAfter f k n k
  first_here {k} h p = record { from = le_refl k; within = omega arith; holds = λ _. p; none = λ i u v. absurd (omega arith) }

  pub first_past : {k r : ℕ} → 1 ≤ k → FirstAfter f k n r → f (k - 1) ≡ 0 → FirstAfter f (k - 1) n r
  first_past {k} {r} h z e = let u = z.from in
      record { from = omega arith; within = z.within; holds = z.holds; none = one_more {P = λ i. f i ≡ 0} k h z.none e }

-- bytes put one after the other
pub nothing_put : {Kept : ℕ → Type 0} {place value : ℕ → ℕ} {before : List ℕ} → ((k : ℕ) → Kept k → ⊥) → Put Kept place value before before
nothing_put none = record { long = refl; here = λ k z. absurd (none k z); others = λ i h. refl; known = λ i. inr (λ (k, z, e). none k z) }

module _ {Kept : ℕ → Type 0} {place value : ℕ → ℕ} {before mid : List ℕ} where
  module _ (p : Put Kept place value before mid) where
    -- the same numbers in other words
    pub same_put : {Kept' : ℕ → Type 0} → ((k : ℕ) → Kept k ↔ Kept' k) → Put Kept' place value before mid
    same_put e = record {
      long = p.long;
      here = λ k z. p.here k ((e k).1 z);
      others = λ i h. p.others i (λ (k, z, q). h (k, (e k).0 z, q));
      known = λ i. ⊎_elim (λ (k, z, q). inl (k, (e k).0 z, q)) (λ f. inr (λ (k, z, q). f (k, (e k).1 z, q))) (p.known i);
    }

    pub other_values : {value' : ℕ → ℕ} → ((k : ℕ) → Kept k → value k ≡ value' k) → Put Kept place value' before mid
    other_values e = record { long = p.long; here = λ k z. p.here k z ∙ e k z; others = p.others; known = p.known }

    -- one number more, at a place of its own
    pub one_put : {Kept' : ℕ → Type 0} (k v : ℕ) → Kept' k → ((i : ℕ) → Kept i → Kept' i) → ((i : ℕ) → Kept' i → Kept i ⊎ (i ≡ k))
        → ((i : ℕ) → Kept i → place i ≡ place k → ⊥) → place k < length mid → v ≡ value k → Put Kept' place value before (set mid (place k) v)
    one_put {Kept'} k v new in' out apart h e = record {
      long = length-set mid (place k) v ∙ p.long;
      here = λ i z. ⊎_elim (λ y. get_or-set_other mid (place k) (place i) v 0 (λ q. apart i y q) ∙ p.here i y) (λ q. rw q (get_or-set_same mid (place k) v 0 h ∙ e)) (out i z);
      others = λ i f. get_or-set_other mid (place k) i v 0 (λ q. f (k, new, sym q)) ∙ p.others i (λ (j, z, q). f (j, in' j z, q));
      known = λ i. ⊎_elim (λ (j, z, q). inl (j, in' j z, q)) (λ f. here? i f (ℕ_discrete (place k) i)) (p.known i);
    }
      where
        here? : (i : ℕ) → (PlaceOf Kept place i → ⊥) → Dec (place k ≡ i) → PlaceOf Kept' place i ⊎ (PlaceOf Kept' place i → ⊥)
        here? i f (yes q) = inl (k, new, q)
        here? i f (no q) = inr (λ (j, z, r). ⊎_elim (λ y. f (j, y, r)) (λ e. q (rw e at r)) (out j z))

-- walking on: the shape before is put too; or there is none
module _ {f : ℕ → ℕ} {n k : ℕ} (to : ℕ) {before mid : List ℕ} (h : 1 ≤ k) (p : Put (Walks f k n) (λ j. to + j) f before mid) where
  pub walk_more : {v : ℕ} → k ≤ n → 1 ≤ f (k - 1) → v ≡ f (k - 1) → to + (k - 1) < length mid → Put (Walks f (k - 1) n) (λ j. to + j) f before (set mid (to + (k - 1)) v)
  walk_more b s e l =
      one_put p (k - 1) _ (record { from = le_refl _; before = omega arith; shape = s })
      (λ i z. let u = z.from in record { from = omega arith; before = z.before; shape = z.shape })
      (λ i z. go i z (ℕ_discrete i (k - 1))) (λ i z q. omega (arith, z.from)) l e
    where
      go : (i : ℕ) → Walks f (k - 1) n i → Dec (i ≡ k - 1) → Walks f k n i ⊎ (i ≡ k - 1)
      go i z (yes q) = inr q
      go i z (no q) = let u = z.from in inl (record { from = omega arith; before = z.before; shape = z.shape })

  pub walk_past : f (k - 1) ≡ 0 → Put (Walks f (k - 1) n) (λ j. to + j) f before mid
  walk_past e = same_put p (λ i. (λ z. let u = z.from in record { from = omega arith; before = z.before; shape = z.shape }, λ z. go i z (ℕ_discrete i (k - 1))))
    where
      go : (i : ℕ) → Walks f (k - 1) n i → Dec (i ≡ k - 1) → Walks f k n i
      go i z (yes q) = let u = z.shape in absurd (omega (arith, ap f q))
      go i z (no q) = let u = z.from in record { from = omega arith; before = z.before; shape = z.shape }

-- Two runs one after the other: together they put what is kept, if each of that is put by the first and not again, or by the second.
module _ {Kept Kept' : ℕ → Type 0} {place place' value value' : ℕ → ℕ} {before mid after : List ℕ} (p : Put Kept place value before mid) (p' : Put Kept' place' value' mid after) where
  abbrev pub First : ℕ → ℕ → ℕ → Type 0
  First k i v = Kept k × (place k ≡ i) × (value k ≡ v) × (PlaceOf Kept' place' i → ⊥)

  abbrev pub Second : ℕ → ℕ → ℕ → Type 0
  Second k i v = Kept' k × (place' k ≡ i) × (value' k ≡ v)

  pub then_put : {All : ℕ → Type 0} {place'' value'' : ℕ → ℕ} → ((k : ℕ) → Kept k → All k × (place k ≡ place'' k)) → ((k : ℕ) → Kept' k → All k × (place' k ≡ place'' k))
      → ((k : ℕ) → All k → First k (place'' k) (value'' k) ⊎ Second k (place'' k) (value'' k)) → Put All place'' value'' before after
  then_put {All} {place''} {value''} in' in'' out = record {
    long = p'.long ∙ p.long;
    here = λ k z. here k (out k z);
    others = λ i f. p'.others i (λ (k, z, e). f (k, (in'' k z).0, sym (in'' k z).1 ∙ e)) ∙ p.others i (λ (k, z, e). f (k, (in' k z).0, sym (in' k z).1 ∙ e));
    known = λ i. ⊎_elim (λ (k, z, e). inl (k, (in' k z).0, sym (in' k z).1 ∙ e))
        (λ f. ⊎_elim (λ (k, z, e). inl (k, (in'' k z).0, sym (in'' k z).1 ∙ e))
        (λ f'. inr (λ (k, z, e). ⊎_elim (λ y. f (k, y.0, y.1 ∙ e)) (λ y. f' (k, y.0, y.1 ∙ e)) (out k z))) (p'.known i)) (p.known i);
  }
    where
      here : (k : ℕ) → First k (place'' k) (value'' k) ⊎ Second k (place'' k) (value'' k) → get_or after (place'' k) 0 ≡ value'' k
      here k (inl (z, e, v, o)) = p'.others _ o ∙ rw (← e) (p.here k z) ∙ v
      here k (inr (z, e, v)) = rw (← e) (p'.here k z) ∙ v

pub found_put : {height j : ℕ} (to : ℕ) {before : List ℕ} → to + j < length before → FoundKept (Some j) height to before (set before (to + j) height)
found_put {height} {j} to {before} l =
    one_put (nothing_put {Kept = λ _. ⊥} {place = λ k. to + k} {value = λ _. height} (λ k z. z)) j height refl
    (λ i z. absurd z) (λ i z. inr (some_is z)) (λ i z. absurd z) l refl
  where
    some_is : {i : ℕ} → Some j ≡ Some i → i ≡ j
    some_is e = cc

-- the stop: the height of the last of n bytes, or none
pub stop_some : (f : ℕ → ℕ) (n : ℕ) → 1 ≤ n → stop_at f n ≡ f (n - 1)
unfolding stop_at
stop_some f n h = rw (ne_eqb n 0 (λ e. omega arith), stop_at)

pub stop_none : (f : ℕ → ℕ) → stop_at f 0 ≡ 255
unfolding stop_at
stop_none f = refl

-- what the loops find hangs on the run's bytes alone
module _ {f g : ℕ → ℕ} {n : ℕ} (e : (k : ℕ) → k < n → f k ≡ g k) where
  pub up_same : {r : ℕ} → UpToLast f n r → UpToLast g n r
  up_same {r} z = let w = z.within in record {
    within = w;
    holds = λ h. omega (arith, z.holds h, e (r - 1) (omega arith));
    none = λ k p q. sym (e k q) ∙ z.none k p q;
  }

  pub stop_same : stop_at f n ≡ stop_at g n
  stop_same = go (dec_lt 0 n)
    where
      go : Dec (0 < n) → stop_at f n ≡ stop_at g n
      go (yes h) = stop_some f n h ∙ e (n - 1) (omega arith) ∙ sym (stop_some g n h)
      go (no h) = let q : n ≡ 0 = omega arith in rw q (stop_none f ∙ sym (stop_none g))

  pub first_same : {a r : ℕ} → FirstAfter f a n r → FirstAfter g a n r
  first_same z = let w = z.within in record {
    from = z.from;
    within = w;
    holds = λ h. omega (arith, z.holds h, e _ h);
    none = λ k p q. sym (e k (omega arith)) ∙ z.none k p q;
  }

  pub walked_same : {stop to last : ℕ} {before after : List ℕ} → WalkedOn f n stop to before after last → WalkedOn g n stop to before after last
  walked_same {to = to} w = let u = w.within in record {
    end = w.end;
    within = u;
    over = λ h. omega (arith, w.over h, e (w.end - 1) (omega arith));
    under = λ k p q. omega (arith, w.under k p q, e k q);
    found = first_same w.found;
    put = other_values (same_put w.put (λ k. (there k, back k))) (λ k z. e k z.before);
  }
    where
      there : (k : ℕ) → Walks f w.end n k → Walks g w.end n k
      there k z = record { from = z.from; before = z.before; shape = omega (arith, z.shape, e k z.before) }

      back : (k : ℕ) → Walks g w.end n k → Walks f w.end n k
      back k z = record { from = z.from; before = z.before; shape = omega (arith, z.shape, e k z.before) }

-- and so on those of its first bytes
module _ (slot : List ℕ) {m : ℕ} (h : m ≤ length slot) where
  taken : (k : ℕ) → k < m → bytes (take m slot) k ≡ bytes slot k
  taken k q = get_or-take m slot k 0 q

  long : length (take m slot) ≡ m
  long = length-take-le m slot h

  pub up_taken : {r : ℕ} → UpToLast (bytes (take m slot)) (length (take m slot)) r → UpToLast (bytes slot) m r
  up_taken u = up_same taken (rw long at u)

  pub stop_taken : stop_at (bytes (take m slot)) (length (take m slot)) ≡ stop_at (bytes slot) m
  stop_taken = ap (stop_at (bytes (take m slot))) long ∙ stop_same taken

  pub walked_taken : {stop to : ℕ} (o : Option ℕ) {before after : List ℕ}
      → WalkedOn (bytes (take m slot)) (length (take m slot)) stop to before after (or_end (length (take m slot)) o)
      → WalkedOn (bytes slot) m stop to before after (or_end m o)
  walked_taken o w = walked_same taken (rw long at w)

  pub within_taken : (o : Option ℕ) → IfSome o (λ k. k < length (take m slot)) → IfSome o (λ k. k < m)
  within_taken o w = rw long at w

-- and those of its last bytes
pub first_dropped : (slot : List ℕ) {a r : ℕ} → a ≤ length slot → FirstAfter (bytes (drop a slot)) 0 (length (drop a slot)) r
    → FirstAfter (bytes slot) a (length slot) (a + r)
first_dropped slot {a} {r} h z = let e = length-drop a slot in record {
  from = omega arith;
  within = omega (arith, z.within, e);
  holds = λ p. rw (get_or-drop a slot r 0) at (z.holds (omega (arith, e)));
  none = λ k p q. rw (get_or-drop a slot (k - a) 0, left k p) at (z.none (k - a) (omega arith) (omega arith));
}
  where
    left : (k : ℕ) → a ≤ k → a + (k - a) ≡ k
    left k p = omega arith
