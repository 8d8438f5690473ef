-- The boxes above a left shape. The widest right shape no wider than it is looked up, and wider ones are lower; so what is put is what a horizontal cut
-- keeps. Assumes nothing.
use mathlib.Core.Path.{◌≡◌, refl, sym, ◌∙◌, ap}
use mathlib.Core.Logic.{◌⊎◌, inl, inr, ⊎_elim}
use mathlib.Core.List.{List}
use Prim.Native.Nat.{ℕ, ◌+◌, ◌-◌, ◌≤◌, ◌<◌, max}
use native.Mathlib.Omega.{arith}
use native.Mathlib.Decide.{dec_le, dec_lt, ℕ_discrete}
use lib.ListN.{length, set}
use Rattle.scans.specs.Run.{UpToLast, Falls, Widest, WidestKept, Lower, WalkedUp, KeptAbove, AboveKept}
use Rattle.scans.proofs.Runs.{nothing_put, same_put, other_values, one_put, First, Second, then_put}

-- walking up: one byte more, kept or passed over
module _ {f : ℕ → ℕ} {a height low : ℕ} {before : List ℕ} where
  pub none_up : WalkedUp f a a height low before before low
  none_up = record {
    put = nothing_put (λ k z. omega (arith, z.from, z.before));
    last_of = inl (refl, λ k z. omega (arith, z.from, z.before));
  }

  module _ {k last : ℕ} {mid : List ℕ} (w : WalkedUp f a k height low before mid last) where
    more : (i : ℕ) → Lower f a k height low i → Lower f a (k + 1) height low i
    more i z = let u = z.before in record { from = z.from; before = omega arith; shape = z.shape; lower = z.lower }

    fewer : (i : ℕ) → Lower f a (k + 1) height low i → Lower f a k height low i ⊎ (i ≡ k)
    fewer i z = go (ℕ_discrete i k)
      where
        go : Dec (i ≡ k) → Lower f a k height low i ⊎ (i ≡ k)
        go (yes e) = inr e
        go (no e) = let u = z.before in inl (record { from = z.from; before = omega arith; shape = z.shape; lower = z.lower })

    pub one_up : {v : ℕ} → a ≤ k → 1 ≤ f k → height + f k < low → k < length mid → v ≡ height + f k → WalkedUp f a (k + 1) height low before (set mid k v) v
    one_up {v} h s l q e =
        let new : Lower f a (k + 1) height low k = record { from = h; before = omega arith; shape = s; lower = l } in record {
          put = one_put w.put k v new more fewer (λ i z p. omega (arith, z.before)) q e;
          last_of = inr (k, new, e, λ i z. omega (arith, z.before));
        }

    pub past_up : (Lower f a (k + 1) height low k → ⊥) → WalkedUp f a (k + 1) height low before mid last
    past_up o = record {
      put = same_put w.put (λ i. (more i, only i));
      last_of = ⊎_elim (λ (e, n). inl (e, λ i z. n i (only i z))) (λ (i, z, e, n). inr (i, more i z, e, λ j y. n j (only j y))) w.last_of;
    }
      where
        only : (i : ℕ) → Lower f a (k + 1) height low i → Lower f a k height low i
        only i z = ⊎_elim (λ y. y) (λ e. absurd (o (rw e at z))) (fewer i z)

-- the widest shape of the first i + 1 bytes: there is none, it is too high, or it is put
module _ {f : ℕ → ℕ} {i height low n : ℕ} (u : UpToLast f (i + 1) n) where
  only_widest : (k : ℕ) → Widest f i height low k → k ≡ n - 1
  only_widest k z = go (dec_lt k (n - 1)) (dec_lt (n - 1) k)
    where
      go : Dec (k < n - 1) → Dec (n - 1 < k) → k ≡ n - 1
      go (yes p) _ = let w = u.within in absurd (omega (arith, z.none (n - 1) p (omega arith), u.holds (omega arith)))
      go (no p) (yes q) = let w = z.within in absurd (omega (arith, u.none k (omega arith) (omega arith), z.shape))
      go (no p) (no q) = omega arith

  -- none to keep: no shape, or one too high
  pub no_widest : {before : List ℕ} → (1 ≤ n → low ≤ height + f (n - 1)) → WidestKept f i height low before before low
  no_widest h = record { put = nothing_put none; last_of = inl (refl, none) }
    where
      none : (k : ℕ) → Widest f i height low k → ⊥
      none k z = go (dec_le 1 n)
        where
          go : Dec (1 ≤ n) → ⊥
          go (yes p) = let e = ap f (only_widest k z) in let l = z.lower in omega (arith, h p)
          go (no p) = let w = z.within in omega (arith, u.none k (omega arith) (omega arith), z.shape)

  pub one_widest : {v : ℕ} {before : List ℕ} → 1 ≤ n → v ≡ height + f (n - 1) → v < low → i < length before → WidestKept f i height low before (set before i v) v
  one_widest {v} h e l q = record {
    put = one_put (nothing_put {Kept = λ _. ⊥} {place = λ _. i} {value = λ k. height + f k} (λ k z. z)) (n - 1) v here (λ j z. absurd z) (λ j z. inr (only_widest j z))
        (λ j z. absurd z) q e;
    last_of = inr (n - 1, here, e);
  }
    where
      here : Widest f i height low (n - 1)
      here = let w = u.within in record { within = omega arith; shape = u.holds h; none = λ j p r. u.none j (omega arith) (omega arith); lower = omega arith }

-- the last kept is no higher than before
pub widest_low : {f : ℕ → ℕ} {i height low last : ℕ} {before after : List ℕ} → WidestKept f i height low before after last → last ≤ low
widest_low p = ⊎_elim (λ (e, _). omega arith) (λ (k, z, e). omega (arith, z.lower)) p.last_of

-- what both loops put is what is to be kept
module _ {f : ℕ → ℕ} {i next height low mid-low r : ℕ} {before mid after : List ℕ} (wider : i < next) (falls : Falls f next)
    (p : WidestKept f i height low before mid mid-low) (w : WalkedUp f (i + 1) next height mid-low mid after r) where
  widest_kept : (k : ℕ) → Widest f i height low k → KeptAbove f i next height low k
  widest_kept k z = let u = z.within in record {
    before = omega arith;
    shape = z.shape;
    first = λ j h s. go j h s (dec_le j k);
    lower = z.lower;
  }
    where
      go : (j : ℕ) → j ≤ i → 1 ≤ f j → Dec (j ≤ k) → j ≤ k
      go j h s (yes q) = q
      go j h s (no q) = absurd (omega (arith, z.none j (omega arith) h))

  kept_widest : (k : ℕ) → k ≤ i → KeptAbove f i next height low k → Widest f i height low k
  kept_widest k h z = record { within = h; shape = z.shape; none = λ j q v. go j q v (dec_le 1 (f j)); lower = z.lower }
    where
      go : (j : ℕ) → k < j → j ≤ i → Dec (1 ≤ f j) → f j ≡ 0
      go j q v (yes s) = absurd (omega (arith, z.first j v s))
      go j q v (no s) = omega arith

  walk_kept : (k : ℕ) → Lower f (i + 1) next height mid-low k → KeptAbove f i next height low k
  walk_kept k z = let u = z.from in record {
    before = z.before;
    shape = z.shape;
    first = λ j h s. omega arith;
    lower = omega (arith, z.lower, widest_low p);
  }

  kept_walk : (k : ℕ) → i < k → KeptAbove f i next height low k → Lower f (i + 1) next height mid-low k
  kept_walk k h z = record {
    from = omega arith;
    before = z.before;
    shape = z.shape;
    lower = ⊎_elim (λ (e, _). let l = z.lower in omega arith)
        (λ (j, y, e). let v = y.within in omega (arith, falls j k (omega arith) z.before y.shape z.shape)) p.last_of;
  }

  pub above_kept : AboveKept f i next height low before after r
  above_kept = record {
    put = then_put p.put w.put (λ k z. let u = z.within in (widest_kept k z, omega arith)) (λ k z. let u = z.from in (walk_kept k z, omega arith)) (λ k z. here k z (dec_le k i));
    within = ⊎_elim (λ (e, _). let l = widest_low p in omega arith) (λ (k, z, e, _). let l = widest_low p in omega (arith, z.lower)) w.last_of;
    kept = ⊎_elim (λ (e, _). ⊎_elim (λ (e', _). inl (e ∙ e')) (λ (k, z, e'). inr (k, widest_kept k z, e ∙ e')) p.last_of) (λ (k, z, e, _). inr (k, walk_kept k z, e)) w.last_of;
    least = λ k z. least k z (dec_le k i) w.last_of p.last_of;
  }
    where
      here : (k : ℕ) → KeptAbove f i next height low k → Dec (k ≤ i)
          → First p.put w.put k (max i k) (height + f k) ⊎ Second p.put w.put k (max i k) (height + f k)
      here k z (yes h) = inl (kept_widest k h z, omega arith, refl, λ (j, y, q). omega (arith, y.from))
      here k z (no h) = inr (kept_walk k (omega arith) z, omega arith, refl)

      least : (k : ℕ) → KeptAbove f i next height low k → Dec (k ≤ i)
          → ((r ≡ mid-low) × ((k : ℕ) → Lower f (i + 1) next height mid-low k → ⊥))
          ⊎ ((k : ℕ) × Lower f (i + 1) next height mid-low k × (r ≡ height + f k) × ((j : ℕ) → Lower f (i + 1) next height mid-low j → j ≤ k))
          → ((mid-low ≡ low) × ((k : ℕ) → Widest f i height low k → ⊥)) ⊎ ((k : ℕ) × Widest f i height low k × (mid-low ≡ height + f k)) → r ≤ height + f k
      least k z (no h) (inl (e, n)) _ = absurd (n k (kept_walk k (omega arith) z))
      least k z (yes h) (inl (e, n)) (inl (_, m)) = absurd (m k (kept_widest k h z))
      least k z (yes h) (inl (e, n)) (inr (j, y, e')) = same (ℕ_discrete j k) (dec_lt j k)
        where
          same : Dec (j ≡ k) → Dec (j < k) → r ≤ height + f k
          same (yes q) _ = let q' = ap f q in omega arith
          same (no q) (yes v) = absurd (omega (arith, y.none k v h, z.shape))
          same (no q) (no v) = let b = y.within in absurd (omega (arith, z.first j b y.shape))
      least k z (yes h) (inr (j, y, e, m)) _ = let a = y.from in omega (arith, falls k j (omega arith) y.before z.shape y.shape)
      least k z (no h) (inr (j, y, e, m)) _ = go (ℕ_discrete k j)
        where
          go : Dec (k ≡ j) → r ≤ height + f k
          go (yes q) = let q' = ap f q in omega arith
          go (no q) = let v = m k (kept_walk k (omega arith) z) in omega (arith, falls k j (omega arith) y.before z.shape y.shape)

-- what is kept hangs on the run's bytes alone
module _ {i next height low : ℕ} (wider : i < next) where
  same_kept : {f g : ℕ → ℕ} → ((k : ℕ) → k < next → f k ≡ g k) → (k : ℕ) → KeptAbove f i next height low k → KeptAbove g i next height low k
  same_kept e k z = let b = z.before in record {
    before = b;
    shape = omega (arith, z.shape, e k b);
    first = λ j p s. z.first j p (omega (arith, e j (omega arith)));
    lower = omega (arith, z.lower, e k b);
  }

  pub above_same : {f g : ℕ → ℕ} {r : ℕ} {before after : List ℕ} → ((k : ℕ) → k < next → f k ≡ g k)
      → AboveKept f i next height low before after r → AboveKept g i next height low before after r
  above_same e z = let there = same_kept e in let back = same_kept (λ k h. sym (e k h)) in record {
    put = other_values (same_put z.put (λ k. (there k, back k))) (λ k y. ap (λ n. height + n) (e k y.before));
    within = z.within;
    kept = ⊎_elim inl (λ (k, y, q). inr (k, there k y, q ∙ ap (λ n. height + n) (e k y.before))) z.kept;
    least = λ k y. omega (arith, z.least k (back k y), e k y.before);
  }
