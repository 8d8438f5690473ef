-- The boxes beside a left shape. Of shapes that fall, those narrower than the one looked up are higher than the left one, and those wider are passed
-- over; so what is put is what a vertical cut keeps. Assumes nothing.
use mathlib.Core.Path.{◌≡◌, refl, sym, ap}
use mathlib.Core.Logic.{◌⊎◌, inl, inr, ⊎_elim}
use mathlib.Core.List.{List}
use Prim.Native.Nat.{ℕ, ◌+◌, ◌-◌, ◌≤◌, ◌<◌, max}
use native.Mathlib.Omega.{arith}
use native.Mathlib.Nat.{le_refl}
use native.Mathlib.Decide.{dec_le, dec_lt, ℕ_discrete}
use lib.ListN.{length, take}
use Rattle.std.specs.Prelude.{Option, Some, None, IfSome}
use Rattle.std.specs.Option.{option_or}
use Rattle.scans.specs.declared.Looked.{Looked}
use Rattle.scans.specs.Run.{bytes, or_end, LookedUp, FoundKept, Walks, WalkedOn, Falls, KeptBeside, BesideKept}
use Rattle.scans.proofs.Runs.{same_put, other_values, First, Second, then_put, walked_taken, within_taken}

-- a place among n bytes is no end
place_is : {n k : ℕ} (o : Option ℕ) → k ≡ or_end n o → k < n → o ≡ Some k
place_is (Some j) e h = ap Some (sym e)
place_is None e h = absurd (omega arith)

module _ {f : ℕ → ℕ} {n height stop : ℕ} {looked : Looked} (falls : Falls f n) (lower : height < stop) (l : LookedUp f n height looked) (among : IfSome looked.found (λ k. k < n)) where
  -- what is narrower than where the walk begins is higher than the left shape
  higher : (k : ℕ) → k < looked.higher → 1 ≤ f k → height < f k
  higher k h s = go (ℕ_discrete k (looked.higher - 1))
    where
      go : Dec (k ≡ looked.higher - 1) → height < f k
      go (yes e) = rw e (l.over (omega arith))
      go (no e) =
          let o = l.over (omega arith) in let w = l.within in
          omega (arith, falls k (looked.higher - 1) (omega arith) (omega arith) s (omega arith))

  abbrev found : ℕ
  found = or_end n looked.found

  -- the shape looked up is kept, and nothing else that is no higher
  found_kept : found < n → KeptBeside f n height stop found
  found_kept h = let z = l.found in record {
    before = h;
    shape = z.holds h;
    lower = omega (arith, l.under found z.from h);
    first = λ i p s. go i p s (dec_lt i looked.higher);
  }
    where
      go : (i : ℕ) → i < found → 1 ≤ f i → Dec (i < looked.higher) → height < f i
      go i p s (yes q) = higher i q s
      go i p s (no q) = absurd (omega (arith, l.found.none i (omega arith) p))

  kept_found : (k : ℕ) → looked.higher ≤ k → KeptBeside f n height stop k → k ≡ found
  kept_found k h z = go (dec_lt k found) (dec_lt found k)
    where
      go : Dec (k < found) → Dec (found < k) → k ≡ found
      go (yes p) _ = absurd (omega (arith, l.found.none k h p, z.shape))
      go (no p) (yes q) =
          let b = z.before in
          absurd (omega (arith, z.first found q (l.found.holds (omega arith)), l.under found l.found.from (omega arith)))
      go (no p) (no q) = omega arith

  module _ {to : ℕ} {mid after : List ℕ} {last : ℕ} (w : WalkedOn f looked.higher stop to mid after last) where
    -- the walk keeps the higher ones up to the stop
    walk_kept : (k : ℕ) → Walks f w.end looked.higher k → KeptBeside f n height stop k
    walk_kept k z = let b = z.before in let u = l.within in record {
      before = omega arith;
      shape = z.shape;
      lower = w.under k z.from b;
      first = λ i p s. omega (arith, higher k b z.shape, falls i k p (omega arith) s z.shape);
    }

    kept_walk : (k : ℕ) → k < looked.higher → KeptBeside f n height stop k → Walks f w.end looked.higher k
    kept_walk k h z = record { from = go (dec_le w.end k) (ℕ_discrete k (w.end - 1)); before = h; shape = z.shape }
      where
        go : Dec (w.end ≤ k) → Dec (k ≡ w.end - 1) → w.end ≤ k
        go (yes p) _ = p
        go (no p) (yes e) = absurd (omega (arith, ap f e, w.over (omega arith), z.lower))
        go (no p) (no e) =
            let o = w.over (omega arith) in let u = w.within in let v = l.within in let t = z.lower in
            absurd (omega (arith, falls k (w.end - 1) (omega arith) (omega arith) z.shape (omega arith)))

    -- so both together keep what is to be kept
    beside_kept : {before : List ℕ} {r : ℕ} → FoundKept looked.found height to before mid
        → ((last < looked.higher) × (r ≡ last)) ⊎ ((looked.higher ≤ last) × (r ≡ found)) → BesideKept f n height stop to before after r
    beside_kept {before} {r} p given = record {
      put = then_put p w.put (λ k z. (at_found k z, refl)) (λ k z. (walk_kept k z, refl)) (λ k z. here k z (dec_lt k looked.higher));
      within = ⊎_elim (λ (h, e). let u = l.within in omega arith) (λ (h, e). let u = l.found.within in omega arith) given;
      kept = λ h. ⊎_elim (λ (g, e). rw e (walk_kept last (record { from = w.found.from; before = g; shape = w.found.holds g })))
          (λ (g, e). rw e (found_kept (omega arith))) given;
      least = λ k z. least k z (dec_lt k looked.higher) given;
    }
      where
        at_found : (k : ℕ) → looked.found ≡ Some k → KeptBeside f n height stop k
        at_found k z = let found_in : found < n = rw z (rw z at among) in let e : found ≡ k = ap (or_end n) z in rw e at (found_kept found_in)

        here : (k : ℕ) → KeptBeside f n height stop k → Dec (k < looked.higher)
            → First p w.put k (to + k) (max height (f k)) ⊎ Second p w.put k (to + k) (max height (f k))
        here k z (yes h) = let g = higher k h z.shape in inr (kept_walk k h z, refl, omega arith)
        here k z (no h) =
            let u = l.under k (omega arith) z.before in
            inl (place_is looked.found (kept_found k (omega arith) z) z.before, refl, omega arith, λ (j, y, q). omega (arith, y.before))

        least : (k : ℕ) → KeptBeside f n height stop k → Dec (k < looked.higher)
            → ((last < looked.higher) × (r ≡ last)) ⊎ ((looked.higher ≤ last) × (r ≡ found)) → r ≤ k
        least k z (yes h) (inl (g, e)) = go (dec_le r k)
          where
            go : Dec (r ≤ k) → r ≤ k
            go (yes q) = q
            go (no q) = absurd (omega (arith, w.found.none k (kept_walk k h z).from (omega arith), z.shape))
        least k z (yes h) (inr (g, e)) = let y = kept_walk k h z in absurd (omega (arith, w.found.none k y.from (omega arith), z.shape))
        least k z (no h) (inl (g, e)) = omega arith
        least k z (no h) (inr (g, e)) = omega (arith, kept_found k (omega arith) z)

-- the last kept is that of the walk, or else what was looked up
last_kept : (n m : ℕ) (walk found : Option ℕ) → IfSome walk (λ k. k < m) → let r = or_end n (option_or walk found) in
    ((or_end m walk < m) × (r ≡ or_end m walk)) ⊎ ((m ≤ or_end m walk) × (r ≡ or_end n found))
last_kept n m (Some k) o h = inl (h, refl)
last_kept n m None o h = inr (le_refl m, refl)

pub kept_beside : (right : List ℕ) {before mid after : List ℕ} {height stop wide : ℕ} {looked : Looked} (walk : Option ℕ) → let n = length right in
    height < stop → Falls (bytes right) n → LookedUp (bytes right) n height looked → IfSome looked.found (λ k. k < n)
    → FoundKept looked.found height wide before mid
    → let part = take looked.higher right in WalkedOn (bytes part) (length part) stop wide mid after (or_end (length part) walk)
    → IfSome walk (λ k. k < length part) → BesideKept (bytes right) n height stop wide before after (or_end n (option_or walk looked.found))
kept_beside right {looked = looked} walk h falls l among p w within =
    beside_kept falls h l among (walked_taken right l.within walk w) p
    (last_kept (length right) looked.higher walk looked.found (within_taken right l.within walk within))

-- what is kept hangs on the run's bytes alone
module _ {n height stop : ℕ} where
  same_kept : {f g : ℕ → ℕ} → ((k : ℕ) → k < n → f k ≡ g k) → (k : ℕ) → KeptBeside f n height stop k → KeptBeside g n height stop k
  same_kept e k z = let b = z.before in record {
    before = b;
    shape = omega (arith, z.shape, e k b);
    lower = omega (arith, z.lower, e k b);
    first = λ i p s. omega (arith, e i (omega arith), z.first i p (omega (arith, e i (omega arith))));
  }

  pub beside_same : {f g : ℕ → ℕ} {to last : ℕ} {before after : List ℕ} → ((k : ℕ) → k < n → f k ≡ g k)
      → BesideKept f n height stop to before after last → BesideKept g n height stop to before after last
  beside_same e z = let there = same_kept e in let back = same_kept (λ k h. sym (e k h)) in record {
    put = other_values (same_put z.put (λ k. (there k, back k))) (λ k y. ap (max height) (e k y.before));
    within = z.within;
    kept = λ h. there _ (z.kept h);
    least = λ k y. z.least k (back k y);
  }
