-- Choosing the root's shape and, at a cut, the first pair: the computed choices are the ones that 01 words, and the only ones.
-- Assumes nothing.
use mathlib.Core.Path.{◌≡◌, refl, sym, ◌∙◌, ap}
use mathlib.Core.Logic.{◌⊎◌, inl, inr, ⊎_elim, ◌↔◌}
use mathlib.Core.Bool.{Bool, true, false, So}
use Prim.Native.Nat.{ℕ, zero, suc, ◌-◌, ◌*◌, ◌≤◌, ◌<◌}
use native.Mathlib.Omega.{arith}
use native.Mathlib.Nat.{le_refl}
use native.Mathlib.Decide.{ℕ_discrete}
use lib.Dec.{ltb}
use borrow.Author.Tests.{ltb-true, ltb-false}
use Rattle.rules.specs.declared.Corner.{Corner}
use Rattle.rules.specs.declared.Shape.{Shape}
use Rattle.rules.specs.declared.Direction.{Direction}
use Rattle.rules.specs.Search.{any}
use Rattle.rules.specs.Chip.{shape}
use Rattle.rules.specs.Slot.{Empty, Stores}
use Rattle.rules.specs.Choice.{Chosen, Pair, Taken, beside}
use Rattle.rules.proofs.Test.{better, best_width, meets, left_index, left_shape, right_index, right_shape, has_pair}
use Rattle.rules.proofs.Searching.{test-iffs, any_iff, least_is, least_found}
use Rattle.rules.proofs.Listing.{same_shape}

-- what the search over the first n bytes has found: w is 0 and there is no shape, or w is the width of the best
abbrev Best : (ℕ → ℕ) → ℕ → ℕ → Type 0
Best g n zero = (i : ℕ) → i < n → g i ≡ 0
Best g n (suc j) = (j < n) × (0 < g j) × ((i : ℕ) → i < n → 0 < g i → (suc j * g j ≤ suc i * g i) × (suc i * g i ≡ suc j * g j → j ≤ i))

module _ (g : ℕ → ℕ) (n : ℕ) where
  one_more : (P : ℕ → Type 0) → P n → ((i : ℕ) → i < n → P i) → (i : ℕ) → i < suc n → P i
  one_more P p q i h = pick (ℕ_discrete i n)
    where
      pick : Dec (i ≡ n) → P i
      pick (yes e) = rw e p
      pick (no e) = q i (omega arith)

  newer : (w : ℕ) → 0 < g n → Best g n w → Best g (suc n) (better g n w)
  newer zero p b = (
    omega arith,
    p,
    one_more (λ i. 0 < g i → (suc n * g n ≤ suc i * g i) × (suc i * g i ≡ suc n * g n → n ≤ i)) (λ _. (le_refl (suc n * g n), λ _. le_refl n))
        (λ i h k. absurd (let z = b i h in omega arith)),
  )
  newer (suc j) p (h, k, b) = pick (ltb (suc n * g n) (suc j * g j)) refl
    where
      pick : (t : Bool) → ltb (suc n * g n) (suc j * g j) ≡ t → Best g (suc n) (elim t as (λ _. ℕ) [ true ↦ suc n | false ↦ suc j ])
      pick true e = let l = ltb-true (suc n * g n) (suc j * g j) e in (
        omega arith,
        p,
        one_more (λ i. 0 < g i → (suc n * g n ≤ suc i * g i) × (suc i * g i ≡ suc n * g n → n ≤ i)) (λ _. (le_refl (suc n * g n), λ _. le_refl n))
            (λ i u v. let z = (b i u v).0 in (omega arith, λ q. absurd (omega arith))),
      )
      pick false e = let l = ltb-false (suc n * g n) (suc j * g j) e in (
        omega arith,
        k,
        one_more (λ i. 0 < g i → (suc j * g j ≤ suc i * g i) × (suc i * g i ≡ suc j * g j → j ≤ i)) (λ _. (l, λ _. omega arith)) b,
      )

  older : (w : ℕ) → g n ≤ 0 → Best g n w → Best g (suc n) w
  older zero p b = one_more (λ i. g i ≡ 0) (omega arith) b
  older (suc j) p (h, k, b) = (omega arith, k, one_more (λ i. 0 < g i → (suc j * g j ≤ suc i * g i) × (suc i * g i ≡ suc j * g j → j ≤ i)) (λ q. absurd (omega arith)) b)

best_is : (g : ℕ → ℕ) (n : ℕ) → Best g n (best_width g n)
unfolding best_width
best_is g zero = λ i h. absurd (omega arith)
best_is g (suc n) = go (ltb 0 (g n)) refl (best_is g n)
  where
    go : (t : Bool) → ltb 0 (g n) ≡ t → Best g n (best_width g n)
        → Best g (suc n) (elim t as (λ _. ℕ) [ true ↦ better g n (best_width g n) | false ↦ best_width g n ])
    go true e b = newer g n (best_width g n) (ltb-true 0 (g n) e) b
    go false e b = older g n (best_width g n) (ltb-false 0 (g n) e) b

-- a slot is empty, or the computed shape is the one to choose
pub chooses : (W : ℕ) (g : ℕ → ℕ) → ((best_width g W ≡ 0) × Empty W g) ⊎ Chosen W g (shape (best_width g W) (g (best_width g W - 1)))
chooses W g = go (best_width g W) refl (best_is g W)
  where
    go : (w : ℕ) → best_width g W ≡ w → Best g W w → ((w ≡ 0) × Empty W g) ⊎ Chosen W g (shape w (g (w - 1)))
    go zero e b = inl (refl, λ s z. let p = z.wide in let q = z.within in let k = b (s.w.0 - 1) (omega arith) in let y = z.byte in let h = z.high in absurd (omega arith))
    go (suc j) e (h, k, b) = inr (record {
      stored = record { wide = omega arith; within = h; high = rw e1 k; byte = refl };
      smallest = λ o z. rw e1 (at o z).0;
      narrowest = λ o z q. (at o z).1 (rw e1 at q);
    })
      where
        e1 : suc j - 1 ≡ j
        e1 = omega arith

        at : (o : Shape) → Stores W g o → (suc j * g j ≤ o.w.0 * o.h.0) × (o.w.0 * o.h.0 ≡ suc j * g j → suc j ≤ o.w.0)
        at o z =
            let p = z.wide in let q = z.within in let r = z.high in let y = z.byte in
            let e2 : suc (o.w.0 - 1) ≡ o.w.0 = omega arith in
            let u = rw (e2, y) at (b (o.w.0 - 1) (omega arith) (omega arith)) in (u.0, λ v. let n = u.1 v in omega arith)

pub chooses_none : (W : ℕ) (g : ℕ → ℕ) → best_width g W ≡ 0 → Empty W g
chooses_none W g e = ⊎_elim (λ z. z.1) (λ ch. let p = ch.stored.wide in absurd (omega arith)) (chooses W g)

pub chooses_this : (W : ℕ) (g : ℕ → ℕ) (s : Shape) → 1 ≤ s.w.0 → best_width g W ≡ s.w.0 → g (s.w.0 - 1) ≡ s.h.0 → Chosen W g s
chooses_this W g s p e h =
    ⊎_elim (λ z. let q = z.0 in absurd (omega arith)) (λ ch. rw (same_shape _ s e (ap (λ w. g (w - 1)) e ∙ h)) at ch) (chooses W g)

-- a slot holds one shape of each width
pub same_width : (W : ℕ) (g : ℕ → ℕ) (s o : Shape) → Stores W g s → Stores W g o → s.w.0 ≡ o.w.0 → s ≡ o
same_width W g s o x y e = same_shape s o e (sym x.byte ∙ ap (λ w. g (w - 1)) e ∙ y.byte)

-- at most one shape is to choose
pub chosen_once : (W : ℕ) (g : ℕ → ℕ) (s o : Shape) → Chosen W g s → Chosen W g o → s ≡ o
chosen_once W g s o x y =
    let a = x.smallest o y.stored in let b = y.smallest s x.stored in
    let u = x.narrowest o y.stored (omega arith) in let v = y.narrowest s x.stored (omega arith) in
    same_width W g s o x.stored y.stored (omega arith)

-- a stored shape stands at some byte
pub at_byte : (W : ℕ) (g : ℕ → ℕ) (s : Shape) → Stores W g s → (i : ℕ) × (i < W) × (0 < g i) × (s ≡ shape (suc i) (g i))
at_byte W g s z =
    let p = z.wide in let q = z.within in let h = z.high in let y = z.byte in
    (s.w.0 - 1, omega arith, omega arith, same_shape s (shape (suc (s.w.0 - 1)) (g (s.w.0 - 1))) (omega arith) (sym y))

pub byte_stores : (W : ℕ) (g : ℕ → ℕ) (i : ℕ) → i < W → 0 < g i → Stores W g (shape (suc i) (g i))
byte_stores W g i h k = let e : suc i - 1 ≡ i = omega arith in record { wide = omega arith; within = h; high = k; byte = ap g e }

module _ (W H : ℕ) (d : Direction) (L R : Corner → ℕ → ℕ) (c : Corner) (whole : Shape) where
  left_of : ℕ → Shape
  left_of i = shape (suc i) (L c i)

  right_of : ℕ → ℕ → Shape
  right_of i j = shape (suc j) (R (beside d c (shape (suc i) (L c i))) j)

  -- the test of a pair
  meets_iff : (i j : ℕ) → i < W → j < W → So (meets W H d L R c whole i j) ↔ Pair W H d L R c (left_of i) (right_of i j) whole
  unfolding meets left_of right_of
  meets_iff i j hi hj = (
    λ t. let (((((p, q), r), u), ew), eh) = simp test-iffs at t in
        record {
          left = byte_stores W (L c) i hi p;
          corner = record { column = q; row = r };
          right = byte_stores W (R (beside d c (shape (suc i) (L c i)))) j hj u;
          box = same_shape _ whole ew eh;
        },
    λ p. simp test-iffs (((((p.left.high, p.corner.column), p.corner.row), p.right.high), ap (λ s. s.w.0) p.box), ap (λ s. s.h.0) p.box),
  )

  -- a pair stands at two bytes that meet
  right_byte : (i : ℕ) (o : Shape) → i < W → Pair W H d L R c (left_of i) o whole → (j : ℕ) × (j < W) × So (meets W H d L R c whole i j) × (o ≡ right_of i j)
  unfolding left_of right_of
  right_byte i o hi p =
      let (j, hj, pj, eo) = at_byte W (R (beside d c (shape (suc i) (L c i)))) o p.right in (j, hj, (meets_iff i j hi hj).1 (rw eo at p), eo)

  pair_bytes : (s o : Shape) → Pair W H d L R c s o whole → (i : ℕ) × (i < W) × So (any W (meets W H d L R c whole i)) × (s ≡ left_of i)
  unfolding left_of
  pair_bytes s o p =
      let (i, hi, pi, es) = at_byte W (L c) s p.left in let (j, hj, t, eo) = right_byte i o hi (rw es at p) in
      (i, hi, (any_iff W (meets W H d L R c whole i)).1 (j, hj, t), es)

  -- a pair is found
  pub pair_found : (s o : Shape) → Pair W H d L R c s o whole → So (has_pair W H d L R c whole)
  unfolding has_pair
  pair_found s o p = let (i, hi, t, es) = pair_bytes s o p in (any_iff W (λ i. any W (meets W H d L R c whole i))).1 (i, hi, t)

  -- and then the computed shapes are the ones to take
  pub takes : So (has_pair W H d L R c whole) → Taken W H d L R c whole (left_shape W H d L R c whole) (right_shape W H d L R c whole)
  unfolding has_pair left_index right_index left_of right_of
  takes t =
      let i = left_index W H d L R c whole in let j = right_index W H d L R c whole in
      let (hi, ti) = least_found (λ i. any W (meets W H d L R c whole i)) W t in let (hj, tj) = least_found (meets W H d L R c whole i) W ti in
      record {
        pair = (meets_iff i j hi hj).0 tj;
        first = λ s o p. let (i', hi', t', es) = pair_bytes s o p in let e = ap (λ z. z.w.0) es in
            let l = (least_is (λ i. any W (meets W H d L R c whole i)) W 0).least i' (omega arith) (omega arith) t' in omega arith;
        only = λ o p. let (j', hj', t', eo) = right_byte i o hi p in let e = ap (λ z. z.w.0) eo in
            let l = (least_is (meets W H d L R c whole i) W 0).least j' (omega arith) (omega arith) t' in omega arith;
      }

  -- at most one pair is to take
  pub taken_once : (s o s' o' : Shape) → Taken W H d L R c whole s o → Taken W H d L R c whole s' o' → (s ≡ s') × (o ≡ o')
  taken_once s o s' o' x y =
      let u = x.first s' o' y.pair in let v = y.first s o x.pair in
      let e = same_width W (L c) s s' x.pair.left y.pair.left (omega arith) in
      let y' : Taken W H d L R c whole s o' = rw (← e) at y in let p = x.only o' y'.pair in let q = y'.only o x.pair in
      (e, same_width W (R (beside d c s)) o o' x.pair.right y'.pair.right (omega arith))
