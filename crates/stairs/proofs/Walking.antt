-- The walk along a slot decides whether it is a stair. A zero changes nothing; a nonzero byte that stands on the chip and below the
-- height kept takes its place, since all that follow have to fall below it; any other shows that the slot is no stair.
-- Assumes nothing.
use mathlib.Core.Path.{◌≡◌, refl, sym, ◌∙◌, ap, subst}
use mathlib.Core.Logic.{◌↔◌}
use mathlib.Core.Bool.{Bool, true, false, ◌&&◌, So}
use mathlib.Core.List.{List, [], ◌∷◌, ◌++◌}
use Prim.Native.Nat.{ℕ, zero, suc, ◌+◌, ◌-◌, ◌≤◌, ◌<◌}
use native.Mathlib.Omega.{arith}
use native.Mathlib.Nat.{zero-add, sub-zero}
use native.Mathlib.Decide.{dec_lt, ℕ_discrete}
use native.Mathlib.Numerals.{add-one}
use lib.Dec.{ltb}
use lib.ListN.{length, take}
use lib.Seq.{take-length}
use borrow.Author.Tests.{lt-ltb, le-ltb, eq-eqb, ne_eqb}
use Rattle.std.specs.Prelude.{Some, None, eqb, fold}
use Rattle.std.proofs.lemmas.List.Sums.{fold_more}
use Rattle.rules.specs.declared.Corner.{Corner}
use Rattle.rules.specs.Search.{all}
use Rattle.rules.specs.Slot.{Stair}
use Rattle.rules.proofs.Test.{is_stair}
use Rattle.rules.proofs.Searching.{absurd_so, all_iff, eqb_iff, same_test}
use Rattle.rules.proofs.Testing.{all_none, all_and}
use Rattle.rules.proofs.Stairs.{stair_iff}
use Rattle.stairs.specs.Walk.{byte_at, zero_at, next_low, low_after, low_left}

-- what a byte does
next_zero : (low v : ℕ) (on : Bool) → v ≡ 0 → next_low low v on ≡ low
unfolding next_low
next_zero low v on e = rw (next_low, eq-eqb v 0 e)

next_falls : (low v j columns : ℕ) → (v ≡ 0 → ⊥) → j < columns → v < low → next_low low v (ltb j columns) ≡ v
unfolding next_low
next_falls low v j columns o h l = rw (next_low, ne_eqb v 0 o, lt-ltb j columns h, lt-ltb v low l)

next_off : (low v j columns : ℕ) → (v ≡ 0 → ⊥) → columns ≤ j → next_low low v (ltb j columns) ≡ 0
unfolding next_low
next_off low v j columns o h = rw (next_low, ne_eqb v 0 o, le-ltb j columns h)

next_high : (low v : ℕ) (on : Bool) → (v ≡ 0 → ⊥) → low ≤ v → next_low low v on ≡ 0
unfolding next_low
next_high low v true o h = rw (next_low, ne_eqb v 0 o, le-ltb v low h)
next_high low v false o h = rw (next_low, ne_eqb v 0 o)

-- From byte j to before n, nonzero bytes stand on the chip, stay below a height and fall strictly.
record Falls (columns : ℕ) (g : ℕ → ℕ) (j n low : ℕ) : Type 0 where
  inside : (i : ℕ) → j ≤ i → i < n → 1 ≤ g i → (i < columns) × (g i < low)
  fall : (i k : ℕ) → j ≤ i → i < k → k < n → 1 ≤ g i → 1 ≤ g k → g k < g i

module _ {columns : ℕ} {g : ℕ → ℕ} where
  zero_passed : (j n low : ℕ) → g j ≡ 0 → Falls columns g j n low ↔ Falls columns g (suc j) n low
  zero_passed j n low z = (
    λ F. record { inside = λ i h. F.inside i (omega arith); fall = λ i k h. F.fall i k (omega arith) },
    λ F. record {
      inside = λ i h k p. F.inside i (past i h p (ℕ_discrete i j)) k p;
      fall = λ i k h l m p. F.fall i k (past i h p (ℕ_discrete i j)) l m p;
    },
  )
    where
      past : (i : ℕ) → j ≤ i → 1 ≤ g i → Dec (i ≡ j) → suc j ≤ i
      past i h p (yes e) = let q : g i ≡ 0 = rw e z in absurd (omega arith)
      past i h p (no e) = omega arith

  -- a byte that falls takes the height's place
  byte_kept : (j n low : ℕ) → j < n → 1 ≤ g j → j < columns → g j < low → Falls columns g j n low ↔ Falls columns g (suc j) n (g j)
  byte_kept j n low h p on b = (
    λ F. record {
      inside = λ i l k q. ((F.inside i (omega arith) k q).0, F.fall j i (omega arith) l k p q);
      fall = λ i k l. F.fall i k (omega arith);
    },
    λ F. record {
      inside = λ i l k q. first F i l k q (ℕ_discrete i j);
      fall = λ i k l m q r s. falls F i k l m q r s (ℕ_discrete i j);
    },
  )
    where
      first : Falls columns g (suc j) n (g j) → (i : ℕ) → j ≤ i → i < n → 1 ≤ g i → Dec (i ≡ j) → (i < columns) × (g i < low)
      first F i l k q (yes e) = rw e (on, b)
      first F i l k q (no e) = let (x, y) = F.inside i (omega arith) k q in (x, omega arith)

      falls : Falls columns g (suc j) n (g j) → (i k : ℕ) → j ≤ i → i < k → k < n → 1 ≤ g i → 1 ≤ g k → Dec (i ≡ j) → g k < g i
      falls F i k l m q r s (yes e) = rw e (F.inside k (omega arith) q s).1
      falls F i k l m q r s (no e) = F.fall i k (omega arith) m q r s

module _ (columns : ℕ) (g : ℕ → ℕ) where
  -- once at 0, the walk stays there
  pub after_fault : (j n : ℕ) → low_after columns g j n 0 ≡ 0
  unfolding low_after
  after_fault j zero = refl
  after_fault j (suc n) = rw (next (ℕ_discrete (g j) 0)) (after_fault (suc j) n)
    where
      next : Dec (g j ≡ 0) → next_low 0 (g j) (ltb j columns) ≡ 0
      next (yes e) = next_zero 0 (g j) (ltb j columns) e
      next (no e) = next_high 0 (g j) (ltb j columns) e (omega arith)

  -- the walk comes through exactly if the bytes fall
  walk_iff : (j n e low : ℕ) → j + n ≡ e → 0 < low → So (ltb 0 (low_after columns g j n low)) ↔ Falls columns g j e low
  unfolding low_after
  walk_iff j zero e low q h = (
    λ t. record { inside = λ i k l. absurd (omega arith); fall = λ i k l m p. absurd (omega arith) },
    λ F. lt-ltb 0 low h,
  )
  walk_iff j (suc n) e low q h =
      go (ℕ_discrete (g j) 0) (dec_lt j columns) (dec_lt (g j) low) (λ m. walk_iff (suc j) n e m (omega arith))
    where
      Comes : ℕ → Type 0
      Comes m = So (ltb 0 (low_after columns g (suc j) n m))

      fault : 1 ≤ g j → ((j < columns) × (g j < low) → ⊥) → Comes 0 ↔ Falls columns g j e low
      fault p o = rw (after_fault (suc j) n) (absurd_so, λ F. absurd (o (F.inside j (omega arith) (omega arith) p)))

      goes_on : (m : ℕ) → Comes m ↔ Falls columns g (suc j) e m → Falls columns g j e low ↔ Falls columns g (suc j) e m
          → Comes m ↔ Falls columns g j e low
      goes_on m a b = (λ t. b.1 (a.0 t), λ F. a.1 (b.0 F))

      go : Dec (g j ≡ 0) → Dec (j < columns) → Dec (g j < low) → ((m : ℕ) → 0 < m → Comes m ↔ Falls columns g (suc j) e m)
          → Comes (next_low low (g j) (ltb j columns)) ↔ Falls columns g j e low
      go (yes z) _ _ ih = rw (next_zero low (g j) (ltb j columns) z) (goes_on low (ih low h) (zero_passed j e low z))
      go (no z) (yes on) (yes b) ih =
          rw (next_falls low (g j) j columns z on b)
          (goes_on (g j) (ih (g j) (omega arith)) (byte_kept j e low (omega arith) (omega arith) on b))
      go (no z) (no on) _ ih = rw (next_off low (g j) j columns z (omega arith)) (fault (omega arith) (λ p. on p.0))
      go (no z) (yes on) (no b) ih =
          rw (next_high low (g j) (ltb j columns) z (omega arith)) (fault (omega arith) (λ p. b p.1))

  -- a walk in two parts, and a walk along zeros
  walk_part : (j n m k p low : ℕ) → j + n ≡ k → n + m ≡ p
      → low_after columns g j p low ≡ low_after columns g k m (low_after columns g j n low)
  unfolding low_after
  walk_part j zero m k p low e f = let a : j ≡ k = omega arith in let b : p ≡ m = omega arith in rw (b, a)
  walk_part j (suc n) m k p low e f =
      let a : p ≡ suc (n + m) = omega arith in
      rw a (walk_part (suc j) n m k (n + m) (next_low low (g j) (ltb j columns)) (omega arith) refl)

  walk_zeros : (j n low : ℕ) → ((i : ℕ) → i < n → g (j + i) ≡ 0) → low_after columns g j n low ≡ low
  unfolding low_after
  walk_zeros j zero low z = refl
  walk_zeros j (suc n) low z =
      let e : j + 0 ≡ j = omega arith in let q : g j ≡ 0 = rw e at (z 0 (omega arith)) in
      rw (next_zero low (g j) (ltb j columns) q) (walk_zeros (suc j) n low (λ i h.
      let a : suc j + i ≡ j + suc i = omega arith in rw a (z (suc i) (omega arith))))

-- A walk along some bytes has come to byte j, with this height: what is left of it gives what all of it gives.
pub record Walking (columns : ℕ) (g : ℕ → ℕ) (end first j low : ℕ) : Type 0 where
  pub left : low_after columns g j (end - j) low ≡ low_after columns g 0 end first

pub walk_starts : {columns : ℕ} {g : ℕ → ℕ} {end first : ℕ} → Walking columns g end first 0 first
walk_starts = record { left = rw sub-zero }

module _ {columns : ℕ} {g : ℕ → ℕ} {end first j low : ℕ} (w : Walking columns g end first j low) where
  pub walk_ends : j ≡ end → low ≡ low_after columns g 0 end first
  unfolding low_after
  walk_ends e = let a : end - j ≡ 0 = omega arith in rw a at w.left

  -- a run of bytes, of which the height after it is known
  pub run_walked : (k m : ℕ) → j ≤ k → k ≤ end → m ≡ low_after columns g j (k - j) low → Walking columns g end first k m
  run_walked k m h l e = record {
    left = rw e (sym (walk_part columns g j (k - j) (end - k) k (end - j) low (omega arith) (omega arith)) ∙ w.left);
  }

  module _ (h : j < end) where
    byte_walked : (m : ℕ) → next_low low (g j) (ltb j columns) ≡ m → Walking columns g end first (j + 1) m
    unfolding low_after
    byte_walked m e = run_walked (j + 1) m (omega arith) (omega arith) (let a : j + 1 - j ≡ 1 = omega arith in rw a (sym e))

    fault_walked : next_low low (g j) (ltb j columns) ≡ 0 → 0 ≡ low_after columns g 0 end first
    fault_walked e = sym (after_fault columns g (j + 1) (end - (j + 1))) ∙ (byte_walked 0 e).left

    -- what a byte does
    pub zero_walked : g j ≡ 0 → Walking columns g end first (j + 1) low
    zero_walked z = byte_walked low (next_zero low (g j) (ltb j columns) z)

    module _ (o : g j ≡ 0 → ⊥) where
      pub fall_walked : j < columns → g j < low → Walking columns g end first (j + 1) (g j)
      fall_walked on b = byte_walked (g j) (next_falls low (g j) j columns o on b)

      pub off_chip : columns ≤ j → 0 ≡ low_after columns g 0 end first
      off_chip l = fault_walked (next_off low (g j) j columns o l)

      pub too_high : low ≤ g j → 0 ≡ low_after columns g 0 end first
      too_high l = fault_walked (next_high low (g j) (ltb j columns) o l)

-- only the bytes of the slot are asked for
low_same : (columns : ℕ) (g h : ℕ → ℕ) (j n low : ℕ) → ((i : ℕ) → i < j + n → g i ≡ h i) → low_after columns g j n low ≡ low_after columns h j n low
unfolding low_after
low_same columns g h j zero low e = refl
low_same columns g h j (suc n) low e = rw (e j (omega arith)) (low_same columns g h (suc j) n _ (λ i l. e i (omega arith)))

-- the height that is left, if there is one
some_is : {low : ℕ} → 0 < low → low_left low ≡ Some low
unfolding low_left
some_is {low} h = rw (lt-ltb 0 low h, low_left)

none_is : {low : ℕ} → low ≡ 0 → low_left low ≡ None
unfolding low_left
none_is {low} e = rw (le-ltb 0 low (omega arith), low_left)

pub none_left : {low : ℕ} → 0 ≡ low → None ≡ low_left low
none_left e = sym (none_is (sym e))

pub some_left : {low m : ℕ} → 0 < low → low ≡ m → Some low ≡ low_left m
some_left h e = rw (← e) (sym (some_is h))

pub left_none : (low : ℕ) → None ≡ low_left low → low ≡ 0
left_none low e = go (dec_lt 0 low)
  where
    go : Dec (0 < low) → low ≡ 0
    go (yes h) = let s = some_is h in let n : ◌≡◌ {A = ℕ} 0 1 = cc in absurd (omega arith)
    go (no h) = omega arith

pub left_some : {m : ℕ} (low : ℕ) → Some m ≡ low_left low → (0 < m) × (m ≡ low)
left_some {m} low e = go (dec_lt 0 low)
  where
    go : Dec (0 < low) → (0 < m) × (m ≡ low)
    go (yes h) = let s = some_is h in let q : m ≡ low = cc in (omega arith, q)
    go (no h) = let s = none_is {low = low} (omega arith) in let n : ◌≡◌ {A = ℕ} 0 1 = cc in absurd (omega arith)

-- the walk along the bytes of a list, and along two lists one behind the other
abbrev pub low_along : ℕ → List ℕ → ℕ → ℕ
low_along columns bytes low = low_after columns (byte_at bytes) 0 (length bytes) low

shifted : (columns : ℕ) (g : ℕ → ℕ) (j n low : ℕ) → low_after columns g (suc j) n low ≡ low_after (columns - 1) (λ i. g (suc i)) j n low
unfolding low_after
shifted columns g j zero low = refl
shifted columns g j (suc n) low = rw (on (dec_lt (suc j) columns)) (shifted columns g (suc j) n _)
  where
    on : Dec (suc j < columns) → ltb (suc j) columns ≡ ltb j (columns - 1)
    on (yes h) = rw (lt-ltb (suc j) columns h, lt-ltb j (columns - 1) (omega arith))
    on (no h) = rw (le-ltb (suc j) columns (omega arith), le-ltb j (columns - 1) (omega arith))

one_along : (columns x : ℕ) (xs : List ℕ) (low : ℕ)
    → low_along columns (x ∷ xs) low ≡ low_along (columns - 1) xs (next_low low x (ltb 0 columns))
unfolding low_after
one_along columns x xs low = shifted columns (byte_at (x ∷ xs)) 0 (length xs) _

pub both_along : (columns : ℕ) (p r : List ℕ) (low : ℕ) → low_along columns (p ++ r) low ≡ low_along (columns - length p) r (low_along columns p low)
unfolding low_after
both_along columns [] r low = rw sub-zero
both_along columns (x ∷ p) r low =
    let e : columns - suc (length p) ≡ columns - 1 - length p = omega arith in
    one_along columns x (p ++ r) low
    ∙ rw (one_along columns x p low, e) (both_along (columns - 1) p r (next_low low x (ltb 0 columns)))

pub zeros_along : (columns : ℕ) (bytes : List ℕ) (low : ℕ) → So (all (length bytes) (zero_at bytes)) → low_along columns bytes low ≡ low
zeros_along columns bytes low t =
    walk_zeros columns (byte_at bytes) 0 (length bytes) low
    (λ i h. rw zero-add ((eqb_iff _ 0).0 ((all_iff (length bytes) (zero_at bytes)).0 t i h)))

-- falling below H - y + 1 is being a stair
module _ (W H : ℕ) (c : Corner) (g : ℕ → ℕ) where
  falls_iff : Falls (W - c.x.0) g 0 W (H - c.y.0 + 1) ↔ Stair W H c g
  falls_iff = (
    λ F. record {
      fall = λ i j. F.fall i j (omega arith);
      rows = λ j h. rows F j h (dec_lt 0 (g j));
      columns = λ j h l. columns F j h l (dec_lt 0 (g j));
    },
    λ s. record {
      inside = λ i h k p. (on s i k p (dec_lt i (W - c.x.0)), let r = s.rows i k in omega arith);
      fall = λ i k h. s.fall i k;
    },
  )
    where
      rows : Falls (W - c.x.0) g 0 W (H - c.y.0 + 1) → (j : ℕ) → j < W → Dec (0 < g j) → g j ≤ H - c.y.0
      rows F j h (yes p) = let (a, b) = F.inside j (omega arith) h p in omega arith
      rows F j h (no p) = omega arith

      columns : Falls (W - c.x.0) g 0 W (H - c.y.0 + 1) → (j : ℕ) → j < W → W - c.x.0 < suc j → Dec (0 < g j) → g j ≡ 0
      columns F j h l (yes p) = let (a, b) = F.inside j (omega arith) h p in absurd (omega arith)
      columns F j h l (no p) = omega arith

      on : Stair W H c g → (i : ℕ) → i < W → 1 ≤ g i → Dec (i < W - c.x.0) → i < W - c.x.0
      on s i k p (yes h) = h
      on s i k p (no h) = let e = s.columns i k (omega arith) in absurd (omega arith)

  -- so the walk along the whole slot decides it
  walk_decides : is_stair W H c g ≡ ltb 0 (low_after (W - c.x.0) g 0 W (H - c.y.0 + 1))
  walk_decides =
      let a = walk_iff (W - c.x.0) g 0 W W (H - c.y.0 + 1) (omega arith) (omega arith) in let b = stair_iff W H c g in
      same_test _ _ (λ t. a.1 (falls_iff.1 (b.0 t)), λ t. b.1 (falls_iff.0 (a.0 t)))

pub stair_same : (W H : ℕ) (c : Corner) (g h : ℕ → ℕ) → ((i : ℕ) → i < W → g i ≡ h i) → is_stair W H c g ≡ is_stair W H c h
stair_same W H c g h e =
    walk_decides W H c g ∙ rw (low_same (W - c.x.0) g h 0 W (H - c.y.0 + 1) (λ i l. e i (omega arith))) (sym (walk_decides W H c h))

-- A slot of which these bytes are left, with so many columns on the chip and this height: what is left of the walk gives what all of it gives.
pub record Left (W H : ℕ) (c : Corner) (slot : List ℕ) (columns : ℕ) (rest : List ℕ) (low : ℕ) : Type 0 where
  pub some : 0 < low
  pub same : low_along columns rest low ≡ low_along (W - c.x.0) slot (H - c.y.0 + 1)

decided : (W H : ℕ) (c : Corner) (slot : List ℕ) → length slot ≡ W
    → is_stair W H c (byte_at slot) ≡ ltb 0 (low_along (W - c.x.0) slot (H - c.y.0 + 1))
decided W H c slot e =
    subst (λ n. is_stair W H c (byte_at slot) ≡ ltb 0 (low_after (W - c.x.0) (byte_at slot) 0 n (H - c.y.0 + 1))) (sym e)
    (walk_decides W H c (byte_at slot))

pub all_left : {W H : ℕ} {c : Corner} {slot : List ℕ} → Left W H c slot (W - c.x.0) slot (H - c.y.0 + 1)
all_left = record { some = omega arith; same = refl }

module _ {W H : ℕ} {c : Corner} {slot : List ℕ} {columns : ℕ} {rest : List ℕ} {low : ℕ} (z : Left W H c slot columns rest low) where
  pub stair_walked : length slot ≡ W → length rest ≡ 0 → true ≡ is_stair W H c (byte_at slot)
  unfolding low_after
  stair_walked e q = rw (decided W H c slot e, ← z.same, q) (sym (lt-ltb 0 low z.some))

  module _ (part after : List ℕ) (cut : rest ≡ part ++ after) where
    along : low_along (columns - length part) after (low_along columns part low) ≡ low_along (W - c.x.0) slot (H - c.y.0 + 1)
    along = sym (both_along columns part after low) ∙ rw cut at z.same

    pub zeros_left : {now : ℕ} → now ≡ columns - length part → So (all (length part) (zero_at part)) → Left W H c slot now after low
    zeros_left e t = record { some = z.some; same = rw e (rw (zeros_along columns part low t) at along) }

    pub walk_left : {now next : ℕ} → now ≡ columns - length part → Some next ≡ low_left (low_along columns part low) → Left W H c slot now after next
    walk_left e s = let (p, q) = left_some _ s in record { some = p; same = rw (e, q) along }

    pub no_stair : length slot ≡ W → None ≡ low_left (low_along columns part low) → false ≡ is_stair W H c (byte_at slot)
    no_stair e s =
        let q = left_none _ s in
        rw (decided W H c slot e, ← along, q, after_fault (columns - length part) (byte_at after) 0 (length after))

-- bytes that are folded with `and` are tested one after the other
module _ (bytes : List ℕ) where
  abbrev pub and_zero : Bool → ℕ → Bool
  and_zero so byte = so && eqb byte 0

  zeros_of : (i : ℕ) → i ≤ length bytes → fold and_zero true (take i bytes) ≡ all i (zero_at bytes)
  zeros_of zero h = sym (all_none _)
  zeros_of (suc i) h =
      rw (← add-one i) (fold_more and_zero true bytes i 0 (omega arith) ∙ ap (λ z. z && zero_at bytes i) (zeros_of i (omega arith)) ∙ all_and i (zero_at bytes))

  pub zeros : fold and_zero true bytes ≡ all (length bytes) (zero_at bytes)
  zeros = rw (take-length bytes) at (zeros_of (length bytes) (omega arith))
