-- The walk along the stair. Each step of it is a law of its definition, over any test of the rooms at a corner. Where the test rises there,
-- the walk leaves each width one row below the least height that passes; so its bytes are the list's. Assumes nothing.
use mathlib.Core.Path.{◌≡◌, refl, sym, ◌∙◌}
use mathlib.Core.Logic.{◌⊎◌, inl, inr}
use mathlib.Core.Bool.{Bool, true, false, ◌&&◌, So}
use Prim.Native.Nat.{ℕ, zero, suc, ◌+◌, ◌-◌, ◌≤◌, ◌<◌}
use native.Mathlib.Omega.{arith}
use native.Mathlib.Nat.{le_refl, le_antisymm}
use native.Mathlib.Decide.{dec_le, dec_lt, ℕ_discrete}
use lib.Dec.{ltb}
use borrow.Author.Tests.{lt-ltb, le-ltb}
use Rattle.rules.specs.declared.Corner.{Corner}
use Rattle.rules.specs.declared.Rectangle.{Rectangle}
use Rattle.rules.specs.Tree.{leaf}
use Rattle.rules.specs.Shape.{ShapeAt}
use Rattle.rules.specs.Slot.{CornerOn, IsListOf}
use Rattle.rules.specs.Walk.{stepped_down, rows_after, walked}
use Rattle.rules.proofs.Test.{Test, fits, lowest, list_byte, only_if}
use Rattle.rules.proofs.Searching.{absurd_so}
use Rattle.rules.proofs.Rooms.{Rising, rising}
use Rattle.rules.proofs.Fitting.{Decides}
use Rattle.rules.proofs.Listing.{lowest_passes, lowest_from, lowest_least, list_bytes, same_list}

-- only the heights from h down are asked for
pub down_same : (f g : ℕ → Bool) (h : ℕ) → ((i : ℕ) → 1 ≤ i → i ≤ h → f i ≡ g i) → stepped_down f h ≡ stepped_down g h
unfolding stepped_down
down_same f g zero e = refl
down_same f g (suc h) e =
    let here = e (suc h) (omega arith) (le_refl (suc h)) in let below = down_same f g h (λ i p q. e i p (omega arith)) in
    λ i. elim (here i) as (λ _. ℕ) [ true ↦ below i | false ↦ suc h ]

-- where stepping down stops: all above suited, and what it stops at does not
record Stops (f : ℕ → Bool) (h r : ℕ) : Type 0 where
  under : r ≤ h
  passed : r < h → So (f (suc r))
  failed : 1 ≤ r → So (f r) → ⊥

stops : (f : ℕ → Bool) (h : ℕ) → Stops f h (stepped_down f h)
unfolding stepped_down
stops f zero = record { under = le_refl 0; passed = λ p. absurd (omega arith); failed = λ p. absurd (omega arith) }
stops f (suc h) = go (f (suc h)) refl (stops f h)
  where
    go : (b : Bool) → f (suc h) ≡ b → Stops f h (stepped_down f h) → Stops f (suc h) (elim b [ true ↦ stepped_down f h | false ↦ suc h ])
    go true e s = record { under = omega (arith, s.under); passed = λ p. last (dec_lt (stepped_down f h) h); failed = s.failed }
      where
        last : Dec (stepped_down f h < h) → So (f (suc (stepped_down f h)))
        last (yes p) = s.passed p
        last (no p) = let q = s.under in let z : stepped_down f h ≡ h = omega arith in rw z e
    go false e s = record { under = le_refl (suc h); passed = λ p. absurd (omega arith); failed = λ p t. absurd_so (sym e ∙ t) }

module _ (suits : ℕ → ℕ → Bool) (columns rows : ℕ) where
  -- no step goes up
  pub rows_fall : (j i : ℕ) → j ≤ i → rows_after suits rows i ≤ rows_after suits rows j
  unfolding rows_after
  rows_fall j zero k = let e : j ≡ 0 = omega arith in rw e (le_refl rows)
  rows_fall j (suc i) k = go (dec_le j i) (rows_fall j i)
    where
      go : Dec (j ≤ i) → (j ≤ i → rows_after suits rows i ≤ rows_after suits rows j) → rows_after suits rows (suc i) ≤ rows_after suits rows j
      go (yes l) ih = omega (arith, ih l, (stops (suits (suc i)) (rows_after suits rows i)).under)
      go (no l) ih = let e : j ≡ suc i = omega arith in rw e (le_refl (rows_after suits rows (suc i)))

  -- the byte of a width, and none where the columns, or the rows, are used up
  byte_is : (j : ℕ) → j < columns
      → only_if (ltb (rows_after suits rows (suc j)) (rows_after suits rows j)) (suc (rows_after suits rows (suc j))) ≡ walked suits columns rows j
  unfolding walked
  byte_is j k = rw (lt-ltb j columns k, walked)

  no_column : (j : ℕ) → columns ≤ j → walked suits columns rows j ≡ 0
  unfolding walked
  no_column j k = rw (le-ltb j columns k, walked)

  no_row : (j i : ℕ) → j ≤ i → rows_after suits rows j ≡ 0 → walked suits columns rows i ≡ 0
  unfolding walked
  no_row j i k e = go (ltb i columns)
    where
      none : ltb (rows_after suits rows (suc i)) (rows_after suits rows i) ≡ false
      none = le-ltb (rows_after suits rows (suc i)) (rows_after suits rows i) (omega (arith, rows_fall j i k))

      go : (b : Bool) → only_if (b && ltb (rows_after suits rows (suc i)) (rows_after suits rows i)) (suc (rows_after suits rows (suc i))) ≡ 0
      go true = rw none
      go false = refl

-- The walk width by width: the first j are walked, and these are the W bytes of the slot so far.
pub record WalkedTo (suits : ℕ → ℕ → Bool) (columns rows W j : ℕ) (bytes : ℕ → ℕ) : Type 0 where
  pub done : (i : ℕ) → i < j → bytes i ≡ walked suits columns rows i
  pub ahead : (i : ℕ) → j ≤ i → i < W → bytes i ≡ 0

module _ {suits : ℕ → ℕ → Bool} {columns rows W : ℕ} where
  pub walk_begins : {bytes : ℕ → ℕ} → ((i : ℕ) → i < W → bytes i ≡ 0) → WalkedTo suits columns rows W 0 bytes
  walk_begins e = record { done = λ i k. absurd (omega arith); ahead = λ i k l. e i l }

  module _ {j : ℕ} {bytes : ℕ → ℕ} (z : WalkedTo suits columns rows W j bytes) where
    -- one width more: its byte is the last height that suited, and the others stay
    pub walk_width : {next : ℕ → ℕ} → j < columns → columns ≤ W
        → next j ≡ only_if (ltb (rows_after suits rows (suc j)) (rows_after suits rows j)) (suc (rows_after suits rows (suc j)))
        → ((i : ℕ) → (i ≡ j → ⊥) → i < W → next i ≡ bytes i) → WalkedTo suits columns rows W (suc j) next
    walk_width {next} k w here same = record {
      done = λ i l. go i l (ℕ_discrete i j);
      ahead = λ i l m. same i (λ e. omega arith) m ∙ z.ahead i (omega arith) m;
    }
      where
        go : (i : ℕ) → i < suc j → Dec (i ≡ j) → next i ≡ walked suits columns rows i
        go i l (yes e) = rw e (here ∙ byte_is suits columns rows j k)
        go i l (no e) = same i e (omega arith) ∙ z.done i (omega arith)

    -- the rest are 0 where the columns, or the rows, are used up
    rest : ((i : ℕ) → j ≤ i → walked suits columns rows i ≡ 0) → (i : ℕ) → i < W → bytes i ≡ walked suits columns rows i
    rest none i l = go (dec_lt i j)
      where
        go : Dec (i < j) → bytes i ≡ walked suits columns rows i
        go (yes k) = z.done i k
        go (no k) = z.ahead i (omega arith) l ∙ sym (none i (omega arith))

    pub columns_used : columns ≤ j → (i : ℕ) → i < W → bytes i ≡ walked suits columns rows i
    columns_used k = rest (λ i l. no_column suits columns rows i (omega arith))

    pub rows_used : rows_after suits rows j ≡ 0 → (i : ℕ) → i < W → bytes i ≡ walked suits columns rows i
    rows_used e = rest (λ i l. no_row suits columns rows j i l e)

-- the test of the rooms at a corner, by their columns and rows
abbrev pub rooms_at : Test → ℕ → ℕ → ℕ → ℕ → Bool
rooms_at F a c w h = F a c (a + w) (c + h)

-- Where the test rises at the corner, a wider or higher room on the chip passing if this one does and none off the chip, the walk's bytes are
-- the list's.
module _ {W H : ℕ} {F : Test} {a c : ℕ} (G : Rising W H F a c) (on : c ≤ H) where
  -- nothing is narrower than one column, or reaches beyond the chip
  none_passes : (b : ℕ) → (b ≤ a) ⊎ (W < b) → lowest H F a c b ≡ suc H
  none_passes b o = go o (dec_le (lowest H F a c b) H)
    where
      go : (b ≤ a) ⊎ (W < b) → Dec (lowest H F a c b ≤ H) → lowest H F a c b ≡ suc H
      go _ (no k) = omega (arith, lowest_from G b)
      go (inl u) (yes k) = let s = G.solid b (lowest H F a c b) (lowest_passes G b k) in absurd (omega arith)
      go (inr u) (yes k) = let s = G.solid b (lowest H F a c b) (lowest_passes G b k) in absurd (omega arith)

  -- Stepping down at one column more stops one row below the least top side there, if it begins one row below that of the width before: all
  -- that it passes suits, or suited before; and where it stops nothing lower suits, since the test rises.
  stops_below : (w h : ℕ) → a + suc w ≤ W → c + suc h ≡ lowest H F a c (a + w)
      → c + suc (stepped_down (rooms_at F a c (suc w)) h) ≡ lowest H F a c (a + suc w)
  stops_below w h k below =
      le_antisymm (no_lower (dec_le (c + suc r) (lowest H F a c (a + suc w)))) (no_higher (dec_lt r h) (dec_le (lowest H F a c (a + w)) H))
    where
      r : ℕ
      r = stepped_down (rooms_at F a c (suc w)) h

      s : Stops (rooms_at F a c (suc w)) h (stepped_down (rooms_at F a c (suc w)) h)
      s = stops (rooms_at F a c (suc w)) h

      no_higher : Dec (r < h) → Dec (lowest H F a c (a + w) ≤ H) → lowest H F a c (a + suc w) ≤ c + suc r
      no_higher (yes p) _ = lowest_least G (a + suc w) (c + suc r) (s.passed p)
      no_higher (no p) (yes q) =
          let u = s.under in let e : c + suc r ≡ lowest H F a c (a + w) = omega arith in
          lowest_least G (a + suc w) (c + suc r)
          (rw e (G.rise (a + w) _ (a + suc w) _ (lowest_passes G (a + w) q) (omega arith) (le_refl _) k q))
      no_higher (no p) (no q) = omega (arith, s.under, lowest_from G (a + suc w))

      no_lower : Dec (c + suc r ≤ lowest H F a c (a + suc w)) → c + suc r ≤ lowest H F a c (a + suc w)
      no_lower (yes p) = p
      no_lower (no p) =
          let u = s.under in let v = lowest_from G (a + w) in let i = lowest_passes G (a + suc w) (omega arith) in
          let z = G.solid (a + suc w) (lowest H F a c (a + suc w)) i in
          absurd (s.failed (omega arith) (G.rise (a + suc w) _ (a + suc w) (c + r) i (le_refl _) (omega arith) k (omega arith)))

  -- so the walk leaves each width one row below the least top side that passes there
  leaves_below : (w : ℕ) → a + w ≤ W → c + suc (rows_after (rooms_at F a c) (H - c) w) ≡ lowest H F a c (a + w)
  unfolding rows_after
  leaves_below zero k = let e = none_passes (a + 0) (inl (omega arith)) in omega arith
  leaves_below (suc w) k = stops_below w (rows_after (rooms_at F a c) (H - c) w) k (leaves_below w (omega arith))

  -- the same byte, by heights from the corner and by top sides
  same_byte : (h t h' t' : ℕ) → c + suc h ≡ t → c + suc h' ≡ t' → only_if (ltb h h') (suc h) ≡ only_if (ltb t t') (t - c)
  same_byte h t h' t' e e' = go (dec_lt h h')
    where
      go : Dec (h < h') → only_if (ltb h h') (suc h) ≡ only_if (ltb t t') (t - c)
      go (yes k) = simp (lt-ltb h h' k, lt-ltb t t' (omega arith)) (omega arith)
      go (no k) = simp (le-ltb h h' (omega arith), le-ltb t t' (omega arith))

  pub walk_lists : (j : ℕ) → walked (rooms_at F a c) (W - a) (H - c) j ≡ list_byte H F a c j
  unfolding walked list_byte
  walk_lists j = go (dec_lt j (W - a))
    where
      go : Dec (j < W - a) → walked (rooms_at F a c) (W - a) (H - c) j ≡ list_byte H F a c j
      go (yes k) =
          rw (lt-ltb j (W - a) k, walked)
          (same_byte _ _ _ _ (leaves_below (suc j) (omega arith)) (leaves_below j (omega arith)))
      go (no k) =
          let e = none_passes (a + suc j) (inr (omega arith)) in
          no_column (rooms_at F a c) (W - a) (H - c) j (omega arith)
          ∙ rw (le-ltb (lowest H F a c (a + suc j)) (lowest H F a c (a + j)) (omega (arith, lowest_from G (a + j))), list_byte)

-- so of a leaf it is the list, in the words of rule 10
pub walk_is_the_list : {W H : ℕ} {S : ℕ → Rectangle → Type 0} {F : ℕ → Test} → Decides W H S F → (t k : ℕ) (c : Corner) → CornerOn W H c
    → IsListOf W (walked (rooms_at (F k) c.x.0 c.y.0) (W - c.x.0) (H - c.y.0)) (ShapeAt W H S (leaf t k) c)
unfolding fits
walk_is_the_list {W} {H} {F = F} dec t k c on =
    same_list W _ _ (λ j h. sym (walk_lists (rising (dec.growing k) c.x.0 c.y.0) (omega (arith, on.row)) j)) (λ s. (λ x. x, λ x. x))
    (list_bytes dec (leaf t k) c)
