-- The first pair: of searches that each find a pair or none, the first that finds one is at the least place that passes, and so the
-- search over left shapes, each with its first right shape, finds the pair that the rules take. Assumes nothing.
use mathlib.Core.Path.{◌≡◌, refl, sym, ◌∙◌, subst}
use mathlib.Core.Bool.{Bool, true, false, ◌&&◌, So}
use mathlib.Core.List.{List}
use Prim.Native.Nat.{ℕ, zero, suc, ◌<◌}
use native.Mathlib.Omega.{arith}
use native.Mathlib.Decide.{ℕ_discrete}
use lib.Dec.{ltb}
use lib.ListN.{length}
use borrow.Author.Tests.{lt-ltb}
use Rattle.std.specs.Prelude.{Option, Some, None}
use Rattle.std.specs.Option.{option_or}
use Rattle.std.proofs.lemmas.Option.{none-some}
use Rattle.rules.specs.declared.Corner.{Corner}
use Rattle.rules.specs.declared.Shape.{Shape}
use Rattle.rules.specs.declared.Direction.{Direction}
use Rattle.rules.specs.declared.Direction.TheVariants.{Vertical, Horizontal}
use Rattle.rules.specs.Search.{any, least}
use Rattle.rules.specs.Slot.{CornerOn}
use Rattle.rules.specs.Choice as choice
use Rattle.rules.specs.Choice.{beside}
use Rattle.rules.proofs.Test.{meets, left_index, left_shape, right_index, right_shape, has_pair}
use Rattle.rules.proofs.Searching.{absurd_so, any_iff, least_is, least_found}
use Rattle.rules.proofs.Choosing.{takes}
use Rattle.slots.specs.declared.Board.{Board}
use Rattle.slots.specs.Lent.{OnBoard, Lent}
use Rattle.choosing.specs.declared.Pair.{Pair}
use Rattle.choosing.specs.Choose.{Storable, Near, IsSlot, byte_in, shape_at, taken_if, pair_of, pair_in, first_pair, IsFirst, makes_whole, pair_at, pair_with, pair_beside, pair_from}

-- what a search that stops at the first finds is the first; searches that find the same find the same first
none_first : (f : ℕ → Option Pair) (n : ℕ) → ((k : ℕ) → k < n → f k ≡ None) → first_pair f n ≡ None
unfolding first_pair
none_first f zero h = refl
none_first f (suc n) h = rw (none_first f n (λ k x. h k (omega arith)), h n (omega arith))

some_first : (f : ℕ → Option Pair) (n i : ℕ) (p : Pair) → i < n → f i ≡ Some p → ((k : ℕ) → k < i → f k ≡ None) → first_pair f n ≡ Some p
unfolding first_pair
some_first f zero i p x e h = absurd (omega arith)
some_first f (suc n) i p x e h = go (ℕ_discrete i n) (λ y. some_first f n i p y e h)
  where
    go : Dec (i ≡ n) → (i < n → first_pair f n ≡ Some p) → option_or (first_pair f n) (f n) ≡ Some p
    go (yes q) ih = rw (← q, none_first f i h, e)
    go (no q) ih = rw (ih (omega arith))

pub first_found : (f : ℕ → Option Pair) (n : ℕ) (r : Option Pair) → IsFirst f n r → r ≡ first_pair f n
first_found f n None h = sym (none_first f n h)
first_found f n (Some p) (i, x, e, h) = sym (some_first f n i p x e h)

same_first : (f g : ℕ → Option Pair) (n : ℕ) → ((j : ℕ) → j < n → f j ≡ g j) → first_pair f n ≡ first_pair g n
unfolding first_pair
same_first f g zero h = refl
same_first f g (suc n) h = rw (same_first f g n (λ j k. h j (omega arith)), h n (omega arith))

taken_none : (b : Bool) (s o : Shape) → (So b → ⊥) → taken_if b s o ≡ None
taken_none true s o h = absurd (h refl)
taken_none false s o h = refl

module _ (f : ℕ → Option Pair) (t : ℕ → Bool) (s o : ℕ → Shape) (is : (j : ℕ) → f j ≡ taken_if (t j) (s j) (o j)) where
  none_found : (j : ℕ) → (So (t j) → ⊥) → f j ≡ None
  none_found j h = is j ∙ taken_none (t j) (s j) (o j) h

  -- the first that finds one is the least that passes
  first_is : (n : ℕ) → first_pair f n ≡ taken_if (any n t) (s (least t n 0)) (o (least t n 0))
  first_is n = go (any n t) refl
    where
      go : (b : Bool) → any n t ≡ b → first_pair f n ≡ taken_if b (s (least t n 0)) (o (least t n 0))
      go true e =
          let (h, p) = least_found t n e in
          some_first f n (least t n 0) _ h (rw (is (least t n 0), p))
          (λ j k. none_found j (λ q. let l = (least_is t n 0).least j (omega arith) (omega arith) q in absurd (omega arith)))
      go false e = none_first f n (λ j h. none_found j (λ p. absurd_so (sym e ∙ (any_iff n t).1 (j, h, p))))

-- no left shape, or no corner of the chip beside it; and else the first pair with the slot there
module _ (W H : ℕ) (d : Direction) (R : Corner → ℕ → ℕ) (c : Corner) (whole s : Shape) where
  pub no_pair : (So (ltb 0 s.h.0 && ltb (beside d c s).x.0 W && ltb (beside d c s).y.0 H) → ⊥) → None ≡ pair_with W H d R c whole s
  unfolding pair_with
  no_pair h = go (ltb 0 s.h.0 && ltb (beside d c s).x.0 W && ltb (beside d c s).y.0 H) h
    where
      go : (b : Bool) → (So b → ⊥) → None ≡ elim b as (λ _. Option Pair) [ true ↦ first_pair (pair_at d s whole (R (beside d c s))) W | false ↦ None ]
      go true h = absurd (h refl)
      go false h = refl

  pair_beside_lem : {b : Corner} → b ≡ beside d c s → 0 < s.h.0 → CornerOn W H b → first_pair (pair_at d s whole (R b)) W ≡ pair_with W H d R c whole s
  unfolding pair_with
  pair_beside_lem e p on =
      let o : CornerOn W H (beside d c s) = rw e at on in rw (e, pair_with, lt-ltb 0 s.h.0 p, lt-ltb _ W o.column, lt-ltb _ H o.row)

pub pair_there : (board : Board) (d : Direction) (R : Corner → ℕ → ℕ) (c : Corner) (whole s : Shape) {b : Corner} {slot : List ℕ} {r : Option Pair}
    → b ≡ beside d c s → 0 < s.h.0 → OnBoard board b → IsSlot board.width.0 (R b) slot → IsFirst (pair_at d s whole (byte_in slot)) (length slot) r
    → r ≡ pair_beside board d R c whole s
unfolding pair_at
pair_there board d R c whole s e p on is q =
    first_found _ _ _ q ∙ rw is.long (same_first _ _ board.width.0 (λ j h. rw (is.same j h)))
    ∙ pair_beside_lem board.width.0 board.height.0 d R c whole s e p on

module _ (W H : ℕ) (d : Direction) (L R : Corner → ℕ → ℕ) (c : Corner) (whole : Shape) where
  left_of : ℕ → Shape
  left_of i = shape_at (L c) i

  right_of : ℕ → ℕ → Shape
  right_of i j = shape_at (R (beside d c (shape_at (L c) i))) j

  -- the first right shape that makes the whole with a left one
  from_is : (i : ℕ)
      → pair_from W H d L R c whole i ≡ taken_if (any W (meets W H d L R c whole i)) (left_of i) (right_of i (least (meets W H d L R c whole i) W 0))
  unfolding pair_from pair_with pair_at meets makes_whole left_of right_of
  from_is i = go (ltb 0 s.h.0 && ltb b.x.0 W && ltb b.y.0 H) refl
    where
      s : Shape
      s = shape_at (L c) i

      b : Corner
      b = beside d c s

      test : ℕ → Bool
      test = meets W H d L R c whole i

      go : (on : Bool) → ltb 0 s.h.0 && ltb b.x.0 W && ltb b.y.0 H ≡ on
          → elim on as (λ _. Option Pair) [ true ↦ first_pair (pair_at d s whole (R b)) W | false ↦ None ] ≡ taken_if (any W test) s (shape_at (R b) (least test W 0))
      go true e = first_is (pair_at d s whole (R b)) test (λ _. s) (shape_at (R b)) (λ j. rw e) W
      go false e = none (any W test) refl
        where
          none : (t : Bool) → any W test ≡ t → None ≡ taken_if t s (shape_at (R b) (least test W 0))
          none true a = let (j, h, p) = (any_iff W test).0 a in absurd_so (rw e at p)
          none false a = refl

  -- and so the search finds the pair to take
  pub pair_is : first_pair (pair_from W H d L R c whole) W ≡ pair_of W H d L R c whole
  unfolding pair_of has_pair left_index right_index left_of right_of
  pair_is =
      first_is (pair_from W H d L R c whole) (λ i. any W (meets W H d L R c whole i)) left_of (λ i. right_of i (least (meets W H d L R c whole i) W 0)) from_is W

-- what is found is what the rules take
pub pair_taken : (W H : ℕ) (d : Direction) (L R : Corner → ℕ → ℕ) (c : Corner) (whole : Shape) (p : Pair) → pair_of W H d L R c whole ≡ Some p
    → choice.Taken W H d L R c whole p.left p.right
unfolding pair_of
pair_taken W H d L R c whole p e = go (has_pair W H d L R c whole) refl e
  where
    go : (b : Bool) → has_pair W H d L R c whole ≡ b → taken_if b (left_shape W H d L R c whole) (right_shape W H d L R c whole) ≡ Some p
        → choice.Taken W H d L R c whole p.left p.right
    go true t e =
        let q : ◌≡◌ {A = Pair} (record { left = left_shape W H d L R c whole; right = right_shape W H d L R c whole }) p = cc in
        subst (λ (v : Pair). choice.Taken W H d L R c whole v.left v.right) q (takes W H d L R c whole t)
    go false t e = absurd (none-some _ e)

-- the corner beside a stored shape is not far off the chip; beside the left shape of a pair that is taken it is on it
pub near_beside : {board : Board} {n : ℕ} {work : List ℕ} {c : Corner} {s : Shape} (d : Direction) → Lent board n work → OnBoard board c → Storable s
    → Near (beside d c s)
near_beside Vertical r on z = let x = on.column in let y = on.row in record { column = omega arith; row = omega arith }
near_beside Horizontal r on z = let x = on.column in let y = on.row in record { column = omega arith; row = omega arith }

pub taken_near : {board : Board} {n : ℕ} {work : List ℕ} (slots : ℕ → Corner → ℕ → ℕ) (d : Direction) (l r : ℕ) (c : Corner) (whole : Shape) {p : Pair}
    → Lent board n work → pair_in board slots d l r c whole ≡ Some p → Near (beside d c p.left)
taken_near {board} slots d l r c whole z q =
    let on = (pair_taken board.width.0 board.height.0 d (slots l) (slots r) c whole _ q).pair.corner in
    let x = on.column in let y = on.row in record { column = omega arith; row = omega arith }

-- the search over the left list
pub pairs_from : (board : Board) (d : Direction) (L R : Corner → ℕ → ℕ) (c : Corner) (whole : Shape) {slot : List ℕ} {r : Option Pair}
    → IsSlot board.width.0 (L c) slot → IsFirst (λ i. pair_beside board d R c whole (shape_at (byte_in slot) i)) (length slot) r
    → r ≡ pair_of board.width.0 board.height.0 d L R c whole
unfolding pair_from
pairs_from board d L R c whole is q =
    first_found _ _ _ q ∙ rw is.long (same_first _ _ board.width.0 (λ i h. rw (is.same i h))) ∙ pair_is _ _ _ _ _ _ _
