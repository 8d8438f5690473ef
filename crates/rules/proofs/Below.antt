-- What stands beyond a bound is not looked at: a bounded test, search, sum, row of bytes, reading of tokens or count of
-- blocks hangs on the places below its bound alone. Each law is an induction on the bound. Assumes nothing.
use mathlib.Core.Path.{◌≡◌, refl, sym, ◌∙◌}
use mathlib.Core.Bool.{Bool, true, false, ◌&&◌}
use mathlib.Core.List.{List}
use Prim.Native.Nat.{ℕ, zero, suc, ◌+◌, ◌<◌}
use native.Mathlib.Omega.{arith}
use native.Mathlib.Decide.{ℕ_discrete}
use lib.Dec.{leb, ltb, eqb}
use lib.ListN.{length, get_or, set}
use lib.Seq.{get_or-set_same, get_or-set_other}
use Rattle.rules.specs.declared.Rectangle.{Rectangle}
use Rattle.rules.specs.declared.Token.{Token}
use Rattle.rules.specs.declared.Chip.{Chip}
use Rattle.rules.specs.Search.{all, least, count, total}
use Rattle.rules.specs.Chip.{column, covers_block, held_between, holds}
use Rattle.rules.specs.Tree.{Standing, refused, things, after, standing}
use Rattle.rules.specs.Bytes.{row_bytes}

-- two rows of things that are the same below n
abbrev pub Below : {A : Type 0} → ℕ → (ℕ → A) → (ℕ → A) → Type 0
Below n a b = (i : ℕ) → i < n → a i ≡ b i

fewer : {A : Type 0} {a b : ℕ → A} (n : ℕ) → Below (suc n) a b → Below n a b
fewer n e i h = e i (omega arith)

pub all_below : (n : ℕ) (f g : ℕ → Bool) → Below n f g → all n f ≡ all n g
unfolding all
all_below zero f g e = refl
all_below (suc n) f g e =
    let rest = all_below n f g (fewer n e) in
    λ i. elim (e n (omega arith) i) as (λ _. Bool) [ true ↦ rest i | false ↦ false ]

least_from : (f g : ℕ → Bool) (n i : ℕ) → Below (i + n) f g → least f n i ≡ least g n i
unfolding least
least_from f g zero i e = refl
least_from f g (suc n) i e =
    let rest = least_from f g n (suc i) (λ k h. e k (omega arith)) in
    λ j. elim (e i (omega arith) j) as (λ _. ℕ) [ true ↦ i | false ↦ rest j ]

pub least_below : (f g : ℕ → Bool) (n m : ℕ) → n ≡ m → Below n f g → least f n 0 ≡ least g m 0
least_below f g n m q e = least_from f g n 0 (λ k h. e k (omega arith)) ∙ rw q

total_below : (n : ℕ) (f g : ℕ → Bool) (u v : ℕ → ℕ) → Below n f g → Below n u v → total n f u ≡ total n g v
unfolding total
total_below zero f g u v e k = refl
total_below (suc n) f g u v e k =
    let rest = total_below n f g u v (fewer n e) (fewer n k) in
    λ i. elim (e n (omega arith) i) as (λ _. ℕ) [ true ↦ k n (omega arith) i + rest i | false ↦ rest i ]

pub row_below : {A : Type 0} (g : A → List ℕ) (a b : ℕ → A) (n : ℕ) → Below n a b → row_bytes g a n ≡ row_bytes g b n
unfolding row_bytes
row_below g a b zero e = refl
row_below g a b (suc n) e = rw (e n (omega arith), row_below g a b n (fewer n e))

pub standing_below : (m : ℕ) (a b : ℕ → Token) (n : ℕ) → Below n a b → standing m a n ≡ standing m b n
unfolding standing
standing_below m a b zero e = refl
standing_below m a b (suc n) e =
    let rest = standing_below m a b n (fewer n e) in
    λ i. elim (rest i) as (λ _. Standing) [ refused ↦ refused | things ts ↦ after m n (e n (omega arith) i) ts ]

-- with one place set alike, within both, two lists are the same below n where they were
pub set_below : {A : Type 0} (l l' : List A) (i : ℕ) (v z : A) (n : ℕ) → i < length l → i < length l'
    → Below n (λ j. get_or l j z) (λ j. get_or l' j z) → Below n (λ j. get_or (set l i v) j z) (λ j. get_or (set l' i v) j z)
set_below l l' i v z n h h' e j k = go (ℕ_discrete j i)
  where
    go : Dec (j ≡ i) → get_or (set l i v) j z ≡ get_or (set l' i v) j z
    go (yes q) = rw (q, get_or-set_same l i v z h, get_or-set_same l' i v z h')
    go (no q) = get_or-set_other l i j v z q ∙ e j k ∙ sym (get_or-set_other l' i j v z q)

-- what a rectangle holds hangs on the chip's own columns
module _ (C C' : Chip) (w : C.width.0 ≡ C'.width.0) (e : Below C.width.0 (column C) (column C')) where
  held_below : (k a c b d : ℕ) → held_between C k a c b d ≡ held_between C' k a c b d
  unfolding held_between
  held_below k a c b d =
      total_below C.width.0 (within C) (within C') (blocks C) (blocks C') (λ x h. rw (e x h)) (λ x h. rw (e x h))
      ∙ rw w
    where
      within : Chip → ℕ → Bool
      within C x = leb a x && ltb x b && eqb (column C x).kind k

      blocks : Chip → ℕ → ℕ
      blocks C x = count (column C x).many (covers_block (column C x) c d)

  pub holds_below : (r : Rectangle) → holds C r ≡ holds C' r
  unfolding holds
  holds_below r = simp held_below
