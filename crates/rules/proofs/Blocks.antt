-- What a rectangle of the chip holds of a kind: its columns of that kind times the blocks that stand whole in its rows, since each
-- column of a kind has its blocks at the same rows. Those blocks are numbers in a row, so division counts them. Assumes nothing.
use mathlib.Core.Path.{◌≡◌, refl, sym, ◌∙◌}
use mathlib.Core.Logic.{◌⊎◌, inl, inr}
use mathlib.Core.Bool.{Bool, ◌&&◌, So}
use Prim.Native.Nat.{ℕ, zero, suc, ◌+◌, ◌-◌, ◌*◌, ◌/◌, ◌≤◌, ◌<◌, min}
use native.Mathlib.Omega.{arith}
use native.Mathlib.Nat.{le_antisymm, add-mul, sub-zero, le-div_iff_mul-le, div-lt_iff_lt-mul, div-mul-le_self}
use native.Mathlib.Decide.{dec_le, dec_lt}
use lib.Dec.{leb, ltb, eqb}
use Rattle.rules.specs.declared.Chip.{Chip}
use Rattle.rules.specs.Search.{count, total}
use Rattle.rules.specs.Chip.{kind_at, Column, column_of, column, covers_block, held_between}
use Rattle.rules.proofs.Test.{blocks_between, blocks_of}
use Rattle.rules.proofs.Searching.{know, eqb_iff, test-iffs, count_yes, count_no, count_le, count_most, total_yes, total_no}

-- of the first n numbers, those from lo to before hi
count_range : (n lo hi : ℕ) → count n (λ j. leb lo j && ltb j hi) ≡ min n hi - lo
unfolding count
count_range zero lo hi = omega arith
count_range (suc n) lo hi = go (dec_le lo n) (dec_lt n hi) (count_range n lo hi)
  where
    f : ℕ → Bool
    f j = leb lo j && ltb j hi

    go : Dec (lo ≤ n) → Dec (n < hi) → count n f ≡ min n hi - lo → count (suc n) f ≡ min (suc n) hi - lo
    go (yes p) (yes q) e = let y = count_yes n f (simp test-iffs (p, q)) in omega arith
    go (yes p) (no q) e = let y = count_no n f (λ t. q (simp test-iffs at t).1) in omega arith
    go (no p) q e = let y = count_no n f (λ t. p (simp test-iffs at t).0) in omega arith

-- "It holds a block only if it covers all the block's rows": of the blocks that end at row `far` or below, those from the first that
-- begins at row `low` or above
blocks_by_division : (c : Column) (low far : ℕ) → 0 < c.high
    → count c.many (covers_block c low far) ≡ min c.many ((far - c.first) / c.high) - (low - c.first + (c.high - 1)) / c.high
unfolding covers_block
blocks_by_division c low far h =
    le_antisymm (count_le c.many _ _ there) (count_le c.many _ _ back)
    ∙ count_range c.many ((low - c.first + (c.high - 1)) / c.high) ((far - c.first) / c.high)
  where
    between : ℕ → Bool
    between j = leb ((low - c.first + (c.high - 1)) / c.high) j && ltb j ((far - c.first) / c.high)

    there : (j : ℕ) → So (covers_block c low far j) → So (between j)
    there j t =
        let (p, q) = simp test-iffs at t in
        let x : (low - c.first + (c.high - 1)) / c.high < suc j = (div-lt_iff_lt-mul h).1 (omega arith) in
        let y : suc j ≤ (far - c.first) / c.high = (le-div_iff_mul-le h).1 (omega arith) in simp test-iffs (omega arith, y)

    back : (j : ℕ) → So (between j) → So (covers_block c low far j)
    back j t =
        let (p, q) = simp test-iffs at t in
        let x : low - c.first + (c.high - 1) < suc j * c.high = (div-lt_iff_lt-mul h).0 (omega arith) in
        let y : suc j * c.high ≤ far - c.first = (le-div_iff_mul-le h).0 q in
        let z : 0 < suc j * c.high = omega arith in simp test-iffs (omega arith)

-- what a column of kind k holds between two rows of the chip
column_holds : (C : Chip) (k low far : ℕ) → 0 < C.block.0 → far ≤ C.height.0
    → count (column_of C k).many (covers_block (column_of C k) low far) ≡ blocks_of k C.block.0 low far
unfolding column_of blocks_of blocks_between
column_holds C zero low far h l = blocks_by_division (column_of C 0) low far (omega arith) ∙ omega arith
column_holds C (suc k) low far h l =
    let B = C.block.0 in
    let z : far / B ≤ C.height.0 / B = (le-div_iff_mul-le h).1 (omega (arith, div-mul-le_self far B)) in
    blocks_by_division (column_of C (suc k)) low far h ∙ rw (sub-zero far, sub-zero low) (omega arith)

column_kind : (C : Chip) (k : ℕ) → (column_of C k).kind ≡ k
unfolding column_of
column_kind C zero = refl
column_kind C (suc k) = refl

-- where a sum adds the same amount for each of the n numbers from a on that pass, it is their count times that amount
total_count : (p : ℕ → Bool) (u : ℕ → ℕ) (a n v : ℕ) → ((x : ℕ) → So (p x) → u x ≡ v)
    → (N : ℕ) → total N (λ x. leb a x && ltb x (a + n) && p x) u ≡ count (min (N - a) n) (λ i. p (a + i)) * v
unfolding total count
total_count p u a n v same zero = let e : min (0 - a) n ≡ 0 = omega arith in rw e (omega arith)
total_count p u a n v same (suc N) = go (know (f N)) (dec_le a N) (dec_lt N (a + n)) (total_count p u a n v same N)
  where
    f : ℕ → Bool
    f x = leb a x && ltb x (a + n) && p x

    q : ℕ → Bool
    q i = p (a + i)

    here : a ≤ N → N < a + n → total N f u ≡ count (min (N - a) n) q * v
        → (total N f u ≡ count (N - a) q * v) × (min (suc N - a) n ≡ suc (N - a)) × (q (N - a) ≡ p N)
    here h k ih =
        let e : min (N - a) n ≡ N - a = omega arith in let z : a + (N - a) ≡ N = omega arith in (rw e at ih, omega arith, rw z refl)

    go : So (f N) ⊎ (So (f N) → ⊥) → Dec (a ≤ N) → Dec (N < a + n) → total N f u ≡ count (min (N - a) n) q * v
        → total (suc N) f u ≡ count (min (suc N - a) n) q * v
    go (inl t) _ _ ih =
        let ((h, k), s) = simp test-iffs at t in let (l, e, z) = here h k ih in
        rw (e, count_yes (N - a) q (z ∙ s), add-mul) (omega (arith, total_yes N f u t, same N s))
    go (inr t) (yes h) (yes k) ih =
        let (l, e, z) = here h k ih in rw (e, count_no (N - a) q (λ s. t (simp test-iffs ((h, k), sym z ∙ s)))) (total_no N f u t ∙ l)
    go (inr t) (yes h) (no k) ih = let e : min (suc N - a) n ≡ min (N - a) n = omega arith in rw e (total_no N f u t ∙ ih)
    go (inr t) (no h) k ih = let e : min (suc N - a) n ≡ min (N - a) n = omega arith in rw e (total_no N f u t ∙ ih)

-- how many of the n columns from a on have kind k
unfoldable pub columns_of : Chip → ℕ → ℕ → ℕ → ℕ
columns_of C k a n = count n (λ i. eqb (kind_at C (a + i)) k)

pub columns_most : (C : Chip) (k a n : ℕ) → columns_of C k a n ≤ n
unfolding columns_of
columns_most C k a n = count_most n _

-- held = columns of the kind times blocks of the kind whole in the rows
pub held_is : (C : Chip) (k a c d n : ℕ) → 0 < C.block.0 → d ≤ C.height.0 → a + n ≤ C.width.0
    → held_between C k a c (a + n) d ≡ columns_of C k a n * blocks_of k C.block.0 c d
unfolding held_between columns_of column
held_is C k a c d n h l w =
    let e : min (C.width.0 - a) n ≡ n = omega arith in
    total_count (λ x. eqb (column C x).kind k) _ a n (blocks_of k C.block.0 c d)
    (λ x t. let z = simp (column_kind, eqb_iff) at t in rw z (column_holds C k c d h l)) C.width.0
    ∙ rw e (simp column_kind)
