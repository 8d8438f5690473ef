-- What a rectangle holds, counted column by column: one column more adds what that column holds of its own kind, and a rectangle holds
-- of each kind its columns of that kind times what one of them holds. Assumes nothing.
use mathlib.Core.Path.{◌≡◌, sym, ◌∙◌}
use mathlib.Core.Bool.{Bool, true, false, So}
use Prim.Native.Nat.{ℕ, suc, ◌+◌, ◌-◌, ◌*◌, ◌≤◌}
use native.Mathlib.Omega.{arith}
use native.Mathlib.Nat.{zero-mul, add-mul, mul-le-mul}
use lib.Dec.{eqb}
use Rattle.rules.specs.declared.Need.{Need}
use Rattle.rules.specs.declared.Rectangle.{Rectangle}
use Rattle.rules.specs.declared.Chip.{Chip}
use Rattle.rules.specs.Search.{count}
use Rattle.rules.specs.Chip.{kind_at, OnChip, held_between, holds, left, right, bottom, top}
use Rattle.rules.specs.Design.{most_columns, most_rows, no_need, lawful_chip}
use Rattle.rules.proofs.Test.{only_if, blocks_between, blocks_of}
use Rattle.rules.proofs.Limits.{chip_limits}
use Rattle.rules.proofs.Blocks.{columns_of, columns_most, held_is}
use Rattle.holding.specs.Held.{EachUpTo, column_in, with_column}

-- what n columns from a on hold of each kind
abbrev pub held_in : Chip → Need → ℕ → ℕ → Need
held_in C column a n = record {
  clbs = columns_of C 0 a n * column.clbs;
  rams = columns_of C 1 a n * column.rams;
  multipliers = columns_of C 2 a n * column.multipliers;
}

-- the steps of the count
module _ (C : Chip) (column : Need) (a : ℕ) where
  pub none_held : no_need ≡ held_in C column a 0
  unfolding columns_of count
  none_held = simp zero-mul

  column_more : (k v n : ℕ) → columns_of C k a n * v + only_if (eqb (kind_at C (a + n)) k) v ≡ columns_of C k a (suc n) * v
  unfolding columns_of count
  column_more k v n = go (eqb (kind_at C (a + n)) k)
    where
      c : ℕ
      c = count n (λ i. eqb (kind_at C (a + i)) k)

      go : (t : Bool) → c * v + only_if t v ≡ elim t as (λ _. ℕ) [ true ↦ 1 + c | false ↦ c ] * v
      go true = rw add-mul (omega arith)
      go false = omega arith

  pub one_more_held : (held : Need) (n : ℕ) → held ≡ held_in C column a n
      → with_column held (kind_at C (a + n)) column ≡ held_in C column a (suc n)
  unfolding with_column
  one_more_held held n e =
      let each : (k v : ℕ) → _ = λ k v. column_more k v n in
      rw e (λ i. record { clbs = each 0 column.clbs i; rams = each 1 column.rams i; multipliers = each 2 column.multipliers i })

  pub few_held : (held : Need) (n : ℕ) → n ≤ most_columns → EachUpTo most_rows column → held ≡ held_in C column a n
      → EachUpTo (most_columns * most_rows) held
  few_held held n h f e = rw e (record { clbs = each 0 f.clbs; rams = each 1 f.rams; multipliers = each 2 f.multipliers })
    where
      each : (k : ℕ) {v : ℕ} → v ≤ most_rows → columns_of C k a n * v ≤ most_columns * most_rows
      each k l = let g : columns_of C k a n ≤ most_columns = omega (arith, columns_most C k a n) in mul-le-mul g l

-- a rectangle on the chip holds what its columns hold
module _ (C : Chip) (lawful : So (lawful_chip C)) (r : Rectangle) (on : OnChip C.width.0 C.height.0 r) where
  pub holds_columns : holds C r ≡ held_in C (column_in r.shape.h.0 (blocks_between C.block.0 (bottom r) (top r))) (left r) r.shape.w.0
  unfolding holds blocks_of
  holds_columns = let a = rw e at (each 0) in λ i. record { clbs = a i; rams = each 1 i; multipliers = each 2 i }
    where
      each : (k : ℕ) → held_between C k (left r) (bottom r) (right r) (top r)
          ≡ columns_of C k (left r) r.shape.w.0 * blocks_of k C.block.0 (bottom r) (top r)
      each k = held_is C k (left r) (bottom r) (top r) r.shape.w.0 (chip_limits C lawful).some_rows on.rows on.columns

      e : top r - bottom r ≡ r.shape.h.0
      e = omega arith

  pub all_held : (blocks n : ℕ) (held : Need) → blocks ≡ blocks_between C.block.0 (bottom r) (top r) → n ≡ r.shape.w.0
      → held ≡ held_in C (column_in r.shape.h.0 blocks) (left r) n → held ≡ holds C r
  all_held blocks n held e q h = h ∙ rw (q, e) (sym holds_columns)
