-- A node's corners row by row: a corner more is a corner more of its row, a row more is a row more of those that have slots. Assumes nothing.
use mathlib.Core.Path.{◌≡◌, refl, sym}
use mathlib.Core.Logic.{◌⊎◌, inl, inr}
use mathlib.Core.Bool.{So}
use mathlib.Core.List.{List}
use Prim.Native.Nat.{ℕ, ◌+◌, ◌<◌}
use native.Mathlib.Omega.{arith}
use native.Mathlib.Decide.{dec_lt}
use Rattle.rules.specs.declared.Corner.{Corner}
use Rattle.rules.specs.Chip.{corner}
use Rattle.rules.specs.Slot.{CornerOn}
use Rattle.rules.proofs.Searching.{test-iffs}
use Rattle.slots.specs.Written.{SlotIs, PartIs, NodeIs}
use Rattle.slots.specs.Lent.{in_row, below}
use Rattle.slots.proofs.Writing.{SameCorner, one_done, both_done, all_done}

module _ {W R t : ℕ} {f : Corner → ℕ → ℕ} where
  pub none_in_row : (y : ℕ) (before : List ℕ) → PartIs W R t f (in_row y 0) before before
  none_in_row y before = record {
    long = refl;
    inside = λ c on s. let (_, h) = simp test-iffs at s in absurd (omega arith);
    outside = λ i h. refl;
  }

  pub one_in_row : (x y : ℕ) (before mid after : List ℕ) → x < W → y < R → PartIs W R t f (in_row y x) before mid → SlotIs W R t (corner x y) (f (corner x y)) mid after
      → PartIs W R t f (in_row y (x + 1)) before after
  one_in_row x y before mid after hx hy p z =
      one_done W R t f (in_row y x) (in_row y (x + 1)) before mid after (corner x y) (record { column = hx; row = hy })
      (λ c on s. let (e, h) = simp test-iffs at s in go c e h (dec_lt c.x.0 x))
      (λ c on s. let (e, h) = simp test-iffs at s in simp test-iffs (e, omega arith)) (simp test-iffs (refl, omega arith)) p z
    where
      go : (c : Corner) → c.y.0 ≡ y → c.x.0 < x + 1 → Dec (c.x.0 < x) → So (in_row y x c) ⊎ SameCorner (corner x y) c
      go c e h (yes k) = inl (simp test-iffs (e, k))
      go c e h (no k) = inr (record { column = omega arith; row = sym e })

  pub none_below : (before : List ℕ) → PartIs W R t f (below 0) before before
  none_below before = record { long = refl; inside = λ c on s. let h = simp test-iffs at s in absurd (omega arith); outside = λ i h. refl }

  pub one_row_more : (y : ℕ) (before mid after : List ℕ) → PartIs W R t f (below y) before mid → PartIs W R t f (in_row y W) mid after → PartIs W R t f (below (y + 1)) before after
  one_row_more y before mid after p q =
      both_done W R t f (below y) (in_row y W) (below (y + 1)) before mid after
      (λ c on s. let h = simp test-iffs at s in go c on h (dec_lt c.y.0 y))
      (λ c on s. let h = simp test-iffs at s in simp test-iffs (omega arith))
      (λ c on s. let (e, h) = simp test-iffs at s in simp test-iffs (omega arith)) p q
    where
      go : (c : Corner) → CornerOn W R c → c.y.0 < y + 1 → Dec (c.y.0 < y) → So (below y c) ⊎ So (in_row y W c)
      go c on h (yes k) = inl (simp test-iffs k)
      go c on h (no k) = inr (simp test-iffs (omega arith, on.column))

  pub all_rows : (before after : List ℕ) → PartIs W R t f (below R) before after → NodeIs W R t f before after
  all_rows before after p = all_done W R t f (below R) before after (λ c on. simp test-iffs on.row) p
