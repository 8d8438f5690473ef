-- The stair test says what 01 says of a stair: each part of it is a bounded search. And what is undominated at a corner is a stair. Assumes nothing.
use mathlib.Core.Path.{◌≡◌}
use mathlib.Core.Logic.{◌⊎◌, inl, inr, ⊎_elim, ◌↔◌}
use mathlib.Core.Bool.{So, ◌||◌}
use Prim.Native.Nat.{ℕ, suc, ◌+◌, ◌-◌, ◌≤◌, ◌<◌}
use native.Mathlib.Omega.{arith}
use native.Mathlib.Decide.{dec_le, dec_lt}
use lib.Dec.{leb, ltb, eqb}
use Rattle.rules.specs.declared.Corner.{Corner}
use Rattle.rules.specs.declared.Shape.{Shape}
use Rattle.rules.specs.Chip.{corner, shape}
use Rattle.rules.specs.Slot.{Stores, Stair, Stairs}
use Rattle.rules.proofs.Test.{Test, is_stair, are_stairs}
use Rattle.rules.proofs.Searching.{and_iff, or_iff, all_iff, leb_iff, ltb_iff, eqb_iff, know}
use Rattle.rules.proofs.Rooms.{Passes, Rising, Minimal}
use Rattle.rules.proofs.Choosing.{byte_stores}

module _ (W H : ℕ) (c : Corner) (g : ℕ → ℕ) where
  -- what the test asks of byte j
  abbrev Step : ℕ → Type 0
  Step j = ((g j ≤ H - c.y.0) × (So (leb (suc j) (W - c.x.0)) ⊎ So (eqb (g j) 0)))
      × ((i : ℕ) → i < j → So (eqb (g i) 0) ⊎ So (eqb (g j) 0 || ltb (g j) (g i)))

  steps_stair : ((j : ℕ) → j < W → Step j) → Stair W H c g
  steps_stair f = record {
    fall = λ i j h k p q. ⊎_elim (λ z. let e = (eqb_iff (g i) 0).0 z in absurd (omega arith)) (λ z. lower i j p q ((or_iff (eqb (g j) 0) (ltb (g j) (g i))).0 z)) ((f j k).1 i h);
    rows = λ j h. (f j h).0.0;
    columns = λ j h k. ⊎_elim (λ z. let e = (leb_iff (suc j) (W - c.x.0)).0 z in absurd (omega arith)) (eqb_iff (g j) 0).0 (f j h).0.1;
  }
    where
      lower : (i j : ℕ) → 1 ≤ g i → 1 ≤ g j → So (eqb (g j) 0) ⊎ So (ltb (g j) (g i)) → g j < g i
      lower i j p q (inl z) = let e = (eqb_iff (g j) 0).0 z in absurd (omega arith)
      lower i j p q (inr z) = (ltb_iff (g j) (g i)).0 z

  stair_steps : Stair W H c g → (j : ℕ) → j < W → Step j
  stair_steps s j h = ((s.rows j h, wide (dec_le (suc j) (W - c.x.0))), λ i k. falls i k (dec_lt 0 (g i)) (dec_lt 0 (g j)))
    where
      wide : Dec (suc j ≤ W - c.x.0) → So (leb (suc j) (W - c.x.0)) ⊎ So (eqb (g j) 0)
      wide (yes k) = inl ((leb_iff (suc j) (W - c.x.0)).1 k)
      wide (no k) = inr ((eqb_iff (g j) 0).1 (s.columns j h (omega arith)))

      falls : (i : ℕ) → i < j → Dec (0 < g i) → Dec (0 < g j) → So (eqb (g i) 0) ⊎ So (eqb (g j) 0 || ltb (g j) (g i))
      falls i k (no p) q = inl ((eqb_iff (g i) 0).1 (omega arith))
      falls i k (yes p) (no q) = inr ((or_iff (eqb (g j) 0) (ltb (g j) (g i))).1 (inl ((eqb_iff (g j) 0).1 (omega arith))))
      falls i k (yes p) (yes q) = inr ((or_iff (eqb (g j) 0) (ltb (g j) (g i))).1 (inr ((ltb_iff (g j) (g i)).1 (s.fall i j k h p q))))

  pub stair_iff : So (is_stair W H c g) ↔ Stair W H c g
  unfolding is_stair
  stair_iff = (λ t. steps_stair (simp (all_iff, and_iff, or_iff, leb_iff) at t), λ s. simp (all_iff, and_iff, or_iff, leb_iff) (stair_steps s))

pub stairs_iff : (W H R n : ℕ) (slots : ℕ → Corner → ℕ → ℕ) → So (are_stairs W H R n slots) ↔ Stairs W H R n slots
unfolding are_stairs
stairs_iff W H R n slots = (
  λ t k c h on. simp (all_iff, stair_iff) at t k h c.y.0 on.row c.x.0 on.column,
  λ f. simp (all_iff, stair_iff) (λ t h y k x l. f t (corner x y) h (record { column = l; row = k })),
)

-- all slots are stairs, or not
pub stairs_or_not : (W H R n : ℕ) (slots : ℕ → Corner → ℕ → ℕ) → Stairs W H R n slots ⊎ (Stairs W H R n slots → ⊥)
stairs_or_not W H R n slots =
    let e = stairs_iff W H R n slots in ⊎_elim (λ t. inl (e.0 t)) (λ f. inr (λ s. f (e.1 s))) (know (are_stairs W H R n slots))

-- A slot that holds the undominated rooms of a test at its corner is a stair: of two the wider is the lower, and none reaches off the chip.
pub minimal_stair : {W H : ℕ} {F : Test} (c : Corner) (g : ℕ → ℕ) → Rising W H F c.x.0 c.y.0
    → ((s : Shape) → Stores W g s ↔ Minimal (Passes F) c.x.0 c.y.0 (c.x.0 + s.w.0) (c.y.0 + s.h.0)) → Stair W H c g
minimal_stair {W} {H} {F} c g G lists = record {
  fall = λ i j h k p q. fall i j h k p q (dec_lt (g j) (g i));
  rows = λ j h. low j h (dec_lt 0 (g j));
  columns = λ j h k. narrow j h k (dec_lt 0 (g j));
}
  where
    room : (j : ℕ) → j < W → 0 < g j → Minimal (Passes F) c.x.0 c.y.0 (c.x.0 + suc j) (c.y.0 + g j)
    room j h p = (lists (shape (suc j) (g j))).0 (byte_stores W g j h p)

    fall : (i j : ℕ) → i < j → j < W → 1 ≤ g i → 1 ≤ g j → Dec (g j < g i) → g j < g i
    fall i j h k p q (yes l) = l
    fall i j h k p q (no l) = absurd (omega (arith, (room j k q).least _ _ (room i (omega arith) p).is (omega arith) (omega arith)))

    low : (j : ℕ) → j < W → Dec (0 < g j) → g j ≤ H - c.y.0
    low j h (yes p) = omega (arith, G.solid _ _ (room j h p).is)
    low j h (no p) = omega arith

    narrow : (j : ℕ) → j < W → W - c.x.0 < suc j → Dec (0 < g j) → g j ≡ 0
    narrow j h k (yes p) = absurd (omega (arith, G.solid _ _ (room j h p).is))
    narrow j h k (no p) = omega arith
