-- A larger rectangle on the chip suits if a part of it does, since it covers every block that the part covers; and the test of a
-- room decides what 01 says of a rectangle. So a design's leaves obey what the laws ask of them. Assumes nothing.
use mathlib.Core.Path.{◌≡◌}
use mathlib.Core.Logic.{◌↔◌}
use mathlib.Core.Bool.{So}
use Prim.Native.Nat.{ℕ, ◌≤◌}
use native.Mathlib.Omega.{arith}
use Rattle.rules.specs.declared.Need.{Need}
use Rattle.rules.specs.declared.Rectangle.{Rectangle}
use Rattle.rules.specs.declared.Design.{Design}
use Rattle.rules.specs.declared.Chip.{Chip}
use Rattle.rules.specs.Design.{need_at, SuitsOf, ListsOf, given_for, width_of, height_of}
use Rattle.rules.specs.Check.{is_at_most}
use Rattle.rules.specs.Chip.{OnChip, AtMost, Suits, column, holds, held_between, covers_block, left, right, bottom, top}
use Rattle.rules.proofs.Test.{suits_room, leaf_test}
use Rattle.rules.proofs.Searching.{test-iffs, count_le, total_le}
use Rattle.rules.proofs.Rooms.{Growing}
use Rattle.rules.proofs.Fitting.{Decides}
use Rattle.rules.proofs.Placing.{Leaves, plain_leaves}

held_grows : (C : Chip) (k a c b d a' c' b' d' : ℕ) → a' ≤ a → c' ≤ c → b ≤ b' → d ≤ d' → held_between C k a c b d ≤ held_between C k a' c' b' d'
unfolding held_between covers_block
held_grows C k a c b d a' c' b' d' p q r s =
    total_le C.width.0 _ _ _ _
    (λ x t. let h = simp test-iffs at t in simp test-iffs ((omega arith, omega arith), h.1))
    (λ x. count_le (column C x).many _ _ (λ j t. let h = simp test-iffs at t in simp test-iffs (omega arith)))

pub suits_growing : (C : Chip) (n : Need) → Growing C.width.0 C.height.0 (suits_room C n)
unfolding suits_room
suits_growing C n = record {
  grow = λ a c b d a' c' b' d' t p q r s u v.
      let h = simp test-iffs at t in
      let le : (k : ℕ) → held_between C k a c b d ≤ held_between C k a' c' b' d' = λ k. held_grows C k a c b d a' c' b' d' p q r s in
      simp test-iffs (omega (arith, le 0, le 1, le 2));
  solid = λ a c b d t. let h = simp test-iffs at t in omega arith;
}

-- the test of a room's four sides is 01's rule for a rectangle
pub suits_decided : (C : Chip) (n : Need) (r : Rectangle)
    → (OnChip C.width.0 C.height.0 r × Suits C n r) ↔ So (suits_room C n (left r) (bottom r) (right r) (top r))
unfolding suits_room holds
suits_decided C n r = (
  λ z. let (o, s) = z in simp test-iffs (omega (arith, o.wide, o.high, o.columns, o.rows, s.clbs, s.rams, s.multipliers)),
  λ t. let h = simp test-iffs at t in (
    record { wide = omega arith; high = omega arith; columns = omega arith; rows = omega arith },
    record { clbs = omega arith; rams = omega arith; multipliers = omega arith },
  ),
)

-- the checker's test of a need is 01's rule
pub at_most_iff : (n m : Need) → So (is_at_most n m) ↔ AtMost n m
unfolding is_at_most
at_most_iff n m = (
  λ t. let h = simp test-iffs at t in record { clbs = h.0.0; rams = h.0.1; multipliers = h.1 },
  λ s. simp test-iffs ((s.clbs, s.rams), s.multipliers),
)

-- All that the laws are told of a design's leaves: the test of their rooms decides what they list; and what the modules are given
-- for rooms that pass it suits, and lies in the room.
pub design_decides : (d : Design) → Decides (width_of d) (height_of d) (ListsOf d) (leaf_test d)
unfolding ListsOf
design_decides d = record { growing = λ k. suits_growing d.chip (need_at d k); decides = λ k. suits_decided d.chip (need_at d k) }

pub design_leaves : (d : Design) → Leaves (width_of d) (height_of d) (SuitsOf d) (leaf_test d) (given_for d)
unfolding ListsOf given_for
design_leaves d = plain_leaves (design_decides d)

-- what a leaf lists hangs on the chip and its module's need alone
pub need_lists : (d e : Design) (k : ℕ) → d.chip ≡ e.chip → need_at d k ≡ need_at e k → (r : Rectangle) → ListsOf d k r → ListsOf e k r
unfolding ListsOf
need_lists d e k c n r x = rw (← c, ← n) x

-- "a larger rectangle on the chip suits if a part of it does"
pub larger_suits : (C : Chip) (n : Need) (part whole : Rectangle) → OnChip C.width.0 C.height.0 part → Suits C n part
    → OnChip C.width.0 C.height.0 whole → left whole ≤ left part → bottom whole ≤ bottom part → right part ≤ right whole → top part ≤ top whole
    → Suits C n whole
larger_suits C n part whole o s o' p q r u =
    ((suits_decided C n whole).1
    ((suits_growing C n).grow (left part) (bottom part) (right part) (top part) (left whole) (bottom whole) (right whole) (top whole)
    ((suits_decided C n part).0 (o, s)) p q r u o'.columns o'.rows)).1
