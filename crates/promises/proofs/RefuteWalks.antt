-- Wrong walks along the stair that demand 2 rejects: what each of them would leave in a leaf's slot is not the list there, which is what the
-- walk of order 2 leaves (`walk_is_the_list`). Assumes nothing.
use mathlib.Core.Path.{◌≡◌, refl}
use mathlib.Core.Bool.{Bool, true, false, ◌&&◌, So}
use mathlib.Core.List.{List, [], ◌∷◌}
use Prim.Native.Nat.{ℕ, zero, suc, ◌-◌, ◌≤◌, ◌<◌, min}
use native.Mathlib.Omega.{arith}
use lib.Dec.{ltb, eqb}
use lib.ListN.{length}
use Rattle.rules.specs.declared.Corner.{Corner}
use Rattle.rules.specs.declared.Design.{Design}
use Rattle.rules.specs.declared.Need.{Need}
use Rattle.rules.specs.Answers.{Reply}
use Rattle.rules.specs.Search.{all, count, total}
use Rattle.rules.specs.Chip.{corner, column, column_of, covers_block, held_between}
use Rattle.rules.specs.Tree.{stands, has, joined, added, standing}
use Rattle.rules.specs.Slot.{CornerOn}
use Rattle.rules.specs.Walk.{stepped_down, rows_after, walked}
use Rattle.rules.specs.Design.{slots_of, slot_rows, LawfulDesign, value_test, within_limits, lawful_chip, in_range, lawful_need}
use Rattle.rules.specs.Bytes.{padded}
use Rattle.rules.specs.Bench.{need, design}
use Rattle.rules.proofs.Test.{suits_room}
use Rattle.rules.proofs.Suiting.{design_decides}
use Rattle.rules.proofs.Listing.{list_unique}
use Rattle.rules.proofs.Walking.{rooms_at, walk_is_the_list}
use Rattle.promises.specs.Services.{Services}
use Rattle.promises.specs.Demand2.{GoodLists, Demand2}
use Rattle.promises.proofs.RefutePlans.{good_bytes}

-- one module, on D's chip: of three CLBs, whose stair at (0, 0) is 3 0 0 2 1; of five, whose stair at (0, 2) is 0 0 0 3 2; and of one multiplier,
-- 0 0 3 0 0 at (0, 0)
unfoldable pub one : List ℕ → ℕ → Need → Design
one kinds H n = design kinds H 3 (n ∷ []) (2 ∷ [])

abbrev on_d : Need → Design
on_d = one (0 ∷ 1 ∷ 2 ∷ 0 ∷ 0 ∷ []) 6

abbrev clbs : Need
clbs = need 3 0 0

abbrev more_clbs : Need
more_clbs = need 5 0 0

abbrev multiplier : Need
multiplier = need 0 0 1

-- a walk makes bytes from a test of rooms, columns and rows; and what one leaves for a need in the leaf's slot at a corner, with the rooms tested
-- on a design's chip
abbrev Walk : Type 0
Walk = (ℕ → ℕ → Bool) → ℕ → ℕ → ℕ → ℕ

abbrev leaves : Walk → (Need → Design) → Need → Corner → ℕ → ℕ
leaves walk on n c = walk (rooms_at (suits_room (on n).chip n) c.x.0 c.y.0) (5 - c.x.0) (6 - c.y.0)

-- The walks with one thing wrong.
-- it begins at H rows and not at H-y, at a corner in row 2; what it counts goes on above the chip
unfoldable pub from_the_top : Walk
from_the_top suits columns rows = walked suits columns 6

abbrev above : Need → Design
above = one (0 ∷ 1 ∷ 2 ∷ 0 ∷ 0 ∷ []) 8

-- RAM columns are counted as multipliers
abbrev mistaken : Need → Design
mistaken = one (0 ∷ 2 ∷ 2 ∷ 0 ∷ 0 ∷ []) 6

-- a height equal to the last width's is kept: each width begins at the height that suited the one before
unfoldable pub level_after : (ℕ → ℕ → Bool) → ℕ → ℕ → ℕ
level_after suits rows zero = rows
level_after suits rows (suc w) = stepped_down (suits (suc w)) (min rows (suc (level_after suits rows w)))

unfoldable pub keeps_level : Walk
keeps_level suits columns rows j =
    let h = level_after suits rows (suc j) in
    elim (ltb j columns && ltb h (min rows (suc (level_after suits rows j)))) [ true ↦ suc h | false ↦ 0 ]

-- a step down that no longer suits is kept
unfoldable pub keeps_failed_step : Walk
keeps_failed_step suits columns rows j =
    let h = rows_after suits rows (suc j) in elim (ltb j columns && ltb h (rows_after suits rows j)) [ true ↦ h | false ↦ 0 ]

-- a column is added while a lower height still suits: it steps down once at each width
unfoldable pub once_after : (ℕ → ℕ → Bool) → ℕ → ℕ → ℕ
once_after suits rows zero = rows
once_after suits rows (suc w) = let h = once_after suits rows w in elim (suits (suc w) h) [ true ↦ h - 1 | false ↦ h ]

unfoldable pub steps_once : Walk
steps_once suits columns rows j =
    let h = once_after suits rows (suc j) in elim (ltb j columns && ltb h (once_after suits rows j)) [ true ↦ suc h | false ↦ 0 ]

-- the last column, W itself, is left out; the first one is not counted
unfoldable pub short_of_the_last : Walk
short_of_the_last suits columns rows = walked suits (columns - 1) rows

unfoldable pub without_the_first : Walk
without_the_first suits columns rows = walked (λ w. suits (w - 1)) columns rows

one_lawful : LawfulDesign (on_d clbs) × LawfulDesign (on_d more_clbs) × LawfulDesign (on_d multiplier)
unfolding one slot_rows padded all stands has joined added standing value_test within_limits lawful_chip in_range lawful_need
one_lawful = (refl, refl, refl)

-- what a good listing has in the leaf's slot is what the walk leaves
leaf_walked : (n : Need) (work : List ℕ) → GoodLists (on_d n) work → (c : Corner) → CornerOn 5 6 c → (j : ℕ) → j < 5
    → slots_of (on_d n) work 0 c j ≡ leaves walked on_d n c j
unfolding one slot_rows padded stands has joined added standing
leaf_walked n work g c on =
    list_unique 5 (slots_of (on_d n) work 0 c) (leaves walked on_d n c)
    (good_bytes (on_d n) 0 c _ (g 0 c (omega arith) on)) (walk_is_the_list (design_decides (on_d n)) 0 0 c on)

-- a walk fills the leaf's slot, with the rooms tested on some chip
abbrev Fills : Walk → (Need → Design) → Need → Corner → List ℕ → Type 0
Fills walk on n c work = (j : ℕ) → j < 5 → slots_of (on_d n) work 0 c j ≡ leaves walk on n c j

-- the bytes that tell them apart, computed: the right ones, and those of the wrong walks
right : (leaves walked on_d clbs (corner 0 0) 0 ≡ 3) × (leaves walked on_d clbs (corner 0 0) 1 ≡ 0) × (leaves walked on_d clbs (corner 0 0) 4 ≡ 1)
    × (leaves walked on_d more_clbs (corner 0 2) 0 ≡ 0) × (leaves walked on_d multiplier (corner 0 0) 1 ≡ 0)
unfolding one padded column_of covers_block held_between column count total suits_room stepped_down rows_after walked
right = (refl, refl, refl, refl, refl)

wrong : (leaves from_the_top above more_clbs (corner 0 2) 0 ≡ 5) × (leaves keeps_level on_d clbs (corner 0 0) 1 ≡ 3)
    × (leaves keeps_failed_step on_d clbs (corner 0 0) 0 ≡ 2) × (leaves steps_once on_d clbs (corner 0 0) 0 ≡ 6)
    × (leaves short_of_the_last on_d clbs (corner 0 0) 4 ≡ 0) × (leaves without_the_first on_d clbs (corner 0 0) 0 ≡ 0)
    × (leaves walked mistaken multiplier (corner 0 0) 1 ≡ 3)
unfolding from_the_top keeps_level level_after keeps_failed_step steps_once once_after short_of_the_last without_the_first one padded
    column_of covers_block held_between column count total suits_room stepped_down rows_after walked
wrong = (refl, refl, refl, refl, refl, refl, refl)

low : CornerOn 5 6 (corner 0 0)
low = record { column = omega arith; row = omega arith }

module _ (S : Services) (demand : Demand2 S) (before after : List ℕ) (r : Reply) (h : 150 ≤ length before) where
  listed : (n : Need) → LawfulDesign (on_d n) → S.list (on_d n) before r after → (c : Corner) → CornerOn 5 6 c → Fills walked on_d n c after
  unfolding one slot_rows
  listed n lawful x = leaf_walked n after (demand.listed (on_d n) before after r x lawful h).1

  -- "the walk begins at H instead of H-y"
  pub walker_begins_above_the_chip : S.list (on_d more_clbs) before r after → Fills from_the_top above more_clbs (corner 0 2) after → ⊥
  walker_begins_above_the_chip x f =
      let a = listed more_clbs one_lawful.1 x (corner 0 2) (record { column = omega arith; row = omega arith }) 0 (omega arith) in
      let b = f 0 (omega arith) in omega (arith, right.3, wrong.0)

  -- "RAMs counted as multipliers"
  pub walker_takes_a_ram_for_a_multiplier : S.list (on_d multiplier) before r after → Fills walked mistaken multiplier (corner 0 0) after → ⊥
  walker_takes_a_ram_for_a_multiplier x f =
      let a = listed multiplier one_lawful.2 x (corner 0 0) low 1 (omega arith) in let b = f 1 (omega arith) in
      omega (arith, right.4, wrong.6)

  module _ (x : S.list (on_d clbs) before r after) where
    is : Fills walked on_d clbs (corner 0 0) after
    is = listed clbs one_lawful.0 x (corner 0 0) low

    -- "a height equal to the last width's is kept"
    pub walker_keeps_a_level : Fills keeps_level on_d clbs (corner 0 0) after → ⊥
    walker_keeps_a_level f = let a = is 1 (omega arith) in let b = f 1 (omega arith) in omega (arith, right.1, wrong.1)

    -- "a step down that no longer suits is kept"
    pub walker_keeps_a_failed_step : Fills keeps_failed_step on_d clbs (corner 0 0) after → ⊥
    walker_keeps_a_failed_step f = let a = is 0 (omega arith) in let b = f 0 (omega arith) in omega (arith, right.0, wrong.2)

    -- "a column is added while a lower height still suits"
    pub walker_widens_too_early : Fills steps_once on_d clbs (corner 0 0) after → ⊥
    walker_widens_too_early f = let a = is 0 (omega arith) in let b = f 0 (omega arith) in omega (arith, right.0, wrong.3)

    -- "the last column, W itself, is left out"; "the first is not counted"
    pub walker_leaves_the_last_column_out : Fills short_of_the_last on_d clbs (corner 0 0) after → ⊥
    walker_leaves_the_last_column_out f = let a = is 4 (omega arith) in let b = f 4 (omega arith) in omega (arith, right.2, wrong.4)

    pub walker_skips_the_first_column : Fills without_the_first on_d clbs (corner 0 0) after → ⊥
    walker_skips_the_first_column f = let a = is 0 (omega arith) in let b = f 0 (omega arith) in omega (arith, right.0, wrong.5)

-- Where a test does not rise, the walk may miss what passes: here the room of one column and one row alone. So the law asks for it.
unfoldable pub lonely : ℕ → ℕ → Bool
lonely w h = eqb w 1 && eqb h 1

pub walk_needs_a_rising_test : So (lonely 1 1) × (walked lonely 2 2 0 ≡ 0)
unfolding lonely stepped_down rows_after walked
walk_needs_a_rising_test = (refl, refl)
