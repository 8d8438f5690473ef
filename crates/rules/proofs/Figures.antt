-- The figures of the bench table, computed from the rules' tests: one test for all rows, closed by computation alone.
-- Assumes nothing.
use Rattle.std.specs.Prelude.{Ok}
use mathlib.Core.Path.{◌≡◌, refl}
use mathlib.Core.Bool.{Bool, true, false, ◌&&◌}
use mathlib.Core.List.{List, [], ◌∷◌, ◌++◌}
use Prim.Native.Nat.{ℕ, zero, suc, ◌-◌}
use lib.Dec.{leb, ltb, eqb}
use lib.ListN.{length}
use Rattle.rules.specs.declared.Corner.{Corner}
use Rattle.rules.specs.declared.Shape.{Shape}
use Rattle.rules.specs.declared.Direction.{Direction}
use Rattle.rules.specs.declared.Design.{Design}
use Rattle.rules.specs.Search.{any, all, least, count, total}
use Rattle.rules.specs.Chip.{corner, column, column_of, covers_block, held_between, holds}
use Rattle.rules.specs.Tree.{Tree, leaf, cut, has, stands, joined, added, standing}
use Rattle.rules.specs.Slot.{slot_start}
use Rattle.rules.specs.Design.{given_for, nodes, node_at, root, value_test, within_limits, lawful_chip, in_range, lawful_need, root_slot, width_of, height_of, slot_rows}
use Rattle.rules.specs.Edit.{changed}
use Rattle.rules.specs.Bytes.{design_at, checked_at, number_at, second_byte, third_byte, row_at, need_of, tokens_at, padded}
use Rattle.rules.specs.Bench.{Example, lists, contains, slot_is, pairs_to, plans_to, has_none, reads, E, D, four, table}
use Rattle.rules.proofs.Test.{grid, suits_room, parted, fits, lowest, list_byte, stored, side_by_side, pair_test, best_width, meets, left_index, right_index, laid_for, laid, merge, leaf_test}

-- the first n values of a function, as a list
unfoldable pub tab : {A : Type 0} → ℕ → (ℕ → A) → List A
tab zero f = []
tab (suc n) f = tab n f ++ (f n ∷ [])

-- the bytes of a slot that holds these shapes, whose widths rise
abbrev pub pick : Bool → ℕ → ℕ → ℕ
pick b m n = elim b [ true ↦ m | false ↦ n ]

unfoldable pub bytes_of : List Shape → ℕ → ℕ
bytes_of [] j = 0
bytes_of (s ∷ ss) j = pick (eqb s.w.0 (suc j)) s.h.0 (bytes_of ss j)

unfoldable pub widths_rise : ℕ → ℕ → List Shape → Bool
widths_rise W w [] = true
widths_rise W w (s ∷ ss) = ltb w s.w.0 && leb s.w.0 W && ltb 0 s.h.0 && widths_rise W s.w.0 ss

-- a design's computed lists
unfoldable pub tree_list : Design → Tree → Corner → ℕ → ℕ
tree_list d t c = list_byte (height_of d) (fits (leaf_test d) t) c.x.0 c.y.0

unfoldable pub paired_list : Design → Direction → Tree → Tree → ℕ → ℕ
paired_list d k l r = list_byte (height_of d) (pair_test k (width_of d) (height_of d) (grid (tree_list d l)) (grid (tree_list d r))) 0 0

unfoldable pub computed : Design → ℕ → Corner → ℕ → ℕ
computed d t = tree_list d (node_at d t)

unfoldable pub Pairs : Design → List ℕ → Tree → Type 0
Pairs d bytes (leaf t k) = ⊥
Pairs d bytes (cut t k l r) = tab (width_of d) (paired_list d k l r) ≡ bytes

-- what is computed for each row
unfoldable pub Computes : Example → Type 0
Computes (lists d c shapes) = (widths_rise (width_of d) 0 shapes ≡ true) × (tab (width_of d) (tree_list d (root d) c) ≡ tab (width_of d) (bytes_of shapes))
Computes (contains d r n) = holds d.chip r ≡ n
Computes (slot_is d start bytes) = (slot_start (width_of d) (slot_rows d) (nodes d - 1) (corner 0 0) ≡ start) × (tab (width_of d) (tree_list d (root d) (corner 0 0)) ≡ bytes)
Computes (pairs_to d bytes) = (value_test d ≡ (Ok tt)) × Pairs d bytes (root d)
Computes (plans_to d s rs) =
    (value_test d ≡ (Ok tt)) × (best_width (root_slot d (computed d)) (width_of d) ≡ s.w.0) × (root_slot d (computed d) (s.w.0 - 1) ≡ s.h.0)
    × (leb 1 s.w.0 && leb (length rs) d.modules ≡ true) × (tab (length rs) (laid_for d (computed d) s) ≡ rs)
Computes (has_none d) = (value_test d ≡ (Ok tt)) × (best_width (root_slot d (computed d)) (width_of d) ≡ 0)
Computes (reads s t) = design_at s ≡ t

unfoldable pub AllCompute : List Example → Type 0
AllCompute [] = Unit {0}
AllCompute (e ∷ es) = Computes e × AllCompute es

-- the test, computed
pub table_computes : AllCompute table
unfolding AllCompute Computes table tab bytes_of widths_rise tree_list paired_list computed Pairs
    E D four padded changed
    any all least count total column column_of covers_block held_between holds has stands joined added standing
    value_test within_limits lawful_chip in_range lawful_need design_at checked_at number_at second_byte third_byte row_at need_of tokens_at
    slot_rows given_for suits_room parted fits lowest list_byte stored side_by_side pair_test best_width meets left_index right_index laid merge
table_computes = (
  (refl, refl),
  (
    (refl, refl),
    (
      (refl, refl),
      (
        refl,
        (
          refl,
          (
            refl,
            (
              refl,
              (
                (refl, refl),
                (
                  (refl, refl),
                  (
                    (refl, refl, refl, refl, refl),
                    (
                      (refl, refl),
                      ((refl, refl, refl, refl, refl), ((refl, refl), ((refl, refl), ((refl, refl, refl, refl, refl), ((refl, refl), ((refl, refl), ((refl, refl, refl, refl, refl), (refl, tt)))))))),
                    ),
                  ),
                ),
              ),
            ),
          ),
        ),
      ),
    ),
  ),
)
