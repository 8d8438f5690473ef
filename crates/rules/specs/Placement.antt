-- Placements, and what follows the tree: rule 7 of docs/RULES.md.
use Rattle.std.specs.Prelude.{◌≡◌, ℕ, ◌*◌, ◌≤◌, ◌<◌, max}
use Rattle.std.proofs.Math.Bool.{So}
use Rattle.rules.specs.declared.Direction.{Direction}
use Rattle.rules.specs.declared.Direction.TheVariants.{Vertical, Horizontal}
use Rattle.rules.specs.declared.Rectangle.{Rectangle}
use Rattle.rules.specs.declared.Shape.{Shape}
use Rattle.rules.specs.Chip.{OnChip, shape, left, right, bottom, top}
use Rattle.rules.specs.Tree.{Tree, leaf, cut, has}

-- a rectangle for each module
abbrev pub Placement : Type 0
Placement = ℕ → Rectangle

-- Where a rectangle begins and ends across a cut: by columns at a vertical cut, by rows at a horizontal one.
abbrev pub begins : Direction → Rectangle → ℕ
begins Vertical r = left r
begins Horizontal r = bottom r

abbrev pub ends : Direction → Rectangle → ℕ
ends Vertical r = right r
ends Horizontal r = top r

-- Rule 7: "every rectangle of the left child ends at or before the column where any rectangle of the right child begins; at a
-- horizontal cut the left child is below in the same sense"
abbrev pub Kept : Direction → Tree → Tree → Placement → Type 0
Kept d l r p = (i j : ℕ) → So (has l i) → So (has r j) → ends d (p i) ≤ begins d (p j)

-- a node that is a cut is kept so
abbrev pub KeptAt : Placement → Tree → Type 0
KeptAt p (leaf t k) = Unit {0}
KeptAt p (cut t d l r) = Kept d l r p

-- "It follows the tree if at each .. cut .." Gaps are allowed.
unfoldable pub Follows : Tree → Placement → Type 0
Follows (leaf t k) p = Unit {0}
Follows (cut t d l r) p = Follows l p × Follows r p × Kept d l r p

-- Rule 7: "A placement gives each module a rectangle on the chip that suits it", and follows the tree. What suits a module is a
-- parameter.
pub record Lawful (W H : ℕ) (Suits : ℕ → Rectangle → Type 0) (t : Tree) (p : Placement) : Type 0 where
  pub on_chip : (k : ℕ) → So (has t k) → OnChip W H (p k)
  pub suits : (k : ℕ) → So (has t k) → Suits k (p k)
  pub follows : Follows t p

-- Rule 1: "A cell is one column wide and one CLB high": the rectangle covers the cell in column x and row y.
pub record Covers (r : Rectangle) (x y : ℕ) : Type 0 where
  pub column : (left r ≤ x) × (x < right r)
  pub row : (bottom r ≤ y) × (y < top r)

-- Demand 2: the rectangles "share no cell"
abbrev pub ShareNoCell : Tree → Placement → Type 0
ShareNoCell t p = (i j x y : ℕ) → So (has t i) → So (has t j) → Covers (p i) x y → Covers (p j) x y → i ≡ j

-- Demand 2: the "box .. drawn from the chip's lower left corner" round a placement's rectangles
unfoldable pub furthest : (Rectangle → ℕ) → Tree → Placement → ℕ
furthest side (leaf t k) p = side (p k)
furthest side (cut t d l r) p = max (furthest side l p) (furthest side r p)

abbrev pub box : Tree → Placement → Shape
box t p = shape (furthest right t p) (furthest top t p)

-- "area w·h"
abbrev pub area : Shape → ℕ
area s = s.w.0 * s.h.0
