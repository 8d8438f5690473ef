-- Choosing one floorplan: rules 13 to 15 of docs/RULES.md.
use Rattle.std.specs.Prelude.{◌≡◌, List, [], ◌∷◌, ◌++◌, ℕ, zero, suc, ◌+◌, ◌≤◌, max}
use Rattle.rules.specs.declared.Corner.{Corner}
use Rattle.rules.specs.declared.Shape.{Shape}
use Rattle.rules.specs.declared.Rectangle.{Rectangle}
use Rattle.rules.specs.declared.Direction.{Direction}
use Rattle.rules.specs.declared.Direction.TheVariants.{Vertical, Horizontal}
use Rattle.rules.specs.Chip.{corner, shape}
use Rattle.rules.specs.Tree.{Tree, leaf, cut, position}
use Rattle.rules.specs.Placement.{Placement, area}
use Rattle.rules.specs.Slot.{Stores, CornerOn}

-- Rule 13: "take the shape of least area w·h; of equals the narrowest"
pub record Chosen (W : ℕ) (bytes : ℕ → ℕ) (s : Shape) : Type 0 where
  pub stored : Stores W bytes s
  pub smallest : (o : Shape) → Stores W bytes o → area s ≤ area o
  pub narrowest : (o : Shape) → Stores W bytes o → area o ≡ area s → s.w.0 ≤ o.w.0

-- Rule 14. The right child's corner: "at (x+w1, y)" under a vertical cut, "at (x, y+h1)" under a horizontal one
abbrev pub beside : Direction → Corner → Shape → Corner
beside Vertical c s = corner (c.x.0 + s.w.0) c.y.0
beside Horizontal c s = corner c.x.0 (c.y.0 + s.h.0)

-- the box of two shapes so placed: "w1+w2 = w and the greater height h", "h1+h2 = h and the greater width w"
abbrev pub pairing : Direction → Shape → Shape → Shape
pairing Vertical s o = shape (s.w.0 + o.w.0) (max s.h.0 o.h.0)
pairing Horizontal s o = shape (max s.w.0 o.w.0) (s.h.0 + o.h.0)

-- A shape of the left list at a corner and one of the right list beside it have this box. Beyond the chip's last column or
-- row there is no corner, and so no pair.
pub record Pair (W H : ℕ) (d : Direction) (lefts rights : Corner → ℕ → ℕ) (c : Corner) (s o whole : Shape)
    : Type 0 where
  pub left : Stores W (lefts c) s
  pub corner : CornerOn W H (beside d c s)
  pub right : Stores W (rights (beside d c s)) o
  pub box : pairing d s o ≡ whole

-- Rule 14: "takes the first shape of the left list there for which the right list .. has" one; no other right shape is as narrow
pub record Taken (W H : ℕ) (d : Direction) (lefts rights : Corner → ℕ → ℕ) (c : Corner) (whole s o : Shape)
    : Type 0 where
  pub pair : Pair W H d lefts rights c s o whole
  pub first : (s' o' : Shape) → Pair W H d lefts rights c s' o' whole → s.w.0 ≤ s'.w.0
  pub only : (o' : Shape) → Pair W H d lefts rights c s o' whole → o.w.0 ≤ o'.w.0

-- Going down from a shape at a corner, over the nodes' slots, gives these rectangles. "A leaf's rectangle is its shape
-- at its corner": that is its room, and which rectangle the module is given there is a parameter (`given_for` in
-- Design.antt). What is given has to suit.
unfoldable pub Down : ℕ → ℕ → (ℕ → Rectangle → Type 0) → (ℕ → Rectangle → Rectangle) → (ℕ → Corner → ℕ → ℕ)
    → Tree → Corner → Shape → Placement → Type 0
Down W H Suits given slots (leaf t k) c s p = Suits k (p k) × (p k ≡ given k (record { corner = c; shape = s }))
Down W H Suits given slots (cut t d l r) c whole p =
    (s : Shape) × (o : Shape) × Taken W H d (slots (position l)) (slots (position r)) c whole s o
    × Down W H Suits given slots l c s p × Down W H Suits given slots r (beside d c s) o p

-- Rule 15: "Rows out: four bytes x, y, w, h for each module, in module order"
abbrev pub row_of : Rectangle → List ℕ
row_of r = r.corner.x.0 ∷ r.corner.y.0 ∷ r.shape.w.0 ∷ r.shape.h.0 ∷ []

unfoldable pub rows_out : ℕ → Placement → List ℕ
rows_out zero p = []
rows_out (suc k) p = rows_out k p ++ row_of (p k)
