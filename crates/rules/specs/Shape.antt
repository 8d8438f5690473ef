-- Shapes, dominance, and which shapes are listed: rules 8 to 10 of docs/RULES.md.
use Rattle.std.specs.Prelude.{◌≡◌, ℕ, ◌-◌, ◌≤◌, min, max}
use Rattle.rules.specs.declared.Corner.{Corner}
use Rattle.rules.specs.declared.Shape.{Shape}
use Rattle.rules.specs.declared.Rectangle.{Rectangle}
use Rattle.rules.specs.Chip.{OnChip, rectangle, left, right, bottom, top}
use Rattle.rules.specs.Tree.{Tree, leaf, cut}
use Rattle.rules.specs.Placement.{begins, ends}

-- The bounding box of two rectangles; document 000's bounding rectangle.
abbrev pub bounding : Rectangle → Rectangle → Rectangle
bounding p q =
    let x = min (left p) (left q) in let y = min (bottom p) (bottom q) in
    rectangle x y (max (right p) (right q) - x) (max (top p) (top q) - y)

-- Rule 8: "For a leaf, the shapes at corner (x, y) are the (w, h) whose rectangle from (x, y) is on the chip and suits the need."
-- Document 000, definition 2: the realization set of a module. Which rooms a leaf lists is a parameter (`ListsOf` in
-- Design.antt), apart from what suits the module.
-- Rule 9: "For a cut they are the bounding boxes, with lower left corner exactly (x, y), of a shape of each child anywhere on the
-- chip, the two in the cut's order." Document 000's definition for tree nodes.
unfoldable pub Realizes : ℕ → ℕ → (ℕ → Rectangle → Type 0) → Tree → Rectangle → Type 0
Realizes W H Lists (leaf t k) r = OnChip W H r × Lists k r
Realizes W H Lists (cut t d l r) b =
    (p : Rectangle) × (q : Rectangle) × Realizes W H Lists l p × Realizes W H Lists r q
    × (ends d p ≤ begins d q) × (b ≡ bounding p q)

abbrev pub ShapeAt : ℕ → ℕ → (ℕ → Rectangle → Type 0) → Tree → Corner → Shape → Type 0
ShapeAt W H Lists t c s = Realizes W H Lists t (record { corner = c; shape = s })

-- Rule 10: "A shape dominates another at the same corner if it is no wider and no higher." Document 000, definition 3.
pub record Dominates (s o : Shape) : Type 0 where
  pub wide : s.w.0 ≤ o.w.0
  pub high : s.h.0 ≤ o.h.0

-- of some shapes at one corner, one "that no other dominates"
pub record Undominated (P : Shape → Type 0) (s : Shape) : Type 0 where
  pub is : P s
  pub alone : (o : Shape) → P o → Dominates o s → o ≡ s

-- Rule 10: "The list holds exactly the shapes that no other dominates." Document 000, definition 4, and the same for tree nodes: the
-- irreducible realization list.
abbrev pub Listed : ℕ → ℕ → (ℕ → Rectangle → Type 0) → Tree → Corner → Shape → Type 0
Listed W H Lists t c = Undominated (ShapeAt W H Lists t c)
