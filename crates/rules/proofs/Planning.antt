-- What choosing and going down over a design's own lists promise: no placement is lawful exactly if the root's list at (0, 0) is
-- empty; otherwise the floorplan chosen is lawful, shares no cell, and has the least box. Assumes nothing.
use mathlib.Core.Path.{◌≡◌, sym, ◌∙◌}
use mathlib.Core.Logic.{◌⊎◌, inl, inr, ◌↔◌}
use mathlib.Core.Bool.{So}
use Prim.Native.Nat.{ℕ, ◌+◌, ◌≤◌}
use native.Mathlib.Omega.{arith}
use native.Mathlib.Nat.{le_trans, mul-le-mul}
use borrow.Author.Tests.{eqb-true}
use Rattle.rules.specs.declared.Corner.{Corner}
use Rattle.rules.specs.declared.Shape.{Shape}
use Rattle.rules.specs.declared.Rectangle.{Rectangle}
use Rattle.rules.specs.declared.Direction.{Direction}
use Rattle.rules.specs.declared.Direction.TheVariants.{Vertical, Horizontal}
use Rattle.rules.specs.Chip.{OnChip, corner, left, right, bottom, top}
use Rattle.rules.specs.Tree.{Tree, leaf, cut, has}
use Rattle.rules.specs.Placement.{Placement, Follows, Lawful, Covers, ShareNoCell, begins, ends, box, area}
use Rattle.rules.specs.Shape.{Realizes, ShapeAt, Listed}
use Rattle.rules.specs.Slot.{IsListOf, Stair}
use Rattle.rules.proofs.Test.{Test}
use Rattle.rules.proofs.Searching.{or_iff}
use Rattle.rules.proofs.Standing.{Once}
use Rattle.rules.proofs.Fitting.{Decides, realizes_fits, fits_growing}
use Rattle.rules.proofs.Placing.{PlacedIn, Leaves, placed_fits, fits_placed, furthest_within, furthest_reaches}
use Rattle.rules.proofs.Rooms.{rising}
use Rattle.rules.proofs.Listing.{list_complete, minimal_listed}
use Rattle.rules.proofs.Stairs.{minimal_stair}

-- rectangles that follow a tree share no cell
pub follow_apart : (t : Tree) (p : Placement) → Follows t p → ShareNoCell t p
unfolding Follows has
follow_apart (leaf t k) p f i j x y a b u v = eqb-true i k a ∙ sym (eqb-true j k b)
follow_apart (cut t d l r) p (fl, fr, kept) i j x y a b u v =
    go ((or_iff (has l i) (has r i)).0 a) ((or_iff (has l j) (has r j)).0 b) (follow_apart l p fl i j x y) (follow_apart r p fr i j x y)
  where
    crossed : (d : Direction) (q o : Rectangle) → ends d q ≤ begins d o → Covers q x y → Covers o x y → ⊥
    crossed Vertical q o h m n = let z = m.column in let w = n.column in omega arith
    crossed Horizontal q o h m n = let z = m.row in let w = n.row in omega arith

    go : So (has l i) ⊎ So (has r i) → So (has l j) ⊎ So (has r j)
        → (So (has l i) → So (has l j) → Covers (p i) x y → Covers (p j) x y → i ≡ j) → (So (has r i) → So (has r j) → Covers (p i) x y → Covers (p j) x y → i ≡ j) → i ≡ j
    go (inl s) (inl w) f g = f s w u v
    go (inr s) (inr w) f g = g s w u v
    go (inl s) (inr w) f g = absurd (crossed d (p i) (p j) (kept i j s w) u v)
    go (inr s) (inl w) f g = absurd (crossed d (p j) (p i) (kept j i w s) v u)

module _ {W H : ℕ} {Lists : ℕ → Rectangle → Type 0} {F : ℕ → Test} (dec : Decides W H Lists F) where
  -- every shape of a tree is on the chip
  realizes_on_chip : (t : Tree) (r : Rectangle) → Realizes W H Lists t r → OnChip W H r
  realizes_on_chip t r z =
      let s = (fits_growing F dec.growing t).solid (left r) (bottom r) (right r) (top r) ((realizes_fits dec t r).0 z) in
      record { wide = omega arith; high = omega arith; columns = s.2; rows = s.3 }

  -- a list is a stair
  pub list_stair : (t : Tree) (c : Corner) (g : ℕ → ℕ) → IsListOf W g (ShapeAt W H Lists t c) → Stair W H c g
  list_stair t c g l = minimal_stair c g (rising (fits_growing F dec.growing t) c.x.0 c.y.0)
      (λ s. let m = minimal_listed dec t c s in (λ z. m.1 ((l s).0 z), λ z. (l s).1 (m.0 z)))

  -- what is listed, and what is placed: the one law record ties the two
  module _ {Suits : ℕ → Rectangle → Type 0} {given : ℕ → Rectangle → Rectangle} (laws : Leaves W H Suits F given) (t : Tree) where
    -- "a room holds a shape exactly if a placement of that part of the tree lies in it and follows it"
    pub realizes_placed : Once t → (r : Rectangle) → right r ≤ W → top r ≤ H
        → Realizes W H Lists t r ↔ ((p : Placement) × PlacedIn W H Suits t p (left r) (bottom r) (right r) (top r))
    realizes_placed once r h k = (
      λ z. fits_placed laws t once _ _ _ _ ((realizes_fits dec t r).0 z),
      λ z. (realizes_fits dec t r).1 (placed_fits laws t z.0 _ _ _ _ z.1 h k),
    )

    -- a lawful placement's own box is a shape of the tree at (0, 0)
    box_shape : (p : Placement) → Lawful W H Suits t p → ShapeAt W H Lists t (corner 0 0) (box t p)
    box_shape p z =
        let w = furthest_within right t p W (λ k i. (z.on_chip k i).columns) in let h = furthest_within top t p H (λ k i. (z.on_chip k i).rows) in
        (realizes_fits dec t (record { corner = corner 0 0; shape = box t p })).1
        (placed_fits laws t p _ _ _ _
        (record {
          lawful = z;
          inside = λ k i. let a = furthest_reaches right t p k i in let b = furthest_reaches top t p k i in
              record { left = omega arith; bottom = omega arith; right = omega arith; top = omega arith };
        }) (omega arith) (omega arith))

    -- "no placement" exactly if the root's list at (0, 0) is empty
    pub none_listed : Once t → ((p : Placement) → Lawful W H Suits t p → ⊥) ↔ ((s : Shape) → Listed W H Lists t (corner 0 0) s → ⊥)
    none_listed once = (
      λ f s z. let o = realizes_on_chip t _ z.is in
          f ((realizes_placed once _ o.columns o.rows).0 z.is).0 ((realizes_placed once _ o.columns o.rows).0 z.is).1.lawful,
      λ f p z. let (o, l, _) = list_complete dec t (corner 0 0) (box t p) (box_shape p z) in f o l,
    )

    -- no lawful placement has a box of smaller area than the smallest listed shape
    pub least_box : (s : Shape) → ((o : Shape) → Listed W H Lists t (corner 0 0) o → area s ≤ area o) → (p : Placement) → Lawful W H Suits t p → area s ≤ area (box t p)
    least_box s f p z =
        let (o, l, d) = list_complete dec t (corner 0 0) (box t p) (box_shape p z) in le_trans (f o l) (mul-le-mul d.wide d.high)

    -- a placement in a listed shape at (0, 0) fills it
    pub box_is : (s : Shape) (p : Placement) → Listed W H Lists t (corner 0 0) s → PlacedIn W H Suits t p 0 0 (0 + s.w.0) (0 + s.h.0) → box t p ≡ s
    box_is s p l z =
        let a = furthest_within right t p (0 + s.w.0) (λ k i. (z.inside k i).right) in let b = furthest_within top t p (0 + s.h.0) (λ k i. (z.inside k i).top) in
        l.alone (box t p) (box_shape p z.lawful) (record { wide = omega arith; high = omega arith })
