-- A cut is kept exactly if the left child's greatest end is at most the right child's least beginning: no rectangle ends after the
-- greatest end or begins before the least beginning. One proof serves both directions. Assumes nothing.
use mathlib.Core.Path.{◌≡◌, refl}
use mathlib.Core.Logic.{◌⊎◌, inl, inr, ◌↔◌}
use mathlib.Core.Bool.{So}
use Prim.Native.Nat.{ℕ, ◌≤◌, ◌<◌, min}
use native.Mathlib.Omega.{arith}
use native.Mathlib.Nat.{le_refl}
use borrow.Author.Tests.{eq-eqb, eqb-true}
use Rattle.rules.specs.declared.Rectangle.{Rectangle}
use Rattle.rules.specs.declared.Direction.{Direction}
use Rattle.rules.specs.declared.Direction.TheVariants.{Vertical, Horizontal}
use Rattle.rules.specs.Chip.{left, right, bottom, top}
use Rattle.rules.specs.Tree.{Tree, leaf, cut, has}
use Rattle.rules.specs.Placement.{Placement, Kept, begins, ends, furthest}
use Rattle.rules.specs.Check.{is_kept}
use Rattle.rules.proofs.Searching.{or_iff, leb_iff, same_test}
use Rattle.rules.proofs.Placing.{furthest_within, furthest_reaches}
use Rattle.rules.proofs.Checking.{kept_iff}
use Rattle.extents.specs.declared.Extent.{Extent}
use Rattle.extents.specs.Sides.{extent, extent_of, together}
use Rattle.checker.specs.Cuts.{ends_before}

-- the nearest side of a tree's rectangles
unfoldable pub nearest : (Rectangle → ℕ) → Tree → Placement → ℕ
nearest side (leaf t k) p = side (p k)
nearest side (cut t d l r) p = min (nearest side l p) (nearest side r p)

nearest_within : (side : Rectangle → ℕ) (t : Tree) (p : Placement) (n : ℕ) → ((k : ℕ) → So (has t k) → n ≤ side (p k))
    → n ≤ nearest side t p
unfolding nearest has
nearest_within side (leaf t k) p n f = f k (eq-eqb k k refl)
nearest_within side (cut t d l r) p n f =
    let h = nearest_within side l p n (λ k s. f k ((or_iff (has l k) (has r k)).1 (inl s))) in
    let g = nearest_within side r p n (λ k s. f k ((or_iff (has l k) (has r k)).1 (inr s))) in omega arith

nearest_reaches : (side : Rectangle → ℕ) (t : Tree) (p : Placement) (k : ℕ) → So (has t k) → nearest side t p ≤ side (p k)
unfolding nearest has
nearest_reaches side (leaf t j) p k s = rw (eqb-true k j s) (le_refl (side (p j)))
nearest_reaches side (cut t d l r) p k s = go ((or_iff (has l k) (has r k)).0 s) (nearest_reaches side l p k) (nearest_reaches side r p k)
  where
    go : So (has l k) ⊎ So (has r k) → (So (has l k) → nearest side l p ≤ side (p k)) → (So (has r k) → nearest side r p ≤ side (p k))
        → min (nearest side l p) (nearest side r p) ≤ side (p k)
    go (inl s) f g = let h = f s in omega arith
    go (inr s) f g = let h = g s in omega arith

kept_by_sides : (d : Direction) (l r : Tree) (p : Placement) → Kept d l r p ↔ (furthest (ends d) l p ≤ nearest (begins d) r p)
kept_by_sides d l r p = (
  λ k. furthest_within (ends d) l p (nearest (begins d) r p) (λ i s. nearest_within (begins d) r p (ends d (p i)) (λ j s'. k i j s s')),
  λ h i j s s'. let a = furthest_reaches (ends d) l p i s in let b = nearest_reaches (begins d) r p j s' in omega arith,
)

-- the extent of a tree's rectangles: a module's own, a cut's of both children together
unfoldable pub tree_extent : Placement → Tree → Extent
tree_extent p u = extent (nearest left u p) (nearest bottom u p) (furthest right u p) (furthest top u p)

pub leaf_extent : (p : Placement) (t k : ℕ) → tree_extent p (leaf t k) ≡ extent_of (p k)
unfolding tree_extent nearest furthest
leaf_extent p t k = refl

pub cut_extent : (p : Placement) (t : ℕ) (d : Direction) (l r : Tree) → tree_extent p (cut t d l r) ≡ together (tree_extent p l) (tree_extent p r)
unfolding tree_extent nearest furthest
cut_extent p t d l r = refl

pub kept_by_extents : (m : ℕ) (d : Direction) (l r : Tree) (p : Placement)
    → ((i : ℕ) → So (has l i) → i < m) → ((j : ℕ) → So (has r j) → j < m)
    → ends_before d (tree_extent p l) (tree_extent p r) ≡ is_kept m d l r p
unfolding tree_extent
kept_by_extents m d l r p f g =
    same_test _ _ (
      λ t. (kept_iff m d l r p f g).1 ((kept_by_sides d l r p).1 ((order d).0 t)),
      λ t. (order d).1 ((kept_by_sides d l r p).0 ((kept_iff m d l r p f g).0 t)),
    )
  where
    order : (d : Direction) → So (ends_before d (tree_extent p l) (tree_extent p r)) ↔ (furthest (ends d) l p ≤ nearest (begins d) r p)
    order Vertical = leb_iff (furthest right l p) (nearest left r p)
    order Horizontal = leb_iff (furthest top l p) (nearest bottom r p)
