-- The planner's promise for a design: over its own lists the floorplan chosen is lawful, shares no cell and has the least box,
-- or there is no lawful placement; over any stairs what goes down is lawful. Assumes nothing.
use mathlib.Core.Path.{◌≡◌}
use mathlib.Core.Logic.{◌⊎◌, inl, inr, ⊎_elim, ◌↔◌}
use mathlib.Core.Bool.{Bool, So}
use Prim.Native.Nat.{ℕ, ◌+◌, ◌-◌, ◌≤◌, ◌<◌}
use native.Mathlib.Omega.{arith}
use Rattle.rules.specs.declared.Corner.{Corner}
use Rattle.rules.specs.declared.Shape.{Shape}
use Rattle.rules.specs.declared.Rectangle.{Rectangle}
use Rattle.rules.specs.declared.Design.{Design}
use Rattle.rules.specs.Chip.{corner, OnChip, holds}
use Rattle.rules.specs.Tree.{position}
use Rattle.rules.specs.Placement.{Placement, ShareNoCell, box, area}
use Rattle.rules.specs.Shape.{Listed}
use Rattle.rules.specs.Slot.{Empty, Stores, CornerOn, Stair, ListsAt}
use Rattle.rules.specs.Choice.{Chosen}
use Rattle.rules.specs.Design.{LawfulDesign, LawfulPlacement, AllStairs, OwnLists, root_slot, GoesDown, SuitsOf, ListsOf, given_for, need_at, node_at, nodes, root, width_of, height_of}
use Rattle.rules.specs.Check.{is_suited}
use Rattle.rules.proofs.Test.{goes_down, laid, goes_for, laid_for}
use Rattle.rules.proofs.Nodes.{lawful_tree, root_position, node_at_lem, by_nodes}
use Rattle.rules.proofs.Limits.{limits, every_row}
use Rattle.rules.proofs.Agreeing.{on_more_rows, all_rows}
use Rattle.rules.proofs.Standing.{whole, node_position}
use Rattle.rules.proofs.Suiting.{design_decides, design_leaves, at_most_iff}
use Rattle.rules.proofs.Placing.{PlacedIn, whole_inside}
use Rattle.rules.proofs.Choosing.{chooses}
use Rattle.rules.proofs.Descending.{Every, laid_down, down_laid, down_placed, own_goes_down}
use Rattle.rules.proofs.Planning.{follow_apart, list_stair, none_listed, least_box, box_is}

-- what is promised of a floorplan: it is lawful, its rectangles share no cell, and its box, which is s, is the least
pub record Floorplan (d : Design) (s : Shape) (p : Placement) : Type 0 where
  pub lawful : LawfulPlacement d p
  pub apart : ShareNoCell (root d) p
  pub boxed : box (root d) p ≡ s
  pub smallest : (q : Placement) → LawfulPlacement d q → area s ≤ area (box (root d) q)

-- a lawful design's chip has the corner (0, 0)
pub corner_zero : (d : Design) → LawfulDesign d → CornerOn (width_of d) (height_of d) (corner 0 0)
corner_zero d lawful = let l = limits d lawful in record { column = l.chip.wide; row = l.chip.high }

pub suited_decides : (d : Design) (k : ℕ) (r : Rectangle) → SuitsOf d k r ↔ So (is_suited d k r)
suited_decides d k r = let e = at_most_iff (need_at d k) (holds d.chip r) in (e.1, e.0)

module _ (d : Design) (lawful : LawfulDesign d) (slots : ℕ → Corner → ℕ → ℕ) where
  -- one goes down from a shape of the root exactly if the test passes, and then to what is given for the computed rooms
  pub laid_goes : (s : Shape) → So (goes_for d slots s) → GoesDown d slots s (laid_for d slots s)
  laid_goes s =
      laid_down (width_of d) (height_of d) (SuitsOf d) (given_for d) slots (is_suited d) (suited_decides d)
      (root d) (lawful_tree d lawful).once (corner 0 0) s

  pub goes_laid : (s : Shape) (p : Placement) → GoesDown d slots s p
      → So (goes_for d slots s) × ((k : ℕ) → k < d.modules → p k ≡ laid_for d slots s k)
  goes_laid s p down =
      let T = lawful_tree d lawful in
      let (g, e) = down_laid (width_of d) (height_of d) (SuitsOf d) (given_for d) slots (is_suited d) (suited_decides d)
      (root d) T.once (corner 0 0) s p down in (g, λ k h. e k ((T.modules k).1 h))

  own_every : OwnLists d slots → Every (λ u. ListsAt (width_of d) (height_of d) (height_of d) (ListsOf d) (slots (position u)) u) (root d)
  own_every own =
      (by_nodes d lawful (λ u. ListsAt (width_of d) (height_of d) (height_of d) (ListsOf d) (slots (position u)) u)).1
      (λ t h. rw (node_position (node_at_lem d lawful t h)) (all_rows (every_row d) (ListsOf d) (slots t) (node_at d t) (own t h)))

  stairs_every : AllStairs d slots
      → Every (λ u. (c : Corner) → CornerOn (width_of d) (height_of d) c → Stair (width_of d) (height_of d) c (slots (position u) c)) (root d)
  stairs_every st = (by_nodes d lawful (λ u. (c : Corner) → CornerOn (width_of d) (height_of d) c → Stair (width_of d) (height_of d) c (slots (position u) c))).1
      (λ t h c on. rw (node_position (node_at_lem d lawful t h)) (st t c h (on_more_rows (every_row d) on)))

  pub own_stairs : OwnLists d slots → AllStairs d slots
  own_stairs own t c h on = list_stair (design_decides d) (node_at d t) c (slots t c) (own t h c on)

  -- the root's slot is the slot of its position
  root_at : (c : Corner) → slots (nodes d - 1) c ≡ slots (position (root d)) c
  root_at c = let e = root_position d lawful in let q : nodes d - 1 ≡ position (root d) = omega arith in rw q

  -- whatever stairs a stranger wrote: what goes down is lawful, and lies in the shape
  pub down_lawful : AllStairs d slots → (s : Shape) (p : Placement) → Stores (width_of d) (root_slot d slots) s
      → GoesDown d slots s p → PlacedIn (width_of d) (height_of d) (SuitsOf d) (root d) p 0 0 (0 + s.w.0) (0 + s.h.0)
  down_lawful st s p z down =
      down_placed (design_leaves d).inside slots (root d) (corner 0 0) s p (stairs_every st) (corner_zero d lawful)
      (rw (root_at (corner 0 0)) at z) down

  -- the computed rooms are on the chip, whatever test they pass
  pub laid_on_chip : AllStairs d slots → (suits : ℕ → Rectangle → Bool) (s : Shape) → Stores (width_of d) (root_slot d slots) s
      → So (goes_down (width_of d) (height_of d) suits slots (root d) (corner 0 0) s)
      → (k : ℕ) → k < d.modules → OnChip (width_of d) (height_of d) (laid (width_of d) (height_of d) slots (root d) (corner 0 0) s k)
  laid_on_chip st suits s z g k h =
      let W = width_of d in let H = height_of d in let T = lawful_tree d lawful in
      let S : ℕ → Rectangle → Type 0 = λ j r. So (suits j r) in
      let down = laid_down W H S (λ j r. r) slots suits (λ j r. (λ t. t, λ t. t)) (root d) T.once (corner 0 0) s g in
      (down_placed {S = S} (whole_inside W H) slots (root d) (corner 0 0) s (laid W H slots (root d) (corner 0 0) s) (stairs_every st) (corner_zero d lawful)
      (rw (root_at (corner 0 0)) at z) down).lawful.on_chip k ((T.modules k).1 h)

  module _ (own : OwnLists d slots) where
    root_listed : (s : Shape) → Stores (width_of d) (root_slot d slots) s ↔ Listed (width_of d) (height_of d) (ListsOf d) (root d) (corner 0 0) s
    root_listed s = let l = own_every own (root d) whole (corner 0 0) (corner_zero d lawful) s in (λ z. l.0 (rw (root_at (corner 0 0)) at z), λ z. rw (root_at (corner 0 0)) (l.1 z))

    -- "no placement" is right exactly if the root's list at (0, 0) is empty
    pub no_placement : Empty (width_of d) (root_slot d slots) ↔ ((p : Placement) → LawfulPlacement d p → ⊥)
    no_placement =
        let n = none_listed (design_decides d) (design_leaves d) (root d) (lawful_tree d lawful).once in
        (λ f. n.1 (λ s z. f s ((root_listed s).1 z)), λ f s z. n.0 f s ((root_listed s).0 z))

    -- from the chosen shape one can go down, and whoever does has the promised floorplan
    pub goes_down_lem : (s : Shape) → Stores (width_of d) (root_slot d slots) s → (p : Placement) × GoesDown d slots s p
    goes_down_lem s z =
        let g = own_goes_down (design_decides d) (design_leaves d) (is_suited d) (suited_decides d) slots (root d) (own_every own)
        (corner 0 0) s (corner_zero d lawful) ((root_listed s).0 z) in (laid_for d slots s, laid_goes s g)

    pub chosen_floorplan : (s : Shape) → Chosen (width_of d) (root_slot d slots) s → (p : Placement) → GoesDown d slots s p → Floorplan d s p
    chosen_floorplan s ch p down =
        let z = down_lawful (own_stairs own) s p ch.stored down in
        record {
          lawful = z.lawful;
          apart = follow_apart (root d) p z.lawful.follows;
          boxed = box_is (design_decides d) (design_leaves d) (root d) s p ((root_listed s).0 ch.stored) z;
          smallest = least_box (design_decides d) (design_leaves d) (root d) s (λ o l. ch.smallest o ((root_listed o).1 l));
        }

    -- plan's promise, whole: no lawful placement, or a shape is chosen, and one goes down from it to the floorplan promised
    pub planned : (Empty (width_of d) (root_slot d slots) × ((p : Placement) → LawfulPlacement d p → ⊥))
        ⊎ ((s : Shape) × Chosen (width_of d) (root_slot d slots) s × ((p : Placement) × GoesDown d slots s p × Floorplan d s p))
    planned =
        ⊎_elim (λ e. inl (e.1, no_placement.0 e.1))
        (λ ch. let (p, down) = goes_down_lem _ ch.stored in inr (_, ch, (p, down, chosen_floorplan _ ch p down)))
        (chooses (width_of d) (root_slot d slots))
