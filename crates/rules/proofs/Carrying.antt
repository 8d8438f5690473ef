-- A tree's lists and what is relisted hang on what the tree's own leaves list, and what goes down on what suits its modules and
-- what they are given. So for two designs called the same the same bytes are stairs, full lists and an edit's lists, and the same placements go down
-- from them. Assumes nothing.
use mathlib.Core.Path.{◌≡◌, refl, ◌∙◌, subst, subst₂, subst₃}
use mathlib.Core.Logic.{inl, inr, ◌↔◌}
use mathlib.Core.Bool.{So, ◌||◌}
use mathlib.Core.List.{List}
use Prim.Native.Nat.{ℕ, ◌<◌}
use Rattle.rules.specs.declared.Corner.{Corner}
use Rattle.rules.specs.declared.Shape.{Shape}
use Rattle.rules.specs.declared.Rectangle.{Rectangle}
use Rattle.rules.specs.declared.Design.{Design}
use Rattle.rules.specs.declared.Edit.{Edit}
use Rattle.rules.specs.Chip.{corner}
use Rattle.rules.specs.Tree.{Tree, leaf, cut, has}
use Rattle.rules.specs.Placement.{Placement}
use Rattle.rules.specs.Slot.{Empty, ListsAt, FullLists, slot, Stairs}
use Rattle.rules.specs.Choice.{Chosen, Down, beside}
use Rattle.rules.specs.Edit.{names_place, changed, changed_node, Relists, Relisted, EditedLists}
use Rattle.rules.specs.Design.{Sized, nodes, node_at, root, SuitsOf, ListsOf, given_for, LawfulDesign, SameDesign, slots_of, AllStairs, OwnLists, root_slot, GoesDown, width_of, height_of, slot_rows, NoShapeIn, ChosenIn}
use Rattle.rules.proofs.Searching.{or_iff, eqb_iff}
use Rattle.rules.proofs.Below.{Below}
use Rattle.rules.proofs.Standing.{part_has}
use Rattle.rules.proofs.Nodes.{lawful_tree, node_part}
use Rattle.rules.proofs.Listing.{same_list}
use Rattle.rules.proofs.Relisting.{realizes_same}
use Rattle.rules.proofs.Changing.{edit_lawful, edit_keeps}
use Rattle.rules.proofs.Same.{same_sym, width_same, height_same, slot_rows_same, nodes_same, suits_same, lists_same, given_same, node_same, root_same, changed_node_same, changed_same}

-- the same is listed for every module of a tree, or suits it; and the same is given
abbrev SayAlike : (ℕ → Rectangle → Type 0) → (ℕ → Rectangle → Type 0) → Tree → Type 0
SayAlike S S' t = (k : ℕ) (r : Rectangle) → So (has t k) → S k r ↔ S' k r

abbrev GiveAlike : (ℕ → Rectangle → Rectangle) → (ℕ → Rectangle → Rectangle) → Tree → Type 0
GiveAlike g g' t = (k : ℕ) (r : Rectangle) → So (has t k) → g k r ≡ g' k r

module _ (W H R : ℕ) {S S' : ℕ → Rectangle → Type 0} where
  lists_alike : (slots : Corner → ℕ → ℕ) (t : Tree) → SayAlike S S' t → ListsAt W H R S slots t → ListsAt W H R S' slots t
  lists_alike slots t f l c on =
      same_list W (slots c) (slots c) (λ j h. refl)
      (λ s. (realizes_same W H t (λ k r i. (f k r i).0) _, realizes_same W H t (λ k r i. (f k r i).1) _)) (l c on)

  down_alike : {given given' : ℕ → Rectangle → Rectangle} (slots : ℕ → Corner → ℕ → ℕ) (t : Tree) → SayAlike S S' t → GiveAlike given given' t
      → (c : Corner) (s : Shape) (p : Placement) → Down W H S given slots t c s p → Down W H S' given' slots t c s p
  unfolding Down has
  down_alike slots (leaf t k) f g c s p (x, e) = let i = (eqb_iff k k).1 refl in ((f k (p k) i).0 x, e ∙ g k _ i)
  down_alike slots (cut t d l r) f g c whole p (s, o, x, y, z) =
      let il : (k : ℕ) → So (has l k) → So (has l k || has r k) = λ k i. (or_iff (has l k) (has r k)).1 (inl i) in
      let ir : (k : ℕ) → So (has r k) → So (has l k || has r k) = λ k i. (or_iff (has l k) (has r k)).1 (inr i) in (
        s,
        o,
        x,
        down_alike slots l (λ k b i. f k b (il k i)) (λ k b i. g k b (il k i)) c s p y,
        down_alike slots r (λ k b i. f k b (ir k i)) (λ k b i. g k b (ir k i)) (beside d c s) o p z,
      )

  relists_alike : (work : List ℕ) (t : Tree) → SayAlike S S' t → (c : Corner) (s : Shape)
      → Relists W H R S work t c s ↔ Relists W H R S' work t c s
  relists_alike work (leaf t k) f c s =
      (realizes_same W H (leaf t k) (λ k r i. (f k r i).0) _, realizes_same W H (leaf t k) (λ k r i. (f k r i).1) _)
  relists_alike work (cut t d l r) f c s = (λ x. x, λ x. x)

  relisted_alike : (node node' : ℕ → Tree) (n at : ℕ) (before after : List ℕ) → Below n node node'
      → ((t : ℕ) → t < n → SayAlike S S' (node t))
      → Relisted W H R S node n at before after → Relisted W H R S' node' n at before after
  relisted_alike node node' n at before after e f x = record {
    way = λ t c h on i.
        let x' = x.way t c h on (rw (e t h) i) in
        rw (← e t h) (same_list W _ _ (λ j k. refl) (relists_alike after (node t) (f t h) c) x');
    off = λ t c h on o. x.off t c h on (λ i. o (rw (e t h) at i));
    past = x.past;
  }

module _ {d e : Design} (z : SameDesign d e) where
  pub stairs_same : (slots : ℕ → Corner → ℕ → ℕ) → AllStairs d slots → AllStairs e slots
  stairs_same slots st = coe 0 1 (i. Stairs (width_same z i) (height_same z i) (slot_rows_same z i) (nodes_same z i) slots) st

  module _ (lawful : LawfulDesign d) where
    -- a lawful design's trees have modules below m, and for those the same is listed, suits and is given
    root_suits : SayAlike (SuitsOf d) (SuitsOf e) (root d)
    root_suits k r i =
        let h = ((lawful_tree d lawful).modules k).0 i in
        (suits_same z k h r, suits_same (same_sym z) k (rw (← z.modules) h) r)

    root_gives : GiveAlike (given_for d) (given_for e) (root d)
    root_gives k r i = given_same z k (((lawful_tree d lawful).modules k).0 i) r

    node_lists : (t : ℕ) → t < nodes d → SayAlike (ListsOf d) (ListsOf e) (node_at d t)
    node_lists t n k r i =
        let h = ((lawful_tree d lawful).modules k).0 (part_has (node_part d lawful t n) k i) in
        (lists_same z k h r, lists_same (same_sym z) k (rw (← z.modules) h) r)

    pub own_same : (slots : ℕ → Corner → ℕ → ℕ) → OwnLists d slots → OwnLists e slots
    own_same slots own =
        let W = width_of d in let H = height_of d in
        let R = slot_rows d in let each : FullLists W H R (ListsOf e) (node_at e) (nodes d) slots
        = λ t h. rw (← node_same z t h) (lists_alike W H R (slots t) (node_at d t) (node_lists t h) (own t h)) in
        coe 0 1 (i. FullLists (width_same z i) (height_same z i) (slot_rows_same z i) (ListsOf e) (node_at e) (nodes_same z i) slots) each

    pub down_same : (slots : ℕ → Corner → ℕ → ℕ) (s : Shape) (p : Placement)
        → GoesDown d slots s p → GoesDown e slots s p
    down_same slots s p x =
        subst₃ (λ W H t. Down W H (SuitsOf e) (given_for e) slots t (corner 0 0) s p) (width_same z) (height_same z) (root_same z)
        (down_alike (width_of d) (height_of d) (slot_rows d) slots (root d) root_suits root_gives (corner 0 0) s p x)

-- the same of the slots in work, and of the root's slot there
module _ {d e : Design} (z : SameDesign d e) (work : List ℕ) where
  slots_same : slots_of d work ≡ slots_of e work
  slots_same = λ i. slot (width_same z i) (slot_rows_same z i) work

  pub work_stairs : AllStairs d (slots_of d work) → AllStairs e (slots_of e work)
  work_stairs st = subst (AllStairs e) slots_same (stairs_same z (slots_of d work) st)

  pub work_own : LawfulDesign d → OwnLists d (slots_of d work) → OwnLists e (slots_of e work)
  work_own l own = subst (OwnLists e) slots_same (own_same z l (slots_of d work) own)

  pub work_down : LawfulDesign d → (s : Shape) (p : Placement)
      → GoesDown d (slots_of d work) s p → GoesDown e (slots_of e work) s p
  work_down l s p x = subst (λ slots. GoesDown e slots s p) slots_same (down_same z l (slots_of d work) s p x)

  root_slot_same : root_slot d (slots_of d work) ≡ root_slot e (slots_of e work)
  root_slot_same = rw (slots_same, nodes_same z)

  pub work_empty : NoShapeIn d work → Empty (width_of e) (root_slot e (slots_of e work))
  work_empty = subst₂ Empty (width_same z) root_slot_same

  pub work_chosen : (s : Shape)
      → ChosenIn d work s → Chosen (width_of e) (root_slot e (slots_of e work)) s
  work_chosen s = subst₂ (λ W bytes. Chosen W bytes s) (width_same z) root_slot_same

-- an edit's lists; the place that it names has to stand in both designs' arrays
module _ {d e : Design} (z : SameDesign d e) (lawful : LawfulDesign d) (sized : Sized d) (sized' : Sized e) where
  pub edited_same : (c : Edit) → So (names_place d c) → (before after : List ℕ)
      → EditedLists d c before after → EditedLists e c before after
  edited_same c names before after x =
      let y = changed_same z lawful sized sized' c names in let lawful' = edit_lawful d lawful c names in
      let d' = changed d c in let e' = changed e c in let k : nodes d' ≡ nodes d = (edit_keeps d c).nodes_same in
      let at = changed_node d c in
      let relisted = relisted_alike (width_of d) (height_of d) (slot_rows d) (node_at d') (node_at e') (nodes d) at before after
      (λ t h. node_same y t (rw k h)) (λ t h. node_lists y lawful' t (rw k h)) x in
      rw (← changed_node_same z c)
      (coe 0 1 (i. Relisted (width_same z i) (height_same z i) (slot_rows_same z i) (ListsOf e') (node_at e') (nodes_same z i) at before after) relisted)
