-- Demand 2 of list, plan and place. A design's own lists are complete, sorted and free of dominated shapes; over them either there is no
-- placement, and that is said, or the floorplan promised goes out in the rows, with its box; and place, over own lists wherever they stand,
-- answers as plan does. Assumes nothing.
use mathlib.Core.Path.{◌≡◌, refl, sym, ◌∙◌}
use mathlib.Core.Logic.{⊎_elim}
use mathlib.Core.Bool.{So}
use mathlib.Core.List.{List, ◌++◌}
use Prim.Native.Nat.{ℕ, ◌-◌, ◌≤◌, ◌<◌}
use native.Mathlib.Omega.{arith}
use lib.ListN.{length, drop}
use Rattle.rules.specs.declared.Shape.{Shape}
use Rattle.rules.specs.declared.Design.{Design}
use Rattle.rules.specs.Answers.{Reply, Planned}
use Rattle.rules.specs.Chip.{corner, right, top}
use Rattle.rules.specs.Tree.{has, position}
use Rattle.rules.specs.Placement.{Placement, box}
use Rattle.rules.specs.Choice.{rows_out}
use Rattle.rules.specs.Design.{LawfulDesign, LawfulPlacement, node_at, nodes, root, SuitsOf, given_for, slots_of, root_slot, OwnLists, width_of, height_of}
use Rattle.rules.specs.Check.{from_rows}
use Rattle.rules.specs.Reply.{plainly, planned_answer}
use Rattle.rules.specs.Service.{Lists, Plans, Places, Enough, work_of, rows_of}
use Rattle.rules.proofs.Suiting.{design_decides}
use Rattle.rules.proofs.Listing.{list_complete, list_sorted, list_unique, same_stores}
use Rattle.rules.proofs.Nodes.{lawful_tree, part_node, last_node}
use Rattle.rules.proofs.Agreeing.{Agree, chosen_agree, down_agree, on_more_rows, agree_on}
use Rattle.rules.proofs.Placing.{lawful_same, furthest_same}
use Rattle.rules.proofs.Limits.{every_row}
use Rattle.rules.proofs.Planning.{follow_apart}
use Rattle.rules.proofs.Floorplans.{Floorplan, planned, own_stairs, corner_zero}
use Rattle.rules.proofs.RowsOut.{rows_back}
use Rattle.promises.specs.Demand1.{boxed}
use Rattle.promises.specs.Demand2.{GoodLists, NoPlacement, GoodPlan, PlannedWell}

-- "Each list is complete, sorted and free of dominated shapes": a design's own lists are
pub own_good : (d : Design) (work : List ℕ) → OwnLists d (slots_of d work) → GoodLists d work
own_good d work own t c h on = let l = own t h c (on_more_rows (every_row d) on) in record {
  shapes = λ s z. ((l s).0 z).is;
  complete = λ s z. let (o, i, e) = list_complete (design_decides d) (node_at d t) c s z in (o, (l o).1 i, e);
  sorted = λ s o x y. list_sorted (width_of d) (slots_of d work t c) l s o x y;
  undominated = λ s o x y e. ((l s).0 x).alone o y e;
}

-- Rows that are written out hold their placement: its rectangles, its box.
module _ (d : Design) (l : LawfulDesign d) (p : Placement) (rows rows' : List ℕ) (e : rows' ≡ rows_out d.modules p ++ drop (rows_of d) rows) where
  same_rectangles : (k : ℕ) → So (has (root d) k) → p k ≡ from_rows rows' k
  same_rectangles k i = rw e (sym (rows_back d.modules p (drop (rows_of d) rows) k (((lawful_tree d l).modules k).0 i)))

  pub rows_lawful : LawfulPlacement d p → LawfulPlacement d (from_rows rows')
  rows_lawful f = lawful_same (root d) p (from_rows rows') same_rectangles f

  rows_boxed : box (root d) p ≡ box (root d) (from_rows rows')
  rows_boxed = rw (furthest_same right (root d) p (from_rows rows') same_rectangles, furthest_same top (root d) p (from_rows rows') same_rectangles)

  -- and where it is the floorplan promised, they are a good plan
  pub rows_good : (s : Shape) → Floorplan d s p → GoodPlan d s rows'
  rows_good s f =
      let w = rows_lawful f.lawful in let t = (lawful_tree d l).modules in record {
        follow = w.follows;
        on_chip = λ k h. w.on_chip k ((t k).1 h);
        meet = λ k h. w.suits k ((t k).1 h);
        apart = λ i j x y h g. follow_apart (root d) (from_rows rows') w.follows i j x y ((t i).1 h) ((t j).1 g);
        smallest = f.smallest;
        boxed = sym f.boxed ∙ rows_boxed;
      }

-- "no placement", or a floorplan: what is said, and of what
none_planned : (d : Design) (rows : List ℕ) → NoPlacement d → PlannedWell d (plainly 10 0) rows
none_planned d rows f = record { none = (λ _. f, λ _. refl); otherwise = λ o. absurd (o refl) }

good_planned : (d : Design) (s : Shape) (p : Placement) (rows : List ℕ) → Floorplan d s p → GoodPlan d s rows → PlannedWell d (boxed s) rows
good_planned d s p rows f g = record { none = (λ e. absurd (omega arith), λ n. absurd (n p f.lawful)); otherwise = λ _. (refl, g) }

module _ (d : Design) (before rows after rows' : List ℕ) (r : Planned) (x : Plans d before rows r after rows') (h : Enough d before rows) where
  pub planned_well : PlannedWell d (planned_answer r) rows'
  planned_well = ⊎_elim
      (λ z. rw (x.none h z.0).0 (none_planned d rows' z.1))
      (λ z. let (s, ch, (p, down, f)) = z in let (a, b) = x.done h s p ch down in rw a (good_planned d s p rows' f (rows_good d h.lawful p rows rows' b s f)))
      (planned d h.lawful (slots_of d after) (x.listed h).1)

  -- place, over the design's own lists wherever they stand, gives plan's reply, box and rows
  pub place_as_plan : (work out : List ℕ) (r' : Planned) → work_of d ≤ length work → OwnLists d (slots_of d work) → Places d work rows r' out → (r' ≡ r) × (out ≡ rows')
  place_as_plan work out r' w own z =
      let W = width_of d in let H = height_of d in let o = (x.listed h).1 in
      let lent : Enough d work rows = record { lawful = h.lawful; bytes = w; places = h.places } in
      let st = own_stairs d h.lawful (slots_of d work) own in
      let same : (t : ℕ) → t < nodes d → Agree W H (slots_of d after t) (slots_of d work t) =
      λ t b. agree_on (every_row d) (record { at = λ c on. list_unique W (slots_of d after t c) (slots_of d work t c) (o t b c on) (own t b c on) }) in
      let root_same = (same (nodes d - 1) (last_node d h.lawful)).at (corner 0 0) (corner_zero d h.lawful) in
      ⊎_elim
      (λ n. let (a, b) = x.none h n.0 in
      let (a', b') = z.none lent st (λ s q. n.0 s (same_stores W (root_slot d (slots_of d work)) (root_slot d (slots_of d after)) (λ j g. sym (root_same j g)) s q)) in
      (a' ∙ sym a, b' ∙ sym b))
      (λ n. let (s, ch, (p, down, f)) = n in let (a, b) = x.done h s p ch down in
      let (a', b') = z.done lent st s p (chosen_agree W (root_slot d (slots_of d after)) (root_slot d (slots_of d work)) root_same s ch)
      (down_agree W H (SuitsOf d) (given_for d) (slots_of d after) (slots_of d work) (root d) (λ u q. same (position u) (part_node d h.lawful u q).0) (corner 0 0) (corner_zero d h.lawful) s p down) in
      (a' ∙ sym a, b' ∙ sym b))
      (planned d h.lawful (slots_of d after) o)

-- place over own lists
pub placed_well : (d : Design) (work rows rows' : List ℕ) (r : Planned) → Places d work rows r rows' → Enough d work rows → OwnLists d (slots_of d work)
    → PlannedWell d (planned_answer r) rows'
placed_well d work rows rows' r x h own =
    let st = own_stairs d h.lawful (slots_of d work) own in
    ⊎_elim (λ z. rw (x.none h st z.0).0 (none_planned d rows' z.1))
    (λ z. let (s, ch, (p, down, f)) = z in let (a, b) = x.done h st s p ch down in rw a (good_planned d s p rows' f (rows_good d h.lawful p rows rows' b s f)))
    (planned d h.lawful (slots_of d work) own)

-- "place over what list writes gives plan's reply, box and rows"
pub list_then_place : (d : Design) (before rows listed after out rows' : List ℕ) (r : Reply) (q r' : Planned)
    → Enough d before rows → Lists d before r listed → Places d listed rows q out → Plans d before rows r' after rows' → (q ≡ r') × (out ≡ rows')
list_then_place d before rows listed after out rows' r q r' h y z x =
    let (_, k, own) = y.done h.lawful h.bytes in
    place_as_plan d before rows after rows' r' x h listed out q (rw k.length h.bytes) own z
