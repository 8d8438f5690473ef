-- Listing by the scan and listing by all pairs. Either way each node's slots become its own lists, child before parent, and these are the only ones; so
-- for every lawful design both leave the same bytes, whatever work held. Assumes nothing.
use mathlib.Core.Path.{◌≡◌, refl}
use mathlib.Core.List.{List}
use Prim.Native.Nat.{ℕ, ◌<◌}
use native.Mathlib.Nat.{le_refl}
use Rattle.rules.specs.declared.Corner.{Corner}
use Rattle.rules.specs.declared.Shape.{Shape}
use Rattle.rules.specs.declared.Design.{Design}
use Rattle.rules.specs.Tree.{Tree, leaf, cut, position}
use Rattle.rules.specs.Slot.{IsListOf, ListsAt, PastKept}
use Rattle.rules.specs.Design.{LawfulDesign, OwnLists, slot_rows, HasSlots, slots_of, ListsOf, node_at, nodes, root, width_of, height_of}
use Rattle.rules.specs.Edit.{Relists}
use Rattle.rules.specs.Scan.{ScanLists, ListedFrom}
use Rattle.rules.specs.Service.{work_of}
use Rattle.rules.proofs.Standing.{Part}
use Rattle.rules.proofs.Nodes.{part_node, node_part}
use Rattle.rules.proofs.Limits.{every_row, no_other_row}
use Rattle.rules.proofs.Agreeing.{on_more_rows, all_rows}
use Rattle.rules.proofs.Suiting.{design_decides}
use Rattle.rules.proofs.Scanning.{scan_lists_the_cut}
use Rattle.rules.proofs.Relisting.{part_left, part_right, ListsEach, lists_below, pairs_list_each}
use Rattle.rules.proofs.Working.{listed_once}

pub scan_lists_each : (d : Design) (work : List ℕ) → ListsEach d work (ScanLists (width_of d) (height_of d) (slot_rows d) (ListsOf d) work)
scan_lists_each d work = record {
  of_leaf = λ t k c s. (λ u. u, λ u. u);
  of_cut = λ t e l r x y c on s. scan_lists_the_cut (design_decides d) t e l r (slots_of d work (position l)) (slots_of d work (position r)) x y c on s;
}

pub scan_and_pairs_agree : (d : Design) → LawfulDesign d → (before by-scan by-pairs : List ℕ)
    → ListedFrom d (ScanLists (width_of d) (height_of d) (slot_rows d) (ListsOf d)) before by-scan → ListedFrom d (Relists (width_of d) (height_of d) (slot_rows d) (ListsOf d)) before by-pairs
    → by-scan ≡ by-pairs
scan_and_pairs_agree d lawful before a b x y =
    listed_once (width_of d) (height_of d) (slot_rows d) (ListsOf d) (node_at d) (nodes d) before a b x.past y.past
    (lists_below d lawful a (scan_lists_each d a) (nodes d) (le_refl _) x.listed) (lists_below d lawful b (pairs_list_each d b) (nodes d) (le_refl _) y.listed)

-- And there is such a listing: what list leaves, which is the design's own lists, is the listing either way.
own_listed : (d : Design) → LawfulDesign d → (work : List ℕ) {From : Tree → Corner → Shape → Type 0} → ListsEach d work From → OwnLists d (slots_of d work)
    → (t : ℕ) → t < nodes d → (c : Corner) → HasSlots d c → IsListOf (width_of d) (slots_of d work t c) (From (node_at d t) c)
own_listed d lawful work {From} each own t h c on = go (node_at d t) (node_part d lawful t h) refl
  where
    -- a part's slots are its lists, at every corner of the chip
    lists : (u : Tree) → Part u (root d) → ListsAt (width_of d) (height_of d) (height_of d) (ListsOf d) (slots_of d work (position u)) u
    lists u q = let (b, e) = part_node d lawful u q in all_rows (every_row d) (ListsOf d) (slots_of d work (position u)) u (rw (← e) at (own (position u) b))

    go : (u : Tree) → Part u (root d) → node_at d t ≡ u → IsListOf (width_of d) (slots_of d work t c) (From u c)
    go (leaf t' k) q e s = let m = rw e at (own t h c on s) in let p = each.of_leaf t' k c s in (λ z. p.1 (m.0 z), λ z. m.1 (p.0 z))
    go (cut t' k l r) q e s =
        let m = rw e at (own t h c on s) in let p = each.of_cut t' k l r (lists l (part_left q)) (lists r (part_right q)) c (on_more_rows (no_other_row d) on) s in
        (λ z. p.1 (m.0 z), λ z. m.1 (p.0 z))

pub own_lists_either_way : (d : Design) → LawfulDesign d → (before work : List ℕ) → PastKept (work_of d) before work → OwnLists d (slots_of d work)
    → ListedFrom d (ScanLists (width_of d) (height_of d) (slot_rows d) (ListsOf d)) before work × ListedFrom d (Relists (width_of d) (height_of d) (slot_rows d) (ListsOf d)) before work
own_lists_either_way d lawful before work past own = (
  record { past = past; listed = own_listed d lawful work (scan_lists_each d work) own },
  record { past = past; listed = own_listed d lawful work (pairs_list_each d work) own },
)
