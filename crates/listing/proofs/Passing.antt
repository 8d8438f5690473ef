-- A pass over the nodes, child before parent. A node's new slots hang on its children's, which stand before it and are not touched again;
-- so what was listed stays listed. Assumes nothing.
use mathlib.Core.Path.{◌≡◌, refl, sym, ◌∙◌}
use mathlib.Core.Logic.{◌↔◌}
use mathlib.Core.Bool.{Bool, So}
use mathlib.Core.List.{List}
use Prim.Native.Nat.{ℕ, ◌+◌, ◌≤◌, ◌<◌}
use native.Mathlib.Omega.{arith}
use native.Mathlib.Nat.{le_refl}
use native.Mathlib.Decide.{ℕ_discrete}
use lib.ListN.{length}
use Rattle.rules.specs.declared.Corner.{Corner}
use Rattle.rules.specs.declared.Shape.{Shape}
use Rattle.rules.specs.declared.Design.{Design}
use Rattle.rules.specs.declared.Edit.{Edit}
use Rattle.rules.specs.declared.Edit.TheVariants.{Change, Turn}
use Rattle.rules.specs.Tree.{Tree, leaf, cut, position}
use Rattle.rules.specs.Design.{LawfulDesign, token_at, node_at, nodes, ListsOf, slot_rows, HasSlots, slots_of, width_of, height_of}
use Rattle.rules.specs.Edit.{Relists, changed, changed_node, EditedLists}
use Rattle.rules.proofs.Standing.{Node, is_cut}
use Rattle.rules.proofs.Nodes.{node_at_lem}
use Rattle.rules.proofs.Limits.{every_row, no_other_row}
use Rattle.rules.proofs.Listing.{same_list}
use Rattle.rules.proofs.Relisting.{lists_below, pairs_list_each}
use Rattle.rules.proofs.Agreeing.{Agree, on_more_rows, agree_on, agree_back, paired_agree}
use Rattle.slots.proofs.Writing.{node_other, past_nodes}
use Rattle.listing.specs.Making.{Listable, ListsBelow, IsListed, NodeMade, Made, on_way, ListedAfresh}

-- bytes of the same length serve as well
pub listable_kept : {d : Design} {lefts before after : List ℕ} → length after ≡ length before → Listable d lefts before → Listable d lefts after
listable_kept e l = let b = l.bytes in record { lawful = l.lawful; lefts = l.lefts; bytes = omega arith }

pub none_made : (d : Design) (marked : ℕ → Bool) (before : List ℕ) → Made d marked 0 before before
none_made d marked before = record {
  long = refl;
  made = λ t h. absurd (omega arith);
  kept = λ t h o c on j k. refl;
  past = λ i h. refl;
}

-- a node that is not marked is passed over
pub one_passed : {d : Design} {marked : ℕ → Bool} {t : ℕ} {before after : List ℕ} → (So (marked t) → ⊥) → Made d marked t before after → Made d marked (t + 1) before after
one_passed {d} {marked} {t} o m = record {
  long = m.long;
  made = λ t' h s. m.made t' (below t' h s (ℕ_discrete t' t)) s;
  kept = λ t' h f. m.kept t' h (λ k s. f (omega arith) s);
  past = m.past;
}
  where
    below : (t' : ℕ) → t' < t + 1 → So (marked t') → Dec (t' ≡ t) → t' < t
    below t' h s (yes e) = absurd (o (rw e at s))
    below t' h s (no e) = omega arith

-- the slots of node t agree in two states of the work bytes
abbrev SameSlots : Design → ℕ → List ℕ → List ℕ → Type 0
SameSlots d t mid after = Agree (width_of d) (slot_rows d) (slots_of d mid t) (slots_of d after t)

-- what a node is listed from hangs on the slots of the nodes before it
relists_same : (d : Design) → LawfulDesign d → (t : ℕ) → t < nodes d → (mid after : List ℕ) → ((u : ℕ) → u < t → SameSlots d u mid after)
    → (c : Corner) → HasSlots d c → (s : Shape)
    → Relists (width_of d) (height_of d) (slot_rows d) (ListsOf d) mid (node_at d t) c s ↔ Relists (width_of d) (height_of d) (slot_rows d) (ListsOf d) after (node_at d t) c s
relists_same d lawful t h mid after same c on s = go (node_at d t) (node_at_lem d lawful t h)
  where
    go : (u : Tree) → Node d.modules (token_at d) t u
        → Relists (width_of d) (height_of d) (slot_rows d) (ListsOf d) mid u c s ↔ Relists (width_of d) (height_of d) (slot_rows d) (ListsOf d) after u c s
    go (leaf t' k) n = (λ z. z, λ z. z)
    go (cut t' e l r) (is_cut q ch) =
        let a = ch.left_before in let b = ch.right_before in
        let x = agree_on (every_row d) (same (position l) (omega arith)) in let y = agree_on (every_row d) (same (position r) (omega arith)) in
        let o = on_more_rows (no_other_row d) on in
        (paired_agree (width_of d) (height_of d) e x y c o s, paired_agree (width_of d) (height_of d) e (agree_back x) (agree_back y) c o s)

-- a marked node that is listed
pub one_made : {d : Design} {marked : ℕ → Bool} {t : ℕ} {before mid after : List ℕ} → LawfulDesign d → t < nodes d → So (marked t)
    → Made d marked t before mid → NodeMade d t mid after → Made d marked (t + 1) before after
one_made {d} {marked} {t} {before} {mid} {after} lawful ht st m z = record {
  long = z.written.long ∙ m.long;
  made = λ t' h s. listed t' h s (ℕ_discrete t' t);
  kept = λ t' h o c on j k. other t' (λ e. o (omega arith) (rw e at st)) c on j k ∙ m.kept t' h (λ g s. o (omega arith) s) c on j k;
  past = λ i h. past_nodes (width_of d) (slot_rows d) t (nodes d) z.slots mid after z.written ht i h ∙ m.past i h;
}
  where
    other : (t' : ℕ) → (t ≡ t' → ⊥) → (c : Corner) → HasSlots d c → (j : ℕ) → j < width_of d → slots_of d after t' c j ≡ slots_of d mid t' c j
    other t' o = node_other (width_of d) (slot_rows d) t t' z.slots mid after z.written o

    same : (t' : ℕ) → t' ≤ t → (u : ℕ) → u < t' → SameSlots d u mid after
    same t' b u h = record { at = λ c on j k. sym (other u (λ e. absurd (omega arith)) c on j k) }

    listed : (t' : ℕ) → t' < t + 1 → So (marked t') → Dec (t' ≡ t) → (c : Corner) → HasSlots d c → IsListed d t' (slots_of d after t' c) after c
    listed t' h s (yes e) c on =
        rw e (same_list (width_of d) (z.slots c) (slots_of d after t c) (λ j k. sym (z.written.inside c on j k))
        (relists_same d lawful t ht mid after (same t (omega arith)) c on) (z.listed c on))
    listed t' h s (no e) c on =
        same_list (width_of d) (slots_of d mid t' c) (slots_of d after t' c) (λ j k. sym (other t' (λ q. e (sym q)) c on j k))
        (relists_same d lawful t' (omega arith) mid after (same t' (omega arith)) c on) (m.made t' (omega arith) s c on)

-- marks that agree on the nodes make the same pass
pub same_marks : {d : Design} {marked marked' : ℕ → Bool} {before after : List ℕ} → ((t : ℕ) → t < nodes d → marked t ≡ marked' t)
    → Made d marked (nodes d) before after → Made d marked' (nodes d) before after
same_marks e m = record {
  long = m.long;
  made = λ t h s. m.made t h (rw (e t h) s);
  kept = λ t h o. m.kept t h (λ k s. o k (rw (e t h) at s));
  past = m.past;
}

-- where the nodes so far are all marked, their slots are their own lists
pub below_made : {d : Design} {marked : ℕ → Bool} {t : ℕ} {before after : List ℕ} → LawfulDesign d → t ≤ nodes d → ((u : ℕ) → u < nodes d → So (marked u)) → Made d marked t before after
    → ListsBelow d t after
below_made {d} {t = t} {after = after} lawful h every m = lists_below d lawful after (pairs_list_each d after) t h (λ u b c on. m.made u b (every u (omega arith)) c on)

-- all nodes listed: the design's full lists stand in work, and the bytes past them stay
pub all_made : {d : Design} {marked : ℕ → Bool} {before after : List ℕ} → LawfulDesign d → ((t : ℕ) → t < nodes d → So (marked t)) → Made d marked (nodes d) before after
    → ListedAfresh d before after
all_made {d} lawful every m = (record { length = m.long; past = m.past }, below_made lawful (le_refl (nodes d)) every m)

-- the way of an edit listed: the bytes that edit's rule asks for
pub way_made : (d : Design) (e : Edit) {before after : List ℕ} → Made (changed d e) (on_way (changed d e) (changed_node d e)) (nodes (changed d e)) before after → EditedLists d e before after
unfolding changed slot_rows
way_made d (Change k n) m = record { way = λ t c h on s. m.made t h s c on; off = λ t c h on o. m.kept t h (λ _ s. o s) c on; past = record { length = m.long; past = m.past } }
way_made d (Turn p) m = record { way = λ t c h on s. m.made t h s c on; off = λ t c h on o. m.kept t h (λ _ s. o s) c on; past = record { length = m.long; past = m.past } }
