-- An edit's relisting. Off the way nothing changed, so the old bytes are the new design's lists; on the way a leaf is listed from
-- its need and a cut from its children's new lists, whose undominated pairings are its list. And what the relisting leaves is
-- fixed, whatever the bytes before, since pairings hang on the children's bytes alone. Assumes nothing.
use mathlib.Core.Path.{◌≡◌, refl, sym, ap}
use mathlib.Core.Logic.{inl, inr, ⊎_elim, ◌↔◌}
use mathlib.Core.List.{List}
use mathlib.Core.Bool.{So}
use Prim.Native.Nat.{ℕ, ◌≤◌, ◌<◌}
use native.Mathlib.Omega.{arith}
use Rattle.rules.specs.declared.Corner.{Corner}
use Rattle.rules.specs.declared.Shape.{Shape}
use Rattle.rules.specs.declared.Rectangle.{Rectangle}
use Rattle.rules.specs.declared.Direction.{Direction}
use Rattle.rules.specs.declared.Design.{Design}
use Rattle.rules.specs.declared.Edit.{Edit}
use Rattle.rules.specs.Tree.{Tree, leaf, cut, has, spans, position}
use Rattle.rules.specs.Shape.{Realizes, ShapeAt, Undominated, Listed}
use Rattle.rules.specs.Slot.{slot, CornerOn, IsListOf, FullLists, ListsAt}
use Rattle.rules.specs.Edit.{names_place, changed, changed_node, Relists, Relisted, EditedLists}
use Rattle.rules.specs.Design.{LawfulDesign, slot_rows, HasSlots, OwnLists, slots_of, ListsOf, token_at, node_at, nodes, root, width_of, height_of}
use Rattle.rules.proofs.Test.{Test}
use Rattle.rules.proofs.Searching.{know, or_iff, eqb_iff}
use Rattle.rules.proofs.Standing.{Part, whole, in_left, in_right, Node, is_leaf, is_cut, node_position}
use Rattle.rules.proofs.Nodes.{part_node, node_part, node_at_lem}
use Rattle.rules.proofs.Fitting.{Decides}
use Rattle.rules.proofs.Suiting.{design_decides, need_lists}
use Rattle.rules.proofs.Listing.{same_list}
use Rattle.rules.proofs.Pairing.{pairings_list_the_cut}
use Rattle.rules.proofs.Alike.{Alike, alike_off, alike_spans}
use Rattle.rules.proofs.Changing.{edit_lawful, edit_nodes, edit_keeps, edit_rows}
use Rattle.rules.proofs.Limits.{every_row, no_other_row}
use Rattle.rules.proofs.Agreeing.{on_more_rows, all_rows}

-- a tree's shapes hang on what its own leaves list
pub realizes_same : (W H : ℕ) {S S' : ℕ → Rectangle → Type 0} (t : Tree) → ((k : ℕ) (r : Rectangle) → So (has t k) → S k r → S' k r)
    → (r : Rectangle) → Realizes W H S t r → Realizes W H S' t r
unfolding Realizes has
realizes_same W H (leaf t k) f r (o, s) = (o, f k r ((eqb_iff k k).1 refl) s)
realizes_same W H (cut t d l r) f b (p, q, x, y, o, e) = (
  p,
  q,
  realizes_same W H l (λ k b i. f k b ((or_iff (has l k) (has r k)).1 (inl i))) p x,
  realizes_same W H r (λ k b i. f k b ((or_iff (has l k) (has r k)).1 (inr i))) q y,
  o,
  e,
)

-- a cut's children are parts of whatever it is a part of
pub part_left : {t : ℕ} {d : Direction} {l r v : Tree} → Part (cut t d l r) v → Part l v
part_left whole = in_left whole
part_left (in_left q) = in_left (part_left q)
part_left (in_right q) = in_right (part_left q)

pub part_right : {t : ℕ} {d : Direction} {l r v : Tree} → Part (cut t d l r) v → Part r v
part_right whole = in_right whole
part_right (in_left q) = in_left (part_right q)
part_right (in_right q) = in_right (part_right q)

module _ {W H R : ℕ} (every : H ≤ R) (S : ℕ → Rectangle → Type 0) {S' : ℕ → Rectangle → Type 0} {F : ℕ → Test} (dec : Decides W H S' F)
    (node node' : ℕ → Tree) (n p : ℕ) (tree : Tree)
    (parts : (u : Tree) → Part u tree → (position u < n) × (u ≡ node' (position u)))
    (off : (t : ℕ) → t < n → (So (spans (node' t) p) → ⊥) → (c : Corner) (s : Shape) → ShapeAt W H S (node t) c s ↔ ShapeAt W H S' (node' t) c s)
    (work work' : List ℕ) (own : FullLists W H R S node n (slot W R work)) (rel : Relisted W H R S' node' n p work work') where
  -- the slots of a part off the way are its lists still
  kept_lists : (u : Tree) → Part u tree → (So (spans u p) → ⊥) → ListsAt W H R S' (slot W R work' (position u)) u
  kept_lists u q o c on =
      let (h, e) = parts u q in let o' : So (spans (node' (position u)) p) → ⊥ = rw e at o in
      rw (← e) at (same_list W _ (slot W R work' (position u) c) (λ j k. sym (rel.off (position u) c h on o' j k)) (off (position u) h o' c) (own (position u) h c on))

  -- the slots of a part on the way are the list of what it is relisted from
  made_lists : (u : Tree) → Part u tree → So (spans u p) → (c : Corner) → CornerOn W R c → IsListOf W (slot W R work' (position u) c) (Relists W H R S' work' u c)
  made_lists u q i c on = let (h, e) = parts u q in rw (← e) at (rel.way (position u) c h on (rw e at i))

  -- every part's slots are its lists, child before parent
  relisted_lists : (u : Tree) → Part u tree → ListsAt W H R S' (slot W R work' (position u)) u
  relisted_lists (leaf t k) q = ⊎_elim (made_lists (leaf t k) q) (kept_lists (leaf t k) q) (know (spans (leaf t k) p))
  relisted_lists (cut t d l r) q =
      let x = all_rows every S' _ l (relisted_lists l (part_left q)) in let y = all_rows every S' _ r (relisted_lists r (part_right q)) in
      ⊎_elim
      (λ i c on s. let m = made_lists (cut t d l r) q i c on s in
      let u = pairings_list_the_cut dec t d l r (slot W R work' (position l)) (slot W R work' (position r)) x y c s in (λ z. u.0 (m.0 z), λ z. m.1 (u.1 z)))
      (kept_lists (cut t d l r) q) (know (spans (cut t d l r) p))

-- off the way the two designs' shapes are the same
off_same : (d d' : Design) (p : ℕ) (u u' : Tree) → d'.chip ≡ d.chip → Alike p d d' u u' → (So (spans u' p) → ⊥)
    → (c : Corner) (s : Shape) → ShapeAt (width_of d) (height_of d) (ListsOf d) u c s ↔ ShapeAt (width_of d) (height_of d) (ListsOf d') u' c s
off_same d d' p u u' ec a o c s =
    let (e, f) = alike_off a (λ i. o (rw (alike_spans a p) at i)) in (
      λ z. rw (← e) (realizes_same (width_of d) (height_of d) u (λ k r i. need_lists d d' k (sym ec) (f k i) r) _ z),
      λ z. realizes_same (width_of d) (height_of d) u (λ k r i. need_lists d' d k ec (sym (f k i)) r) _ (rw (← e) at z),
    )

-- relisting the way from an edited node to the root turns own lists of the old design into own lists of the new one
pub relisted_own : (d : Design) (e : Edit) → LawfulDesign d → So (names_place d e) → (work work' : List ℕ) → OwnLists d (slots_of d work) → EditedLists d e work work'
    → OwnLists (changed d e) (slots_of (changed d e) work')
unfolding changed
relisted_own d e lawful names work work' own rel =
    let d' = changed d e in let p = changed_node d e in let lawful' = edit_lawful d lawful e names in let k = edit_keeps d e in
    let kw : width_of d' ≡ width_of d = ap (λ C. C.width.0) k.chip in let kh : height_of d' ≡ height_of d = ap (λ C. C.height.0) k.chip in let kr : slot_rows d' ≡ slot_rows d = edit_rows d e in
    let lists = relisted_lists (every_row d) (ListsOf d) (rw (kw, kh) at (design_decides d')) (node_at d) (node_at d') (nodes d) p (root d')
    (λ u q. let (h, r) = part_node d' lawful' u q in (rw k.nodes_same at h, r))
    (λ t h o. off_same d d' p (node_at d t) (node_at d' t) k.chip (edit_nodes d lawful e names t h) o) work work' own rel in
    rw (kw, kh, kr) (λ t h c on. rw (node_position (node_at_lem d' lawful' t h)) at (lists (node_at d' t) (node_part d' lawful' t h) c on))

-- a cut's children stand before it
children_before : (d : Design) → LawfulDesign d → {t : ℕ} {e : Direction} {l r : Tree} → Part (cut t e l r) (root d) → (position l < t) × (position r < t)
children_before d lawful {t} {e} {l} {r} q = let (h, p) = part_node d lawful (cut t e l r) q in go p (node_at_lem d lawful t h)
  where
    go : {u : Tree} → cut t e l r ≡ u → Node d.modules (token_at d) t u → (position l < t) × (position r < t)
    go p (is_leaf x y) = let z : ◌≡◌ {A = ℕ} 0 1 = cc in absurd (omega arith)
    go p (is_cut {l = l'} {r = r'} x c) =
        let el : l ≡ l' = cc in let er : r ≡ r' = cc in let a = c.left_before in let b = c.right_before in (rw el (omega arith), rw er (omega arith))

-- What the nodes are listed from, child before parent: of a leaf its shapes, and of a cut what over its children's own lists gives its own.
pub record ListsEach (d : Design) (work : List ℕ) (From : Tree → Corner → Shape → Type 0) : Type 0 where
  pub of_leaf : (t k : ℕ) (c : Corner) (s : Shape) → Undominated (From (leaf t k) c) s ↔ Listed (width_of d) (height_of d) (ListsOf d) (leaf t k) c s
  pub of_cut : (t : ℕ) (e : Direction) (l r : Tree) → ListsAt (width_of d) (height_of d) (height_of d) (ListsOf d) (slots_of d work (position l)) l
      → ListsAt (width_of d) (height_of d) (height_of d) (ListsOf d) (slots_of d work (position r)) r
      → (c : Corner) → CornerOn (width_of d) (height_of d) c → (s : Shape)
      → Undominated (From (cut t e l r) c) s ↔ Listed (width_of d) (height_of d) (ListsOf d) (cut t e l r) c s

-- where each of the first n nodes is listed from that, their bytes are their own lists
pub lists_below : (d : Design) → LawfulDesign d → (work : List ℕ) {From : Tree → Corner → Shape → Type 0} → ListsEach d work From → (n : ℕ) → n ≤ nodes d
    → ((t : ℕ) → t < n → (c : Corner) → HasSlots d c → IsListOf (width_of d) (slots_of d work t c) (From (node_at d t) c))
    → FullLists (width_of d) (height_of d) (slot_rows d) (ListsOf d) (node_at d) n (slots_of d work)
lists_below d lawful work {From} each n few made t h c on =
    let e = node_position (node_at_lem d lawful t (omega arith)) in
    rw e at (go (node_at d t) (node_part d lawful t (omega arith)) (rw e h) c on)
  where
    at : (u : Tree) → Part u (root d) → position u < n → (c : Corner) → HasSlots d c → IsListOf (width_of d) (slots_of d work (position u) c) (From u c)
    at u q b c on = let (_, e) = part_node d lawful u q in rw (← e) at (made (position u) b c on)

    on_chip : (u : Tree) → ListsAt (width_of d) (height_of d) (slot_rows d) (ListsOf d) (slots_of d work (position u)) u
        → ListsAt (width_of d) (height_of d) (height_of d) (ListsOf d) (slots_of d work (position u)) u
    on_chip u = all_rows (every_row d) (ListsOf d) (slots_of d work (position u)) u

    go : (u : Tree) → Part u (root d) → position u < n → ListsAt (width_of d) (height_of d) (slot_rows d) (ListsOf d) (slots_of d work (position u)) u
    go (leaf t k) q b = λ c on s. let m = at (leaf t k) q b c on s in let p = each.of_leaf t k c s in (λ z. p.0 (m.0 z), λ z. m.1 (p.1 z))
    go (cut t e l r) q b =
        let (hl, hr) = children_before d lawful q in
        let x = on_chip l (go l (part_left q) (omega arith)) in let y = on_chip r (go r (part_right q) (omega arith)) in λ c on s.
        let m = at (cut t e l r) q b c on s in let p = each.of_cut t e l r x y c (on_more_rows (no_other_row d) on) s in (λ z. p.0 (m.0 z), λ z. m.1 (p.1 z))

-- all pairings of the children's stored shapes are such
pub pairs_list_each : (d : Design) (work : List ℕ) → ListsEach d work (Relists (width_of d) (height_of d) (slot_rows d) (ListsOf d) work)
pairs_list_each d work = record {
  of_leaf = λ t k c s. (λ u. u, λ u. u);
  of_cut = λ t e l r x y c on s. pairings_list_the_cut (design_decides d) t e l r (slots_of d work (position l)) (slots_of d work (position r)) x y c s;
}
