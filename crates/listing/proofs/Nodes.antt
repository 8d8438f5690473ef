-- One node's listing: a leaf's slots are the list of the shapes that suit its module's need, a cut's the list of its children's
-- pairings; and the work bytes lent are enough for both. Assumes nothing.
use mathlib.Core.Path.{◌≡◌, refl}
use mathlib.Core.List.{List}
use Prim.Native.Nat.{ℕ, suc, ◌-◌, ◌≤◌, ◌<◌}
use native.Mathlib.Omega.{arith}
use lib.ListN.{get_or}
use Rattle.rules.specs.declared.Design.{Design}
use Rattle.rules.specs.declared.Direction.{Direction}
use Rattle.rules.specs.declared.Token.TheVariants.{Cut as CutToken, Module}
use Rattle.rules.specs.Tree.{Tree, leaf, cut, position}
use Rattle.rules.specs.Design.{need_at, token_at, node_at, nodes, root, ListsOf, slots_of, width_of, height_of, most_modules, most_tokens}
use Rattle.rules.proofs.Test.{fits}
use Rattle.rules.proofs.Standing.{Part, Node, is_leaf, is_cut, node_module}
use Rattle.rules.proofs.Nodes.{node_at_lem, node_part, part_node}
use Rattle.rules.proofs.Limits.{limits, lawful_chip_lem, every_row}
use Rattle.rules.proofs.Listing.{list_bytes}
use Rattle.rules.proofs.Pairing.{pairings_bytes}
use Rattle.rules.proofs.Suiting.{design_decides}
use Rattle.rules.proofs.Agreeing.{all_rows}
use Rattle.rules.proofs.Relisting.{part_left, part_right}
use Rattle.rules.proofs.Scanning.{Grows, own_grows}
use Rattle.cuts.specs.declared.Cut.{Cut}
use Rattle.cuts.specs.Cut.{paired_slot, Cuttable, NodeCut}
use Rattle.leaves.specs.Leaf.{leaf_bytes, NodeListed, LeafReady}
use Rattle.slots.specs.declared.Board.{Board}
use Rattle.slots.specs.Size.{board_of}
use Rattle.slots.specs.Lent.{Lent}
use Rattle.slots.proofs.Lending.{lent_of, fewer_lent}
use Rattle.trees.proofs.Lefts.{left_child}
use Rattle.listing.specs.Making.{Listable, ListsBelow, MayScan, CutReady, NodeMade}
use Rattle.listing.specs.declared.By.{By}

module _ {d : Design} {lefts work : List ℕ} (L : Listable d lefts work) {t : ℕ} (h : t < nodes d) where
  pub few_nodes : t < most_tokens
  few_nodes = let l = limits d L.lawful in omega arith

  its_node : Node d.modules (token_at d) t (node_at d t)
  its_node = node_at_lem d L.lawful t h

  -- a token of a lawful design is a module of its, or a cut of two nodes before it
  pub module_of : {k : ℕ} → token_at d t ≡ Module k → k < most_modules
  module_of {k} q = go its_node
    where
      go : {u : Tree} → Node d.modules (token_at d) t u → k < most_modules
      go (is_leaf {k = j} e b) = let z : j ≡ k = cc in let l = limits d L.lawful in omega arith
      go (is_cut e c) = let z : ◌≡◌ {A = ℕ} 0 1 = cc in absurd (omega arith)

  -- the bytes lent for all nodes are lent for the first ones
  pub node_lent : {b : Board} → b ≡ board_of d → Lent b (suc t) work
  node_lent e = fewer_lent (lent_of d L.lawful L.bytes e) (suc t) h

  pub leaf_ready : {b : Board} → b ≡ board_of d → LeafReady b d.chip t work
  leaf_ready e = record { lawful = lawful_chip_lem d L.lawful; width = rw e; height = rw e; lent = node_lent e }

  pub leaf_made : {b : Board} {k : ℕ} {after : List ℕ} → b ≡ board_of d → token_at d t ≡ Module k
      → NodeListed b d.chip (need_at d k) t work after → NodeMade d t work after
  unfolding fits
  leaf_made {b} {k} {after} e q z = record {
    slots = leaf_bytes d.chip (need_at d k);
    written = rw e at z;
    listed = λ c on. rw (node_module its_node q) (list_bytes (design_decides d) (leaf t k) c);
  }

  -- the cut that stands there
  abbrev pub cut_at : Board → Direction → Cut
  cut_at b k = record { board = b; direction = k; t = t; left = get_or lefts t 0; right = t - 1 }

  module _ {k : Direction} (q : token_at d t ≡ CutToken k) where
    its_children : (l : Tree) × (r : Tree) × (node_at d t ≡ cut t k l r) × (get_or lefts t 0 ≡ position l) × (t - 1 ≡ position r) × (position l < t) × (position r < t)
    its_children = go refl its_node
      where
        go : {u : Tree} → node_at d t ≡ u → Node d.modules (token_at d) t u
            → (l : Tree) × (r : Tree) × (node_at d t ≡ cut t k l r) × (get_or lefts t 0 ≡ position l) × (t - 1 ≡ position r) × (position l < t) × (position r < t)
        go p (is_leaf e b) = let z : ◌≡◌ {A = ℕ} 0 1 = cc in absurd (omega arith)
        go p (is_cut {d = k'} {l = l} {r = r} e c) =
            let z : k' ≡ k = cc in let p' = rw z at p in let a = c.left_before in let b = c.right_before in
            (l, r, p', left_child L.lawful L.lefts h p', omega arith, omega arith, omega arith)

    pub left_before : get_or lefts t 0 < t
    left_before = let (l, r, p, a, b, x, y) = its_children in omega arith

    pub cut_after : 1 ≤ t
    cut_after = let (l, r, p, a, b, x, y) = its_children in omega arith

    -- by all pairs whatever the children's slots hold, and by the scan where the nodes before have their own lists
    pub cut_ready : {b : Board} {by : By} → b ≡ board_of d → MayScan by d t work → CutReady by (cut_at b k) work
    cut_ready {b} {by} e may = let (l, r, p, el, er, x, y) = its_children in record {
      cuttable = cuttable;
      scannable = λ s. record {
        cuttable = cuttable;
        lefts = rw (e, el) (child_grows l (part_left (rw p at (node_part d L.lawful t h))) x (may s));
        rights = rw (e, er) (child_grows r (part_right (rw p at (node_part d L.lawful t h))) y (may s));
      };
    }
      where
        cuttable : Cuttable (cut_at b k) work
        cuttable = let (l, r, p, el, er, x, y) = its_children in record { lent = node_lent e; first = omega arith; second = omega arith }

        child_grows : (u : Tree) → Part u (root d) → position u < t → ListsBelow d t work → Grows (width_of d) (height_of d) (slots_of d work (position u))
        child_grows u q b lists =
            let (_, e) = part_node d L.lawful u q in
            own_grows (design_decides d) u (slots_of d work (position u)) (all_rows (every_row d) (ListsOf d) (slots_of d work (position u)) u (rw (← e) at (lists (position u) b)))

    pub cut_made : {b : Board} {after : List ℕ} → b ≡ board_of d
        → NodeCut (cut_at b k) work after → NodeMade d t work after
    unfolding paired_slot
    cut_made {b} {after} e z = let (l, r, p, a, b, x, y) = its_children in record {
      slots = paired_slot (cut_at (board_of d) k) work;
      written = rw e at z;
      listed = λ c on. rw (p, a, b) (pairings_bytes (width_of d) (height_of d) k (slots_of d work (position l)) (slots_of d work (position r)) c);
    }
