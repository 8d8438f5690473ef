-- The nodes of a lawful design: its tokens leave one thing standing, and what stands last after each is a part of it, so what holds
-- of every node holds of every part of the tree. Assumes nothing.
use Rattle.std.specs.Prelude.{Ok, Err}
use mathlib.Core.Path.{◌≡◌, refl}
use mathlib.Core.Logic.{◌↔◌}
use mathlib.Core.Bool.{Bool, true, false, So}
use mathlib.Core.List.{[], ◌∷◌}
use Prim.Native.Nat.{ℕ, suc, ◌≤◌, ◌<◌, ◌-◌}
use native.Mathlib.Omega.{arith}
use native.Mathlib.Decide.{dec_lt}
use Rattle.rules.specs.declared.Token.TheVariants.{Module, Beyond}
use Rattle.rules.specs.declared.Design.{Design}
use Rattle.rules.specs.declared.Refusal.{Refusal}
use Rattle.rules.specs.declared.Refusal.TheVariants.{BreaksLimits, NotOneThing}
use Rattle.rules.specs.Answers.{Reply}
use Rattle.rules.specs.Tree.{Tree, leaf, cut, position, has, Standing, refused, things, last}
use Rattle.rules.specs.Placement.{Placement, Follows, KeptAt}
use Rattle.rules.specs.Design.{most_modules, token_at, nodes, in_range, within_limits, standing_of, node_at, root, tree_test, value_test, LawfulDesign}
use Rattle.rules.proofs.Standing.{Once, Part, whole, in_left, in_right, Among, here, Reading, Node, is_leaf, is_cut, was_read, node_among, among_node, last_position, node_is, leaf_of, module_once, one_stands, there}
use Rattle.rules.proofs.Searching.{test-iffs}

-- a design's tree test: 6 is never the answer
pub modules_within : (d : Design) → So (within_limits d) → (0 < d.modules) × (d.modules ≤ most_modules)
unfolding within_limits in_range
modules_within d t = let s = simp test-iffs at t in (omega arith, omega arith)

pub never_not_one_thing : (d : Design) (i : ℕ) → So (within_limits d) → tree_test (standing_of d (nodes d)) ≡ Err (NotOneThing i) → ⊥
never_not_one_thing d i t e = go (standing_of d (nodes d)) refl e
  where
    go : (s : Standing) → standing_of d (nodes d) ≡ s → tree_test s ≡ Err (NotOneThing i) → ⊥
    go refused q e = let z : ◌≡◌ {A = ℕ} 0 1 = cc in omega arith
    go (things ts) q e =
        let (u, w, o, x) = one_stands d.modules (token_at d) ts (modules_within d t).0 q in
        let e' : (Ok tt) ≡ Err (NotOneThing i) = rw w at e in let z : ◌≡◌ {A = ℕ} 0 1 = cc in omega arith

-- a lawful design is within the limits, and one thing stands in the end
pub lawful_iff : (d : Design) → LawfulDesign d ↔ (So (within_limits d) × (standing_of d (nodes d) ≡ things (root d ∷ [])))
unfolding value_test
lawful_iff d = (λ e. to (within_limits d) refl e, λ t. rw (t.0, value_test, t.1))
  where
    one : (s : Standing) → tree_test s ≡ (Ok tt) → s ≡ things (last s ∷ [])
    one refused e = let z : ◌≡◌ {A = ℕ} 0 1 = cc in absurd (omega arith)
    one (things []) e = let z : ◌≡◌ {A = ℕ} 0 1 = cc in absurd (omega arith)
    one (things (t ∷ [])) e = refl
    one (things (t ∷ (u ∷ ts))) e = let z : ◌≡◌ {A = ℕ} 0 1 = cc in absurd (omega arith)

    to : (b : Bool) → within_limits d ≡ b
        → elim b as (λ _. Reply) [ true ↦ tree_test (standing_of d (nodes d)) | false ↦ Err (BreaksLimits 0) ] ≡ (Ok tt)
        → So (within_limits d) × (standing_of d (nodes d) ≡ things (root d ∷ []))
    to true t e = (t, one (standing_of d (nodes d)) e)
    to false t e = let z : ◌≡◌ {A = ℕ} 0 1 = cc in absurd (omega arith)

-- a reply is done or refused, and refused for one reason
pub not_both : {r : Reply} {e : Refusal} {A : Type 0} → r ≡ Err e → r ≡ (Ok tt) → A
not_both p q = let z : ◌≡◌ {A = ℕ} 0 1 = cc in absurd (omega arith)

pub one_refusal : {r : Reply} {e f : Refusal} → r ≡ Err e → r ≡ Err f → e ≡ f
one_refusal p q = cc

-- so a design that its tests refuse is not lawful
pub never_both : (d : Design) {e : Refusal} {A : Type 0} → value_test d ≡ Err e → LawfulDesign d → A
never_both d u l = not_both u l

pub same_refusal : (d : Design) {e f : Refusal} → value_test d ≡ Err e → value_test d ≡ Err f → e ≡ f
same_refusal d p q = one_refusal p q

-- the tree of a lawful design
pub record LawfulTree (d : Design) : Type 0 where
  pub limits : So (within_limits d)
  pub reading : Reading d.modules (token_at d) (nodes d) (root d ∷ [])
  pub once : Once (root d)
  pub modules : (k : ℕ) → So (has (root d) k) ↔ (k < d.modules)

pub lawful_tree : (d : Design) → LawfulDesign d → LawfulTree d
lawful_tree d e =
    let (t, s) = (lawful_iff d).0 e in let (u, q, o, h) = one_stands d.modules (token_at d) (root d ∷ []) (modules_within d t).0 s in
    let w : u ≡ root d = cc in
    record { limits = t; reading = was_read (nodes d) (root d ∷ []) s; once = rw w at o; modules = rw w at h }

only_among : {u t : Tree} → Among u (t ∷ []) → Part u t
only_among (here p) = p
only_among {u = u} {t = t} (there x3) = elim x3 [ ]

-- the nodes of a lawful design are the parts of its root
module _ (d : Design) (lawful : LawfulDesign d) where
  pub node_at_lem : (t : ℕ) → t < nodes d → Node d.modules (token_at d) t (node_at d t)
  node_at_lem t h = node_is (lawful_tree d lawful).reading t h

  -- its token is a cut or a module
  pub never_beyond : (t : ℕ) → t < nodes d → token_at d t ≡ Beyond → ⊥
  never_beyond t h q = go (node_at_lem t h)
    where
      go : {u : Tree} → Node d.modules (token_at d) t u → ⊥
      go (is_leaf e b) = let z : ◌≡◌ {A = ℕ} 0 1 = cc in omega arith
      go (is_cut e c) = let z : ◌≡◌ {A = ℕ} 0 1 = cc in omega arith

  pub node_part : (t : ℕ) → t < nodes d → Part (node_at d t) (root d)
  node_part t h = only_among (node_among (lawful_tree d lawful).reading t h)

  pub part_node : (u : Tree) → Part u (root d) → (position u < nodes d) × (u ≡ node_at d (position u))
  part_node u p = among_node (lawful_tree d lawful).reading (here p)

  -- each module has one token
  pub module_token : (k : ℕ) → k < d.modules → (t : ℕ) × (t < nodes d) × (token_at d t ≡ Module k)
  module_token k h =
      let (t, p) = leaf_of (root d) k (((lawful_tree d lawful).modules k).1 h) in let (b, q) = part_node (leaf t k) p in
      (t, b, says t q (node_at_lem t b))
    where
      says : (t : ℕ) {u : Tree} → leaf t k ≡ u → Node d.modules (token_at d) t u → token_at d t ≡ Module k
      says t q (is_leaf e h) = cc
      says t q (is_cut e c) = cc

  pub module_only : (k s t : ℕ) → s < nodes d → t < nodes d → token_at d s ≡ Module k → token_at d t ≡ Module k → s ≡ t
  module_only k s t h g a b = go (dec_lt s t) (dec_lt t s)
    where
      go : Dec (s < t) → Dec (t < s) → s ≡ t
      go (yes l) _ = absurd (module_once (lawful_tree d lawful).reading s t k l g a b)
      go (no l) (yes q) = absurd (module_once (lawful_tree d lawful).reading t s k q h b a)
      go (no l) (no q) = omega arith

  pub root_position : suc (position (root d)) ≡ nodes d
  root_position = last_position (lawful_tree d lawful).reading

  pub last_node : nodes d - 1 < nodes d
  last_node = let e = root_position in omega arith

  -- what holds of each node holds of each part of the root, and back
  pub by_nodes : (P : Tree → Type 0) → ((u : Tree) → Part u (root d) → P u) ↔ ((t : ℕ) → t < nodes d → P (node_at d t))
  by_nodes P = (λ f t h. f (node_at d t) (node_part t h), λ f u p. let (h, q) = part_node u p in rw q (f (position u) h))

top_kept : (t : Tree) (p : Placement) → Follows t p → KeptAt p t
unfolding Follows
top_kept (leaf t k) p f = tt
top_kept (cut t d l r) p f = f.2

part_kept : {u t : Tree} → Part u t → (p : Placement) → Follows t p → KeptAt p u
unfolding Follows
part_kept {u} whole p f = top_kept u p f
part_kept (in_left q) p f = part_kept q p f.0
part_kept (in_right q) p f = part_kept q p f.1

parts_follow : (t : Tree) (p : Placement) → ((u : Tree) → Part u t → KeptAt p u) → Follows t p
unfolding Follows
parts_follow (leaf t k) p f = tt
parts_follow (cut t d l r) p f =
    (parts_follow l p (λ u q. f u (in_left q)), parts_follow r p (λ u q. f u (in_right q)), f (cut t d l r) whole)

-- a placement follows a lawful design's tree exactly if it keeps the cut at each node
pub follows_by_nodes : (d : Design) → LawfulDesign d → (p : Placement)
    → Follows (root d) p ↔ ((t : ℕ) → t < nodes d → KeptAt p (node_at d t))
follows_by_nodes d e p =
    let b = by_nodes d e (KeptAt p) in (λ f. b.0 (λ u q. part_kept q p f), λ f. parts_follow (root d) p (b.1 f))
