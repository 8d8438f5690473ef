-- A granted edit leaves a lawful design whose tree stands as before, but for what stands at the changed node: the tokens are
-- the same or one cut is turned, and a module's need is used at its one leaf. Assumes nothing.
use mathlib.Core.Path.{◌≡◌, refl, sym, ap}
use mathlib.Core.Bool.{Bool, So}
use mathlib.Core.List.{List}
use Prim.Native.Nat.{ℕ, ◌<◌}
use native.Mathlib.Omega.{arith}
use native.Mathlib.Decide.{dec_lt, ℕ_discrete}
use lib.Dec.{ltb}
use lib.ListN.{length, get_or, set}
use lib.Seq.{get_or-set_same, get_or-set_other, set_out}
use Rattle.rules.specs.declared.Direction.{Direction}
use Rattle.rules.specs.declared.Token.TheVariants.{Cut, Module}
use Rattle.rules.specs.declared.Design.{Design}
use Rattle.rules.specs.declared.Need.{Need}
use Rattle.rules.specs.declared.Edit.{Edit}
use Rattle.rules.specs.declared.Edit.TheVariants.{Change, Turn}
use Rattle.rules.specs.Tree.{token_of, number_of, is_cut, is_module}
use Rattle.rules.specs.Design.{most_modules, no_need, need_at, token_at, nodes, lawful_need, within_limits, node_at, root, LawfulDesign, slot_rows, width_of}
use Rattle.rules.specs.Edit.{names_place, changed, changed_node, other, turned, module_position}
use Rattle.rules.specs.Service.{work_of}
use Rattle.rules.proofs.Searching.{and_iff, any_iff, all_iff, least_found, test-iffs}
use Rattle.rules.proofs.Tokens.{cut_undone, cut_iff, module_iff}
use Rattle.rules.proofs.Nodes.{lawful_iff, lawful_tree, module_token, module_only}
use Rattle.rules.proofs.Alike.{Alike, AlikeDesigns, nodes_alike, roots_alike}

-- What stands at place j after place i is set to a: what stood there, or a. Past the end nothing is set.
data AfterSet {A : Type 0} (l : List A) (i j : ℕ) (a x v : A) : Type 0 where
  kept : v ≡ get_or l j x → AfterSet l i j a x v
  new : i ≡ j → v ≡ a → AfterSet l i j a x v

after_set : {A : Type 0} (l : List A) (i j : ℕ) (a x : A) → AfterSet l i j a x (get_or (set l i a) j x)
after_set l i j a x = go (ℕ_discrete j i) (dec_lt i (length l))
  where
    go : Dec (j ≡ i) → Dec (i < length l) → AfterSet l i j a x (get_or (set l i a) j x)
    go (no e) _ = kept (get_or-set_other l i j a x e)
    go (yes e) (yes h) = new (sym e) (rw e (get_or-set_same l i a x h))
    go (yes e) (no h) = kept (rw (set_out l i a (omega arith)))

-- what an edit keeps
pub record Keeps (d d' : Design) : Type 0 where
  pub chip : d'.chip ≡ d.chip
  pub modules : d'.modules ≡ d.modules
  pub nodes_same : nodes d' ≡ nodes d

pub edit_keeps : (d : Design) (e : Edit) → Keeps d (changed d e)
unfolding changed
edit_keeps d (Change k n) = record { chip = refl; modules = refl; nodes_same = refl }
edit_keeps d (Turn t) = record { chip = refl; modules = refl; nodes_same = refl }

-- an edit that turns a cut names one
pub cut_named : (d : Design) (t : ℕ) → So (names_place d (Turn t)) → (c : Direction) × (token_at d t ≡ Cut c)
unfolding names_place
cut_named d t s = (cut_iff (token_at d t)).0 ((and_iff (ltb t (nodes d)) (is_cut (token_at d t))).0 s).1

-- and the rows that have slots
pub edit_rows : (d : Design) (e : Edit) → slot_rows (changed d e) ≡ slot_rows d
unfolding slot_rows
edit_rows d e = ap (λ C. C.height.0) (edit_keeps d e).chip

-- so the lists take as many work bytes
pub edit_work : (d : Design) (e : Edit) → work_of (changed d e) ≡ work_of d
edit_work d e =
    let k = edit_keeps d e in let kw : width_of (changed d e) ≡ width_of d = ap (λ C. C.width.0) k.chip in rw (edit_rows d e, kw, k.nodes_same)

module _ (d : Design) (lawful : LawfulDesign d) where
  -- the least position whose token is module k's is where it stands
  module_place : (k : ℕ) → k < d.modules → (module_position d k < nodes d) × (token_at d (module_position d k) ≡ Module k)
  module_place k h =
      let f : ℕ → Bool = λ t. is_module k (token_at d t) in let (t, b, e) = module_token d lawful k h in
      let (c, s) = least_found f (nodes d) ((any_iff (nodes d) f).1 (t, b, (module_iff k (token_at d t)).1 e)) in
      (c, (module_iff k (token_at d (module_position d k))).0 s)

  pub changed_node_lem : (e : Edit) → So (names_place d e) → changed_node d e < nodes d
  unfolding changed_node names_place
  changed_node_lem (Change k n) s = let (h, l) = simp test-iffs at s in (module_place k h).0
  changed_node_lem (Turn t) s = let (h, l) = simp test-iffs at s in h

  -- the tokens and the needs that an edit leaves are alike
  pub edit_alike : (e : Edit) → So (names_place d e) → AlikeDesigns (changed_node d e) d (changed d e)
  unfolding changed changed_node names_place
  edit_alike (Change k n) s = record {
    count = refl;
    modules = λ t j e. e;
    turned = λ t c e. (c, e, λ _. refl);
    needs = λ t j h e o. stays t j h e o (after_set d.needs k j n no_need);
  }
    where
      stays : (t j : ℕ) → t < nodes d → token_at d t ≡ Module j → (module_position d k ≡ t → ⊥)
          → {v : Need} → AfterSet d.needs k j n no_need v → need_at d j ≡ v
      stays t j h e o (kept q) = sym q
      stays t j h e o (new q w) =
          let (b, l) = simp test-iffs at s in let (i, x) = module_place k b in absurd (o (module_only d lawful k _ t i h x (rw q e)))
  edit_alike (Turn p) s = let (c, x) = cut_named d p s in record {
    count = refl;
    modules = λ t k e. stays c x t k e (after_set d.tokens p t _ 0);
    turned = λ t k e. turns c x t k e (after_set d.tokens p t _ 0);
    needs = λ t k h e o. refl;
  }
    where
      stays : (c : Direction) → token_at d p ≡ Cut c → (t k : ℕ) → token_at d t ≡ Module k → {v : ℕ}
          → AfterSet d.tokens p t (number_of most_modules (turned (token_at d p))) 0 v → token_of most_modules v ≡ Module k
      stays c x t k e (kept q) = rw q e
      stays c x t k e (new q w) = let y = rw q at x in let z : ◌≡◌ {A = ℕ} 0 1 = cc in absurd (omega arith)

      turns : (c : Direction) → token_at d p ≡ Cut c → (t : ℕ) (k : Direction) → token_at d t ≡ Cut k → {v : ℕ}
          → AfterSet d.tokens p t (number_of most_modules (turned (token_at d p))) 0 v
          → (k' : Direction) × (token_of most_modules v ≡ Cut k') × ((p ≡ t → ⊥) → k ≡ k')
      turns c x t k e (kept q) = (k, rw q e, λ _. refl)
      turns c x t k e (new q w) = (other c, rw (w, x) (cut_undone most_modules (other c)), λ o. absurd (o q))

  edit_limits : (e : Edit) → So (names_place d e) → So (within_limits (changed d e))
  unfolding changed names_place within_limits
  edit_limits (Change k n) s =
      let t = simp and_iff at (lawful_tree d lawful).limits in
      simp and_iff (
        t.0,
        (all_iff d.modules (λ j. lawful_need (get_or (set d.needs k n) j no_need))).1 (λ j h.
            still j ((all_iff d.modules (λ j. lawful_need (need_at d j))).0 t.1 j h) (after_set d.needs k j n no_need)),
      )
    where
      still : (j : ℕ) → So (lawful_need (need_at d j)) → {v : Need} → AfterSet d.needs k j n no_need v → So (lawful_need v)
      still j t (kept q) = rw q t
      still j t (new q w) = rw w ((and_iff (ltb k d.modules) (lawful_need n)).0 s).1
  edit_limits (Turn p) s = (lawful_tree d lawful).limits

  -- an edit that names a place leaves a lawful design
  pub edit_lawful : (e : Edit) → So (names_place d e) → LawfulDesign (changed d e)
  edit_lawful e s = (lawful_iff (changed d e)).1 (edit_limits e s, (roots_alike (edit_alike e s) lawful).0)

  -- whose trees are alike but for what stands at the changed node
  pub edit_nodes : (e : Edit) → So (names_place d e) → (t : ℕ) → t < nodes d
      → Alike (changed_node d e) d (changed d e) (node_at d t) (node_at (changed d e) t)
  edit_nodes e s t h = nodes_alike (edit_alike e s) lawful t h

  pub edit_root : (e : Edit) → So (names_place d e) → Alike (changed_node d e) d (changed d e) (root d) (root (changed d e))
  edit_root e s = (roots_alike (edit_alike e s) lawful).1
