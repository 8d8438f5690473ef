-- Left children. What stands below the last thing stood alone when its own last token had been read, so one token more leaves
-- below the last thing either the node just before (a module), or what stood below the left child (a cut). Assumes nothing.
use mathlib.Core.Path.{◌≡◌, refl, sym, ◌∙◌, ap}
use mathlib.Core.Bool.{Bool, true, false, So, true≢false}
use mathlib.Core.List.{List, [], ◌∷◌}
use Prim.Native.Nat.{ℕ, zero, suc, ◌+◌, ◌-◌, ◌≤◌, ◌<◌}
use native.Mathlib.Omega.{arith}
use native.Mathlib.Numerals.{add-one}
use lib.ListN.{get_or, replicate}
use Rattle.rules.specs.declared.Direction.{Direction}
use Rattle.rules.specs.declared.Token.{Token}
use Rattle.rules.specs.declared.Design.{Design}
use Rattle.rules.specs.Tree.{Tree, cut, position, things, is_cut, standing}
use Rattle.rules.specs.Design.{most_tokens, token_at, nodes, standing_of, node_at, LawfulDesign}
use Rattle.rules.proofs.Standing.{Reading, none_read, module_read, cut_read, Node, is_leaf, is_cut as node_is_cut, read_stands, earlier, last_position}
use Rattle.rules.proofs.Searching.{absurd_so}
use Rattle.rules.proofs.Nodes.{lawful_tree, node_at_lem}
use Rattle.rules.proofs.Limits.{limits}
use Rattle.trees.specs.Positions.{last_but_one, LeftChildren}
use Rattle.trees.proofs.Arrays.{UpTo, none_yet}

-- the lowest things of some that stand
data Lowest (ws : List Tree) : List Tree → Type 0 where
  all : Lowest ws ws
  below : {t : Tree} {ts : List Tree} → Lowest ws ts → Lowest ws (t ∷ ts)

same_below : (x y : Tree) (ts : List Tree) → last_but_one (things (x ∷ ts)) ≡ last_but_one (things (y ∷ ts))
same_below x y [] = refl
same_below x y (t ∷ ts) = refl

module _ {m : ℕ} {token : ℕ → Token} where
  -- they stood alone when the last token of the last of them had been read
  stood : {n : ℕ} {ts : List Tree} {v : Tree} {vs : List Tree} → Reading m token n ts → Lowest (v ∷ vs) ts
      → Reading m token (suc (position v)) (v ∷ vs)
  stood {v = v} {vs = vs} none_read x4 = elim x4 [ ]
  stood (module_read r e b f) all = module_read r e b f
  stood (module_read r e b f) (below s) = stood r s
  stood (cut_read r e) all = cut_read r e
  stood (cut_read r e) (below s) = stood r (below (below s))

  nothing_read : {n : ℕ} → Reading m token n [] → n ≡ 0
  nothing_read none_read = refl

  -- below the last thing after a module stands the node before it
  after_module : {t : ℕ} {us : List Tree} → Reading m token (suc t) us → is_cut (token t) ≡ false
      → last_but_one (things us) ≡ t - 1
  after_module (module_read {ts = []} r e b f) o = let q = nothing_read r in omega arith
  after_module (module_read {ts = u ∷ us} r e b f) o = let q = last_position r in omega arith
  after_module (cut_read r e) o = absurd (true≢false (rw e at o))

  -- and after a cut what stood below its left child
  after_cut : {t : ℕ} {us : List Tree} → Reading m token (suc t) us → So (is_cut (token t))
      → last_but_one (things us) ≡ last_but_one (standing m token (suc (last_but_one (standing m token t))))
  after_cut (module_read r e b f) q = absurd_so (rw e at q)
  after_cut (cut_read {n = n} {d = d} {l = a} {r = b} {ts = ts} r e) q =
      rw (read_stands r, read_stands (stood r (below all))) (same_below (cut n d a b) a ts)

  -- the left child of a cut is the last thing but one before it
  left_of : {t : ℕ} {u : Tree} {us : List Tree} {k : Direction} {l r : Tree} → Reading m token (suc t) (u ∷ us) → u ≡ cut t k l r
      → last_but_one (standing m token t) ≡ position l
  left_of (module_read r e b f) q = let z : ◌≡◌ {A = ℕ} 0 1 = cc in absurd (omega arith)
  left_of {l = l} (cut_read {l = a} r e) q = let z : a ≡ l = cc in rw (read_stands r) (ap position z)

module _ (d : Design) (lawful : LawfulDesign d) where
  module _ (t : ℕ) (h : t < nodes d) where
    -- what stands after that token
    read_to : (us : List Tree) × Reading d.modules (token_at d) (suc t) (node_at d t ∷ us)
    read_to = let E = earlier (lawful_tree d lawful).reading t h in (E.others, E.reading)

    left_stands : {k : Direction} {l r : Tree} → node_at d t ≡ cut t k l r → last_but_one (standing_of d t) ≡ position l
    left_stands e = left_of read_to.1 e

    left_before : So (is_cut (token_at d t)) → last_but_one (standing_of d t) + 1 < t
    left_before c = go refl (node_at_lem d lawful t h)
      where
        go : {u : Tree} → node_at d t ≡ u → Node d.modules (token_at d) t u → last_but_one (standing_of d t) + 1 < t
        go q (is_leaf e b) = absurd_so (rw e at c)
        go q (node_is_cut e b) = let a = left_stands q in omega arith

    module_next : is_cut (token_at d t) ≡ false → last_but_one (standing_of d (suc t)) ≡ t - 1
    module_next c = let (us, r) = read_to in rw (read_stands r) (after_module r c)

    cut_next : So (is_cut (token_at d t))
        → last_but_one (standing_of d (suc t)) ≡ last_but_one (standing_of d (suc (last_but_one (standing_of d t))))
    cut_next c = let (us, r) = read_to in ap last_but_one (read_stands r) ∙ after_cut r c

  -- before the first two tokens nothing stands below the last thing
  none_below : (t : ℕ) → t < 2 → t < nodes d → last_but_one (standing_of d t) ≡ 0
  unfolding standing
  none_below zero h k = refl
  none_below (suc zero) h k = go (is_cut (token_at d 0)) refl
    where
      go : (b : Bool) → is_cut (token_at d 0) ≡ b → last_but_one (standing_of d 1) ≡ 0
      go true c = let l = left_before 0 (omega arith) c in absurd (omega arith)
      go false c = module_next 0 (omega arith) c
  none_below (suc (suc t)) h k = absurd (omega arith)

-- the pass has come to position t
abbrev pub Found : Design → ℕ → List ℕ → Type 0
Found d t lefts = UpTo 0 (λ u. last_but_one (standing_of d u)) (nodes d) t lefts

pub none_found : (d : Design) → LawfulDesign d → Found d 2 (replicate most_tokens 0)
none_found d lawful = none_yet 0 _ (nodes d) 2 (omega (arith, (limits d lawful).modules)) (none_below d lawful)

pub all_found : {d : Design} {t : ℕ} {lefts : List ℕ} → Found d t lefts → nodes d ≤ t → LeftChildren d lefts
all_found f h = record { before = λ u k. f.before u (omega arith) k; past = f.past }

-- what the code puts at position t
module _ (d : Design) (lawful : LawfulDesign d) {t : ℕ} {lefts : List ℕ} (f : Found d t lefts) (g : 2 ≤ t) (h : t < nodes d) where
  pub module_found : is_cut (token_at d (t - 1)) ≡ false → t - 2 ≡ last_but_one (standing_of d t)
  module_found c =
      let e : suc (t - 1) ≡ t = omega arith in let q = rw e at (module_next d lawful (t - 1) (omega arith) c) in omega arith

  module _ (c : So (is_cut (token_at d (t - 1)))) where
    pub left_found : get_or lefts (t - 1) 0 + 1 < t - 1
    left_found = rw (f.before (t - 1) (omega arith) (omega arith)) (left_before d lawful (t - 1) (omega arith) c)

    pub cut_found : get_or lefts (get_or lefts (t - 1) 0 + 1) 0 ≡ last_but_one (standing_of d t)
    cut_found =
        let e : suc (t - 1) ≡ t = omega arith in let b = f.before (t - 1) (omega arith) (omega arith) in let l = left_found in
        f.before (get_or lefts (t - 1) 0 + 1) (omega arith) (omega arith)
        ∙ rw (b, add-one) (sym (rw e at (cut_next d lawful (t - 1) (omega arith) c)))

-- what callers take: at a cut stands its left child, which comes before the right child
module _ {d : Design} {lefts : List ℕ} (lawful : LawfulDesign d) (L : LeftChildren d lefts) {t : ℕ} (h : t < nodes d) where
  pub left_child : {k : Direction} {l r : Tree} → node_at d t ≡ cut t k l r → get_or lefts t 0 ≡ position l
  left_child e = L.before t h ∙ left_stands d lawful t h e

  pub left_earlier : So (is_cut (token_at d t)) → get_or lefts t 0 + 1 < t
  left_earlier c = rw (L.before t h) (left_before d lawful t h c)
