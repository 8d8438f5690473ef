-- What stands after some tokens. Each token adds a leaf or joins the two things standing last, so these are inductions on the
-- tokens read; that 2m-1 tokens leave one thing follows by counting the modules that stand. Assumes nothing.
use mathlib.Core.Path.{◌≡◌, refl, sym, ap, fun_ext}
use mathlib.Core.Logic.{◌⊎◌, inl, inr, ◌↔◌}
use mathlib.Core.Bool.{Bool, true, false, not, ◌&&◌, ◌||◌, So}
use mathlib.Core.List.{List, [], ◌∷◌}
use Prim.Native.Nat.{ℕ, zero, suc, ◌+◌, ◌-◌, ◌*◌, ◌≤◌, ◌<◌}
use native.Mathlib.Omega.{arith}
use native.Mathlib.Decide.{ℕ_discrete}
use lib.Dec.{ltb, eqb}
use lib.ListN.{length}
use Rattle.rules.specs.declared.Direction.{Direction}
use Rattle.rules.specs.declared.Token.{Token}
use Rattle.rules.specs.declared.Token.TheVariants.{Cut, Module, Beyond}
use Rattle.rules.specs.Search.{count}
use Rattle.rules.specs.Tree.{Tree, leaf, cut, position, has, Standing, refused, things, stands, joined, added, after, standing, last}
use Rattle.rules.proofs.Searching.{absurd_so, and_iff, or_iff, not_iff, ltb_iff, eqb_iff, count_most, count_one, count_all, count_none}

-- no module stands twice
unfoldable pub Once : Tree → Type 0
Once (leaf t k) = Unit {0}
Once (cut t d l r) = Once l × Once r × ((k : ℕ) → So (has l k) → So (has r k) → ⊥)

-- a part of a tree: the tree itself, or a part of a child
pub data Part (u : Tree) : Tree → Type 0 where
  whole : Part u u
  in_left : {t : ℕ} {d : Direction} {l r : Tree} → Part u l → Part u (cut t d l r)
  in_right : {t : ℕ} {d : Direction} {l r : Tree} → Part u r → Part u (cut t d l r)

-- a part of one of the things standing
pub data Among (u : Tree) : List Tree → Type 0 where
  here : {t : Tree} {ts : List Tree} → Part u t → Among u (t ∷ ts)
  there : {t : Tree} {ts : List Tree} → Among u ts → Among u (t ∷ ts)

-- the first n tokens were read, none was refused, and the list stands
pub data Reading (m : ℕ) (token : ℕ → Token) : ℕ → List Tree → Type 0 where
  none_read : Reading m token 0 []
  module_read : {n k : ℕ} {ts : List Tree} → Reading m token n ts → token n ≡ Module k → k < m → (So (stands ts k) → ⊥)
      → Reading m token (suc n) (leaf n k ∷ ts)
  cut_read : {n : ℕ} {d : Direction} {l r : Tree} {ts : List Tree} → Reading m token n (r ∷ (l ∷ ts)) → token n ≡ Cut d
      → Reading m token (suc n) (cut n d l r ∷ ts)

-- node t: what stands last after the token at position t
abbrev pub node : ℕ → (ℕ → Token) → ℕ → Tree
node m token t = last (standing m token (suc t))

-- the token at position t has been read, and all that stood after it are parts of what stands now
pub record Earlier (m : ℕ) (token : ℕ → Token) (t : ℕ) (now : List Tree) : Type 0 where
  pub others : List Tree
  pub reading : Reading m token (suc t) (node m token t ∷ others)
  pub still : (u : Tree) → Among u (node m token t ∷ others) → Among u now

-- "A cut joins the two things standing last, the earlier being its left child": its right child is the node just before it,
-- its left child some node before that.
pub record Children (m : ℕ) (token : ℕ → Token) (t : ℕ) (l r : Tree) : Type 0 where
  pub left_before : position l < position r
  pub right_before : suc (position r) ≡ t
  pub left_is : l ≡ node m token (position l)
  pub right_is : r ≡ node m token (position r)

-- a tree that stands at position t as the token there says
pub data Node (m : ℕ) (token : ℕ → Token) (t : ℕ) : Tree → Type 0 where
  is_leaf : {k : ℕ} → token t ≡ Module k → k < m → Node m token t (leaf t k)
  is_cut : {d : Direction} {l r : Tree} → token t ≡ Cut d → Children m token t l r → Node m token t (cut t d l r)

none_of_refused : {A : Type 0} (ts : List Tree) → refused ≡ things ts → A
none_of_refused ts e = let z : ◌≡◌ {A = ℕ} 0 1 = cc in absurd (omega arith)

pub joined_among : {u l r : Tree} {t : ℕ} {d : Direction} {ts : List Tree} → Among u (r ∷ (l ∷ ts)) → Among u (cut t d l r ∷ ts)
joined_among (here p) = here (in_right p)
joined_among (there (here p)) = here (in_left p)
joined_among (there (there a)) = there a

-- what stood before a cut stands after it
pub joined_stands : (t : ℕ) (d : Direction) (l r : Tree) (ts : List Tree) (k : ℕ) → stands (r ∷ (l ∷ ts)) k ≡ stands (cut t d l r ∷ ts) k
unfolding stands has
joined_stands t d l r ts k = go (has l k) (has r k) (stands ts k)
  where
    go : (x y z : Bool) → y || (x || z) ≡ (x || y) || z
    go true true z = refl
    go true false z = refl
    go false true z = refl
    go false false z = refl

module _ {m : ℕ} {token : ℕ → Token} where
  one_read : (n : ℕ) (ts us : List Tree) (k : Token) → token n ≡ k → Reading m token n ts → after m n k ts ≡ things us
      → Reading m token (suc n) us
  unfolding joined added
  one_read n [] us (Cut d) e r q = none_of_refused us q
  one_read n (a ∷ []) us (Cut d) e r q = none_of_refused us q
  one_read n (a ∷ (b ∷ ts)) us (Cut d) e r q = let w : cut n d b a ∷ ts ≡ us = cc in rw w at (cut_read r e)
  one_read n ts us (Module k) e r q = go (ltb k m && not (stands ts k)) refl q
    where
      go : (b : Bool) → ltb k m && not (stands ts k) ≡ b
          → elim b as (λ _. Standing) [ true ↦ things (leaf n k ∷ ts) | false ↦ refused ] ≡ things us → Reading m token (suc n) us
      go true t q =
          let (a, b) = (and_iff (ltb k m) (not (stands ts k))).0 t in let w : leaf n k ∷ ts ≡ us = cc in
          rw w at (module_read r e ((ltb_iff k m).0 a) ((not_iff (stands ts k)).0 b))
      go false t q = none_of_refused us q
  one_read n ts us Beyond e r q = none_of_refused us q

  -- what is computed to stand is what was read, and back
  pub was_read : (n : ℕ) (ts : List Tree) → standing m token n ≡ things ts → Reading m token n ts
  unfolding standing
  was_read zero ts e = let r : Reading m token 0 [] = none_read in let w : [] ≡ ts = cc in rw w at r
  was_read (suc n) ts e = go (standing m token n) refl e (was_read n)
    where
      go : (s : Standing) → standing m token n ≡ s
          → elim s as (λ _. Standing) [ refused ↦ refused | things us ↦ after m n (token n) us ] ≡ things ts
          → ((us : List Tree) → standing m token n ≡ things us → Reading m token n us) → Reading m token (suc n) ts
      go refused q e ih = none_of_refused ts e
      go (things us) q e ih = one_read n us ts (token n) refl (ih us q) e

  pub read_stands : {n : ℕ} {ts : List Tree} → Reading m token n ts → standing m token n ≡ things ts
  unfolding standing added joined
  read_stands none_read = refl
  read_stands (module_read {k = k} {ts = ts} r e h f) = rw (read_stands r, e, added, (ltb_iff k m).1 h, (not_iff (stands ts k)).1 f)
  read_stands (cut_read r e) = rw (read_stands r, e)

  pub last_is : {t : ℕ} {u : Tree} {us : List Tree} → Reading m token (suc t) (u ∷ us) → u ≡ node m token t
  last_is r = rw (read_stands r)

  now_or_earlier : {n : ℕ} {u : Tree} {us : List Tree} → Reading m token (suc n) (u ∷ us) → (t : ℕ) → t < suc n
      → (t < n → Earlier m token t (u ∷ us)) → Earlier m token t (u ∷ us)
  now_or_earlier {n} {u} {us} r t h f = go (ℕ_discrete n t)
    where
      go : Dec (n ≡ t) → Earlier m token t (u ∷ us)
      go (yes e) = let q : u ≡ node m token t = rw (← e) (last_is r) in
          record { others = us; reading = rw (← q, ← e) r; still = λ w a. rw q a }
      go (no e) = f (omega arith)

  -- a prefix is fine, and what stood after it is still a part of what stands
  pub earlier : {n : ℕ} {ts : List Tree} → Reading m token n ts → (t : ℕ) → t < n → Earlier m token t ts
  earlier none_read t h = absurd (omega arith)
  earlier (module_read r e b f) t h = now_or_earlier (module_read r e b f) t h λ g.
      let E = earlier r t g in record { others = E.others; reading = E.reading; still = λ u a. there (E.still u a) }
  earlier (cut_read r e) t h = now_or_earlier (cut_read r e) t h λ g.
      let E = earlier r t g in record { others = E.others; reading = E.reading; still = λ u a. joined_among (E.still u a) }

  pub prefix_read : {n : ℕ} {ts : List Tree} → Reading m token n ts → (t : ℕ) → t ≤ n → (us : List Tree) × Reading m token t us
  prefix_read r zero h = ([], none_read)
  prefix_read r (suc t) h = let E = earlier r t h in (node m token t ∷ E.others, E.reading)

  -- every node of the tokens read is a part of what stands
  pub node_among : {n : ℕ} {ts : List Tree} → Reading m token n ts → (t : ℕ) → t < n → Among (node m token t) ts
  node_among r t h = (earlier r t h).still (node m token t) (here whole)

  -- and every part of what stands is the node of its own position
  pub among_node : {n : ℕ} {ts : List Tree} {u : Tree} → Reading m token n ts → Among u ts
      → (position u < n) × (u ≡ node m token (position u))
  among_node {u = u} none_read x4 = elim x4 [ ]
  among_node (module_read r e b f) (here whole) = (omega arith, last_is (module_read r e b f))
  among_node (module_read r e b f) (there a) = let (h, q) = among_node r a in (omega arith, q)
  among_node (cut_read r e) (here whole) = (omega arith, last_is (cut_read r e))
  among_node (cut_read r e) (here (in_left p)) = let (h, q) = among_node r (there (here p)) in (omega arith, q)
  among_node (cut_read r e) (here (in_right p)) = let (h, q) = among_node r (here p) in (omega arith, q)
  among_node (cut_read r e) (there a) = let (h, q) = among_node r (there (there a)) in (omega arith, q)

  pub last_position : {n : ℕ} {u : Tree} {us : List Tree} → Reading m token n (u ∷ us) → suc (position u) ≡ n
  last_position (module_read r e b f) = refl
  last_position (cut_read r e) = refl

  others_before : {n : ℕ} {u v : Tree} {us : List Tree} → Reading m token n (v ∷ us) → Among u us → position u < position v
  others_before (module_read r e b f) a = (among_node r a).0
  others_before (cut_read r e) a = (among_node r (there (there a))).0

  -- what stands last after a token is what the token says
  pub node_is : {n : ℕ} {ts : List Tree} → Reading m token n ts → (t : ℕ) → t < n → Node m token t (node m token t)
  node_is r t h = go (earlier r t h).reading
    where
      go : {u : Tree} {us : List Tree} → Reading m token (suc t) (u ∷ us) → Node m token t u
      go (module_read r e b f) = is_leaf e b
      go (cut_read r e) = is_cut e (record {
        left_before = others_before r (here whole);
        right_before = last_position r;
        left_is = (among_node r (there (here whole))).1;
        right_is = (among_node r (here whole)).1;
      })

  pub node_position : {t : ℕ} {u : Tree} → Node m token t u → position u ≡ t
  node_position (is_leaf e h) = refl
  node_position (is_cut e c) = refl

  pub node_module : {t k : ℕ} {u : Tree} → Node m token t u → token t ≡ Module k → u ≡ leaf t k
  node_module (is_leaf e h) q = cc
  node_module (is_cut e c) q = let z : ◌≡◌ {A = ℕ} 0 1 = cc in absurd (omega arith)

  pub node_cut : {t : ℕ} {d : Direction} {u : Tree} → Node m token t u → token t ≡ Cut d → (l : Tree) × (r : Tree) × (u ≡ cut t d l r)
  node_cut (is_leaf e h) q = let z : ◌≡◌ {A = ℕ} 0 1 = cc in absurd (omega arith)
  node_cut (is_cut {l = l} {r = r} e c) q = (l, r, cc)

-- a tree has what its parts have
pub part_has : {w u : Tree} → Part w u → (k : ℕ) → So (has w k) → So (has u k)
unfolding has
part_has whole k t = t
part_has (in_left {l = l} {r = r} p) k t = (or_iff (has l k) (has r k)).1 (inl (part_has p k t))
part_has (in_right {l = l} {r = r} p) k t = (or_iff (has l k) (has r k)).1 (inr (part_has p k t))

pub leaf_of : (u : Tree) (k : ℕ) → So (has u k) → (t : ℕ) × Part (leaf t k) u
unfolding has
leaf_of (leaf t j) k s = (t, rw ((eqb_iff k j).0 s) whole)
leaf_of (cut t d l r) k s = go ((or_iff (has l k) (has r k)).0 s) (leaf_of l k) (leaf_of r k)
  where
    go : So (has l k) ⊎ So (has r k) → (So (has l k) → (t : ℕ) × Part (leaf t k) l) → (So (has r k) → (t : ℕ) × Part (leaf t k) r)
        → (s : ℕ) × Part (leaf s k) (cut t d l r)
    go (inl s) f g = let (i, p) = f s in (i, in_left p)
    go (inr s) f g = let (i, p) = g s in (i, in_right p)

among_stands : {u : Tree} {ts : List Tree} → Among u ts → (k : ℕ) → So (has u k) → So (stands ts k)
unfolding stands
among_stands (here {t = t} {ts = ts} p) k s = (or_iff (has t k) (stands ts k)).1 (inl (part_has p k s))
among_stands (there {t = t} {ts = ts} a) k s = (or_iff (has t k) (stands ts k)).1 (inr (among_stands a k s))

-- "Each module stands once"
pub module_once : {m : ℕ} {token : ℕ → Token} {n : ℕ} {ts : List Tree} → Reading m token n ts → (s t k : ℕ) → s < t → t < n
    → token s ≡ Module k → token t ≡ Module k → ⊥
unfolding has
module_once {m} {token} r s t k h g a b = go (earlier r t g).reading
  where
    go : {u : Tree} {us : List Tree} → Reading m token (suc t) (u ∷ us) → ⊥
    go (module_read {k = j} r e l f) =
        let q : k ≡ j = cc in
        f (among_stands (node_among r s h) j (rw (node_module (node_is r s h) a) ((eqb_iff j k).1 (sym q))))
    go (cut_read r e) = let z : ◌≡◌ {A = ℕ} 0 1 = cc in omega arith

unfoldable OnceAll : List Tree → Type 0
OnceAll [] = Unit {0}
OnceAll (t ∷ ts) = Once t × OnceAll ts × ((k : ℕ) → So (has t k) → So (stands ts k) → ⊥)

-- n tokens and the things standing are twice as many as the modules standing, and these stand once each
record Fair (m n : ℕ) (ts : List Tree) : Type 0 where
  once : OnceAll ts
  below : (k : ℕ) → So (stands ts k) → k < m
  size : n + length ts ≡ 2 * count m (stands ts)

fair : {m : ℕ} {token : ℕ → Token} {n : ℕ} {ts : List Tree} → Reading m token n ts → Fair m n ts
unfolding OnceAll Once stands has
fair {m} none_read = record { once = tt; below = λ k t. absurd_so t; size = omega (arith, count_none m) }
fair {m} (module_read {n = n} {k = k} {ts = ts} r e h f) = let F = fair r in record {
  once = (tt, F.once, λ j s t. f (rw (← (eqb_iff j k).0 s) t));
  below = λ j t. low F j ((or_iff (eqb j k) (stands ts j)).0 t);
  size = omega (arith, F.size, count_one k (stands ts) f m);
}
  where
    low : Fair m n ts → (j : ℕ) → So (eqb j k) ⊎ So (stands ts j) → j < m
    low F j (inl s) = let q = (eqb_iff j k).0 s in omega arith
    low F j (inr s) = F.below j s
fair {m} (cut_read {n = n} {d = d} {l = a} {r = b} {ts = ts} r e) = let F = fair r in let o = F.once in record {
  once = (
    (o.1.0, o.0, λ k s t. o.2 k t ((or_iff (has a k) (stands ts k)).1 (inl s))),
    o.1.1,
    λ k s t. apart o k t ((or_iff (has a k) (has b k)).0 s),
  );
  below = λ k t. F.below k (rw (joined_stands n d a b ts k) t);
  size = let q = ap (count m) (fun_ext (joined_stands n d a b ts)) in omega (arith, F.size);
}
  where
    apart : OnceAll (b ∷ (a ∷ ts)) → (k : ℕ) → So (stands ts k) → So (has a k) ⊎ So (has b k) → ⊥
    apart o k t (inl s) = o.1.2 k s t
    apart o k t (inr s) = o.2 k s ((or_iff (has a k) (stands ts k)).1 (inr t))

-- 2m-1 tokens that pass leave exactly one thing standing, and in it each module once
pub one_stands : (m : ℕ) (token : ℕ → Token) (ts : List Tree) → 0 < m → standing m token (2 * m - 1) ≡ things ts
    → (t : Tree) × (ts ≡ t ∷ []) × Once t × ((k : ℕ) → So (has t k) ↔ (k < m))
unfolding OnceAll stands
one_stands m token ts h e = alone ts (fair (was_read (2 * m - 1) ts e))
  where
    alone : (ts : List Tree) → Fair m (2 * m - 1) ts → (t : Tree) × (ts ≡ t ∷ []) × Once t × ((k : ℕ) → So (has t k) ↔ (k < m))
    alone [] F = absurd (omega arith)
    alone (t ∷ (u ∷ ts)) F = let q = count_most m (stands (t ∷ (u ∷ ts))) in absurd (omega arith)
    alone (t ∷ []) F = (
      t,
      refl,
      F.once.0,
      λ k.
          (λ s. F.below k (rw (alone_has (has t k)) s), λ l. rw (alone_has (has t k)) at (count_all m (stands (t ∷ [])) (omega arith) k l)),
    )
      where
        alone_has : (b : Bool) → b || false ≡ b
        alone_has true = refl
        alone_has false = refl
