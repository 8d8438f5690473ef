-- Two designs whose tokens and needs are alike but for what stands at one position: their tokens are read alike, so that their trees
-- are alike but for what stands there. Assumes nothing.
use mathlib.Core.Path.{◌≡◌, refl, ◌∙◌}
use mathlib.Core.Logic.{◌⊎◌, inl, inr}
use mathlib.Core.Bool.{Bool, ◌||◌, So}
use mathlib.Core.List.{List, [], ◌∷◌}
use Prim.Native.Nat.{ℕ, suc, ◌≤◌, ◌<◌}
use native.Mathlib.Omega.{arith}
use lib.Dec.{eqb}
use Rattle.rules.specs.declared.Direction.{Direction}
use Rattle.rules.specs.declared.Token.TheVariants.{Cut, Module}
use Rattle.rules.specs.declared.Design.{Design}
use Rattle.rules.specs.Tree.{Tree, leaf, cut, position, has, spans, stands, things}
use Rattle.rules.specs.Design.{need_at, token_at, nodes, standing_of, node_at, root, LawfulDesign}
use Rattle.rules.proofs.Searching.{eqb_iff, or_iff}
use Rattle.rules.proofs.Standing.{Reading, none_read, module_read, cut_read, read_stands, last_is, earlier}
use Rattle.rules.proofs.Nodes.{lawful_tree}

-- two trees that are alike but for what stands at position p
pub data Alike (p : ℕ) (d d' : Design) : Tree → Tree → Type 0 where
  leaves : {t k : ℕ} → ((p ≡ t → ⊥) → need_at d k ≡ need_at d' k) → Alike p d d' (leaf t k) (leaf t k)
  cuts : {t : ℕ} {c c' : Direction} {l l' r r' : Tree} → ((p ≡ t → ⊥) → c ≡ c') → Alike p d d' l l' → Alike p d d' r r'
      → Alike p d d' (cut t c l r) (cut t c' l' r')

data AllAlike (p : ℕ) (d d' : Design) : List Tree → List Tree → Type 0 where
  none : AllAlike p d d' [] []
  more : {u u' : Tree} {us us' : List Tree} → Alike p d d' u u' → AllAlike p d d' us us' → AllAlike p d d' (u ∷ us) (u' ∷ us')

module _ {p : ℕ} {d d' : Design} where
  pub alike_position : {u u' : Tree} → Alike p d d' u u' → position u ≡ position u'
  alike_position (leaves e) = refl
  alike_position (cuts e a b) = refl

  pub alike_has : {u u' : Tree} → Alike p d d' u u' → (k : ℕ) → has u k ≡ has u' k
  unfolding has
  alike_has (leaves e) k = refl
  alike_has (cuts e a b) k = rw (alike_has a k, alike_has b k)

  pub alike_spans : {u u' : Tree} → Alike p d d' u u' → (q : ℕ) → spans u q ≡ spans u' q
  unfolding spans
  alike_spans (leaves e) q = refl
  alike_spans (cuts e a b) q = rw (alike_spans a q, alike_spans b q)

  alike_stands : {ts us : List Tree} → AllAlike p d d' ts us → (k : ℕ) → stands ts k ≡ stands us k
  unfolding stands
  alike_stands none k = refl
  alike_stands (more a b) k = rw (alike_has a k, alike_stands b k)

  -- off the way from the changed node up to the root the tree is the same, and so are its modules' needs
  pub alike_off : {u u' : Tree} → Alike p d d' u u' → (So (spans u p) → ⊥) → (u ≡ u') × ((k : ℕ) → So (has u k) → need_at d k ≡ need_at d' k)
  unfolding spans has
  alike_off (leaves {t = t} {k = k} e) o = (refl, λ j s. rw ((eqb_iff j k).0 s) (e (λ q. o ((eqb_iff p t).1 q))))
  alike_off (cuts {t = t} {l = l} {r = r} e a b) o =
      let (x, y) = neither (eqb p t) (spans l p || spans r p) o in let (v, w) = neither (spans l p) (spans r p) y in
      let (s, f) = alike_off a v in let (q, g) = alike_off b w in
      (rw (e (λ z. x ((eqb_iff p t).1 z)), s, q), λ k z. either ((or_iff (has l k) (has r k)).0 z) (f k) (g k))
    where
      neither : (a b : Bool) → (So (a || b) → ⊥) → (So a → ⊥) × (So b → ⊥)
      neither a b f = (λ s. f ((or_iff a b).1 (inl s)), λ s. f ((or_iff a b).1 (inr s)))

      either : {A B C : Type 0} → A ⊎ B → (A → C) → (B → C) → C
      either (inl s) f g = f s
      either (inr s) f g = g s

-- two designs whose tokens and needs are alike but for what stands at position p
pub record AlikeDesigns (p : ℕ) (d d' : Design) : Type 0 where
  pub count : d.modules ≡ d'.modules
  pub modules : (t k : ℕ) → token_at d t ≡ Module k → token_at d' t ≡ Module k
  pub turned : (t : ℕ) (c : Direction) → token_at d t ≡ Cut c → (c' : Direction) × (token_at d' t ≡ Cut c') × ((p ≡ t → ⊥) → c ≡ c')
  pub needs : (t k : ℕ) → t < nodes d → token_at d t ≡ Module k → (p ≡ t → ⊥) → need_at d k ≡ need_at d' k

module _ {p : ℕ} {d d' : Design} (L : AlikeDesigns p d d') where
  -- such designs are read alike
  alike_read : {n : ℕ} {ts : List Tree} → Reading d.modules (token_at d) n ts → n ≤ nodes d
      → (us : List Tree) × Reading d'.modules (token_at d') n us × AllAlike p d d' ts us
  alike_read none_read h = ([], none_read, none)
  alike_read (module_read {n = n} {k = k} r e b f) h =
      let (us, s, A) = alike_read r (omega arith) in let q = L.count in (
        leaf n k ∷ us,
        module_read s (L.modules n k e) (omega arith) (λ t. f (alike_stands A k ∙ t)),
        more (leaves (L.needs n k (omega arith) e)) A,
      )
  alike_read (cut_read {n = n} {d = c} r e) h = let (us, s, A) = alike_read r (omega arith) in join s A
    where
      join : {l r : Tree} {ts us : List Tree} → Reading d'.modules (token_at d') n us → AllAlike p d d' (r ∷ (l ∷ ts)) us
          → (us : List Tree) × Reading d'.modules (token_at d') (suc n) us × AllAlike p d d' (cut n c l r ∷ ts) us
      join s (more {u' = r'} a (more {u' = l'} {us' = us'} b A)) =
          let (c', q, w) = L.turned n c e in (cut n c' l' r' ∷ us', cut_read s q, more (cuts w b a) A)

  pub nodes_alike : LawfulDesign d → (t : ℕ) → t < nodes d → Alike p d d' (node_at d t) (node_at d' t)
  nodes_alike e t h = let E = earlier (lawful_tree d e).reading t h in let (us, s, A) = alike_read E.reading h in first s A
    where
      first : {u : Tree} {ts us : List Tree} → Reading d'.modules (token_at d') (suc t) us → AllAlike p d d' (u ∷ ts) us
          → Alike p d d' u (node_at d' t)
      first s (more a A) = rw (← last_is s) a

  pub roots_alike : LawfulDesign d → (standing_of d' (nodes d') ≡ things (root d' ∷ [])) × Alike p d d' (root d) (root d')
  roots_alike e = let (us, s, A) = alike_read (lawful_tree d e).reading (omega arith) in only s A
    where
      only : {u : Tree} {us : List Tree} → Reading d'.modules (token_at d') (nodes d) us → AllAlike p d d' (u ∷ []) us
          → (standing_of d' (nodes d') ≡ things (root d' ∷ [])) × Alike p d d' u (root d')
      only s (more a none) = let q : nodes d' ≡ nodes d = omega (arith, L.count) in (rw (q, read_stands s), rw (q, read_stands s) a)
