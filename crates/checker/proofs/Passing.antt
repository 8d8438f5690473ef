-- The pass over the tokens keeps, for each thing that stands, the extent of its rectangles: a module's token puts one down, a cut's
-- token joins the last two. So at each cut the two extents on top decide whether it is kept. Assumes nothing.
use Rattle.std.specs.Prelude.{Option, Some, None}
use mathlib.Core.Path.{◌≡◌, refl, sym, ◌∙◌, ap}
use mathlib.Core.Logic.{inl, inr}
use mathlib.Core.Bool.{Bool, true, false, So}
use mathlib.Core.List.{List, [], ◌∷◌}
use Prim.Native.Nat.{ℕ, suc, ◌+◌, ◌-◌, ◌*◌, ◌≤◌, ◌<◌}
use native.Mathlib.Omega.{arith}
use native.Mathlib.Numerals.{add-one}
use lib.ListN.{length, get_or, set, length-set}
use lib.Seq.{get_or-set_same, get_or-set_other}
use Rattle.rules.specs.declared.Direction.{Direction}
use Rattle.rules.specs.declared.Token.{Token}
use Rattle.rules.specs.declared.Token.TheVariants.{Cut, Module}
use Rattle.rules.specs.declared.Design.{Design}
use Rattle.rules.specs.Tree.{Tree, leaf, cut, has, Standing, refused, things, standing, last}
use Rattle.rules.specs.Placement.{Placement}
use Rattle.rules.specs.Design.{token_at, nodes, standing_of, node_at, LawfulDesign, most_tokens}
use Rattle.rules.specs.Check.{kept_at, is_kept}
use Rattle.rules.proofs.Searching.{or_iff}
use Rattle.rules.proofs.Standing.{part_has, Reading, module_read, cut_read, earlier, read_stands}
use Rattle.rules.proofs.Nodes.{lawful_tree, node_part}
use Rattle.rules.proofs.Limits.{limits}
use Rattle.extents.specs.declared.Extent.{Extent}
use Rattle.extents.specs.Sides.{together}
use Rattle.checker.specs.declared.Pass.{Pass}
use Rattle.checker.specs.Cuts.{nowhere, at_start, while_kept, after_token, Ready}
use Rattle.checker.proofs.Extents.{tree_extent, leaf_extent, cut_extent, kept_by_extents}

-- the things that stand, the last first, and the last of them
abbrev pub things_of : Standing → List Tree
things_of refused = []
things_of (things ts) = ts

abbrev last_of : List Tree → Tree
last_of [] = leaf 0 0
last_of (u ∷ us) = u

last_thing : (s : Standing) → last s ≡ last_of (things_of s)
last_thing refused = refl
last_thing (things []) = refl
last_thing (things (u ∷ us)) = refl

-- how the token at position t changes what stands
data Step (d : Design) (t : ℕ) : List Tree → List Tree → Type 0 where
  module_stands : {k : ℕ} {ts : List Tree} → token_at d t ≡ Module k → k < d.modules → Step d t ts (leaf t k ∷ ts)
  cut_joins : {c : Direction} {l r : Tree} {ts : List Tree} → token_at d t ≡ Cut c → Step d t (r ∷ (l ∷ ts)) (cut t c l r ∷ ts)

step : (d : Design) → LawfulDesign d → (t : ℕ) → t < nodes d → Step d t (things_of (standing_of d t)) (things_of (standing_of d (suc t)))
step d lawful t h = let e = (earlier (lawful_tree d lawful).reading t h).reading in rw (read_stands e) (go e)
  where
    go : {us : List Tree} → Reading d.modules (token_at d) (suc t) us → Step d t (things_of (standing_of d t)) us
    go (module_read r e b f) = rw (read_stands r) (module_stands e b)
    go (cut_read r e) = rw (read_stands r) (cut_joins e)

-- the extents of the things that stand, each at its place from the bottom
unfoldable pub Stacked : Placement → List Tree → List Extent → Type 0
Stacked p [] es = Unit {0}
Stacked p (u ∷ us) es = (get_or es (length us) nowhere ≡ tree_extent p u) × Stacked p us es

-- what is put on top changes nothing below
stacked_below : (p : Placement) (us : List Tree) (es : List Extent) (i : ℕ) (e : Extent) → length us ≤ i → Stacked p us es
    → Stacked p us (set es i e)
unfolding Stacked
stacked_below p [] es i e h s = tt
stacked_below p (u ∷ us) es i e h s =
    (get_or-set_other es i (length us) e nowhere (λ q. omega arith) ∙ s.0, stacked_below p us es i e (omega arith) s.1)

stacked_top : (p : Placement) (u : Tree) (us : List Tree) (es : List Extent) (e : Extent) → length us < length es → e ≡ tree_extent p u
    → Stacked p us es → Stacked p (u ∷ us) (set es (length us) e)
unfolding Stacked
stacked_top p u us es e h q s = (get_or-set_same es (length us) e nowhere h ∙ q, stacked_below p us es (length us) e (omega arith) s)

-- the pass has come to position t, where these things stand
pub record Passed (p : Placement) (t : ℕ) (us : List Tree) (s : Pass) : Type 0 where
  pub long : length s.extents ≡ most_tokens
  pub high : s.standing ≡ length us
  pub few : length us ≤ t
  pub stacked : Stacked p us s.extents

pub passed_none : (p : Placement) → Passed p 0 [] at_start
unfolding Stacked at_start
passed_none p = record { long = refl; high = refl; few = omega arith; stacked = tt }

-- the pass went on, since the last thing's cut is kept, or it ended there
abbrev Outcome : Design → Placement → ℕ → List Tree → Option Pass → Type 0
Outcome d p t vs (Some r) = Passed p (suc t) vs r × (kept_at d.modules p (last_of vs) ≡ true)
Outcome d p t vs None = kept_at d.modules p (last_of vs) ≡ false

module _ (d : Design) (p : Placement) {t : ℕ} {s : Pass} where
  outcome : {us vs : List Tree} → Step d t us vs → ((i : ℕ) → So (has (last_of vs) i) → i < d.modules) → t < most_tokens
      → Passed p t us s → Outcome d p t vs (after_token p s (token_at d t))
  unfolding Stacked has
  outcome (module_stands {k = k} {ts = ts} e b) below h P =
      let q = P.high in let f = P.few in let g = P.long in
      rw (e, q) (
        record {
          long = simp length-set g;
          high = omega arith;
          few = omega arith;
          stacked = stacked_top p (leaf t k) ts s.extents _ (omega arith) (sym (leaf_extent p t k)) P.stacked;
        },
        refl,
      )
  outcome (cut_joins {c = c} {l = l} {r = r} {ts = ts} e) below h P =
      rw joined (go (is_kept d.modules c l r p) refl)
    where
      both : Extent
      both = together (tree_extent p l) (tree_extent p r)

      after : Pass
      after = record { extents = set s.extents (length ts) both; standing = suc (length ts) }

      joined : after_token p s (token_at d t) ≡ while_kept (is_kept d.modules c l r p) after
      joined =
          let a : s.standing - 2 ≡ length ts = omega (arith, P.high) in
          let b : s.standing - 1 ≡ suc (length ts) = omega (arith, P.high) in
          rw (
            e,
            a,
            b,
            P.stacked.0,
            P.stacked.1.0,
            kept_by_extents d.modules c l r p
                (λ i u. below i ((or_iff (has l i) (has r i)).1 (inl u))) (λ i u. below i ((or_iff (has l i) (has r i)).1 (inr u))),
          )

      go : (kept : Bool) → is_kept d.modules c l r p ≡ kept → Outcome d p t (cut t c l r ∷ ts) (while_kept kept after)
      go true q = (
        record {
          long = simp length-set P.long;
          high = refl;
          few = let f = P.few in omega arith;
          stacked =
              stacked_top p (cut t c l r) ts s.extents _ (omega (arith, P.high, P.few, P.long)) (sym (cut_extent p t c l r)) P.stacked.1.1;
        },
        q,
      )
      go false q = q

  ready_for : (rows : List ℕ) → 4 * d.modules ≤ length rows → {us vs : List Tree} → Step d t us vs
      → t < most_tokens → Passed p t us s → Ready rows s.standing (token_at d t)
  ready_for rows l (module_stands e b) h P = rw e (omega (arith, P.high, P.few))
  ready_for rows l (cut_joins e) h P = rw e (omega (arith, P.high, P.few))

-- the pass over a lawful design's tokens, at position t: nothing stands yet; it goes on; the cut just read is kept or not; and
-- there is room for what the token adds
abbrev pub PassedAt : Design → Placement → ℕ → Pass → Type 0
PassedAt d p t s = Passed p t (things_of (standing_of d t)) s

pub passed_start : (d : Design) (p : Placement) → PassedAt d p 0 at_start
unfolding standing
passed_start d p = passed_none p

module _ (d : Design) (lawful : LawfulDesign d) (p : Placement) {t : ℕ} {s : Pass} (h : t < nodes d) (P : PassedAt d p t s) where
  short : t < most_tokens
  short = let m = (limits d lawful).modules in omega arith

  pub is_ready : {token : Token} → token ≡ token_at d t → (rows : List ℕ) → 4 * d.modules ≤ length rows → Ready rows s.standing token
  is_ready e rows l = rw e (ready_for d p rows l (step d lawful t h) short P)

  module _ {token : Token} (e : token ≡ token_at d t) {next : Option Pass} (q : next ≡ after_token p s token) where
    came : Outcome d p t (things_of (standing_of d (suc t))) next
    came = rw (q, e) (outcome d p (step d lawful t h) below short P)
      where
        below : (i : ℕ) → So (has (last_of (things_of (standing_of d (suc t)))) i) → i < d.modules
        below i u = ((lawful_tree d lawful).modules i).0 (part_has (node_part d lawful t h) i (rw (last_thing (standing_of d (suc t))) u))

    node_last : kept_at d.modules p (node_at d t) ≡ kept_at d.modules p (last_of (things_of (standing_of d (suc t))))
    node_last = ap (kept_at d.modules p) (last_thing (standing_of d (suc t)))

    pub passed_next : {r : Pass} → next ≡ Some r → PassedAt d p (t + 1) r × (kept_at d.modules p (node_at d t) ≡ true)
    passed_next w = let o = rw w at came in (rw add-one o.0, node_last ∙ o.1)

    pub passed_out : next ≡ None → kept_at d.modules p (node_at d t) ≡ false
    passed_out w = node_last ∙ (rw w at came)
