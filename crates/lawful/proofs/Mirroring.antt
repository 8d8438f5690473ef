-- The stack decides as 01's rule does. A cut looks only at how many things stand, and a module only at whether it stands already; the
-- stack keeps both, so by cases on the token it refuses where the rule refuses, and otherwise mirrors what then stands. Assumes nothing.
use Rattle.std.specs.Prelude.{Option, Some, None, Err}
use mathlib.Core.Path.{◌≡◌, refl, ◌∙◌}
use mathlib.Core.Bool.{Bool, true, false, not, ◌&&◌, ◌||◌}
use mathlib.Core.List.{List, [], ◌∷◌}
use Prim.Native.Nat.{ℕ, zero, suc, ◌+◌, ◌≤◌, ◌<◌}
use native.Mathlib.Omega.{arith}
use native.Mathlib.Numerals.{add-one}
use native.Mathlib.Decide.{ℕ_discrete}
use lib.Dec.{ltb, eqb}
use lib.ListN.{get_or, set, length-set, get_or-replicate}
use lib.Seq.{get_or-set_same, get_or-set_other}
use borrow.Author.Tests.{lt-ltb, le-ltb, ltb-true, eq-eqb, ne_eqb}
use Rattle.rules.specs.declared.Direction.{Direction}
use Rattle.rules.specs.declared.Token.{Token}
use Rattle.rules.specs.declared.Token.TheVariants.{Cut, Module, Beyond}
use Rattle.rules.specs.declared.Refusal.TheVariants.{BadToken}
use Rattle.rules.specs.Tree.{Tree, leaf, has, Standing, refused, things, stands, joined, added, after, standing}
use Rattle.rules.specs.Design.{most_modules, tree_test}
use Rattle.rules.proofs.Standing.{joined_stands}
use Rattle.lawful.specs.declared.Stack.{Stack}
use Rattle.lawful.specs.Stack.{empty_stack, after_cut, after_module, after_token, Mirrors, Agrees}

-- where nothing stands
pub empty_mirrors : Mirrors empty_stack []
unfolding empty_stack stands
empty_mirrors = record {
  size = refl;
  count = refl;
  seen = λ k h. get_or-replicate most_modules k false false h;
}

cut_agrees : (t : ℕ) (d : Direction) (s : Stack) (ts : List Tree) → Mirrors s ts → Agrees (after_cut s) (joined t d ts)
unfolding after_cut joined stands has
cut_agrees t d s [] M = rw (after_cut, lt-ltb s.count 2 (omega arith))
cut_agrees t d s (r ∷ []) M = rw (after_cut, lt-ltb s.count 2 (omega arith))
cut_agrees t d s (r ∷ (l ∷ ts)) M =
    rw (after_cut, le-ltb s.count 2 (omega arith)) (
      _,
      refl,
      record {
        size = M.size;
        count = omega arith;
        seen = λ k h. M.seen k h ∙ joined_stands t d l r ts k;
      },
    )

module_agrees : (m t k : ℕ) (s : Stack) (ts : List Tree) → m ≤ most_modules → Mirrors s ts
    → Agrees (after_module m k s) (added m t k ts)
unfolding after_module added stands has
module_agrees m t k s ts h M = go (ltb k m) refl
  where
    marked : k < most_modules → (j : ℕ) → j < most_modules → Dec (j ≡ k) → get_or (set s.seen k true) j false ≡ eqb j k || stands ts j
    marked l j g (yes e) = rw (e, eq-eqb k k refl) (get_or-set_same s.seen k true false (omega (arith, M.size)))
    marked l j g (no e) = rw (ne_eqb j k e) (get_or-set_other s.seen k j true false e ∙ M.seen j g)

    fresh : k < most_modules → (b : Bool)
        → Agrees
        (elim (not b) as (λ _. Option Stack) [ true ↦ Some (record { seen = set s.seen k true; count = s.count + 1 }) | false ↦ None ])
        (elim (not b) as (λ _. Standing) [ true ↦ things (leaf t k ∷ ts) | false ↦ refused ])
    fresh l true = refl
    fresh l false = (
      _,
      refl,
      record {
        size = length-set s.seen k true ∙ M.size;
        count = omega (arith, M.count);
        seen = λ j g. marked l j g (ℕ_discrete j k);
      },
    )

    go : (b : Bool) → ltb k m ≡ b → Agrees (after_module m k s) (added m t k ts)
    go true e =
        let l : k < most_modules = omega (arith, ltb-true k m e) in
        rw (after_module, added, e, M.seen k l) (fresh l (stands ts k))
    go false e = rw (e, after_module, added)

-- a token over a stack that mirrors what stands
pub token_agrees : (m t : ℕ) (token : Token) {s : Stack} {ts : List Tree} → m ≤ most_modules → Mirrors s ts
    → Agrees (after_token m token s) (after m t token ts)
token_agrees m t (Cut d) {s} {ts} h M = cut_agrees t d s ts M
token_agrees m t (Module k) {s} {ts} h M = module_agrees m t k s ts h M
token_agrees m t Beyond h M = refl

-- the same for one who has the answer in hand
module _ (m t : ℕ) (token : Token) {s : Stack} {ts : List Tree} (h : m ≤ most_modules) (M : Mirrors s ts) where
  pub token_refused : after_token m token s ≡ None → after m t token ts ≡ refused
  token_refused e = go (after m t token ts) (token_agrees m t token h M)
    where
      go : (u : Standing) → Agrees (after_token m token s) u → u ≡ refused
      go refused A = refl
      go (things us) (p, q, A) = absurd (cc)

  pub token_passed : {p : Stack} → after_token m token s ≡ Some p
      → (us : List Tree) × (after m t token ts ≡ things us) × Mirrors p us
  token_passed {p} e = go (after m t token ts) (token_agrees m t token h M)
    where
      go : (u : Standing) → Agrees (after_token m token s) u → (us : List Tree) × (u ≡ things us) × Mirrors p us
      go refused A = absurd (cc)
      go (things us) (o, q, A) = let w : p ≡ o = cc in rw w (us, refl, A)

-- no more than n things stand, if any stack is left
abbrev Within : ℕ → Option Stack → Type 0
Within n o = (p : Stack) → o ≡ Some p → p.count ≤ n

none_within : {n : ℕ} → Within n None
none_within p e = absurd (cc)

some_within : {n : ℕ} {q : Stack} → q.count ≤ n → Within n (Some q)
some_within {n} {q} h p e = let w : q ≡ p = cc in rw w at h

either : (n : ℕ) (o u : Option Stack) (b : Bool) → Within n o → Within n u
    → Within n (elim b as (λ _. Option Stack) [ true ↦ o | false ↦ u ])
either n o u true h g = h
either n o u false h g = g

-- a token adds at most one thing
pub one_more : (m : ℕ) (token : Token) (s : Stack) (p : Stack) → after_token m token s ≡ Some p → p.count ≤ s.count + 1
unfolding after_cut after_module
one_more m (Cut d) s = either _ _ _ (ltb s.count 2) none_within (some_within (omega arith))
one_more m (Module k) s =
    either _ _ _ (ltb k m && not (get_or s.seen k false)) (some_within (omega arith)) none_within
one_more m Beyond s = none_within

-- with a count of one, one thing stands
pub one_thing : {s : Stack} {ts : List Tree} → Mirrors s ts → s.count ≡ 1 → (t : Tree) × (ts ≡ t ∷ [])
one_thing {ts = []} M e = absurd (omega (arith, M.count))
one_thing {ts = t ∷ []} M e = (t, refl)
one_thing {ts = t ∷ (u ∷ ts)} M e = absurd (omega (arith, M.count))

-- the first n tokens have passed, and the stack mirrors what stands
pub record Stands (m : ℕ) (token : ℕ → Token) (n : ℕ) (s : Stack) : Type 0 where
  pub trees : List Tree
  pub stand : standing m token n ≡ things trees
  pub mirrors : Mirrors s trees
  pub most : s.count ≤ n

module _ (m : ℕ) (token : ℕ → Token) where
  pub stands_first : Stands m token 0 empty_stack
  unfolding standing empty_stack
  stands_first = record { trees = []; stand = refl; mirrors = empty_mirrors; most = omega arith }

  stays_refused : (i n : ℕ) → i ≤ n → standing m token i ≡ refused → standing m token n ≡ refused
  unfolding standing
  stays_refused i zero h e = let q : i ≡ 0 = omega arith in rw q at e
  stays_refused i (suc n) h e = go (ℕ_discrete i (suc n)) (λ h. stays_refused i n h e)
    where
      go : Dec (i ≡ suc n) → (i ≤ n → standing m token n ≡ refused) → standing m token (suc n) ≡ refused
      go (yes q) ih = rw q at e
      go (no q) ih = rw (standing, ih (omega arith))

  -- the next token, at position i
  module _ (h : m ≤ most_modules) {i : ℕ} {s : Stack} (S : Stands m token i s) where
    pub stands_next : {p : Stack} → after_token m (token i) s ≡ Some p → Stands m token (i + 1) p
    unfolding standing
    stands_next e =
        let (us, q, M) = token_passed m i (token i) h S.mirrors e in let a = one_more m (token i) s _ e in record {
          trees = us;
          stand = rw (add-one, standing, S.stand) q;
          mirrors = M;
          most = omega (arith, S.most);
        }

    pub stands_no_more : after_token m (token i) s ≡ None → (n : ℕ) → i < n → tree_test (standing m token n) ≡ Err (BadToken 0)
    unfolding standing
    stands_no_more e n l =
        rw (stays_refused (suc i) n l (rw (standing, S.stand) (token_refused m i (token i) h S.mirrors e)))
