-- Which refusals there are: of a design handed over as a value 4 or 5, of a reading 1, 2, 3, 4, 5 or 7. Each test has its own, and 6 is
-- never given, since 2m-1 tokens that pass leave one thing standing. Assumes nothing.
use Rattle.std.specs.Prelude.{Err}
use mathlib.Core.Path.{◌≡◌, refl, sym, ◌∙◌, ap}
use mathlib.Core.Logic.{◌⊎◌, ⊎_elim}
use mathlib.Core.Bool.{Bool, true, false, So}
use mathlib.Core.List.{List, [], ◌∷◌}
use Prim.Native.Nat.{ℕ, zero, suc, ◌-◌, ◌*◌, ◌<◌}
use native.Mathlib.Omega.{arith}
use lib.Dec.{eqb}
use lib.ListN.{length}
use Rattle.rules.specs.declared.Design.{Design}
use Rattle.rules.specs.declared.Refusal.{Refusal}
use Rattle.rules.specs.declared.Refusal.TheVariants.{Unfinished, Malformed, WrongForm, BreaksLimits, BadToken, ExtraBytes}
use Rattle.rules.specs.Answers.{Reply}
use Rattle.rules.specs.Tree.{Tree, Standing, refused, things, token_of, after}
use Rattle.rules.specs.Design.{most_modules, nodes, lawful_need, standing_of, within_limits, tree_test, value_test}
use Rattle.rules.specs.Bytes.{Took, took, refuse, and_then, judged, number_at, checked_at, row_at, need_of, kept_token, tokens_at, design_at}
use Rattle.rules.specs.Reply.{Answer, refusal}
use Rattle.rules.proofs.Searching.{absurd_so}
use Rattle.rules.proofs.Testing.{range_iff}
use Rattle.rules.proofs.Nodes.{never_not_one_thing}
use Rattle.rules.proofs.Standing.{one_stands}
use Rattle.rules.proofs.Numbers.{Answers, takes, refuses, number_read}
use Rattle.rules.proofs.Taking.{one_more, all_more, over_nothing}
use Rattle.promises.specs.Demand1.{Tested, breaks_limits, bad_token}

-- a design that its own tests refuse: 4, or else 5
pub value_refused : (d : Design) (e : Refusal) → value_test d ≡ Err e → {Then : Answer → Type 0} → Tested d Then (refusal e)
unfolding value_test
value_refused d e q {Then} = go (within_limits d) refl q
  where
    tree : So (within_limits d) → (s : Standing) → standing_of d (nodes d) ≡ s → tree_test s ≡ Err e → Tested d Then (refusal e)
    tree t refused p q = let x : BadToken 0 ≡ e = cc in rw (← x) (bad_token t p)
    tree t (things []) p q = absurd (never_not_one_thing d 0 t (ap tree_test p))
    tree t (things (u ∷ [])) p q = let z : ◌≡◌ {A = ℕ} 0 1 = cc in absurd (omega arith)
    tree t (things (u ∷ (v ∷ ts))) p q = absurd (never_not_one_thing d 0 t (ap tree_test p))

    go : (b : Bool) → within_limits d ≡ b
        → elim b as (λ _. Reply) [ true ↦ tree_test (standing_of d (nodes d)) | false ↦ Err (BreaksLimits 0) ] ≡ Err e → Tested d Then (refusal e)
    go true t q = tree t (standing_of d (nodes d)) refl q
    go false t q = let x : BreaksLimits 0 ≡ e = cc in rw (← x) (breaks_limits (λ s. absurd_so (sym t ∙ s)))

-- "Numbers are judged as they are read: 1 or 2 first, then 3, 4 or 5, then 6, then 7."
pub data OfReading : Refusal → Type 0 where
  unfinished : {i : ℕ} → OfReading (Unfinished i)
  malformed : {i : ℕ} → OfReading (Malformed i)
  wrong_form : {i : ℕ} → OfReading (WrongForm i)
  breaks_limits_at : {i : ℕ} → OfReading (BreaksLimits i)
  bad_token_at : {i : ℕ} → OfReading (BadToken i)
  extra_bytes : {i : ℕ} → OfReading (ExtraBytes i)

-- what is taken passes Q, and what is refused is a refusal of reading
abbrev Taking : {A : Type 0} → (A → ℕ → Type 0) → Took A → Type 0
Taking Q t = Answers Q OfReading t

abbrev Anything : {A : Type 0} → A → ℕ → Type 0
Anything a n = Unit {0}

then_taking : {A B : Type 0} {Q : A → ℕ → Type 0} {R : B → ℕ → Type 0} {t : Took A} {f : A → ℕ → Took B} → Taking Q t → ((a : A) (n : ℕ) → Q a n → Taking R (f a n))
    → Taking R (and_then t f)
then_taking (takes q) g = g _ _ q
then_taking (refuses e) g = refuses e

judged_taking : {A : Type 0} {Q : A → ℕ → Type 0} (c : Bool) (e : Refusal) (a : A) (n : ℕ) → OfReading e → (So c → Q a n) → Taking Q (judged c e (took a n))
judged_taking true e a n o q = takes (q refl)
judged_taking false e a n o q = refuses o

number_taking : (s : List ℕ) (at : ℕ) → Taking Anything (number_at s at)
number_taking s at = go (number_read s at)
  where
    go : {Q : ℕ → ℕ → Type 0} {t : Took ℕ} → Answers Q (λ e. (e ≡ Unfinished at) ⊎ (e ≡ Malformed at)) t → Taking Anything t
    go (takes q) = takes tt
    go (refuses {e = f} e) = refuses {e = f} (⊎_elim (λ x. rw x unfinished) (λ x. rw x malformed) e)

checked_taking : (test : ℕ → Bool) (r : ℕ → Refusal) → ((i : ℕ) → OfReading (r i)) → (s : List ℕ) (at : ℕ) → Taking (λ v n. So (test v)) (checked_at test r s at)
unfolding checked_at
checked_taking test r o s at = then_taking (number_taking s at) λ v next _. judged_taking (test v) (r at) v next (o at) λ t. t

row_taking : {A : Type 0} {Q : A → ℕ → Type 0} {f : ℕ → Took A} → ((at : ℕ) → Taking Q (f at)) → (n at : ℕ) → Taking Anything (row_at f n at)
unfolding row_at
row_taking h zero at = takes tt
row_taking h (suc n) at = then_taking (h at) λ a next _. then_taking (row_taking h n next) λ rest end _. takes tt

need_taking : (s : List ℕ) (at : ℕ) → Taking Anything (need_of s at)
unfolding need_of
need_taking s at =
    then_taking (number_taking s at) λ a second _.
    then_taking (number_taking s second) λ b third _.
    then_taking (number_taking s third) λ c next _. judged_taking (lawful_need (record { clbs = a; rams = b; multipliers = c })) (BreaksLimits at) _ next breaks_limits_at λ _. tt

-- tokens, of whatever number, that leave one thing standing unless one is refused
abbrev LeavesOne : ℕ → ℕ → ℕ → List Tree → Type 0
LeavesOne m t n ts = (a : ℕ → ℕ) (now : List Tree) → all_more m t a n (things ts) ≡ things now → (u : Tree) × (now ≡ u ∷ [])

tokens_taking : (s : List ℕ) (m t n : ℕ) (ts : List Tree) (at : ℕ) → LeavesOne m t n ts → Taking Anything (tokens_at s m t n ts at)
unfolding tokens_at all_more one_more
tokens_taking s m t zero ts at one = let (u, e) = one (λ _. 0) ts refl in rw e (takes tt)
tokens_taking s m t (suc n) ts at one =
    then_taking (number_taking s at) λ k next _.
    kept (after m t (token_of most_modules k) ts) λ now e.
    then_taking (tokens_taking s m (suc t) n now next (λ a end q. one (elim [ zero ↦ k | suc i ↦ a i ]) end (rw e q))) λ ks end _. takes tt
  where
    kept : (x : Standing) {f : List Tree → Took (List ℕ)} → ((now : List Tree) → x ≡ things now → Taking Anything (f now)) → Taking Anything (kept_token at x f)
    kept refused h = refuses bad_token_at
    kept (things now) h = h now refl

-- 2m-1 tokens over nothing do
all_tokens : (m : ℕ) → 0 < m → LeavesOne m 0 (2 * m - 1) []
all_tokens m h a now e = let (u, q, _, _) = one_stands m (λ i. token_of most_modules (a i)) now h (rw over_nothing at e) in (u, q)

design_taking : (s : List ℕ) → Taking Anything (design_at s)
unfolding design_at
design_taking s =
    then_taking (checked_taking _ _ (λ _. wrong_form) s 0) λ form at-w _.
    then_taking (checked_taking _ _ (λ _. breaks_limits_at) s at-w) λ w at-h _.
    then_taking (checked_taking _ _ (λ _. breaks_limits_at) s at-h) λ h at_b _.
    then_taking (checked_taking _ _ (λ _. breaks_limits_at) s at_b) λ b at-kinds _.
    then_taking (row_taking (checked_taking _ _ (λ _. breaks_limits_at) s) w at-kinds) λ kinds at-m _.
    then_taking (checked_taking _ _ (λ _. breaks_limits_at) s at-m) λ m at-needs t.
    then_taking (row_taking (need_taking s) m at-needs) λ needs at-tokens _.
    then_taking (tokens_taking s m 0 (2 * m - 1) [] at-tokens (all_tokens m ((range_iff 1 _ m).0 t).0)) λ tokens end _.
    judged_taking (eqb end (length s)) (ExtraBytes end) _ end extra_bytes λ _. tt

pub reading_refused : (s : List ℕ) (e : Refusal) → design_at s ≡ refuse e → OfReading e
reading_refused s e q = go (design_taking s) q
  where
    go : {t : Took Design} → Taking Anything t → t ≡ refuse e → OfReading e
    go (takes _) q = let z : ◌≡◌ {A = ℕ} 0 1 = cc in absurd (omega arith)
    go (refuses {e = f} o) q = let x : f ≡ e = cc in rw x at o
