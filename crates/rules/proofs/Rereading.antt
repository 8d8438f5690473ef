-- What is written is read again: where the bytes of a number, a need, a row or the tokens stand, reading takes it, up to their end.
-- Assumes nothing.
use mathlib.Core.Path.{◌≡◌}
use mathlib.Core.Bool.{Bool, So}
use mathlib.Core.List.{List, [], ◌∷◌, ◌++◌}
use Prim.Native.Nat.{ℕ, zero, suc, ◌≤◌, ◌<◌}
use native.Mathlib.Omega.{arith}
use Rattle.rules.specs.declared.Need.{Need}
use Rattle.rules.specs.declared.Refusal.{Refusal}
use Rattle.rules.specs.declared.Refusal.TheVariants.{BreaksLimits}
use Rattle.rules.specs.Tree.{Tree, things, token_of, after}
use Rattle.rules.specs.Design.{most_modules, most_number, in_range, lawful_need}
use Rattle.rules.specs.Bytes.{Took, took, and_then, number_bytes, need_bytes, row_bytes, checked_at, limited_at, row_at, need_of, tokens_at}
use Rattle.rules.proofs.Searching.{test-iffs}
use Rattle.rules.proofs.Testing.{range_iff}
use Rattle.rules.proofs.Tokens.{kept_small}
use Rattle.rules.proofs.Numbers.{Stands, each_stands, number_written}
use Rattle.rules.proofs.Padding.{listed}
use Rattle.rules.proofs.Taking.{one_more, all_more, none_refused, row_front}

-- What is written. Where the bytes xs stand, f takes x, up to their end.
abbrev ReadAs : {A : Type 0} → List ℕ → List ℕ → (ℕ → Took A) → A → Type 0
ReadAs s xs f x = (at next : ℕ) → Stands s at next xs → f at ≡ took x next

pub then_written : {A B : Type 0} {s xs ys : List ℕ} {at next : ℕ} {f : ℕ → Took A} {x : A} {r : Took B} (u : A → ℕ → Took B)
    → ReadAs s xs f x → Stands s at next (xs ++ ys) → ((mid : ℕ) → Stands s mid next ys → u x mid ≡ r) → and_then (f at) u ≡ r
then_written {at = at} u e h g = let (p, q) = each_stands _ _ h in rw (e at _ p) (g _ q)

pub checked_written : (test : ℕ → Bool) (r : ℕ → Refusal) (s : List ℕ) (v : ℕ) → So (test v) → v ≤ most_number
    → ReadAs s (number_bytes v) (checked_at test r s) v
unfolding checked_at
checked_written test r s v t l at next h = rw (number_written s at v next l h, t)

pub limited_written : (low most : ℕ) (s : List ℕ) (v : ℕ) → So (in_range low most v) → most ≤ most_number
    → ReadAs s (number_bytes v) (limited_at low most s) v
limited_written low most s v t l = let r = (range_iff low most v).0 t in checked_written (in_range low most) BreaksLimits s v t (omega arith)

pub need_written : (s : List ℕ) (x : Need) → So (lawful_need x) → ReadAs s (need_bytes x) (need_of s) x
unfolding need_of need_bytes lawful_need
need_written s x t at next h =
    let l = simp test-iffs at t in
    then_written _ (λ i j. number_written s i x.clbs j l.0.0.0) h λ i e.
    then_written _ (λ i j. number_written s i x.rams j l.0.0.1) e λ j f.
    rw (number_written s j x.multipliers next l.0.1 f, t)

pub row_written : {A : Type 0} (s : List ℕ) (g : A → List ℕ) (f : ℕ → Took A) (n : ℕ) (a : ℕ → A)
    → ((i : ℕ) → i < n → ReadAs s (g (a i)) f (a i)) → ReadAs s (row_bytes g a n) (row_at f n) (listed a n)
unfolding row_at row_bytes listed
row_written s g f zero a h at next e = let q : at ≡ next = omega (arith, e.long) in rw q
row_written s g f (suc n) a h at next e =
    then_written _ (h 0 (omega arith)) (rw (row_front g a n) at e) λ mid k.
    rw (row_written s g f n (λ i. a (suc i)) (λ i l. h (suc i) (omega arith)) mid next k)

pub tokens_written : (s : List ℕ) (m n t : ℕ) (a : ℕ → ℕ) (ts : List Tree) (u : Tree) → all_more m t a n (things ts) ≡ things (u ∷ [])
    → ReadAs s (row_bytes number_bytes a n) (tokens_at s m t n ts) (listed a n)
unfolding tokens_at all_more one_more row_bytes listed
tokens_written s m zero t a ts u q at next e = let x : ts ≡ u ∷ [] = cc in let y : at ≡ next = omega (arith, e.long) in rw (x, y)
tokens_written s m (suc n) t a ts u q at next e =
    let (now, b) = none_refused m (suc t) (λ i. a (suc i)) n (after m t (token_of most_modules (a 0)) ts) (u ∷ []) q in
    then_written _ (λ i j. number_written s i (a 0) j (omega (arith, kept_small most_modules m t (a 0) ts now b))) (rw (row_front number_bytes a n) at e) λ mid k.
    rw (b, tokens_written s m n (suc t) (λ i. a (suc i)) now u (rw b at q) mid next k)
