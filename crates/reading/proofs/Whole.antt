-- The four stages, and then the test for extra bytes, are the rules' reading: both take the same numbers in the same order. A
-- stage that was done leaves its counts within their limits. Assumes nothing.
use mathlib.Core.Path.{◌≡◌, refl, ap}
use mathlib.Core.List.{List, []}
use Prim.Native.Nat.{ℕ, ◌≤◌}
use native.Mathlib.Omega.{arith}
use lib.Dec.{eqb}
use lib.ListN.{length}
use Rattle.rules.specs.declared.Design.{Design}
use Rattle.rules.specs.declared.Refusal.TheVariants.{WrongForm, BreaksLimits, ExtraBytes}
use Rattle.rules.specs.Design.{most_columns, most_rows, lawful_kind, most_modules, width_of}
use Rattle.rules.specs.Bytes.{Took, took, refuse, and_then, judged, checked_at, limited_at, row_at, need_of, tokens_at, design_at}
use Rattle.reading.specs.Stages.{sizes_at, kinds_at, needs_at, tree_at}
use Rattle.reading.proofs.Answers.{limited_fits}

-- one thing after another, and then the rest
then_both : {A B C : Type 0} (t : Took A) {f : A → ℕ → Took C} (g : A → ℕ → Took B) (rest : B → ℕ → Took C)
    → ((a : A) (n : ℕ) → f a n ≡ and_then (g a n) rest) → and_then t f ≡ and_then (and_then t g) rest
then_both (took a n) g rest h = h a n
then_both (refuse e) g rest h = refl

pub in_stages : (s : List ℕ)
    → design_at s
    ≡ and_then (sizes_at s) λ d at-kinds. and_then (kinds_at s d at-kinds) λ d at-m. and_then (needs_at s d at-m) λ d at-tokens.
    and_then (tree_at s d at-tokens) λ d end. judged (eqb end (length s)) (ExtraBytes end) (took d end)
unfolding design_at sizes_at kinds_at needs_at tree_at
in_stages s =
    then_both (checked_at (λ v. eqb v 1) WrongForm s 0) _ _ λ form at-w.
    then_both (limited_at 1 most_columns s at-w) _ _ λ w at-h.
    then_both (limited_at 1 most_rows s at-h) _ _ λ h at_b.
    then_both (limited_at 1 h s at_b) _ _ λ b at-kinds.
    then_both (row_at (checked_at lawful_kind BreaksLimits s) w at-kinds) _ _ λ kinds at-m.
    then_both (limited_at 1 most_modules s at-m) _ _ λ m at-needs.
    then_both (row_at (need_of s) m at-needs) _ _ λ needs at-tokens.
    then_both (tokens_at s m 0 _ [] at-tokens) _ _ λ tokens end. refl

-- what was taken, when something was taken after it
then_took : {A B : Type 0} (t : Took A) (f : A → ℕ → Took B) {b : B} {end : ℕ} → and_then t f ≡ took b end
    → (a : A) × (n : ℕ) × (t ≡ took a n) × (f a n ≡ took b end)
then_took (took a n) f e = (a, n, refl, e)
then_took (refuse x) f e = let z : ◌≡◌ {A = ℕ} 0 1 = cc in absurd (omega arith)

taken_same : {A : Type 0} {a b : A} {m n : ℕ} → took a m ≡ took b n → a ≡ b
taken_same e = cc

pub width_fits : (s : List ℕ) {d : Design} {next : ℕ} → sizes_at s ≡ took d next → width_of d ≤ most_columns
unfolding sizes_at
width_fits s {d} e =
    let (_, n, _, e1) = then_took (checked_at (λ v. eqb v 1) WrongForm s 0) _ e in
    let (w, n, q, e2) = then_took (limited_at 1 most_columns s n) _ e1 in
    let (h, n, _, e3) = then_took (limited_at 1 most_rows s n) _ e2 in
    let (b, _, _, e4) = then_took (limited_at 1 h s n) _ e3 in
    rw (ap (λ (d : Design). width_of d) (taken_same e4)) at (limited_fits _ _ _ _ q).1

pub modules_fit : (s : List ℕ) (d : Design) (at : ℕ) {d' : Design} {next : ℕ} → needs_at s d at ≡ took d' next
    → (1 ≤ d'.modules) × (d'.modules ≤ most_modules)
unfolding needs_at
modules_fit s d at e =
    let (m, n, q, e1) = then_took (limited_at 1 most_modules s at) _ e in
    let (_, _, _, e2) = then_took (row_at (need_of s) m n) _ e1 in
    rw (ap (λ (d : Design). d.modules) (taken_same e2)) at (limited_fits _ _ _ _ q)
