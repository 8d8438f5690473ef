-- The first 4,096 bytes decide every reading: a number takes at most three bytes, and the limits say how many are read. Only 6
-- would tell the whole length, and it is never given, because 2m-1 tokens that pass leave one thing. Assumes nothing.
use mathlib.Core.Path.{◌≡◌, refl, sym, ap, ◌∙◌}
use mathlib.Core.Bool.{Bool}
use mathlib.Core.List.{List, [], ◌∷◌}
use Prim.Native.Nat.{ℕ, zero, suc, ◌+◌, ◌-◌, ◌*◌, ◌≤◌, ◌<◌}
use native.Mathlib.Omega.{arith}
use lib.Dec.{eqb}
use lib.ListN.{length, take, length-take}
use Rattle.rules.specs.declared.Refusal.{Refusal}
use Rattle.rules.specs.declared.Refusal.TheVariants.{BreaksLimits}
use Rattle.rules.specs.Tree.{Tree, Standing, refused, things, token_of, after}
use Rattle.rules.specs.Design.{most_columns, lawful_kind, most_modules, most_tokens, no_need}
use Rattle.rules.specs.Bytes.{Took, and_then, number_at, checked_at, row_at, need_of, kept_token, tokens_at, design_at}
use Rattle.rules.specs.Program.{program_input}
use Rattle.rules.proofs.Searching.{eqb_iff, same_test}
use Rattle.rules.proofs.Testing.{range_iff}
use Rattle.rules.proofs.Standing.{one_stands}
use Rattle.rules.proofs.Numbers.{Answers, takes, refuses, number_read, number_alike, first_alike}
use Rattle.rules.proofs.Taking.{Reads, checked_read, need_read, row_read, one_more, all_more, over_nothing, tokens_read}

-- two readings that begin alike and go on alike
then_alike : {A B : Type 0} {Q : A → ℕ → Type 0} {E : Refusal → Type 0} {t t' : Took A} {u v : A → ℕ → Took B} → t ≡ t' → Answers Q E t
    → ((x : A) (next : ℕ) → Q x next → u x next ≡ v x next) → and_then t u ≡ and_then t' v
then_alike {v = v} e (takes q) h = h _ _ q ∙ ap (λ t. and_then t v) e
then_alike {v = v} e (refuses q) h = ap (λ t. and_then t v) e

-- What the first n bytes decide: two readings answer alike wherever the k bytes that they may take lie among those n.
abbrev Decide : {A : Type 0} → ℕ → ℕ → (ℕ → Took A) → (ℕ → Took A) → Type 0
Decide n k f g = (at : ℕ) → at + k ≤ n → f at ≡ g at

row_decided : {A : Type 0} {P : A → Type 0} {b : A → List ℕ} {r : List ℕ} {n k : ℕ} {f g : ℕ → Took A} → Decide n k f g → Reads P b r k f
    → (m : ℕ) → Decide n (m * k) (row_at f m) (row_at g m)
unfolding row_at
row_decided d h zero at l = refl
row_decided d h (suc m) at l = then_alike (d at (omega arith)) (h at) λ x next a. rw (row_decided d h m next (omega arith))

-- Over what stands, n more tokens leave one thing, if none of them is refused: so 2m-1 do over nothing.
abbrev OneIsLeft : ℕ → ℕ → ℕ → List Tree → Type 0
OneIsLeft m n t ts = (a : ℕ → ℕ) (us : List Tree) → all_more m t a n (things ts) ≡ things us → (u : Tree) × (us ≡ u ∷ [])

one_is_left : (m : ℕ) → 0 < m → OneIsLeft m (2 * m - 1) 0 []
one_is_left m h a us q =
    let (u, e, _, _) = one_stands m (λ i. token_of most_modules (a i)) us h (sym (over_nothing m a (2 * m - 1)) ∙ q) in (u, e)

module _ (n : ℕ) (s : List ℕ) where
  abbrev first : List ℕ
  first = take n s

  number_decided : Decide n 3 (number_at first) (number_at s)
  number_decided at l =
      let b = first_alike n s (at + 1) (omega arith) in let c = first_alike n s (at + 2) (omega arith) in
      number_alike first s at (first_alike n s at (omega arith)) b c

  checked_decided : (test : ℕ → Bool) (r : ℕ → Refusal) → Decide n 3 (checked_at test r first) (checked_at test r s)
  unfolding checked_at
  checked_decided test r at l = rw (number_decided at l)

  need_decided : Decide n 9 (need_of first) (need_of s)
  unfolding need_of
  need_decided at l =
      then_alike (number_decided at (omega arith)) (number_read first at) λ a i p.
      then_alike (number_decided i (omega arith)) (number_read first i) λ b j q.
      rw (number_decided j (omega arith))

  tokens_decided : (m k t : ℕ) (ts : List Tree) → OneIsLeft m k t ts → Decide n (k * 3) (tokens_at first m t k ts) (tokens_at s m t k ts)
  unfolding tokens_at all_more one_more
  tokens_decided m zero t ts h at l = let (u, q) = h (λ _. 0) ts refl in rw q
  tokens_decided m (suc k) t ts h at l =
      then_alike (number_decided at (omega arith)) (number_read first at) λ v next a.
      kept (after m t (token_of most_modules v) ts) _ _ λ now e.
      rw (tokens_decided m k (suc t) now (λ a us q. h (elim [ zero ↦ v | suc i ↦ a i ]) us (rw e q)) next (omega arith))
    where
      kept : (x : Standing) (f g : List Tree → Took (List ℕ)) → ((now : List Tree) → x ≡ things now → f now ≡ g now)
          → kept_token at x f ≡ kept_token at x g
      kept refused f g h = refl
      kept (things now) f g h = h now refl

  -- As many bytes as the most numbers can take, and one that shows whether any follow, decide every reading.
  pub enough_decide : 3 * (4 + most_columns + 1 + 3 * most_modules + most_tokens) < n → design_at (take n s) ≡ design_at s
  unfolding design_at
  enough_decide l =
      then_alike (checked_decided _ _ 0 (omega arith)) (checked_read _ _ first 0) λ form at-w r1.
      then_alike (checked_decided _ _ at-w (omega arith)) (checked_read _ _ first at-w) λ w at-h r2.
      let wide = (range_iff 1 most_columns w).0 r2.passes in
      then_alike (checked_decided _ _ at-h (omega arith)) (checked_read _ _ first at-h) λ h at_b r3.
      then_alike (checked_decided _ _ at_b (omega arith)) (checked_read _ _ first at_b) λ b at-kinds r4.
      let kinds-read = checked_read lawful_kind BreaksLimits first in
      then_alike (row_decided (checked_decided _ _) kinds-read w at-kinds (omega arith)) (row_read 0 kinds-read w at-kinds) λ kinds at-m r5.
      then_alike (checked_decided _ _ at-m (omega arith)) (checked_read _ _ first at-m) λ m at-needs r6.
      let many = (range_iff 1 most_modules m).0 r6.passes in let needs-read = need_read first in
      then_alike (row_decided need_decided needs-read m at-needs (omega arith)) (row_read no_need needs-read m at-needs) λ needs at-tokens r7.
      then_alike (tokens_decided m (2 * m - 1) 0 [] (one_is_left m (omega arith)) at-tokens (omega arith))
      (tokens_read first m (2 * m - 1) 0 [] at-tokens) λ tokens end r8.
      rw (same_test (eqb end (length first)) (eqb end (length s)) (simp (eqb_iff, length-take) (omega arith)))

-- "The program reads at most 4,096 bytes, enough to decide every reading."
pub first_bytes_decide : (s : List ℕ) → design_at (take program_input s) ≡ design_at s
first_bytes_decide s = enough_decide program_input s (omega arith)
