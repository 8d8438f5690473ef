-- What is read: a number, a need, a row, the tokens. What is taken passes its test and stands in the bytes as it is written; tokens
-- are taken exactly if the tree test passes over them. Assumes nothing.
use mathlib.Core.Path.{◌≡◌, refl, sym, ap, ◌∙◌}
use mathlib.Core.Bool.{Bool, So}
use mathlib.Core.List.{List, [], ◌∷◌, ◌++◌, append_assoc, append-nil}
use Prim.Native.Nat.{ℕ, zero, suc, ◌+◌, ◌*◌, ◌<◌}
use native.Mathlib.Omega.{arith}
use native.Mathlib.Nat.{zero-add, add-zero}
use lib.ListN.{length, get_or}
use Rattle.rules.specs.declared.Refusal.{Refusal}
use Rattle.rules.specs.Tree.{Tree, Standing, refused, things, token_of, after, standing}
use Rattle.rules.specs.Design.{most_modules, lawful_need}
use Rattle.rules.specs.Bytes.{Took, and_then, number_bytes, need_bytes, row_bytes, checked_at, row_at, need_of, kept_token, tokens_at}
use Rattle.rules.proofs.Numbers.{none_stands, both_stand, Answers, takes, refuses, if_judged, Read, number_read}

-- One more token over what stands, and n more, from position t on. Over nothing they leave what stands after n tokens.
unfoldable pub one_more : ℕ → ℕ → ℕ → Standing → Standing
one_more m t k x = elim x [ refused ↦ refused | things ts ↦ after m t (token_of most_modules k) ts ]

unfoldable pub all_more : ℕ → ℕ → (ℕ → ℕ) → ℕ → Standing → Standing
all_more m t a zero x = x
all_more m t a (suc n) x = all_more m (suc t) (λ i. a (suc i)) n (one_more m t (a 0) x)

last_more : (m t : ℕ) (a : ℕ → ℕ) (n : ℕ) (x : Standing) → all_more m t a (suc n) x ≡ one_more m (t + n) (a n) (all_more m t a n x)
unfolding all_more
last_more m t a zero x = rw add-zero
last_more m t a (suc n) x =
    let q : suc t + n ≡ t + suc n = omega arith in rw (← q) (last_more m (suc t) (λ i. a (suc i)) n (one_more m t (a 0) x))

pub over_nothing : (m : ℕ) (a : ℕ → ℕ) (n : ℕ) → all_more m 0 a n (things []) ≡ standing m (λ i. token_of most_modules (a i)) n
unfolding all_more one_more standing
over_nothing m a zero = refl
over_nothing m a (suc n) = last_more m 0 a n (things []) ∙ rw (zero-add, over_nothing m a n)

-- where things stand in the end, none of the tokens was refused
pub none_refused : (m t : ℕ) (a : ℕ → ℕ) (n : ℕ) (x : Standing) (ts : List Tree) → all_more m t a n x ≡ things ts
    → (now : List Tree) × (x ≡ things now)
unfolding all_more one_more
none_refused m t a n (things now) ts e = (now, refl)
none_refused m t a zero refused ts e = let z : ◌≡◌ {A = ℕ} 0 1 = cc in absurd (omega arith)
none_refused m t a (suc n) refused ts e = none_refused m (suc t) (λ i. a (suc i)) n refused ts e

-- rows are written from the front as well
pub row_front : {A : Type 0} (g : A → List ℕ) (a : ℕ → A) (n : ℕ) → row_bytes g a (suc n) ≡ g (a 0) ++ row_bytes g (λ i. a (suc i)) n
unfolding row_bytes
row_front g a zero = sym (append-nil (g (a 0)))
row_front g a (suc n) = ap (λ l. l ++ g (a (suc n))) (row_front g a n) ∙ append_assoc (g (a 0)) (row_bytes g (λ i. a (suc i)) n) _

-- What is read. Wherever f begins, what it takes passes P, took at most k bytes, and stands there as it is written, by g.
abbrev pub Takes : {A : Type 0} → (A → ℕ → Type 0) → Took A → Type 0
Takes Q t = Answers Q (λ _. Unit {0}) t

abbrev pub Reads : {A : Type 0} → (A → Type 0) → (A → List ℕ) → List ℕ → ℕ → (ℕ → Took A) → Type 0
Reads P g s k f = (at : ℕ) → Takes (Read P g s k at) (f at)

pub then_takes : {A B : Type 0} {Q : A → ℕ → Type 0} {E : Refusal → Type 0} {R : B → ℕ → Type 0} {t : Took A} {f : A → ℕ → Took B}
    → Answers Q E t → ((a : A) (n : ℕ) → Q a n → Takes R (f a n)) → Takes R (and_then t f)
then_takes (takes q) g = g _ _ q
then_takes (refuses e) g = refuses tt

-- a number that passes its test; a need; a row of things, each as it is read alone; and tokens that leave one thing standing
pub checked_read : (test : ℕ → Bool) (r : ℕ → Refusal) (s : List ℕ) → Reads (λ v. So (test v)) number_bytes s 3 (checked_at test r s)
unfolding checked_at
checked_read test r s at =
    then_takes (number_read s at) λ v next a.
    if_judged (refuses tt) λ t. takes (record { passes = t; short = a.short; stands = a.stands })

pub need_read : (s : List ℕ) → Reads (λ x. So (lawful_need x)) need_bytes s 9 (need_of s)
unfolding need_of need_bytes
need_read s at =
    then_takes (number_read s at) λ a i p.
    then_takes (number_read s i) λ b j q.
    then_takes (number_read s j) λ c k r.
    if_judged (refuses tt) λ t. takes {n = k} (record {
      passes = t;
      short = omega arith;
      stands = λ small. both_stand (p.stands small) (both_stand (q.stands small) (r.stands small));
    })

pub row_read : {A : Type 0} {P : A → Type 0} {g : A → List ℕ} {s : List ℕ} {k : ℕ} {f : ℕ → Took A} (z : A) → Reads P g s k f → (n : ℕ)
    → Reads (λ xs. (length xs ≡ n) × ((i : ℕ) → i < n → P (get_or xs i z))) (λ xs. row_bytes g (λ i. get_or xs i z) n) s (n * k) (row_at f n)
unfolding row_at row_bytes
row_read {s = s} z h zero at =
    takes {n = at} (record { passes = (refl, λ i l. absurd (omega arith)); short = omega arith; stands = λ _. none_stands s at })
row_read {g = g} z h (suc n) at =
    then_takes (h at) λ x next a.
    then_takes (row_read z h n next) λ xs end b.
    takes {n = end} (record {
      passes = (ap suc b.passes.0, elim [ zero ↦ λ l. a.passes | suc i ↦ λ l. b.passes.1 i (omega arith) ]);
      short = omega arith;
      stands = λ small. rw (row_front g (λ i. get_or (x ∷ xs) i z) n) (both_stand (a.stands small) (b.stands small));
    })

kept_takes : {Q : List ℕ → ℕ → Type 0} {f : List Tree → Took (List ℕ)} (at : ℕ) (x : Standing)
    → ((now : List Tree) → x ≡ things now → Takes Q (f now)) → Takes Q (kept_token at x f)
kept_takes at refused h = refuses tt
kept_takes at (things now) h = h now refl

pub tokens_read : (s : List ℕ) (m n t : ℕ) (ts : List Tree)
    → Reads (λ ks. (length ks ≡ n) × ((u : Tree) × (all_more m t (λ i. get_or ks i 0) n (things ts) ≡ things (u ∷ []))))
    (λ ks. row_bytes number_bytes (λ i. get_or ks i 0) n) s (n * 3) (tokens_at s m t n ts)
unfolding tokens_at all_more one_more row_bytes
tokens_read s m zero t [] at = refuses tt
tokens_read s m zero t (u ∷ []) at = takes {n = at} (record { passes = (refl, (u, refl)); short = omega arith; stands = λ _. none_stands s at })
tokens_read s m zero t (u ∷ (v ∷ ts)) at = refuses tt
tokens_read s m (suc n) t ts at =
    then_takes (number_read s at) λ k next a.
    kept_takes at (after m t (token_of most_modules k) ts) λ now e.
    then_takes (tokens_read s m n (suc t) now next) λ ks end b.
    takes {n = end} (record {
      passes = let (long, (u, q)) = b.passes in (ap suc long, (u, rw e q));
      short = omega arith;
      stands = λ small. rw (row_front number_bytes (λ i. get_or (k ∷ ks) i 0) n) (both_stand (a.stands small) (b.stands small));
    })
