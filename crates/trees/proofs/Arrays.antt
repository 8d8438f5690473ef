-- An array with a place for each node, filled from its start: each place keeps what was put there. Assumes nothing.
use mathlib.Core.Path.{◌≡◌, refl, sym, ◌∙◌}
use mathlib.Core.List.{List}
use Prim.Native.Nat.{ℕ, zero, suc, ◌+◌, ◌≤◌, ◌<◌}
use native.Mathlib.Omega.{arith}
use native.Mathlib.Decide.{ℕ_discrete}
use lib.ListN.{length, get_or, set, length-set, replicate}
use lib.Seq.{get_or-set_same, get_or-set_other}
use Rattle.rules.specs.Design.{most_tokens}

-- of the first n places those below t are as f says, and the places beyond n are empty
pub record UpTo {A : Type 0} (empty : A) (f : ℕ → A) (n t : ℕ) (xs : List A) : Type 0 where
  pub few : n ≤ most_tokens
  pub long : length xs ≡ most_tokens
  pub before : (u : ℕ) → u < t → u < n → get_or xs u empty ≡ f u
  pub past : (u : ℕ) → n ≤ u → get_or xs u empty ≡ empty

empty_at : {A : Type 0} (empty : A) (n u : ℕ) → get_or (replicate n empty) u empty ≡ empty
empty_at empty zero u = refl
empty_at empty (suc n) zero = refl
empty_at empty (suc n) (suc u) = empty_at empty n u

-- nothing put there yet
pub none_yet : {A : Type 0} (empty : A) (f : ℕ → A) (n t : ℕ) → n ≤ most_tokens → ((u : ℕ) → u < t → u < n → f u ≡ empty)
    → UpTo empty f n t (replicate most_tokens empty)
none_yet empty f n t h z = record {
  few = h;
  long = refl;
  before = λ u l k. empty_at empty most_tokens u ∙ sym (z u l k);
  past = λ u l. empty_at empty most_tokens u;
}

-- one place more
pub one_more : {A : Type 0} {empty : A} {f : ℕ → A} {n t : ℕ} {xs : List A} (v : A) → UpTo empty f n t xs → t < n → v ≡ f t
    → UpTo empty f n (t + 1) (set xs t v)
one_more {A} {empty} {f} {n} {t} {xs} v m h e = record {
  few = m.few;
  long = length-set xs t v ∙ m.long;
  before = λ u l k. at u l k (ℕ_discrete u t);
  past = λ u l. get_or-set_other xs t u v empty (λ q. omega arith) ∙ m.past u l;
}
  where
    at : (u : ℕ) → u < t + 1 → u < n → Dec (u ≡ t) → get_or (set xs t v) u empty ≡ f u
    at u l k (yes q) = rw q (get_or-set_same xs t v empty (omega (arith, m.long, m.few)) ∙ e)
    at u l k (no q) = get_or-set_other xs t u v empty q ∙ m.before u (omega arith) k
