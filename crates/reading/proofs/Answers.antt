-- What a caller learns of the rules from an answer of the code: something was taken, or a refusal ended the reading. Assumes nothing.
use Rattle.std.specs.Prelude.{Result, Ok, Err}
use Rattle.std.specs.Result.{IsErrAnd}
use Rattle.std.proofs.lemmas.Result.{err_from_is_err_and}
use mathlib.Core.Path.{◌≡◌, refl, sym, ap, ◌∙◌}
use mathlib.Core.Bool.{Bool, true, false, ◌&&◌}
use mathlib.Core.List.{List}
use Prim.Native.Nat.{ℕ, ◌≤◌, ◌<◌}
use native.Mathlib.Omega.{arith}
use lib.Dec.{leb}
use borrow.Author.Tests.{le-leb, leb-true}
use Rattle.rules.specs.declared.Refusal.{Refusal}
use Rattle.rules.specs.declared.Refusal.TheVariants.{BreaksLimits}
use Rattle.rules.specs.Design.{last_kind, lawful_kind, in_range}
use Rattle.rules.specs.Bytes.{Took, took, refuse, and_then, judged, number_at, checked_at, limited_at}
use Rattle.rules.proofs.Testing.{range_iff}
use Rattle.numbers.specs.declared.Taken.{Taken}
use Rattle.numbers.specs.Replies.{reply_of}
use Rattle.numbers.proofs.Answers.{was_taken, was_refused}

-- Something was taken or refused, and with it what the rules take after it.
module _ {A B : Type 0} (t : Took A) (f : A → ℕ → Took B) {r : Result (Taken A) Refusal} (e : r ≡ reply_of t) where
  pub ends : {x : Refusal} → r ≡ Err x → Err x ≡ reply_of (and_then t f)
  ends q = rw (was_refused t e q)

  pub goes_on : {n : Taken A} {y : Result (Taken B) Refusal} → r ≡ Ok n → y ≡ reply_of (f n.value n.next)
      → y ≡ reply_of (and_then t f)
  goes_on q p = rw (was_taken t e q) p

  -- by a `?`
  pub exits : {x : Refusal} {y : Result (Taken B) Refusal} → r ≡ Err x → IsErrAnd y (λ e. e ≡ x) → y ≡ reply_of (and_then t f)
  exits {x} {y} q a = let (z, p, o) = err_from_is_err_and y a in rw (p, o) (ends q)

pub ruleset replies = (ends, goes_on, exits)

-- what was taken has passed
module _ (test : ℕ → Bool) (refusal : ℕ → Refusal) (s : List ℕ) (at : ℕ) where
  pub taken_passes : {v next : ℕ} → checked_at test refusal s at ≡ took v next → test v ≡ true
  unfolding checked_at
  taken_passes {v} {next} e = go (number_at s at) e
    where
      last : (u n : ℕ) (b : Bool) → test u ≡ b → judged b (refusal at) (took u n) ≡ took v next → test v ≡ true
      last u n true p q = let o : u ≡ v = cc in rw o at p
      last u n false p q = absurd (cc)

      go : (t : Took ℕ) → (and_then t λ u n. judged (test u) (refusal at) (took u n)) ≡ took v next → test v ≡ true
      go (took u n) q = last u n (test u) refl q
      go (refuse x) q = absurd (cc)

pub limited_fits : (low most : ℕ) (s : List ℕ) (at : ℕ) {v next : ℕ} → limited_at low most s at ≡ took v next
    → (low ≤ v) × (v ≤ most)
limited_fits low most s at {v} e = (range_iff low most v).0 (taken_passes _ _ s at e)

-- "kinds 0..2" as limits
kind_limits : (s : List ℕ) (at : ℕ) → limited_at 0 last_kind s at ≡ checked_at lawful_kind BreaksLimits s at
unfolding checked_at in_range
kind_limits s at = go (number_at s at)
  where
    go : (t : Took ℕ)
        → (and_then t λ v n. judged (leb 0 v && leb v last_kind) (BreaksLimits at) (took v n))
        ≡ (and_then t λ v n. judged (leb v last_kind) (BreaksLimits at) (took v n))
    go (took v n) = rw (le-leb 0 v (omega arith))
    go (refuse x) = refl

kind_small : (s : List ℕ) (at : ℕ) {v next : ℕ} → checked_at lawful_kind BreaksLimits s at ≡ took v next → v ≤ last_kind
kind_small s at e = leb-true _ _ (taken_passes _ _ s at e)

-- a kind, whose limits are those of a number
module _ (s : List ℕ) (at : ℕ) {r : Result (Taken ℕ) Refusal} (e : r ≡ reply_of (limited_at 0 last_kind s at)) where
  kind_reply : r ≡ reply_of (checked_at lawful_kind BreaksLimits s at)
  kind_reply = e ∙ ap reply_of (kind_limits s at)

  pub kind_fits : {n : Taken ℕ} → r ≡ Ok n → n.value < 256
  kind_fits q = let k = kind_small s at (was_taken _ kind_reply q) in omega arith

  pub kind_read : {n : Taken ℕ} → r ≡ Ok n → Ok n ≡ reply_of (checked_at lawful_kind BreaksLimits s at)
  kind_read q = sym q ∙ kind_reply

  pub kind_unread : {x : Refusal} → r ≡ Err x → Err x ≡ reply_of (checked_at lawful_kind BreaksLimits s at)
  kind_unread q = sym q ∙ kind_reply
