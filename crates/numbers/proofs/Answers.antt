-- What a caller learns of the rules from the code's answer: something was taken, or a refusal ended the reading. The
-- answers' constructors tell which. Assumes nothing.
use Rattle.std.specs.Prelude.{Result, Ok, Err}
use mathlib.Core.Path.{◌≡◌}
use Rattle.rules.specs.declared.Refusal.{Refusal}
use Rattle.rules.specs.Bytes.{Took, took, refuse}
use Rattle.numbers.specs.declared.Taken.{Taken}
use Rattle.numbers.specs.Replies.{reply_of}

module _ {A : Type 0} {r : Result (Taken A) Refusal} (t : Took A) (e : r ≡ reply_of t) where
  pub was_taken : {n : Taken A} → r ≡ Ok n → t ≡ took n.value n.next
  was_taken {n} q = go t e
    where
      go : (t : Took A) → r ≡ reply_of t → t ≡ took n.value n.next
      go (took v i) p = cc
      go (refuse e) p = cc

  pub was_refused : {e : Refusal} → r ≡ Err e → t ≡ refuse e
  was_refused {e = x} q = go t e
    where
      go : (t : Took A) → r ≡ reply_of t → t ≡ refuse x
      go (took v i) p = cc
      go (refuse e) p = cc
