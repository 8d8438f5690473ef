-- The code's answer for what the rules take from the bytes.
use Rattle.std.specs.Prelude.{Result, Ok, Err}
use Rattle.rules.specs.declared.Refusal.{Refusal}
use Rattle.rules.specs.Bytes.{Took, took, refuse}
use Rattle.numbers.specs.declared.Taken.{Taken}

abbrev pub reply_of : {A : Type 0} → Took A → Result (Taken A) Refusal
reply_of (took value next) = Ok (record { value = value; next = next })
reply_of (refuse e) = Err e
