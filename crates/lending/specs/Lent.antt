-- What a caller lends, at the call's start and at its end.
use Rattle.std.specs.Prelude.{◌≡◌, List, ℕ}
use Rattle.std.specs.Borrow.{Bor, MutBor}
use denote.Triple.Both.{Both}

-- bytes that are lent to be written: as they came, and as the call leaves them
pub record Lent : Type 0 where
  pub came : List ℕ
  pub left : List ℕ

abbrev pub lending : List ℕ → List ℕ → Lent
lending before after = record { came = before; left = after }

-- every byte stands
abbrev pub Stands : Lent → Type 0
Stands x = x.left ≡ x.came

-- A contract's word for a parameter that is lent: what is only read, and what is written, at the call's start and at its end.
abbrev pub Given : Type 0 → Type 0
Given A = Both (Bor A) (Bor A)

abbrev pub Place : Type 0 → Type 0
Place A = Both (MutBor A) (MutBor A)

-- bytes that are only read, bytes that are written, and what the call puts into a place for one number
abbrev pub given : {A : Type 0} → Given (List A) → List A
given x = x.entry.now

abbrev pub lent : Place (List ℕ) → Lent
lent x = lending x.entry.now x.exit.now

abbrev pub put : {A : Type 0} → Place A → A
put x = x.exit.now
