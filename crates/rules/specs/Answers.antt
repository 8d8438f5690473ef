-- What the services answer: their values, or a refusal, which travels whole.
use Rattle.std.specs.Prelude.{ℕ, Result}
use Rattle.rules.specs.declared.Shape.{Shape}
use Rattle.rules.specs.declared.Score.{Score}
use Rattle.rules.specs.declared.Refusal.{Refusal}

-- list and check, and the value test; with a design beside it, read and edit
abbrev pub Reply : Type 0
Reply = Result (Unit {0}) Refusal

-- write: how many bytes
abbrev pub Written : Type 0
Written = Result ℕ Refusal

-- plan and place: the box
abbrev pub Planned : Type 0
Planned = Result Shape Refusal

-- score: both values
abbrev pub Scored : Type 0
Scored = Result Score Refusal
