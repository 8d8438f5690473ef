-- Numbered replies (the table of docs/RULES.md, and rule 25): the number and the values of every answer.
use Rattle.std.specs.Prelude.{ℕ, Ok, Err}
use Rattle.rules.specs.declared.Shape.{Shape}
use Rattle.rules.specs.declared.Refusal.{Refusal}
use Rattle.rules.specs.declared.Refusal.TheVariants.{Unfinished, Malformed, WrongForm, BreaksLimits, BadToken, NotOneThing, ExtraBytes, TooShort, Unreliable, NoPlacement, NoSuchEdit, OffTheChip, ShortOfNeed, CutNotKept, BadTerm, BadNet}
use Rattle.rules.specs.Answers.{Reply, Written, Planned, Scored}
use Rattle.rules.specs.declared.Score.{Score}
use Rattle.rules.specs.Chip.{shape}
use Rattle.rules.specs.Score.{no_score}

-- A numbered reply, and what is said beside it: a position, a module's or token's place ("and 0 with any other reply"), a count
-- of bytes ("A refused write counts 0 bytes"), or the box ("with 0 and 0 unless the reply is 0").
pub record Answer : Type 0 where
  pub number : ℕ
  pub value : ℕ
  pub box : Shape

abbrev pub plainly : ℕ → ℕ → Answer
plainly n v = record { number = n; value = v; box = shape 0 0 }

abbrev pub refusal : Refusal → Answer
refusal (Unfinished at) = plainly 1 at
refusal (Malformed at) = plainly 2 at
refusal (WrongForm at) = plainly 3 at
refusal (BreaksLimits at) = plainly 4 at
refusal (BadToken at) = plainly 5 at
refusal (NotOneThing at) = plainly 6 at
refusal (ExtraBytes at) = plainly 7 at
refusal TooShort = plainly 8 0
refusal Unreliable = plainly 9 0
refusal NoPlacement = plainly 10 0
refusal NoSuchEdit = plainly 11 0
refusal (OffTheChip k) = plainly 12 k
refusal (ShortOfNeed k) = plainly 13 k
refusal (CutNotKept t) = plainly 14 t
refusal BadTerm = plainly 15 0
refusal BadNet = plainly 16 0

-- the answers of the services
abbrev pub answer : Reply → Answer
answer (Ok tt) = plainly 0 0
answer (Err e) = refusal e

abbrev pub written_answer : Written → Answer
written_answer (Ok n) = plainly 0 n
written_answer (Err e) = refusal e

abbrev pub planned_answer : Planned → Answer
planned_answer (Ok s) = record { number = 0; value = 0; box = s }
planned_answer (Err e) = refusal e

-- the answer of score: a numbered reply, and beside it both values ("both values 0" with a refusal)
pub record ScoreAnswer : Type 0 where
  pub reply : Answer
  pub values : Score

abbrev pub scored_answer : Scored → ScoreAnswer
scored_answer (Ok s) = record { reply = plainly 0 0; values = s }
scored_answer (Err e) = record { reply = refusal e; values = no_score }
