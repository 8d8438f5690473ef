-- 01, "The plan program": the answer to the bytes of a design, and its text.
use Rattle.std.specs.Prelude.{◌≡◌, List, ℕ, ◌*◌, length, take, Ok, Err}
use Rattle.rules.specs.declared.Refusal.{Refusal}
use Rattle.rules.specs.declared.Handed.{Handed}
use Rattle.rules.specs.Answers.{Planned}
use Rattle.rules.specs.Service.{Reads, Plans}
use Rattle.rules.specs.Design.{most_modules}
use Rattle.rules.specs.Program.{program_input, program_work, zeroed, plan_text}
use Rattle.lending.specs.Lent.{Lent, lending, Stands}
use Rattle.putting.specs.Put.{Put}

-- the answer to what was read: the refusal of reading, or what plan answers for the design
pub record Answers (h : Handed) (work rows : Lent) (r : Planned) : Type 0 where
  pub refused : (e : Refusal) → h.reply ≡ Err e → (r ≡ Err e) × Stands work × Stands rows
  pub done : h.reply ≡ (Ok tt) → Plans h.design work.came rows.came r work.left rows.left

-- the text of that answer to some bytes is put at the start of the lent ones, and `count` is its length
pub record Runs (bytes : List ℕ) (work rows out : Lent) (count : ℕ) : Type 0 where
  pub handed : Handed
  pub planned : Planned
  pub reads : Reads bytes handed
  pub answers : Answers handed work rows planned
  pub prints : Put out.came 0 (plan_text planned handed.design.modules rows.left) count out.left

-- The program's input has its size, and `read` bytes of it were read: the text for these is put, over work and rows that are zeros.
pub record PlansInput (input : List ℕ) (read : ℕ) (out : Lent) (count : ℕ) : Type 0 where
  pub size : length input ≡ program_input
  pub work : List ℕ
  pub rows : List ℕ
  pub runs : Runs (take read input) (lending (zeroed program_work) work) (lending (zeroed (4 * most_modules)) rows) out count
