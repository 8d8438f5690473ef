-- The services as C and Rust call them. There a design is always its bytes, so each function reads them first; then it asks the
-- service, whose predicate (`Service.antt` of the rules) says the rest. A reply is its number, returned, and what is put into the
-- caller's places.
use Rattle.std.specs.Prelude.{◌≡◌, List, ◌++◌, ℕ, ◌≤◌, ◌<◌, length, drop, Float, Ok, Err}
use Rattle.std.proofs.Math.Bool.{So}
use Rattle.rules.specs.declared.Design.{Design}
use Rattle.rules.specs.declared.Edit.{Edit}
use Rattle.rules.specs.declared.Edit.TheVariants.{Change}
use Rattle.rules.specs.declared.Refusal.{Refusal}
use Rattle.rules.specs.declared.Refusal.TheVariants.{TooShort, NoSuchEdit}
use Rattle.rules.specs.Answers.{Reply, Written, Planned, Scored}
use Rattle.rules.specs.declared.Handed.{Handed}
use Rattle.rules.specs.declared.Cost.{Cost}
use Rattle.rules.specs.Chip.{shape}
use Rattle.rules.specs.Edit.{names_place}
use Rattle.rules.specs.Bytes.{took, refuse, design_bytes, design_at}
use Rattle.rules.specs.Score.{no_score}
use Rattle.rules.specs.Reply.{Answer, ScoreAnswer, plainly, refusal, answer, written_answer, planned_answer, scored_answer}
use Rattle.rules.specs.Service.{work_of, rows_of, Reads, Writes, Lists, Plans, Places, Edits, Checks, Scores}
use Rattle.rules.specs.Design.{width_of, height_of}
use Rattle.lending.specs.Lent.{Lent, Stands, Given, Place, given, put}
use Rattle.costs.specs.Slices.{cost_in}
use Rattle.writing.specs.Parts.{design_size}

-- the number returned, with the value, and with the box
abbrev pub said : ℕ → Place ℕ → Answer
said n value = plainly n (put value)

abbrev pub boxed : ℕ → Place ℕ → Place ℕ → Place ℕ → Answer
boxed n value width height = record { number = n; value = put value; box = shape (put width) (put height) }

-- A refused reading is the reply, and everything stands; of a design that was read, the service's part holds.
pub record Asked (bytes : List ℕ) (reply : Answer) (Standing : Type 0) (Served : Design → Type 0) : Type 0 where
  pub unread : (e : Refusal) → design_at bytes ≡ refuse e → (reply ≡ refusal e) × Standing
  pub read : (d : Design) (n : ℕ) → design_at bytes ≡ took d n → Served d

-- what the service answers is the reply
pub record Says {R : Type 0} (answers : R → Answer) (Service : R → Type 0) (reply : Answer) : Type 0 where
  pub r : R
  pub served : Service r
  pub said : reply ≡ answers r

-- read
abbrev pub AskedRead : List ℕ → Answer → Type 0
AskedRead bytes reply = Says {R = Handed} (λ h. answer h.reply) (Reads bytes) reply

-- sizes: of a design that was read W, H, m and the bytes that its lists and its rows take; zeros with a refusal
pub record Sizes : Type 0 where
  pub width : ℕ
  pub height : ℕ
  pub modules : ℕ
  pub work : ℕ
  pub rows : ℕ

-- what the call puts into five places
abbrev pub sizes : Place ℕ → Place ℕ → Place ℕ → Place ℕ → Place ℕ → Sizes
sizes w h m work rows = record { width = put w; height = put h; modules = put m; work = put work; rows = put rows }

abbrev pub sizes_of : Design → Sizes
sizes_of d = record { width = width_of d; height = height_of d; modules = d.modules; work = work_of d; rows = rows_of d }

abbrev pub no_sizes : Sizes
no_sizes = record { width = 0; height = 0; modules = 0; work = 0; rows = 0 }

abbrev pub AskedSizes : List ℕ → Sizes → Answer → Type 0
AskedSizes bytes sizes reply = Asked bytes reply (sizes ≡ no_sizes) (λ d. (reply ≡ answer (Ok tt)) × (sizes ≡ sizes_of d))

-- write: the design's bytes again, in `out`
abbrev pub AskedWrite : List ℕ → Lent → Answer → Type 0
AskedWrite bytes out reply =
    Asked bytes reply (Stands out) (λ d. Says {R = Written} written_answer (λ r. Writes d out.came r out.left) reply)

-- list
abbrev pub AskedList : List ℕ → Lent → Answer → Type 0
AskedList bytes work reply =
    Asked bytes reply (Stands work) (λ d. Says {R = Reply} answer (λ r. Lists d work.came r work.left) reply)

-- plan
abbrev pub AskedPlan : List ℕ → Lent → Lent → Answer → Type 0
AskedPlan bytes work rows reply =
    Asked bytes reply (Stands work × Stands rows)
    (λ d. Says {R = Planned} planned_answer (λ r. Plans d work.came rows.came r work.left rows.left) reply)

-- place: work is only lent to be read
abbrev pub AskedPlace : List ℕ → List ℕ → Lent → Answer → Type 0
AskedPlace bytes work rows reply =
    Asked bytes reply (Stands rows)
    (λ d. Says {R = Planned} planned_answer (λ r. Places d work rows.came r rows.left) reply)

-- check: rows are only lent to be read
abbrev pub AskedCheck : List ℕ → List ℕ → Answer → Type 0
AskedCheck bytes rows reply = Asked bytes reply (Unit {0}) (λ d. Says {R = Reply} answer (Checks d rows) reply)

-- score: rows, terms and nets are only lent to be read; both values are put into places, zeros with a refusal
abbrev pub marked : ℕ → Place ℕ → Place Float → Place Float → ScoreAnswer
marked n value total last = record { reply = said n value; values = record { total = put total; last = put last } }

abbrev pub asked : Given (List ℕ) → Given (List Float) → Given (List ℕ) → Cost
asked kinds weights nets = cost_in (given kinds) (given weights) (given nets)

abbrev pub AskedScore : List ℕ → List ℕ → Cost → ScoreAnswer → Type 0
AskedScore bytes rows c a =
    Asked bytes a.reply (a.values ≡ no_score) (λ d. (r : Scored) × Scores d rows c r × (a ≡ scored_answer r))

-- edit: the bytes of the design that is handed back go to `out`, and their count is the value. That it can hold the longest design is
-- asked where work's length is, after 11.
pub record PutsBack (h : Handed) (out : Lent) (reply : Answer) : Type 0 where
  pub done : h.reply ≡ (Ok tt) → let bytes = design_bytes h.design in
      (reply ≡ plainly 0 (length bytes)) × (out.left ≡ bytes ++ drop (length bytes) out.came)
  pub refused : (e : Refusal) → h.reply ≡ Err e → (reply ≡ refusal e) × Stands out

pub record EditsInto (d : Design) (e : Edit) (work out : Lent) (reply : Answer) : Type 0 where
  pub unnamed : length out.came < design_size → (So (names_place d e) → ⊥)
      → (reply ≡ refusal NoSuchEdit) × Stands work × Stands out
  pub short : length out.came < design_size → So (names_place d e)
      → (reply ≡ refusal TooShort) × Stands work × Stands out
  pub enough : design_size ≤ length out.came
      → (h : Handed) × Edits d e work.came h work.left × PutsBack h out reply

abbrev pub AskedEdit : List ℕ → Edit → Lent → Lent → Answer → Type 0
AskedEdit bytes e work out reply = Asked bytes reply (Stands work × Stands out) (λ d. EditsInto d e work out reply)

-- the change of a need, by its numbers
abbrev pub new_need : ℕ → ℕ → ℕ → ℕ → Edit
new_need k clbs rams multipliers = Change k (record { clbs = clbs; rams = rams; multipliers = multipliers })
