-- Demand 1: "The planner ends on all input and stays inside its memory. It tests every design, list, floorplan and edit for itself. A bad one
-- gets its numbered refusal, and the rules fix what then stands in each buffer it was lent." The first sentence is of the code and not of its
-- answers: the gate proves it of every function (docs/PROMISES.md). The others are 01's table of numbered replies: when each number is given,
-- with what beside it, and what it leaves. Score's is order 1's (02).
use Rattle.std.specs.Prelude.{◌≡◌, ◌⊎◌, List, ℕ, ◌≤◌, ◌<◌, length}
use Rattle.std.proofs.Math.Bool.{So}
use Rattle.rules.specs.declared.Shape.{Shape}
use Rattle.rules.specs.declared.Design.{Design}
use Rattle.rules.specs.declared.Edit.{Edit}
use Rattle.rules.specs.declared.Refusal.TheVariants.{Unfinished, Malformed, WrongForm, BreaksLimits, BadToken, ExtraBytes}
use Rattle.rules.specs.Answers.{Reply, Written, Planned, Scored}
use Rattle.rules.specs.declared.Handed.{Handed}
use Rattle.rules.specs.declared.Cost.{Cost}
use Rattle.rules.specs.Tree.{refused}
use Rattle.rules.specs.Placement.{Placement}
use Rattle.rules.specs.Slot.{PastKept}
use Rattle.rules.specs.Design.{within_limits, standing_of, nodes, LawfulDesign, LawfulPlacement, slots_of, AllStairs, OwnLists, GoesDown, NoShapeIn, ChosenIn}
use Rattle.rules.specs.Edit.{names_place}
use Rattle.rules.specs.Bytes.{took, refuse, design_bytes, design_at}
use Rattle.rules.specs.Check.{from_rows, FirstOff, FirstShort, FirstNotKept}
use Rattle.rules.specs.Score.{no_score, score_of}
use Rattle.rules.specs.Reply.{Answer, ScoreAnswer, plainly, answer, written_answer, planned_answer, scored_answer}
use Rattle.rules.specs.Service.{Enough, work_of, rows_of, zeros, TermsLawful, NetsLawful}
use Rattle.promises.specs.Services.{Services}

-- "A design handed over as a value is tested first by the same limits and tree rules, in file order, with 4, 5 or 6 at position 0." (01 lists
-- 6, and it never comes.) Then a service has tests of its own.
pub data Tested (d : Design) (Then : Answer → Type 0) : Answer → Type 0 where
  -- "a value breaks the limits above"
  breaks_limits : (So (within_limits d) → ⊥) → Tested d Then (plainly 4 0)
  -- "token over m+1, module repeated, or cut with fewer than two things standing"
  bad_token : So (within_limits d) → standing_of d (nodes d) ≡ refused → Tested d Then (plainly 5 0)
  lawful : {a : Answer} → LawfulDesign d → Then a → Tested d Then a

-- "unless the reply is 0": what a refusal leaves
abbrev pub Refusing : Answer → Type 0 → Type 0
Refusing a Left = (a.number ≡ 0 → ⊥) → Left

-- read: with 0 the design is that of the bytes, of all of them, and lawful. "Numbers are judged as they are read: 1 or 2 first, then 3, 4 or 5,
-- then 6, then 7", with "the position of the first byte of the number at fault". "The design that a refused reading hands back is all zeros."
pub data ReadNumbered (s : List ℕ) (d : Design) : Answer → Type 0 where
  done : design_at s ≡ took d (length s) → LawfulDesign d → ReadNumbered s d (plainly 0 0)
  unfinished : {i : ℕ} → design_at s ≡ refuse (Unfinished i) → ReadNumbered s d (plainly 1 i)
  malformed : {i : ℕ} → design_at s ≡ refuse (Malformed i) → ReadNumbered s d (plainly 2 i)
  wrong_form : {i : ℕ} → design_at s ≡ refuse (WrongForm i) → ReadNumbered s d (plainly 3 i)
  breaks_limits : {i : ℕ} → design_at s ≡ refuse (BreaksLimits i) → ReadNumbered s d (plainly 4 i)
  bad_token : {i : ℕ} → design_at s ≡ refuse (BadToken i) → ReadNumbered s d (plainly 5 i)
  extra_bytes : {i : ℕ} → design_at s ≡ refuse (ExtraBytes i) → ReadNumbered s d (plainly 7 i)

-- write: "8, otherwise the byte count"; "A refused write counts 0 bytes"
pub data WriteNumbered (d : Design) (before : List ℕ) : Answer → Type 0 where
  short : length before < length (design_bytes d) → WriteNumbered d before (plainly 8 0)
  done : length (design_bytes d) ≤ length before → WriteNumbered d before (plainly 0 (length (design_bytes d)))

-- list: 8
pub data ListNumbered (d : Design) (before : List ℕ) : Answer → Type 0 where
  short : length before < work_of d → ListNumbered d before (plainly 8 0)
  done : work_of d ≤ length before → ListNumbered d before (plainly 0 0)

-- plan: 8, 10. "Plan and place also reply with the box .. and with 0 and 0 unless the reply is 0."
abbrev pub boxed : Shape → Answer
boxed s = record { number = 0; value = 0; box = s }

pub data PlanNumbered (d : Design) (before rows : List ℕ) : Answer → Type 0 where
  short : (length before < work_of d) ⊎ (length rows < rows_of d) → PlanNumbered d before rows (plainly 8 0)
  none : Enough d before rows → PlanNumbered d before rows (plainly 10 0)
  done : {s : Shape} → Enough d before rows → PlanNumbered d before rows (boxed s)

-- "rows unchanged; after plan, work holds the full lists" with 10; with any other refusal work stands too
pub record PlanLeft (d : Design) (before rows : List ℕ) (number : ℕ) (after rows' : List ℕ) : Type 0 where
  pub rows_stand : rows' ≡ rows
  pub work_stands : (number ≡ 10 → ⊥) → after ≡ before
  pub work_listed : number ≡ 10 → PastKept (work_of d) before after × OwnLists d (slots_of d after)

-- place: 8, 9, 10. "Place and edit give 9 if any slot of any node is not a stair. Place also gives 9 if a chosen shape has no pair below it or a
-- leaf's shape does not suit. So a placed floorplan is lawful over all work bytes." Work is only read.
pub data PlaceNumbered (d : Design) (work rows rows' : List ℕ) : Answer → Type 0 where
  short : (length work < work_of d) ⊎ (length rows < rows_of d) → PlaceNumbered d work rows rows' (plainly 8 0)
  stranger : Enough d work rows → (AllStairs d (slots_of d work) → ⊥) → PlaceNumbered d work rows rows' (plainly 9 0)
  none : Enough d work rows → AllStairs d (slots_of d work) → NoShapeIn d work
      → PlaceNumbered d work rows rows' (plainly 10 0)
  lost : {s : Shape} → Enough d work rows → AllStairs d (slots_of d work) → ChosenIn d work s
      → ((p : Placement) → GoesDown d (slots_of d work) s p → ⊥) → PlaceNumbered d work rows rows' (plainly 9 0)
  done : {s : Shape} → Enough d work rows → AllStairs d (slots_of d work) → LawfulPlacement d (from_rows rows')
      → PlaceNumbered d work rows rows' (boxed s)

-- edit: 11, 8, 9. "An edit hands the design back with that one change, or unchanged if refused" (the change is demand 3's).
pub data EditNumbered (d : Design) (e : Edit) (before : List ℕ) : Answer → Type 0 where
  unnamed : (So (names_place d e) → ⊥) → EditNumbered d e before (plainly 11 0)
  short : So (names_place d e) → length before < work_of d → EditNumbered d e before (plainly 8 0)
  stranger : So (names_place d e) → work_of d ≤ length before → (AllStairs d (slots_of d before) → ⊥)
      → EditNumbered d e before (plainly 9 0)
  done : So (names_place d e) → work_of d ≤ length before → AllStairs d (slots_of d before)
      → EditNumbered d e before (plainly 0 0)

-- check: "The checker looks at 8, then modules in order (12 before 13 for each), then cuts in token order; it names the module (12, 13) or the
-- token's position (14), and 0 with any other reply." Rows are only read.
pub data CheckNumbered (d : Design) (rows : List ℕ) : Answer → Type 0 where
  short : length rows < rows_of d → CheckNumbered d rows (plainly 8 0)
  off_the_chip : {k : ℕ} → rows_of d ≤ length rows → FirstOff d (from_rows rows) k → CheckNumbered d rows (plainly 12 k)
  short_of_need : {k : ℕ} → rows_of d ≤ length rows → FirstShort d (from_rows rows) k
      → CheckNumbered d rows (plainly 13 k)
  cut_not_kept : {t : ℕ} → rows_of d ≤ length rows → FirstNotKept d (from_rows rows) t
      → CheckNumbered d rows (plainly 14 t)
  done : rows_of d ≤ length rows → LawfulPlacement d (from_rows rows) → CheckNumbered d rows (plainly 0 0)

-- score: "Refusals (both values 0, as with no terms): first all of the checker's own, then 15 for a ninth term or a weight
-- outside 0 to 1,000,000 or not a number, then 16 for a 33rd net or one that is empty or names a missing module." The
-- checker's refusals go on with what they name. Rows are only read.
abbrev pub unscored : Answer → ScoreAnswer
unscored a = record { reply = a; values = no_score }

-- the checker passes these rows
pub record Passed (d : Design) (rows : List ℕ) : Type 0 where
  pub lawful : LawfulDesign d
  pub places : rows_of d ≤ length rows
  pub placement : LawfulPlacement d (from_rows rows)

pub data ScoreNumbered (d : Design) (rows : List ℕ) (c : Cost) : ScoreAnswer → Type 0 where
  not_passed : {a : Answer} → Tested d (CheckNumbered d rows) a → (a.number ≡ 0 → ⊥)
      → ScoreNumbered d rows c (unscored a)
  bad_term : Passed d rows → (TermsLawful c → ⊥) → ScoreNumbered d rows c (unscored (plainly 15 0))
  bad_net : Passed d rows → TermsLawful c → (NetsLawful d c → ⊥) → ScoreNumbered d rows c (unscored (plainly 16 0))
  done : Passed d rows → TermsLawful c → NetsLawful d c
      → ScoreNumbered d rows c (record { reply = plainly 0 0; values = score_of d (from_rows rows) c })

-- "It tests every design, list, floorplan and edit for itself. A bad one gets its numbered refusal"
pub record Numbered (S : Services) : Type 0 where
  pub read : (s : List ℕ) (r : Handed) → S.read s r → ReadNumbered s r.design (answer r.reply)
  pub write : (d : Design) (before after : List ℕ) (r : Written) → S.write d before r after
      → Tested d (WriteNumbered d before) (written_answer r)
  pub list : (d : Design) (before after : List ℕ) (r : Reply) → S.list d before r after
      → Tested d (ListNumbered d before) (answer r)
  pub plan : (d : Design) (before rows after rows' : List ℕ) (r : Planned) → S.plan d before rows r after rows'
      → Tested d (PlanNumbered d before rows) (planned_answer r)
  pub place : (d : Design) (work rows rows' : List ℕ) (r : Planned) → S.place d work rows r rows'
      → Tested d (PlaceNumbered d work rows rows') (planned_answer r)
  pub edit : (d : Design) (e : Edit) (before after : List ℕ) (r : Handed) → S.edit d e before r after
      → Tested d (EditNumbered d e before) (answer r.reply)
  pub check : (d : Design) (rows : List ℕ) (r : Reply) → S.check d rows r → Tested d (CheckNumbered d rows) (answer r)
  pub score : (d : Design) (rows : List ℕ) (c : Cost) (r : Scored) → S.score d rows c r
      → ScoreNumbered d rows c (scored_answer r)

-- "and the rules fix what then stands in each buffer it was lent"
pub record Leaving (S : Services) : Type 0 where
  pub read : (s : List ℕ) (r : Handed) → S.read s r → Refusing (answer r.reply) (r.design ≡ zeros)
  pub write : (d : Design) (before after : List ℕ) (r : Written) → S.write d before r after
      → Refusing (written_answer r) (after ≡ before)
  pub list : (d : Design) (before after : List ℕ) (r : Reply) → S.list d before r after
      → Refusing (answer r) (after ≡ before)
  pub plan : (d : Design) (before rows after rows' : List ℕ) (r : Planned) → S.plan d before rows r after rows'
      → Refusing (planned_answer r) (PlanLeft d before rows (planned_answer r).number after rows')
  pub place : (d : Design) (work rows rows' : List ℕ) (r : Planned) → S.place d work rows r rows'
      → Refusing (planned_answer r) (rows' ≡ rows)
  pub edit : (d : Design) (e : Edit) (before after : List ℕ) (r : Handed) → S.edit d e before r after
      → Refusing (answer r.reply) ((r.design ≡ d) × (after ≡ before))

pub record Demand1 (S : Services) : Type 0 where
  pub numbered : Numbered S
  pub leaving : Leaving S
