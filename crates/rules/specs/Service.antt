-- The eight services, rules 20 to 25 and 32 of docs/RULES.md: what each contract says of its reply and of every lent byte, for all
-- inputs. Each is said by its outcomes, in the order in which the refusals are given.
use Rattle.std.specs.Prelude.{◌≡◌, ◌⊎◌, List, [], ◌++◌, ℕ, ◌*◌, ◌≤◌, ◌<◌, length, drop, Ok, Err}
use Rattle.std.proofs.Math.Bool.{So}
use Rattle.rules.specs.declared.Shape.{Shape}
use Rattle.rules.specs.declared.Design.{Design}
use Rattle.rules.specs.declared.Edit.{Edit}
use Rattle.rules.specs.declared.Refusal.{Refusal}
use Rattle.rules.specs.declared.Refusal.TheVariants.{TooShort, Unreliable, NoPlacement, NoSuchEdit, BadTerm, BadNet}
use Rattle.rules.specs.Answers.{Reply, Written, Planned, Scored}
use Rattle.rules.specs.declared.Handed.{Handed}
use Rattle.rules.specs.declared.Cost.{Cost}
use Rattle.rules.specs.Placement.{Placement}
use Rattle.rules.specs.Slot.{work_needed, PastKept}
use Rattle.rules.specs.Choice.{rows_out}
use Rattle.rules.specs.Design.{Sized, nodes, value_test, LawfulDesign, slots_of, AllStairs, OwnLists, GoesDown, width_of, slot_rows, NoShapeIn, ChosenIn}
use Rattle.rules.specs.Edit.{names_place, changed, EditedLists}
use Rattle.rules.specs.Bytes.{Took, took, refuse, design_bytes, design_at, chip_from, design_from}
use Rattle.rules.specs.Check.{from_rows, verdict}
use Rattle.rules.specs.Score.{lawful_terms, lawful_nets, score_of}

-- read, rule 21. "The design that a refused reading hands back is all zeros."
unfoldable pub zeros : Design
zeros = design_from (chip_from 0 0 0 []) 0 [] []

abbrev pub handed : Took Design → Handed
handed (took d n) = record { reply = (Ok tt); design = d }
handed (refuse e) = record { reply = Err e; design = zeros }

abbrev pub Reads : List ℕ → Handed → Type 0
Reads s r = r ≡ handed (design_at s)

-- write, rule 23: "8, otherwise the byte count, bytes past it staying"
pub record Writes (d : Design) (before : List ℕ) (r : Written) (after : List ℕ) : Type 0 where
  pub sized : Sized d
  pub unlawful : (e : Refusal) → value_test d ≡ Err e → (r ≡ Err e) × (after ≡ before)
  pub short : LawfulDesign d → length before < length (design_bytes d)
      → (r ≡ Err TooShort) × (after ≡ before)
  pub done : LawfulDesign d → length (design_bytes d) ≤ length before
      → (r ≡ Ok (length (design_bytes d))) × (after ≡ design_bytes d ++ drop (length (design_bytes d)) before)

-- the work bytes that a design's lists take, and its rows
abbrev pub work_of : Design → ℕ
work_of d = work_needed (width_of d) (slot_rows d) (nodes d)

abbrev pub rows_of : Design → ℕ
rows_of d = 4 * d.modules

-- a lawful design with enough bytes lent
pub record Enough (d : Design) (work rows : List ℕ) : Type 0 where
  pub lawful : LawfulDesign d
  pub bytes : work_of d ≤ length work
  pub places : rows_of d ≤ length rows

-- list, rule 23: 8
pub record Lists (d : Design) (before : List ℕ) (r : Reply) (after : List ℕ) : Type 0 where
  pub sized : Sized d
  pub unlawful : (e : Refusal) → value_test d ≡ Err e → (r ≡ Err e) × (after ≡ before)
  pub short : LawfulDesign d → length before < work_of d → (r ≡ Err TooShort) × (after ≡ before)
  pub done : LawfulDesign d → work_of d ≤ length before
      → (r ≡ (Ok tt)) × PastKept (work_of d) before after × OwnLists d (slots_of d after)

-- plan, rules 20 and 23: 8, 10; "after plan, work holds the full lists"
pub record Plans (d : Design) (before rows : List ℕ) (r : Planned) (after rows' : List ℕ) : Type 0 where
  pub sized : Sized d
  pub unlawful : (e : Refusal) → value_test d ≡ Err e → (r ≡ Err e) × (after ≡ before) × (rows' ≡ rows)
  pub short : LawfulDesign d → (length before < work_of d) ⊎ (length rows < rows_of d)
      → (r ≡ Err TooShort) × (after ≡ before) × (rows' ≡ rows)
  pub listed : Enough d before rows → PastKept (work_of d) before after × OwnLists d (slots_of d after)
  pub none : Enough d before rows → NoShapeIn d after → (r ≡ Err NoPlacement) × (rows' ≡ rows)
  pub done : Enough d before rows → (s : Shape) (p : Placement)
      → ChosenIn d after s → GoesDown d (slots_of d after) s p
      → (r ≡ Ok s) × (rows' ≡ rows_out d.modules p ++ drop (rows_of d) rows)

-- place, rules 23 and 24: 8, 9, 10. "Place and edit give 9 if any slot of any node is not a stair. Place also gives 9 if a chosen shape has no pair
-- below it or a leaf's shape does not suit." Work is only lent to be read.
pub record Places (d : Design) (work rows : List ℕ) (r : Planned) (rows' : List ℕ) : Type 0 where
  pub sized : Sized d
  pub unlawful : (e : Refusal) → value_test d ≡ Err e → (r ≡ Err e) × (rows' ≡ rows)
  pub short : LawfulDesign d → (length work < work_of d) ⊎ (length rows < rows_of d)
      → (r ≡ Err TooShort) × (rows' ≡ rows)
  pub stranger : Enough d work rows → (AllStairs d (slots_of d work) → ⊥)
      → (r ≡ Err Unreliable) × (rows' ≡ rows)
  pub none : Enough d work rows → AllStairs d (slots_of d work) → NoShapeIn d work
      → (r ≡ Err NoPlacement) × (rows' ≡ rows)
  pub lost : Enough d work rows → AllStairs d (slots_of d work) → (s : Shape) → ChosenIn d work s
      → ((p : Placement) → GoesDown d (slots_of d work) s p → ⊥) → (r ≡ Err Unreliable) × (rows' ≡ rows)
  pub done : Enough d work rows → AllStairs d (slots_of d work) → (s : Shape) (p : Placement)
      → ChosenIn d work s → GoesDown d (slots_of d work) s p
      → (r ≡ Ok s) × (rows' ≡ rows_out d.modules p ++ drop (rows_of d) rows)

-- edit, rules 16, 23 and 24: 11, 8, 9. "An edit hands the design back with that one change, or unchanged if refused."
abbrev pub Unchanged : Design → List ℕ → Handed → List ℕ → Refusal → Type 0
Unchanged d before r after e = (r ≡ record { reply = Err e; design = d }) × (after ≡ before)

pub record Edits (d : Design) (e : Edit) (before : List ℕ) (r : Handed) (after : List ℕ) : Type 0 where
  pub sized : Sized d
  pub unlawful : (f : Refusal) → value_test d ≡ Err f → Unchanged d before r after f
  pub unnamed : LawfulDesign d → (So (names_place d e) → ⊥) → Unchanged d before r after NoSuchEdit
  pub short : LawfulDesign d → So (names_place d e) → length before < work_of d → Unchanged d before r after TooShort
  pub stranger : LawfulDesign d → So (names_place d e) → work_of d ≤ length before → (AllStairs d (slots_of d before) → ⊥)
      → Unchanged d before r after Unreliable
  pub done : LawfulDesign d → So (names_place d e) → work_of d ≤ length before → AllStairs d (slots_of d before)
      → (r ≡ record { reply = (Ok tt); design = changed d e }) × EditedLists d e before after

-- check, rule 23
pub record Checks (d : Design) (rows : List ℕ) (r : Reply) : Type 0 where
  pub sized : Sized d
  pub judged : r ≡ verdict d rows

-- score, rule 32: "first all of the checker's own, then 15 .., then 16". Rows are only lent to be read.
abbrev pub TermsLawful : Cost → Type 0
TermsLawful c = So (lawful_terms c.terms c.term_count)

abbrev pub NetsLawful : Design → Cost → Type 0
NetsLawful d c = So (lawful_nets d.modules c.nets c.net_count)

pub record Scores (d : Design) (rows : List ℕ) (c : Cost) (r : Scored) : Type 0 where
  pub sized : Sized d
  pub judged : (e : Refusal) → verdict d rows ≡ Err e → r ≡ Err e
  pub bad_term : verdict d rows ≡ (Ok tt) → (TermsLawful c → ⊥) → r ≡ Err BadTerm
  pub bad_net : verdict d rows ≡ (Ok tt) → TermsLawful c → (NetsLawful d c → ⊥) → r ≡ Err BadNet
  pub done : verdict d rows ≡ (Ok tt) → TermsLawful c → NetsLawful d c → r ≡ Ok (score_of d (from_rows rows) c)
