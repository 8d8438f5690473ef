-- Demand 1: each service's table of numbered replies, and what a refusal leaves. Whichever outcome of its contract comes about, its row is read
-- off. Assumes nothing.
use Rattle.std.specs.Prelude.{Ok}
use mathlib.Core.Path.{◌≡◌, refl, ◌∙◌, ap}
use mathlib.Core.Logic.{◌⊎◌, ⊎_elim}
use mathlib.Core.Bool.{So}
use mathlib.Core.List.{List}
use Prim.Native.Nat.{ℕ, ◌≤◌, ◌<◌}
use native.Mathlib.Omega.{arith}
use lib.ListN.{length}
use Rattle.rules.specs.declared.Design.{Design}
use Rattle.rules.specs.declared.Edit.{Edit}
use Rattle.rules.specs.declared.Refusal.{Refusal}
use Rattle.rules.specs.Answers.{Reply, Written, Planned, Scored}
use Rattle.rules.specs.declared.Handed.{Handed}
use Rattle.rules.specs.declared.Cost.{Cost}
use Rattle.rules.specs.Design.{slots_of, LawfulDesign}
use Rattle.rules.specs.Edit.{names_place, changed}
use Rattle.rules.specs.Bytes.{Took, took, refuse, design_bytes, design_at}
use Rattle.rules.specs.Check.{from_rows, verdict}
use Rattle.rules.specs.Reply.{Answer, refusal, answer, written_answer, planned_answer, scored_answer}
use Rattle.rules.specs.Service.{Reads, Writes, Lists, Plans, Places, Edits, Checks, Scores, Enough, work_of, rows_of, handed, zeros}
use Rattle.rules.proofs.Reading.{read_lawful}
use Rattle.rules.proofs.Floorplans.{planned, down_lawful}
use Rattle.rules.proofs.Checking.{Judged, passed_is_lawful, passes_iff, verdict_too_short, verdict_judged}
use Rattle.rules.proofs.Checking as checker
use Rattle.promises.specs.Services.{Services, Keeping}
use Rattle.promises.specs.Demand1.{Tested, lawful, Refusing, ReadNumbered, WriteNumbered, ListNumbered, PlanNumbered, PlanLeft, PlaceNumbered, EditNumbered, CheckNumbered, Passed, ScoreNumbered, Demand1}
use Rattle.promises.specs.Demand1 as row
use Rattle.promises.proofs.Planning.{rows_lawful}
use Rattle.promises.proofs.Refusals.{value_refused, OfReading, unfinished, malformed, wrong_form, breaks_limits_at, bad_token_at, extra_bytes, reading_refused}
use Rattle.promises.proofs.Copying.{refusal_not_0}
use Rattle.promises.proofs.Cases.{Lent, unlawful, short, enough, one_lent, two_lent, Placing, no_stairs, empty, lost, placed, placing, Editing, unlawful_design, unnamed, short_work, stranger, granted, editing, Scoring, faulty, bad_term, bad_net, scored, scoring}

abbrev ReadKept : List ℕ → Handed → Type 0
ReadKept s h = ReadNumbered s h.design (answer h.reply) × Refusing (answer h.reply) (h.design ≡ zeros)

read_kept : (s : List ℕ) (r : Handed) → Reads s r → ReadKept s r
read_kept s r x = rw x (go (design_at s) refl)
  where
    of_reading : {e : Refusal} → design_at s ≡ refuse e → OfReading e → ReadNumbered s zeros (refusal e)
    of_reading q unfinished = row.unfinished q
    of_reading q malformed = row.malformed q
    of_reading q wrong_form = row.wrong_form q
    of_reading q breaks_limits_at = row.breaks_limits q
    of_reading q bad_token_at = row.bad_token q
    of_reading q extra_bytes = row.extra_bytes q

    go : (t : Took Design) → design_at s ≡ t → ReadKept s (handed t)
    go (took d n) q = let (l, e) = read_lawful s d n q in (row.done (q ∙ rw e) l, λ o. absurd (o refl))
    go (refuse e) q = (of_reading q (reading_refused s e q), λ _. refl)

abbrev WriteKept : Design → List ℕ → Written → List ℕ → Type 0
WriteKept d before r after = Tested d (WriteNumbered d before) (written_answer r) × Refusing (written_answer r) (after ≡ before)

write_kept : (d : Design) (before after : List ℕ) (r : Written) → Writes d before r after → WriteKept d before r after
write_kept d before after r x = go (one_lent d (length (design_bytes d)) before)
  where
    go : Lent d (length before < length (design_bytes d)) (length (design_bytes d) ≤ length before) → WriteKept d before r after
    go (unlawful e t) = let (a, b) = x.unlawful e t in rw a (value_refused d e t, λ _. b)
    go (short l h) = let (a, b) = x.short l h in rw a (lawful l (row.short h), λ _. b)
    go (enough l h) = rw (x.done l h).0 (lawful l (row.done h), λ o. absurd (o refl))

abbrev ListKept : Design → List ℕ → Reply → List ℕ → Type 0
ListKept d before r after = Tested d (ListNumbered d before) (answer r) × Refusing (answer r) (after ≡ before)

list_kept : (d : Design) (before after : List ℕ) (r : Reply) → Lists d before r after → ListKept d before r after
list_kept d before after r x = go (one_lent d (work_of d) before)
  where
    go : Lent d (length before < work_of d) (work_of d ≤ length before) → ListKept d before r after
    go (unlawful e t) = let (a, b) = x.unlawful e t in rw a (value_refused d e t, λ _. b)
    go (short l h) = let (a, b) = x.short l h in rw a (lawful l (row.short h), λ _. b)
    go (enough l h) = rw (x.done l h).0 (lawful l (row.done h), λ o. absurd (o refl))

-- a design's own tests never give 10
not_10 : {d : Design} {a : Answer} → Tested d (λ _. ⊥) a → a.number ≡ 10 → ⊥
not_10 (row.breaks_limits _) e = omega arith
not_10 (row.bad_token _ _) e = omega arith
not_10 (lawful _ n) e = n

abbrev PlanKept : Design → List ℕ → List ℕ → Planned → List ℕ → List ℕ → Type 0
PlanKept d before rows r after rows' =
    Tested d (PlanNumbered d before rows) (planned_answer r) × Refusing (planned_answer r) (PlanLeft d before rows (planned_answer r).number after rows')

plan_kept : (d : Design) (before rows after rows' : List ℕ) (r : Planned) → Plans d before rows r after rows' → PlanKept d before rows r after rows'
plan_kept d before rows after rows' r x = go (two_lent d before rows)
  where
    still : {n : ℕ} → (n ≡ 10 → ⊥) → after ≡ before → rows' ≡ rows → PlanLeft d before rows n after rows'
    still o b c = record { rows_stand = c; work_stands = λ _. b; work_listed = λ e. absurd (o e) }

    go : Lent d ((length before < work_of d) ⊎ (length rows < rows_of d)) (Enough d before rows) → PlanKept d before rows r after rows'
    go (unlawful e t) = let (a, b, c) = x.unlawful e t in rw a (value_refused d e t, λ _. still (not_10 (value_refused d e t)) b c)
    go (short l h) = let (a, b, c) = x.short l h in rw a (lawful l (row.short h), λ _. still (λ e. omega arith) b c)
    go (enough l h) = ⊎_elim
        (λ z. let (a, b) = x.none h z.0 in
        rw a (lawful l (row.none h), λ _. record { rows_stand = b; work_stands = λ f. absurd (f refl); work_listed = λ _. x.listed h }))
        (λ z. let (s, ch, (p, down, _)) = z in rw (x.done h s p ch down).0 (lawful l (row.done h), λ o. absurd (o refl)))
        (planned d l (slots_of d after) (x.listed h).1)

abbrev PlaceKept : Design → List ℕ → List ℕ → Planned → List ℕ → Type 0
PlaceKept d work rows r rows' = Tested d (PlaceNumbered d work rows rows') (planned_answer r) × Refusing (planned_answer r) (rows' ≡ rows)

place_kept : (d : Design) (work rows rows' : List ℕ) (r : Planned) → Places d work rows r rows' → PlaceKept d work rows r rows'
place_kept d work rows rows' r x = go (two_lent d work rows)
  where
    over : LawfulDesign d → Enough d work rows → Placing d (slots_of d work) → PlaceKept d work rows r rows'
    over l h (no_stairs f) = let (a, b) = x.stranger h f in rw a (lawful l (row.stranger h f), λ _. b)
    over l h (empty st f) = let (a, b) = x.none h st f in rw a (lawful l (row.none h st f), λ _. b)
    over l h (lost st s ch f) = let (a, b) = x.lost h st s ch f in rw a (lawful l (row.lost h st ch f), λ _. b)
    over l h (placed st s p ch down) =
        let (a, b) = x.done h st s p ch down in let f = (down_lawful d l (slots_of d work) st s p ch.stored down).lawful in
        rw a (lawful l (row.done h st (rows_lawful d l p rows rows' b f)), λ o. absurd (o refl))

    go : Lent d ((length work < work_of d) ⊎ (length rows < rows_of d)) (Enough d work rows) → PlaceKept d work rows r rows'
    go (unlawful e t) = let (a, b) = x.unlawful e t in rw a (value_refused d e t, λ _. b)
    go (short l h) = let (a, b) = x.short l h in rw a (lawful l (row.short h), λ _. b)
    go (enough l h) = over l h (placing d l (slots_of d work))

abbrev EditKept : Design → Edit → List ℕ → Handed → List ℕ → Type 0
EditKept d e before r after = Tested d (EditNumbered d e before) (answer r.reply) × Refusing (answer r.reply) ((r.design ≡ d) × (after ≡ before))

edit_kept : (d : Design) (e : Edit) (before after : List ℕ) (r : Handed) → Edits d e before r after → EditKept d e before r after
edit_kept d e before after r x = go (editing d e before)
  where
    go : Editing d e before → EditKept d e before r after
    go (unlawful_design f t) = let (a, b) = x.unlawful f t in rw a (value_refused d f t, λ _. (refl, b))
    go (unnamed l f) = let (a, b) = x.unnamed l f in rw a (lawful l (row.unnamed f), λ _. (refl, b))
    go (short_work l n h) = let (a, b) = x.short l n h in rw a (lawful l (row.short n h), λ _. (refl, b))
    go (stranger l n h f) = let (a, b) = x.stranger l n h f in rw a (lawful l (row.stranger n h f), λ _. (refl, b))
    go (granted l n h st) = rw (x.done l n h st).0 (lawful l (row.done n h st), λ o. absurd (o refl))

-- with 0 an edit of a lawful design named a place, and made its change
pub edit_granted : (d : Design) (e : Edit) (before after : List ℕ) (r : Handed) → Edits d e before r after → (answer r.reply).number ≡ 0
    → LawfulDesign d × So (names_place d e) × (r.design ≡ changed d e)
edit_granted d e before after r x q = go (editing d e before)
  where
    go : Editing d e before → LawfulDesign d × So (names_place d e) × (r.design ≡ changed d e)
    go (unlawful_design f t) = absurd (refusal_not_0 f (rw (x.unlawful f t).0 at q))
    go (unnamed l f) = let z = rw (x.unnamed l f).0 at q in absurd (omega arith)
    go (short_work l n h) = let z = rw (x.short l n h).0 at q in absurd (omega arith)
    go (stranger l n h f) = let z = rw (x.stranger l n h f).0 at q in absurd (omega arith)
    go (granted l n h st) = (l, n, ap (λ h. h.design) (x.done l n h st).0)

-- the table of a verdict, whoever gives it
verdict_numbered : (d : Design) (rows : List ℕ) → Tested d (CheckNumbered d rows) (answer (verdict d rows))
unfolding verdict
verdict_numbered d rows = go (one_lent d (rows_of d) rows)
  where
    over : {v : Reply} → verdict d rows ≡ v → LawfulDesign d → rows_of d ≤ length rows → Judged d (from_rows rows) v → CheckNumbered d rows (answer v)
    over q l h (checker.passed f k) = let (_, p) = (passes_iff d l rows).0 q in row.done h p
    over q l h (checker.off_the_chip f) = row.off_the_chip h f
    over q l h (checker.short_of_need f) = row.short_of_need h f
    over q l h (checker.cut_not_kept f) = row.cut_not_kept h f

    go : Lent d (length rows < rows_of d) (rows_of d ≤ length rows) → Tested d (CheckNumbered d rows) (answer (verdict d rows))
    go (unlawful e t) = rw t (value_refused d e t)
    go (short l h) = rw (verdict_too_short d l rows h) (lawful l (row.short h))
    go (enough l h) = lawful l (over refl l h (verdict_judged d l rows h))

check_kept : (d : Design) (rows : List ℕ) (r : Reply) → Checks d rows r → Tested d (CheckNumbered d rows) (answer r)
check_kept d rows r x = rw x.judged (verdict_numbered d rows)

-- what passes is a lawful placement of a lawful design
pub passed : (d : Design) (rows : List ℕ) → verdict d rows ≡ (Ok tt) → Passed d rows
passed d rows v =
    let l = passed_is_lawful d rows v in let (h, p) = (passes_iff d l rows).0 v in record { lawful = l; places = h; placement = p }

-- a score has the checker's refusals before its own
pub score_kept : (d : Design) (rows : List ℕ) (c : Cost) (r : Scored) → Scores d rows c r → ScoreNumbered d rows c (scored_answer r)
score_kept d rows c r x = go (scoring d rows c)
  where
    go : Scoring d rows c → ScoreNumbered d rows c (scored_answer r)
    go (faulty e v) = rw (x.judged e v) (row.not_passed (rw v at (verdict_numbered d rows)) (refusal_not_0 e))
    go (bad_term v f) = rw (x.bad_term v f) (row.bad_term (passed d rows v) f)
    go (bad_net v t f) = rw (x.bad_net v t f) (row.bad_net (passed d rows v) t f)
    go (scored v t n) = rw (x.done v t n) (row.done (passed d rows v) t n)

-- Demand 1, of any services that keep their contracts
pub demand_1 : (S : Services) → Keeping S → Demand1 S
demand_1 S k = record {
  numbered = record {
    read = λ s r x. (read_kept s r (k.read s r x)).0;
    write = λ d before after r x. (write_kept d before after r (k.write d before after r x)).0;
    list = λ d before after r x. (list_kept d before after r (k.list d before after r x)).0;
    plan = λ d before rows after rows' r x. (plan_kept d before rows after rows' r (k.plan d before rows after rows' r x)).0;
    place = λ d work rows rows' r x. (place_kept d work rows rows' r (k.place d work rows rows' r x)).0;
    edit = λ d e before after r x. (edit_kept d e before after r (k.edit d e before after r x)).0;
    check = λ d rows r x. check_kept d rows r (k.check d rows r x);
    score = λ d rows c r x. score_kept d rows c r (k.score d rows c r x);
  };
  leaving = record {
    read = λ s r x. (read_kept s r (k.read s r x)).1;
    write = λ d before after r x. (write_kept d before after r (k.write d before after r x)).1;
    list = λ d before after r x. (list_kept d before after r (k.list d before after r x)).1;
    plan = λ d before rows after rows' r x. (plan_kept d before rows after rows' r (k.plan d before rows after rows' r x)).1;
    place = λ d work rows rows' r x. (place_kept d work rows rows' r (k.place d work rows rows' r x)).1;
    edit = λ d e before after r x. (edit_kept d e before after r (k.edit d e before after r x)).1;
  };
}
