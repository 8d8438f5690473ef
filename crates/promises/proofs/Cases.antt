-- A contract is said by its outcomes, and one of them always comes about: each test of a service passes or fails. Assumes nothing.
use Rattle.std.specs.Prelude.{Ok, Err}
use mathlib.Core.Path.{◌≡◌, refl}
use mathlib.Core.Logic.{◌⊎◌, inl, inr, ⊎_elim}
use mathlib.Core.Bool.{So}
use mathlib.Core.List.{List}
use Prim.Native.Nat.{ℕ, ◌≤◌, ◌<◌}
use lib.ListN.{length}
use Rattle.rules.specs.declared.Corner.{Corner}
use Rattle.rules.specs.declared.Shape.{Shape}
use Rattle.rules.specs.declared.Design.{Design}
use Rattle.rules.specs.declared.Edit.{Edit}
use Rattle.rules.specs.declared.Refusal.{Refusal}
use Rattle.rules.specs.declared.Cost.{Cost}
use Rattle.rules.specs.Answers.{Reply}
use Rattle.rules.specs.Placement.{Placement}
use Rattle.rules.specs.Slot.{Empty}
use Rattle.rules.specs.Choice.{Chosen}
use Rattle.rules.specs.Design.{value_test, LawfulDesign, nodes, slot_rows, slots_of, AllStairs, root_slot, GoesDown, width_of, height_of}
use Rattle.rules.specs.Edit.{names_place}
use Rattle.rules.specs.Check.{verdict}
use Rattle.rules.specs.Score.{lawful_terms, lawful_nets}
use Rattle.rules.specs.Service.{Enough, work_of, rows_of, TermsLawful, NetsLawful}
use Rattle.rules.proofs.Test.{goes_for}
use Rattle.rules.proofs.Searching.{before_or_not, know}
use Rattle.rules.proofs.Choosing.{chooses}
use Rattle.rules.proofs.Floorplans.{laid_goes, goes_laid}
use Rattle.rules.proofs.Stairs.{stairs_or_not}

-- write, list, plan, place and check: the design's own tests, then the room lent
pub data Lent (d : Design) (Short Given : Type 0) : Type 0 where
  unlawful : (e : Refusal) → value_test d ≡ Err e → Lent d Short Given
  short : LawfulDesign d → Short → Lent d Short Given
  enough : LawfulDesign d → Given → Lent d Short Given

tests_first : (d : Design) {Short Given : Type 0} → (LawfulDesign d → Short ⊎ Given) → Lent d Short Given
tests_first d {Short} {Given} f = go (value_test d) refl
  where
    go : (r : Reply) → value_test d ≡ r → Lent d Short Given
    go (Ok tt) q = ⊎_elim (short q) (enough q) (f q)
    go (Err e) q = unlawful e q

-- one buffer of n bytes
pub one_lent : (d : Design) (n : ℕ) (lent : List ℕ) → Lent d (length lent < n) (n ≤ length lent)
one_lent d n lent = tests_first d (λ _. before_or_not (length lent) n)

-- work and rows
pub two_lent : (d : Design) (work rows : List ℕ) → Lent d ((length work < work_of d) ⊎ (length rows < rows_of d)) (Enough d work rows)
two_lent d work rows = tests_first d λ l. ⊎_elim (λ h. inl (inl h))
    (λ h. ⊎_elim (λ k. inl (inr k)) (λ k. inr (record { lawful = l; bytes = h; places = k })) (before_or_not (length rows) (rows_of d)))
    (before_or_not (length work) (work_of d))

-- place, with enough room: over whatever stands in work
pub data Placing (d : Design) (slots : ℕ → Corner → ℕ → ℕ) : Type 0 where
  no_stairs : (AllStairs d slots → ⊥) → Placing d slots
  empty : AllStairs d slots → Empty (width_of d) (root_slot d slots) → Placing d slots
  lost : AllStairs d slots → (s : Shape) → Chosen (width_of d) (root_slot d slots) s → ((p : Placement) → GoesDown d slots s p → ⊥) → Placing d slots
  placed : AllStairs d slots → (s : Shape) (p : Placement) → Chosen (width_of d) (root_slot d slots) s → GoesDown d slots s p → Placing d slots

-- from a shape of the root one goes down, or not
goes_or_not : (d : Design) → LawfulDesign d → (slots : ℕ → Corner → ℕ → ℕ) (s : Shape) → ((p : Placement) × GoesDown d slots s p) ⊎ ((p : Placement) → GoesDown d slots s p → ⊥)
goes_or_not d l slots s =
    ⊎_elim (λ t. inl (_, laid_goes d l slots s t)) (λ f. inr (λ p z. f (goes_laid d l slots s p z).0)) (know (goes_for d slots s))

pub placing : (d : Design) → LawfulDesign d → (slots : ℕ → Corner → ℕ → ℕ) → Placing d slots
placing d l slots = ⊎_elim
    (λ st. ⊎_elim (λ z. empty st z.1)
    (λ ch. ⊎_elim (λ z. placed st _ z.0 ch z.1) (λ f. lost st _ ch f) (goes_or_not d l slots _)) (chooses (width_of d) (root_slot d slots)))
    no_stairs (stairs_or_not (width_of d) (height_of d) (slot_rows d) (nodes d) slots)

-- edit
pub data Editing (d : Design) (e : Edit) (before : List ℕ) : Type 0 where
  unlawful_design : (f : Refusal) → value_test d ≡ Err f → Editing d e before
  unnamed : LawfulDesign d → (So (names_place d e) → ⊥) → Editing d e before
  short_work : LawfulDesign d → So (names_place d e) → length before < work_of d → Editing d e before
  stranger : LawfulDesign d → So (names_place d e) → work_of d ≤ length before → (AllStairs d (slots_of d before) → ⊥) → Editing d e before
  granted : LawfulDesign d → So (names_place d e) → work_of d ≤ length before → AllStairs d (slots_of d before) → Editing d e before

pub editing : (d : Design) (e : Edit) (before : List ℕ) → Editing d e before
editing d e before = go (one_lent d (work_of d) before) (know (names_place d e))
  where
    go : Lent d (length before < work_of d) (work_of d ≤ length before) → So (names_place d e) ⊎ (So (names_place d e) → ⊥) → Editing d e before
    go (unlawful f t) _ = unlawful_design f t
    go (short l h) (inl n) = short_work l n h
    go (short l h) (inr n) = unnamed l n
    go (enough l h) (inl n) = ⊎_elim (granted l n h) (stranger l n h) (stairs_or_not (width_of d) (height_of d) (slot_rows d) (nodes d) (slots_of d before))
    go (enough l h) (inr n) = unnamed l n

-- score: the checker's verdict, then the terms, then the nets
pub data Scoring (d : Design) (rows : List ℕ) (c : Cost) : Type 0 where
  faulty : (e : Refusal) → verdict d rows ≡ Err e → Scoring d rows c
  bad_term : verdict d rows ≡ (Ok tt) → (TermsLawful c → ⊥) → Scoring d rows c
  bad_net : verdict d rows ≡ (Ok tt) → TermsLawful c → (NetsLawful d c → ⊥) → Scoring d rows c
  scored : verdict d rows ≡ (Ok tt) → TermsLawful c → NetsLawful d c → Scoring d rows c

pub scoring : (d : Design) (rows : List ℕ) (c : Cost) → Scoring d rows c
scoring d rows c = go (verdict d rows) refl (know (lawful_terms c.terms c.term_count)) (know (lawful_nets d.modules c.nets c.net_count))
  where
    go : (r : Reply) → verdict d rows ≡ r → TermsLawful c ⊎ (TermsLawful c → ⊥) → NetsLawful d c ⊎ (NetsLawful d c → ⊥) → Scoring d rows c
    go (Err e) q _ _ = faulty e q
    go (Ok tt) q (inr f) _ = bad_term q f
    go (Ok tt) q (inl t) (inr f) = bad_net q t f
    go (Ok tt) q (inl t) (inl n) = scored q t n
