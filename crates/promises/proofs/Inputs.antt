-- The inputs on which wrong services are refuted: 01's D and its edits, what is right of them, from the bench table or computed, and how a table
-- of numbered replies is read. Assumes nothing.
use Rattle.std.specs.Prelude.{Ok, Err}
use mathlib.Core.Path.{◌≡◌, refl}
use mathlib.Core.Bool.{So}
use mathlib.Core.List.{List, [], ◌∷◌}
use Prim.Native.Nat.{ℕ, zero, suc, ◌≤◌}
use native.Mathlib.Omega.{arith}
use lib.ListN.{length}
use Rattle.rules.specs.declared.Design.{Design}
use Rattle.rules.specs.declared.Edit.{Edit}
use Rattle.rules.specs.declared.Edit.TheVariants.{Change, Turn}
use Rattle.rules.specs.declared.Refusal.TheVariants.{OffTheChip, ShortOfNeed}
use Rattle.rules.specs.Search.{all, least, count, total}
use Rattle.rules.specs.Chip.{corner, shape, rectangle, column, column_of, covers_block, held_between, holds}
use Rattle.rules.specs.Tree.{refused, has, stands, joined, added, standing}
use Rattle.rules.specs.Placement.{Placement}
use Rattle.rules.specs.Design.{LawfulDesign, LawfulPlacement, nodes, standing_of, value_test, lawful_chip, within_limits, in_range, lawful_need, slot_rows}
use Rattle.rules.specs.Edit.{names_place, changed}
use Rattle.rules.specs.Bytes.{padded}
use Rattle.rules.specs.Check.{from_rows, is_on_chip, is_at_most, is_kept, judged_cuts, judged_rows, verdict}
use Rattle.rules.specs.Reply.{Answer, plainly}
use Rattle.rules.specs.Service.{Enough}
use Rattle.rules.specs.Bench.{Example, lists, slot_is, plans_to, Says, AllSay, table, D, four, need, design}
use Rattle.rules.proofs.Searching.{absurd_so}
use Rattle.rules.proofs.Nodes.{lawful_iff}
use Rattle.rules.proofs.Bench.{table_holds}
use Rattle.rules.proofs.Changing.{edit_lawful}
use Rattle.rules.proofs.Checking.{passes_iff}
use Rattle.promises.specs.Demand1.{Tested, breaks_limits, bad_token, lawful}

-- D with its cut turned (P8); with need 1 as (4,0,1) (P9); with RAM need 3 in module 0 (P10)
abbrev pub turned : Design
turned = changed D (Turn 2)

abbrev pub grown : Design
grown = changed D (Change 1 (need 4 0 1))

abbrev pub starved : Design
starved = changed D (Change 0 (need 2 3 0))

-- D with blocks higher than the chip, and D with module 0 twice
unfoldable pub tall : Design
tall = design (0 ∷ 1 ∷ 2 ∷ 0 ∷ 0 ∷ []) 6 7 (need 2 1 0 ∷ need 3 0 1 ∷ []) (2 ∷ 3 ∷ 0 ∷ [])

unfoldable pub twice : Design
twice = design (0 ∷ 1 ∷ 2 ∷ 0 ∷ 0 ∷ []) 6 3 (need 2 1 0 ∷ need 3 0 1 ∷ []) (2 ∷ 2 ∷ 0 ∷ [])

-- which of them are lawful, and which edits name a place
pub D_lawful : LawfulDesign D
unfolding D slot_rows padded all stands has joined added standing value_test within_limits lawful_chip in_range lawful_need
D_lawful = refl

pub tall_breaks_limits : So (within_limits tall) → ⊥
unfolding tall padded all within_limits lawful_chip in_range lawful_need
tall_breaks_limits = absurd_so

pub twice_bad_token : So (within_limits twice) × (standing_of twice (nodes twice) ≡ refused)
unfolding twice padded all stands has joined added standing within_limits lawful_chip in_range lawful_need
twice_bad_token = (refl, refl)

pub names_turned : So (names_place D (Turn 2))
unfolding D slot_rows padded names_place
names_turned = refl

pub names_grown : So (names_place D (Change 1 (need 4 0 1)))
unfolding D slot_rows names_place lawful_need
names_grown = refl

pub names_starved : So (names_place D (Change 0 (need 2 3 0)))
unfolding D slot_rows names_place lawful_need
names_starved = refl

pub names_no_zero_need : So (names_place D (Change 0 (need 0 0 0))) → ⊥
unfolding D slot_rows names_place lawful_need
names_no_zero_need = absurd_so

-- room enough for D and its edits: 450 bytes of work and 8 of rows
pub D_enough : (work rows : List ℕ) → 450 ≤ length work → 8 ≤ length rows → Enough D work rows
unfolding D slot_rows
D_enough work rows h k = record { lawful = D_lawful; bytes = h; places = k }

pub edited_enough : (e : Edit) → So (names_place D e) → (work rows : List ℕ) → 450 ≤ length work → 8 ≤ length rows → Enough (changed D e) work rows
unfolding D slot_rows changed
edited_enough (Change k n) s work rows h i = record { lawful = edit_lawful D D_lawful (Change k n) s; bytes = h; places = i }
edited_enough (Turn t) s work rows h i = record { lawful = edit_lawful D D_lawful (Turn t) s; bytes = h; places = i }

-- what the bench table says in its row n
SaysAt : List Example → ℕ → Type 0
SaysAt [] n = Unit {0}
SaysAt (e ∷ es) zero = Says e
SaysAt (e ∷ es) (suc n) = SaysAt es n

row : (es : List Example) → AllSay es → (n : ℕ) → SaysAt es n
unfolding AllSay SaysAt
row [] z n = tt
row (e ∷ es) z zero = z.0
row (e ∷ es) z (suc n) = row es z.1 n

pub D_plan : Says (plans_to D (shape 4 3) (rectangle 0 0 2 3 ∷ rectangle 2 0 2 3 ∷ []))
unfolding table SaysAt
D_plan = row table table_holds 9

pub turned_plan : Says (plans_to turned (shape 3 6) (rectangle 0 0 2 3 ∷ rectangle 0 3 3 3 ∷ []))
unfolding table SaysAt
turned_plan = row table table_holds 11

pub turned_list : Says (lists turned (corner 0 0) (shape 3 6 ∷ []))
unfolding table SaysAt
turned_list = row table table_holds 10

pub grown_plan : Says (plans_to grown (shape 5 3) [])
unfolding table SaysAt
grown_plan = row table table_holds 14

pub D_slot : Says (slot_is D 300 (0 ∷ 0 ∷ 0 ∷ 3 ∷ 0 ∷ []))
unfolding table SaysAt
D_slot = row table table_holds 7

pub grown_slot : Says (slot_is grown 300 (0 ∷ 0 ∷ 0 ∷ 4 ∷ 3 ∷ []))
unfolding table SaysAt
grown_slot = row table table_holds 12

pub four_plan : Says (plans_to four (shape 3 4) (rectangle 0 0 3 4 ∷ []))
unfolding table SaysAt
four_plan = row table table_holds 17

pub starved_none : (p : Placement) → LawfulPlacement starved p → ⊥
unfolding table SaysAt Says
starved_none = row table table_holds 15

-- rows for D: the floorplan that 01 prints; a RAM block in part; module 1 over the chip's right side; the modules exchanged; and two rectangles
-- that share one cell, the last of one and the first of the other
abbrev pub printed : List ℕ
printed = 0 ∷ 0 ∷ 2 ∷ 3 ∷ 2 ∷ 0 ∷ 2 ∷ 3 ∷ []

abbrev pub half_block : List ℕ
half_block = 0 ∷ 1 ∷ 2 ∷ 3 ∷ 2 ∷ 0 ∷ 2 ∷ 3 ∷ []

abbrev pub over_the_side : List ℕ
over_the_side = 0 ∷ 0 ∷ 2 ∷ 3 ∷ 4 ∷ 0 ∷ 2 ∷ 3 ∷ []

abbrev pub exchanged : List ℕ
exchanged = 3 ∷ 0 ∷ 2 ∷ 3 ∷ 0 ∷ 0 ∷ 3 ∷ 3 ∷ []

abbrev pub one_cell_shared : List ℕ
one_cell_shared = 0 ∷ 0 ∷ 2 ∷ 3 ∷ 1 ∷ 2 ∷ 2 ∷ 3 ∷ []

verdicts : (verdict D printed ≡ (Ok tt)) × (verdict D over_the_side ≡ Err (OffTheChip 1)) × (verdict D half_block ≡ Err (ShortOfNeed 0))
unfolding D slot_rows padded all least count total stands has joined added standing value_test within_limits lawful_chip in_range lawful_need
    column_of covers_block held_between holds column from_rows is_on_chip is_at_most is_kept judged_cuts judged_rows verdict
verdicts = (refl, refl, refl)

pub printed_lawful : LawfulPlacement D (from_rows printed)
printed_lawful = ((passes_iff D D_lawful printed).0 verdicts.0).1

-- a service's table, of a design that passes its own tests, of one that breaks the limits, and of one with a bad token
pub of_lawful : {d : Design} {Then : Answer → Type 0} {a : Answer} → LawfulDesign d → Tested d Then a → Then a
of_lawful {d} l (breaks_limits f) = absurd (f ((lawful_iff d).0 l).0)
of_lawful {d} l (bad_token t q) = let s = ((lawful_iff d).0 l).1 in let z : ◌≡◌ {A = ℕ} 0 1 = cc in absurd (omega arith)
of_lawful l (lawful _ n) = n

pub gets_4 : {d : Design} {Then : Answer → Type 0} {a : Answer} → (So (within_limits d) → ⊥) → Tested d Then a → a ≡ plainly 4 0
gets_4 f (breaks_limits _) = refl
gets_4 f (bad_token t _) = absurd (f t)
gets_4 {d} f (lawful l _) = absurd (f ((lawful_iff d).0 l).0)

pub gets_5 : {d : Design} {Then : Answer → Type 0} {a : Answer} → So (within_limits d) × (standing_of d (nodes d) ≡ refused) → Tested d Then a
    → a ≡ plainly 5 0
gets_5 (t, q) (breaks_limits f) = absurd (f t)
gets_5 (t, q) (bad_token _ _) = refl
gets_5 {d} (t, q) (lawful l _) = let s = ((lawful_iff d).0 l).1 in let z : ◌≡◌ {A = ℕ} 0 1 = cc in absurd (omega arith)
