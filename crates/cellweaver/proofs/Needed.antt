-- The work bytes that a lawful design's lists take are few enough to count, before and after an edit. Assumes nothing.
use mathlib.Core.Path.{◌≡◌, sym, ◌∙◌}
use mathlib.Core.Bool.{Bool, true, false, So}
use mathlib.Core.List.{List}
use Prim.Native.Nat.{ℕ, ◌*◌, ◌≤◌}
use native.Mathlib.Omega.{arith}
use Rattle.rules.specs.declared.Design.{Design}
use Rattle.rules.specs.declared.Edit.{Edit}
use Rattle.rules.specs.Design.{most_rows, most_tokens, LawfulDesign, nodes, slot_rows, slots_of, AllStairs, width_of, height_of}
use Rattle.rules.specs.Edit.{names_place, changed}
use Rattle.rules.specs.Service.{work_of}
use Rattle.rules.proofs.Searching.{absurd_so}
use Rattle.rules.proofs.Limits.{limits, no_other_row}
use Rattle.rules.proofs.Stairs.{stairs_iff}
use Rattle.rules.proofs.Changing.{edit_work, edit_lawful}
use Rattle.rules.proofs.Working.{work_rises}
use Rattle.slots.specs.declared.Board.{Board}
use Rattle.slots.specs.Size.{board_of}
use Rattle.slots.specs.Lent.{most_work}
use Rattle.slots.proofs.Lending.{wide_grows}
use Rattle.stairs.specs.Walk.{stairs_on}

-- on its own board: for the rows of its nodes, for their corners and for their bytes
pub record Few (d : Design) (b : Board) : Type 0 where
  pub rows : nodes d * b.listed.0 ≤ most_work
  pub corners : nodes d * b.listed.0 * b.width.0 ≤ most_work
  pub bytes : nodes d * b.listed.0 * b.width.0 * b.width.0 ≤ most_work

pub few : (d : Design) {b : Board} → LawfulDesign d → b ≡ board_of d → Few d b
few d lawful e =
    let l = limits d lawful in let r = no_other_row d in let n : nodes d ≤ most_tokens = omega arith in let h : slot_rows d ≤ most_rows = omega arith in
    let b : work_of d ≤ most_work = work_rises n h l.chip.width in
    let p = wide_grows (width_of d) (nodes d * slot_rows d) l.chip.wide in let q = wide_grows (width_of d) (nodes d * slot_rows d * width_of d) l.chip.wide in
    rw e (record { rows = omega arith; corners = omega arith; bytes = b })

-- what the stair test says, in the rules' words
pub no_stairs : (d : Design) (work : List ℕ) {r : Bool} → r ≡ stairs_on (board_of d) (nodes d) (slots_of d work) → r ≡ false
    → AllStairs d (slots_of d work) → ⊥
no_stairs d work e n s =
    absurd_so (sym (sym e ∙ n) ∙ (stairs_iff (width_of d) (height_of d) (slot_rows d) (nodes d) (slots_of d work)).1 s)

pub stairs : (d : Design) (work : List ℕ) {r : Bool} → r ≡ stairs_on (board_of d) (nodes d) (slots_of d work) → r ≡ true
    → AllStairs d (slots_of d work)
stairs d work e n = (stairs_iff (width_of d) (height_of d) (slot_rows d) (nodes d) (slots_of d work)).0 (sym e ∙ n)

-- the design with an edit's change is lawful, and takes as many bytes
pub edited_lawful : (d : Design) (e : Edit) {next : Design} → LawfulDesign d → So (names_place d e) → next ≡ changed d e → LawfulDesign next
edited_lawful d e lawful names q = rw q (edit_lawful d lawful e names)

pub edited_work : (d : Design) (e : Edit) {next : Design} → next ≡ changed d e → work_of next ≡ work_of d
edited_work d e q = rw q (edit_work d e)
