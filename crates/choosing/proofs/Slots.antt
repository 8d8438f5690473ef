-- A slot that is read is the list's bytes. Assumes nothing.
use mathlib.Core.Path.{◌≡◌, ◌∙◌}
use mathlib.Core.List.{List}
use Prim.Native.Nat.{ℕ, ◌+◌, ◌-◌, ◌≤◌}
use native.Mathlib.Omega.{arith}
use lib.ListN.{length, take, drop}
use Rattle.std.proofs.lemmas.List.{get_or-take, get_or-drop, length-take-le, length-drop}
use Rattle.rules.specs.declared.Corner.{Corner}
use Rattle.rules.specs.Slot.{slot}
use Rattle.slots.specs.declared.Board.{Board}
use Rattle.slots.specs.Lent.{start_on, slots_on}
use Rattle.choosing.specs.Choose.{IsSlot}

pub read_slot : (board : Board) (t : ℕ) (c : Corner) (work : List ℕ) {from : ℕ} → from ≡ start_on board t c
    → start_on board t c + board.width.0 ≤ length work
    → IsSlot board.width.0 (slots_on board work t c) (take (from + board.width.0 - from) (drop from work))
unfolding slot
read_slot board t c work {from} e h =
    let x : from + board.width.0 - from ≡ board.width.0 = omega arith in record {
      long = rw x (length-take-le board.width.0 (drop from work) (rw length-drop (omega arith)));
      same = λ j k. rw x (get_or-take board.width.0 (drop from work) j 0 k ∙ get_or-drop from work j 0 ∙ rw e);
    }
