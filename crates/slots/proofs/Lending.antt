-- Lent bytes: what is lent for many nodes serves for fewer, every slot at a corner that is listed lies inside, and addresses are small
-- enough to count. Assumes nothing.
use mathlib.Core.Path.{◌≡◌, ap}
use mathlib.Core.List.{List}
use Prim.Native.Nat.{ℕ, suc, ◌+◌, ◌-◌, ◌*◌, ◌≤◌, ◌<◌}
use native.Mathlib.Omega.{arith}
use native.Mathlib.Nat.{le_refl, mul-le-mul_left}
use lib.ListN.{length, take, drop}
use Rattle.std.proofs.lemmas.List.{places}
use Rattle.rules.specs.declared.Corner.{Corner}
use Rattle.rules.specs.declared.Design.{Design}
use Rattle.rules.specs.Slot.{slot}
use Rattle.rules.specs.Design.{LawfulDesign, nodes}
use Rattle.rules.specs.Service.{work_of}
use Rattle.rules.proofs.Limits.{limits, every_row, no_other_row}
use Rattle.rules.proofs.Working.{slot_within, work_rises}
use Rattle.slots.specs.declared.Board.{Board}
use Rattle.slots.specs.Size.{board_of}
use Rattle.slots.specs.Lent.{OnBoard, ListedOn, start_on, slots_on, bytes_from, most_work, Addressed, Lent, SlotPart}

-- a lawful design's work, on its own board
pub lent_of : (d : Design) {work : List ℕ} {board : Board} → LawfulDesign d → work_of d ≤ length work → board ≡ board_of d → Lent board (nodes d) work
lent_of d lawful h e = let l = limits d lawful in let r = every_row d in rw e (record {
  wide = l.chip.wide;
  columns = l.chip.width;
  high = omega arith;
  rows = l.chip.height;
  chip = no_other_row d;
  every = every_row d;
  few = omega arith;
  bytes = h;
})

module _ {board : Board} {n : ℕ} {work : List ℕ} (lent : Lent board n work) where
  -- fewer nodes need fewer bytes, and as many other bytes serve as well
  lent_for : {m : ℕ} {after : List ℕ} → m ≤ n → length work ≤ length after → Lent board m after
  lent_for h k =
      let a = work_rises h (le_refl board.listed.0) (le_refl board.width.0) in let b = lent.bytes in let f = lent.few in record {
        wide = lent.wide;
        columns = lent.columns;
        high = lent.high;
        rows = lent.rows;
        chip = lent.chip;
        every = lent.every;
        few = omega arith;
        bytes = omega arith;
      }

  pub fewer_lent : (m : ℕ) → m ≤ n → Lent board m work
  fewer_lent m h = lent_for h (le_refl (length work))

  pub lent_same : {after : List ℕ} → length after ≡ length work → Lent board n after
  lent_same e = lent_for (le_refl n) (omega arith)

  -- a corner that is listed is one of the chip; and today the other way round
  pub on_board : {c : Corner} → ListedOn board c → OnBoard board c
  on_board on = let r = on.row in let h = lent.chip in record { column = on.column; row = omega arith }

  pub on_listed : {c : Corner} → OnBoard board c → ListedOn board c
  on_listed on = let r = on.row in let h = lent.every in record { column = on.column; row = omega arith }

  -- the slot of a node there
  module _ (t : ℕ) (h : t < n) {c : Corner} (on : ListedOn board c) where
    pub addressed : Addressed board t c
    addressed = let f = lent.few in let r = lent.rows in let k = lent.chip in
        record { columns = lent.columns; rows = omega arith; node = omega arith; corner = on }

    pub slot_lent : start_on board t c + board.width.0 ≤ length work
    slot_lent =
        let x = on.column in let b = lent.bytes in
        omega (arith, slot_within board.width.0 board.listed.0 n t (board.width.0 - 1) c h on (omega arith))

-- the slot of the last node, at any corner of the chip
module _ {board : Board} {t : ℕ} {work : List ℕ} (lent : Lent board (suc t) work) {c : Corner} (on : OnBoard board c) where
  pub last_addressed : Addressed board t c
  last_addressed = addressed lent t (omega arith) (on_listed lent on)

  pub last_lent : start_on board t c + board.width.0 ≤ length work
  last_lent = slot_lent lent t (omega arith) (on_listed lent on)

-- the bytes from where a slot starts are the slot
pub slot_bytes : (board : Board) (t : ℕ) (c : Corner) (work : List ℕ) {from : ℕ} → from ≡ start_on board t c → bytes_from work from ≡ slots_on board work t c
unfolding slot
slot_bytes board t c work e = ap (bytes_from work) e

-- some of them, from the first on
pub part_of : {board : Board} {t n from : ℕ} {c : Corner} {work : List ℕ} → from ≡ start_on board t c → start_on board t c + board.width.0 ≤ length work → n ≤ board.width.0
    → SlotPart board t c n work (take (from + n - from) (drop from work))
unfolding slot
part_of e l h = record { long = search (arith, places); at = λ j q. rw (← e) (search (arith, places)) }

-- a number times a width is no less
pub wide_grows : (W a : ℕ) → 1 ≤ W → a ≤ a * W
wide_grows W a h = let z : a * 1 ≤ a * W = mul-le-mul_left a h in omega arith

-- an address, and each step of computing it, is small
pub record Small (W R t x y : ℕ) : Type 0 where
  pub first : t * R + y ≤ most_work
  pub second : (t * R + y) * W + x ≤ most_work
  pub third : ((t * R + y) * W + x) * W + W ≤ most_work

pub small : {board : Board} {t : ℕ} {c : Corner} → Addressed board t c → Small board.width.0 board.listed.0 t c.x.0 c.y.0
small {board} {t} {c} a =
    let W = board.width.0 in let R = board.listed.0 in let x = c.x.0 in let y = c.y.0 in let k = a.corner.column in
    let m = work_rises a.node a.rows a.columns in
    let e = slot_within W R (suc t) t (W - 1) c (omega arith) a.corner (omega arith) in
    let p = wide_grows W (t * R + y) (omega arith) in let q = wide_grows W ((t * R + y) * W + x) (omega arith) in
    record { first = omega arith; second = omega arith; third = omega arith }
