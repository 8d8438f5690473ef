-- What listing a cut by the scan asks for, and what it leaves: beside or above one left shape, at a corner, and at all.
use Rattle.std.specs.Prelude.{◌≡◌, List, ℕ, suc, ◌+◌, ◌-◌, ◌≤◌, ◌<◌, length}
use Rattle.rules.specs.declared.Corner.{Corner}
use Rattle.rules.specs.declared.Direction.{Direction}
use Rattle.rules.specs.Chip.{corner}
use Rattle.rules.specs.Slot.{IsListOf}
use Rattle.rules.specs.Scan.{Scanned}
use Rattle.rules.proofs.Scanning.{StairsOf, Grows}
use Rattle.slots.specs.declared.Board.{Board}
use Rattle.slots.specs.Lent.{OnBoard, slots_on, Lent, SlotOn, PartOn, in_row}
use Rattle.cuts.specs.declared.Cut.{Cut}
use Rattle.cuts.specs.Cut.{Cuttable, paired_slot}
use Rattle.scans.specs.Run.{bytes, BesideKept, AboveKept}

-- the slots of a node on a board are stairs, or lists of rooms that grow
abbrev pub StairsOn : Board → List ℕ → ℕ → Type 0
StairsOn B work t = StairsOf B.width.0 B.height.0 (slots_on B work t)

abbrev pub GrowsOn : Board → List ℕ → ℕ → Type 0
GrowsOn B work t = Grows B.width.0 B.height.0 (slots_on B work t)

-- what reading a child's slots asks, of the bytes before the slot at a corner of node t
pub record Reads (B : Board) (t child : ℕ) (c : Corner) (children : List ℕ) : Type 0 where
  pub lent : Lent B t children
  pub before : child < t
  pub corner : OnBoard B c
  pub stairs : StairsOn B children child

-- scanning beside a left shape asks that it is on the chip, and that boxes narrower than the last kept are wider than it
pub record BesideReady (cut : Cut) (c : Corner) (wide height stop last : ℕ) (children slot : List ℕ) : Type 0 where
  pub reads : Reads cut.board cut.t cut.right c children
  pub long : length slot ≡ cut.board.width.0
  pub some : 1 ≤ wide
  pub within : c.x.0 + wide ≤ cut.board.width.0
  pub room : wide < last
  pub narrow : last ≤ suc (cut.board.width.0 - c.x.0)
  pub lower : height < stop

-- it leaves all as it is where the corner beside it is off the chip, and else keeps boxes narrower than the last
pub record ScannedBeside (cut : Cut) (c : Corner) (wide height stop last : ℕ) (children before after : List ℕ) (r : ℕ) : Type 0 where
  pub off : cut.board.width.0 ≤ c.x.0 + wide → (after ≡ before) × (r ≡ last)
  pub on : c.x.0 + wide < cut.board.width.0 → (wide < r)
      × BesideKept (slots_on cut.board children cut.right (corner (c.x.0 + wide) c.y.0)) (last - 1 - wide) height stop wide before after (r - 1 - wide)

-- and so above a left shape of width i + 1, up to the next one
pub record AboveReady (cut : Cut) (c : Corner) (i next height low : ℕ) (children slot : List ℕ) : Type 0 where
  pub reads : Reads cut.board cut.t cut.right c children
  pub long : length slot ≡ cut.board.width.0
  pub wider : i < next
  pub within : c.x.0 + next ≤ cut.board.width.0
  pub high : c.y.0 + height ≤ cut.board.height.0
  pub few : low ≤ suc cut.board.height.0

pub record ScannedAbove (cut : Cut) (c : Corner) (i next height low : ℕ) (children before after : List ℕ) (r : ℕ) : Type 0 where
  pub off : cut.board.height.0 ≤ c.y.0 + height → (after ≡ before) × (r ≡ low)
  pub on : c.y.0 + height < cut.board.height.0
      → AboveKept (slots_on cut.board children cut.right (corner c.x.0 (c.y.0 + height))) i next height low before after r

-- scanning at a corner asks for a cleared slot, and for stairs of both children
pub record ScanReady (cut : Cut) (c : Corner) (children slot : List ℕ) : Type 0 where
  pub lefts : Reads cut.board cut.t cut.left c children
  pub rights : Reads cut.board cut.t cut.right c children
  pub long : length slot ≡ cut.board.width.0
  pub cleared : (j : ℕ) → j < cut.board.width.0 → bytes slot j ≡ 0

-- it leaves there the list of the boxes that are scanned in a direction
abbrev pub CornerScanned : Direction → Cut → Corner → List ℕ → List ℕ → Type 0
CornerScanned d cut c children after =
    let W = cut.board.width.0 in
    IsListOf W (bytes after) (Scanned W cut.board.height.0 d (slots_on cut.board children cut.left) (slots_on cut.board children cut.right) c)

-- listing a cut by the scan asks for what listing it by all pairs asks, and that its children's slots are lists of rooms that grow
pub record Scannable (cut : Cut) (work : List ℕ) : Type 0 where
  pub cuttable : Cuttable cut work
  pub lefts : GrowsOn cut.board work cut.left
  pub rights : GrowsOn cut.board work cut.right

-- it leaves what all pairs leave: at a corner, at the corners of a row
abbrev pub CornerPaired : Cut → Corner → List ℕ → List ℕ → Type 0
CornerPaired cut c before after = SlotOn cut.board cut.t c (paired_slot cut before c) before after

abbrev pub RowPaired : Cut → ℕ → List ℕ → List ℕ → Type 0
RowPaired cut y before after = PartOn cut.board cut.t (paired_slot cut before) (in_row y cut.board.width.0) before after
