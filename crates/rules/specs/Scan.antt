-- The source's short scan: rule 34 of docs/RULES.md, order 3 of 02. Which pairs of a cut's stored shapes it looks at, in which order, and which
-- of their boxes it keeps. It is over any bytes; that over lists it finds what all pairs find is proved (proofs/Scanning).
use Rattle.std.specs.Prelude.{◌≡◌, ◌⊎◌, List, ℕ, ◌≤◌, ◌<◌}
use Rattle.rules.specs.declared.Corner.{Corner}
use Rattle.rules.specs.declared.Shape.{Shape}
use Rattle.rules.specs.declared.Rectangle.{Rectangle}
use Rattle.rules.specs.declared.Design.{Design}
use Rattle.rules.specs.declared.Direction.{Direction}
use Rattle.rules.specs.declared.Direction.TheVariants.{Vertical, Horizontal}
use Rattle.rules.specs.Chip.{OnChip}
use Rattle.rules.specs.Tree.{Tree, leaf, cut, position}
use Rattle.rules.specs.Shape.{ShapeAt}
use Rattle.rules.specs.Slot.{slot, work_needed, CornerOn, Stores, IsListOf, PastKept}
use Rattle.rules.specs.Choice.{beside, pairing}
use Rattle.rules.specs.Design.{width_of, slot_rows, HasSlots, slots_of, node_at, nodes}

-- The height of a shape under a vertical cut; "under a horizontal cut widths stand for heights". And its other side, which the cut adds up.
abbrev pub level : Direction → Shape → ℕ
level Vertical s = s.h.0
level Horizontal s = s.w.0

abbrev pub along : Direction → Shape → ℕ
along Vertical s = s.w.0
along Horizontal s = s.h.0

-- A left shape and a right shape beside it that the scan looks at. "For each left shape look up the highest right shape no higher than it (the
-- lowest where all are higher), walk on": no right shape that is no higher than the left one is higher than this. "And stop at the height of
-- the left shape before", exclusive: this one is lower than every left shape that is higher than the left one; the first has none.
pub record LooksAt (W H : ℕ) (d : Direction) (lefts rights : Corner → ℕ → ℕ) (c : Corner) (s o : Shape) : Type 0 where
  pub left : Stores W (lefts c) s
  pub corner : CornerOn W H (beside d c s)
  pub right : Stores W (rights (beside d c s)) o
  pub from : (o' : Shape) → Stores W (rights (beside d c s)) o' → level d o' ≤ level d s → level d o' ≤ level d o
  pub stop : (s' : Shape) → Stores W (lefts c) s' → level d s < level d s' → level d o < level d s'

-- the box of a pair that is looked at, where it fits on the chip: "the width bound is W, included", and so is H
pub record BoxOf (W H : ℕ) (d : Direction) (c : Corner) (Looks : Shape → Shape → Type 0) (whole : Shape) : Type 0 where
  pub s : Shape
  pub o : Shape
  pub looks : Looks s o
  pub box : pairing d s o ≡ whole
  pub fits : OnChip W H (record { corner = c; shape = whole })

abbrev pub Scanned : ℕ → ℕ → Direction → (Corner → ℕ → ℕ) → (Corner → ℕ → ℕ) → Corner → Shape → Type 0
Scanned W H d lefts rights c = BoxOf W H d c (LooksAt W H d lefts rights c)

-- The scan's order: left shapes from the lowest up, and beside each the right shapes from the one looked up on to higher ones. One pair comes
-- before another.
abbrev pub Earlier : Direction → Shape → Shape → Shape → Shape → Type 0
Earlier d s o s' o' = (level d s < level d s') ⊎ ((s ≡ s') × (level d o < level d o'))

-- A box is kept only if it is narrower (under a horizontal cut: lower) than the last kept; that is, than every box that fits before it, since narrower
-- than those kept before it is narrower than all (`narrower_than_the_kept`, proofs/Scanning).
pub record Keeps (W H : ℕ) (d : Direction) (c : Corner) (Looks : Shape → Shape → Type 0) (whole : Shape) : Type 0 where
  pub box : BoxOf W H d c Looks whole
  pub narrower : (o : Shape) (b : BoxOf W H d c Looks o) → Earlier d b.s b.o box.s box.o → along d whole < along d o

-- Listing by the scan: what a node's slot is the list of, over the bytes as they then stand. For all pairs Edit.antt has it (`Relists`).
abbrev pub ScanLists : ℕ → ℕ → ℕ → (ℕ → Rectangle → Type 0) → List ℕ → Tree → Corner → Shape → Type 0
ScanLists W H R Lists work (leaf t k) c = ShapeAt W H Lists (leaf t k) c
ScanLists W H R Lists work (cut t d l r) c = Scanned W H d (slot W R work (position l)) (slot W R work (position r)) c

-- every node of a design is listed so, and bytes past the lists stand
pub record ListedFrom (d : Design) (From : List ℕ → Tree → Corner → Shape → Type 0) (before after : List ℕ) : Type 0 where
  pub past : PastKept (work_needed (width_of d) (slot_rows d) (nodes d)) before after
  pub listed : (t : ℕ) → t < nodes d → (c : Corner) → HasSlots d c → IsListOf (width_of d) (slots_of d after t c) (From after (node_at d t) c)
