-- A leaf's slot: what listing it asks for, and what is listed.
use Rattle.std.specs.Prelude.{◌≡◌, List, ℕ, suc, ◌+◌, ◌≤◌, ◌<◌, length, get_or}
use Rattle.std.proofs.Math.Bool.{So}
use Rattle.rules.specs.declared.Corner.{Corner}
use Rattle.rules.specs.declared.Need.{Need}
use Rattle.rules.specs.declared.Chip.{Chip}
use Rattle.rules.specs.Design.{lawful_chip}
use Rattle.rules.specs.Slot.{CornerOn}
use Rattle.rules.proofs.Test.{list_byte, suits_room}
use Rattle.slots.specs.declared.Board.{Board}
use Rattle.slots.specs.Lent.{OnBoard, start_on, Addressed, Lent, PartOn, NodeOn, in_row}

-- the bytes of a leaf's list at a corner
abbrev pub leaf_bytes : Chip → Need → Corner → ℕ → ℕ
leaf_bytes C need c = list_byte C.height.0 (suits_room C need) c.x.0 c.y.0

-- what the walk asks for: a corner of the chip, and a slot there that is cleared
pub record WalkReady (C : Chip) (c : Corner) (slot : List ℕ) : Type 0 where
  pub corner : CornerOn C.width.0 C.height.0 c
  pub wide : length slot ≡ C.width.0
  pub cleared : (j : ℕ) → j < C.width.0 → get_or slot j 0 ≡ 0

-- what it leaves there: the leaf's list
pub record WalkListed (C : Chip) (need : Need) (c : Corner) (before after : List ℕ) : Type 0 where
  pub long : length after ≡ length before
  pub bytes : (j : ℕ) → j < C.width.0 → get_or after j 0 ≡ leaf_bytes C need c j

-- what listing node t at a corner asks for: a corner of the chip, and its slot in the work bytes
pub record SlotReady (b : Board) (t : ℕ) (c : Corner) (work : List ℕ) : Type 0 where
  pub corner : OnBoard b c
  pub address : Addressed b t c
  pub slot : start_on b t c + b.width.0 ≤ length work

-- what listing all its corners asks for: a lawful chip, a board of its size, and bytes lent
pub record LeafReady (b : Board) (C : Chip) (t : ℕ) (work : List ℕ) : Type 0 where
  pub lawful : So (lawful_chip C)
  pub width : b.width ≡ C.width
  pub height : b.height ≡ C.height
  pub lent : Lent b (suc t) work

-- a leaf's list in the slots of node t in row y, and in all its slots; no other byte changes
abbrev pub RowListed : Board → Chip → Need → ℕ → ℕ → List ℕ → List ℕ → Type 0
RowListed b C need t y = PartOn b t (leaf_bytes C need) (in_row y b.width.0)

abbrev pub NodeListed : Board → Chip → Need → ℕ → List ℕ → List ℕ → Type 0
NodeListed b C need t = NodeOn b t (leaf_bytes C need)
