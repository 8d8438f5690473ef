-- Where slots stand on a board, and what they ask of its size and of the bytes lent for them.
use Rattle.std.specs.Prelude.{◌≡◌, Bool, ◌&&◌, List, ℕ, ◌+◌, ◌≤◌, ◌<◌, ltb, eqb, length, get_or}
use Rattle.rules.specs.declared.Corner.{Corner}
use Rattle.rules.specs.Slot.{slot_start, work_needed, slot, CornerOn}
use Rattle.rules.specs.Design.{most_columns, most_rows, most_tokens}
use Rattle.slots.specs.declared.Board.{Board}
use Rattle.slots.specs.Written.{SlotIs, PartIs, NodeIs}

-- the corners of the chip, and those at which nodes are listed and so have slots
abbrev pub OnBoard : Board → Corner → Type 0
OnBoard b c = CornerOn b.width.0 b.height.0 c

abbrev pub ListedOn : Board → Corner → Type 0
ListedOn b c = CornerOn b.width.0 b.listed.0 c

-- where a node's slot starts at a corner; the slots in work bytes; the bytes from a place on
abbrev pub start_on : Board → ℕ → Corner → ℕ
start_on b t c = slot_start b.width.0 b.listed.0 t c

abbrev pub slots_on : Board → List ℕ → ℕ → Corner → ℕ → ℕ
slots_on b work = slot b.width.0 b.listed.0 work

abbrev pub bytes_from : List ℕ → ℕ → ℕ → ℕ
bytes_from work from j = get_or work (from + j) 0

-- the bytes of a slot, or of its first ones
abbrev pub bytes : List ℕ → ℕ → ℕ
bytes part j = get_or part j 0

-- the first n bytes of the slot of node t at a corner
pub record SlotPart (b : Board) (t : ℕ) (c : Corner) (n : ℕ) (work part : List ℕ) : Type 0 where
  pub long : length part ≡ n
  pub at : (j : ℕ) → j < n → bytes part j ≡ slots_on b work t c j

-- the slot of node t at a corner stands within the limits, and so below so many bytes
abbrev pub most_work : ℕ
most_work = work_needed most_columns most_rows most_tokens

pub record Addressed (b : Board) (t : ℕ) (c : Corner) : Type 0 where
  pub columns : b.width.0 ≤ most_columns
  pub rows : b.listed.0 ≤ most_rows
  pub node : t < most_tokens
  pub corner : ListedOn b c

-- a board within the limits, and bytes lent for the slots of n nodes. `every`: all rows of the chip have slots. Only reading the slot
-- beside or above a shape asks for it.
pub record Lent (b : Board) (n : ℕ) (work : List ℕ) : Type 0 where
  pub wide : 1 ≤ b.width.0
  pub columns : b.width.0 ≤ most_columns
  pub high : 1 ≤ b.listed.0
  pub rows : b.height.0 ≤ most_rows
  pub chip : b.listed.0 ≤ b.height.0
  pub every : b.height.0 ≤ b.listed.0
  pub few : n ≤ most_tokens
  pub bytes : work_needed b.width.0 b.listed.0 n ≤ length work

-- on a board: a slot is written, the slots of those corners that are done, and all slots of a node
abbrev pub SlotOn : Board → ℕ → Corner → (ℕ → ℕ) → List ℕ → List ℕ → Type 0
SlotOn b t c f before after = SlotIs b.width.0 b.listed.0 t c f before after

abbrev pub PartOn : Board → ℕ → (Corner → ℕ → ℕ) → (Corner → Bool) → List ℕ → List ℕ → Type 0
PartOn b t f done before after = PartIs b.width.0 b.listed.0 t f done before after

abbrev pub NodeOn : Board → ℕ → (Corner → ℕ → ℕ) → List ℕ → List ℕ → Type 0
NodeOn b t f before after = NodeIs b.width.0 b.listed.0 t f before after

-- a node's corners row by row: the corners of row y before column x; the corners of the rows below row y
abbrev pub in_row : ℕ → ℕ → Corner → Bool
in_row y x c = eqb c.y.0 y && ltb c.x.0 x

abbrev pub below : ℕ → Corner → Bool
below y c = ltb c.y.0 y
