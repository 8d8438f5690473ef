-- How the slots of a cut node are computed. At a corner the code keeps, for each right side that a box can have, the
-- least top side of a box that ends there or before. The right child's slots are filled first, a whole line of corners
-- at a time: at each right side then stands the least top side of a shape that ends there or before. A side that no
-- shape reaches has H + 1.
use Rattle.std.specs.Prelude.{◌≡◌, ◌⊎◌, Bool, true, false, ◌&&◌, List, ℕ, zero, suc, ◌+◌, ◌-◌, ◌*◌, ◌≤◌, ◌<◌, min, max, leb, ltb, eqb, length, get_or}
use Rattle.rules.specs.declared.Direction.{Direction}
use Rattle.rules.specs.declared.Corner.{Corner}
use Rattle.rules.specs.Chip.{corner}
use Rattle.rules.specs.Design.{most_columns, most_rows}
use Rattle.rules.proofs.Test.{grid, across, only_if, list_byte, pair_test}
use Rattle.slots.specs.declared.Board.{Board}
use Rattle.slots.specs.Written.{Filled}
use Rattle.slots.specs.Lent.{OnBoard, slots_on, bytes, Lent, SlotOn, PartOn, NodeOn}
use Rattle.cuts.specs.declared.Cut.{Cut}

-- what a cut's slots ask: its children are nodes before it
pub record Cuttable (cut : Cut) (work : List ℕ) : Type 0 where
  pub lent : Lent cut.board (suc cut.t) work
  pub first : cut.left < cut.t
  pub second : cut.right < cut.t

-- the slots that a cut node is to have, from its children's: "the undominated ones among all pairings of the children's stored shapes"
unfoldable pub paired_slot : Cut → List ℕ → Corner → ℕ → ℕ
paired_slot cut work c =
    let W = cut.board.width.0 in let H = cut.board.height.0 in
    list_byte H (pair_test cut.direction W H (grid (slots_on cut.board work cut.left)) (grid (slots_on cut.board work cut.right))) c.x.0 c.y.0

-- The sizes of the code's buffers. A line has as many places as the chip has columns or rows. `chunk` top sides are
-- laid at a time, so a filled slot and a corner's top sides have that many bytes more than there are right sides.
abbrev pub most_places : ℕ
most_places = max most_columns most_rows

abbrev pub chunk : ℕ
chunk = 16

abbrev pub filled_size : ℕ
filled_size = most_columns + chunk

abbrev pub line_size : ℕ
line_size = most_places * filled_size

abbrev pub tops_size : ℕ
tops_size = 2 * most_columns + chunk

-- The lines of corners that a cut's pairs stay on: a vertical cut's is a row of corners, a horizontal cut's a column.
abbrev pub corner_at : Direction → ℕ → ℕ → Corner
corner_at d line place = corner (across d place line) (across d line place)

abbrev pub line_of : Direction → Corner → ℕ
line_of d c = across d c.y.0 c.x.0

abbrev pub place_of : Direction → Corner → ℕ
place_of d c = across d c.x.0 c.y.0

abbrev pub lines : Direction → Board → ℕ
lines d B = across d B.height.0 B.width.0

abbrev pub places : Direction → Board → ℕ
places d B = across d B.width.0 B.height.0

-- The first right side of a box whose left shape ends at the column `end`: a right shape beside it takes a column more,
-- one above it none.
abbrev pub first_right : Direction → ℕ → ℕ
first_right d end = across d (end + 1) end

-- the lower of a number and a height, where 0 is no height
unfoldable pub lowered : ℕ → ℕ → ℕ
lowered low h = elim (eqb h 0) [ true ↦ low | false ↦ min low h ]

-- the least of start and the first n heights
unfoldable pub least_of : ℕ → (ℕ → ℕ) → ℕ → ℕ
least_of start f zero = start
least_of start f (suc n) = lowered (least_of start f n) (f n)

-- the least top side among the first n shapes of a slot at row y, or H + 1
unfoldable pub slot_top : ℕ → ℕ → (ℕ → ℕ) → ℕ → ℕ
slot_top H y bytes n = y + least_of (suc (H - y)) bytes n

-- a slot at row y is filled into as many top sides; the slot of a node at a corner is, whose right sides start behind
-- `to` in a line
abbrev pub SlotFilled : ℕ → ℕ → List ℕ → List ℕ → Type 0
SlotFilled H y slot tops = (j : ℕ) → j < length slot → get_or tops j 0 ≡ slot_top H y (bytes slot) (suc j)

abbrev pub CornerFilled : Board → List ℕ → ℕ → Corner → ℕ → List ℕ → List ℕ → Type 0
CornerFilled B work t c to before after =
    Filled before (to + c.x.0 + 1) (B.width.0 - c.x.0)
    (λ j. slot_top B.height.0 c.y.0 (slots_on B work t c) (suc j)) after

-- the least top sides of a node's slots on a line, by place and right side: as they are computed, and as they stand in
-- the line's bytes
abbrev pub line_top : Direction → Board → (Corner → ℕ → ℕ) → ℕ → ℕ → ℕ → ℕ
line_top d B slots line p b = slot_top B.height.0 (across d line p) (slots (corner_at d line p)) (b - across d p line)

abbrev pub held_top : List ℕ → ℕ → ℕ → ℕ
held_top filled p b = get_or filled (p * filled_size + b) 0

-- past the chip's last column a line's bytes hold no top side
pub record TailsNone (B : Board) (filled : List ℕ) : Type 0 where
  pub long : length filled ≡ line_size
  pub at : (p b : ℕ) → p < most_places → B.width.0 < b → b < filled_size → held_top filled p b ≡ suc B.height.0

-- the slots at the first n places of a line are filled
pub record LineFilled (d : Direction) (B : Board) (slots : Corner → ℕ → ℕ) (line n : ℕ) (filled : List ℕ) : Type 0 where
  pub tails : TailsNone B filled
  pub at : (p b : ℕ) → p < n → across d p line < b → b ≤ B.width.0 → held_top filled p b ≡ line_top d B slots line p b

-- the slots at all places of a line are filled with a node's
abbrev pub WholeLine : Direction → Board → List ℕ → ℕ → ℕ → List ℕ → Type 0
WholeLine d B work t line filled = LineFilled d B (slots_on B work t) line (places d B) filled

-- what filling a line asks: it is a line of the board, and past the chip its bytes hold no top side
pub record Fillable (d : Direction) (B : Board) (line : ℕ) (filled : List ℕ) : Type 0 where
  pub on : line < lines d B
  pub tails : TailsNone B filled

-- what a corner's slot asks
pub record CornerReady (B : Board) (t : ℕ) (c : Corner) (work filled : List ℕ) : Type 0 where
  pub lent : Lent B (suc t) work
  pub corner : OnBoard B c
  pub tails : TailsNone B filled

-- The left shape of width i + 1 and height h at a corner has boxes with right shapes beside it that end at the right
-- side b or before: the right child's corner is on the chip, and so is b.
unfoldable pub has_box : Direction → Board → Corner → ℕ → ℕ → ℕ → Bool
has_box d B c i h b =
    ltb 0 h && leb (c.y.0 + h) B.height.0 && ltb (across d (c.x.0 + suc i) (c.y.0 + h)) (places d B)
    && leb (c.x.0 + suc i) b && ltb (across d (c.x.0 + suc i) c.x.0) b && leb b B.width.0

-- the top side of the lowest such box, which is the greater of the two shapes'; `tops` has the right child's least top
-- sides on the line. 0 where there is no box.
abbrev pub greater_top : Direction → (ℕ → ℕ → ℕ) → Corner → ℕ → ℕ → ℕ → ℕ
greater_top d tops c i h b = max (c.y.0 + h) (tops (across d (c.x.0 + suc i) (c.y.0 + h)) b)

unfoldable pub box_top : Direction → Board → (ℕ → ℕ → ℕ) → Corner → ℕ → ℕ → ℕ → ℕ
box_top d B tops c i h b = only_if (has_box d B c i h b) (greater_top d tops c i h b)

-- the least top side of all boxes of the left slot's first n shapes that end at b or before, or H + 1
unfoldable pub least_top : Direction → Board → (ℕ → ℕ → ℕ) → Corner → (ℕ → ℕ) → ℕ → ℕ → ℕ
least_top d B tops c bytes n b = least_of (suc B.height.0) (λ i. box_top d B tops c i (bytes i) b) n

-- a byte of the slot: the height to the top side, where that is lower than at the right side before
unfoldable pub kept_byte : ℕ → ℕ → ℕ → ℕ
kept_byte y before top = only_if (ltb top before) (top - y)

unfoldable pub laid_slot : Direction → Board → (ℕ → ℕ → ℕ) → Corner → (ℕ → ℕ) → ℕ → ℕ
laid_slot d B tops c bytes j =
    let top = least_top d B tops c bytes (B.width.0 - c.x.0) in
    kept_byte c.y.0 (top (c.x.0 + j)) (top (c.x.0 + suc j))

-- the top sides from column x on
pub record TopsAre (x : ℕ) (f : ℕ → ℕ) (tops : List ℕ) : Type 0 where
  pub long : length tops ≡ tops_size
  pub at : (b : ℕ) → x ≤ b → b < tops_size → get_or tops b 0 ≡ f b

-- no top side yet
abbrev pub NoTops : Board → Corner → List ℕ → Type 0
NoTops B c tops = TopsAre c.x.0 (λ _. suc B.height.0) tops

-- the top sides once the left shape of width i + 1 and height h is paired; and once all of the left slot's are
abbrev pub BoxLaid : Direction → Board → List ℕ → Corner → ℕ → ℕ → List ℕ → List ℕ → Type 0
BoxLaid d B line c i h before after =
    TopsAre c.x.0 (λ b. lowered (get_or before b 0) (box_top d B (held_top line) c i h b)) after

abbrev pub CornerLaid : Direction → Board → List ℕ → List ℕ → ℕ → Corner → List ℕ → Type 0
CornerLaid d B line work left c tops =
    TopsAre c.x.0 (least_top d B (held_top line) c (slots_on B work left c) (B.width.0 - c.x.0)) tops

-- what the pairing of a left shape asks: no top side yet is over H + 1
pub record Pairable (B : Board) (c : Corner) (line tops : List ℕ) : Type 0 where
  pub columns : B.width.0 ≤ most_columns
  pub rows : B.height.0 ≤ most_rows
  pub corner : OnBoard B c
  pub tails : TailsNone B line
  pub long : length tops ≡ tops_size
  pub low : (b : ℕ) → c.x.0 ≤ b → b < tops_size → get_or tops b 0 ≤ suc B.height.0

-- top sides lowered to those of a filled slot that ends no lower than `top`
abbrev pub laid_top : List ℕ → ℕ → ℕ → List ℕ → ℕ → ℕ → ℕ
laid_top tops to top line from k = min (get_or tops (to + k) 0) (max top (get_or line (from + k) 0))

-- `after` holds f at n bytes from a on, and perhaps up to the end of a chunk; all other bytes are those of `before`
pub record Laid (before : List ℕ) (a n : ℕ) (f : ℕ → ℕ) (after : List ℕ) : Type 0 where
  pub long : length after ≡ length before
  pub below : (k : ℕ) → k < a → get_or after k 0 ≡ get_or before k 0
  pub inside : (k : ℕ) → k < n → get_or after (a + k) 0 ≡ f k
  pub beyond : (k : ℕ) → n ≤ k
      → ((suc k < n + chunk) × (get_or after (a + k) 0 ≡ f k)) ⊎ (get_or after (a + k) 0 ≡ get_or before (a + k) 0)

-- what laying n bytes asks of the two buffers; a run of bytes laid, and a whole slot, chunk by chunk
pub record Layable (from to n : ℕ) (tops : List ℕ) : Type 0 where
  pub line : from + n + chunk ≤ line_size + 1
  pub sides : to + n ≤ most_columns + 1
  pub long : length tops ≡ tops_size

abbrev pub RunLaid : List ℕ → ℕ → ℕ → List ℕ → ℕ → ℕ → List ℕ → Type 0
RunLaid line from top before to n after = Filled before to n (laid_top before to top line from) after

abbrev pub SlotLaid : List ℕ → ℕ → ℕ → List ℕ → ℕ → ℕ → List ℕ → Type 0
SlotLaid line from top before to n after = Laid before to n (laid_top before to top line from) after

-- what writing the slot at a corner asks: no top side lies below the corner
pub record Keepable (n : ℕ) (c : Corner) (tops : List ℕ) : Type 0 where
  pub sides : c.x.0 + n < tops_size
  pub row : c.y.0 < 256
  pub above : (b : ℕ) → c.x.0 ≤ b → b < tops_size → c.y.0 ≤ get_or tops b 0

abbrev pub SlotKept : Corner → List ℕ → List ℕ → Type 0
SlotKept c tops after =
    (j : ℕ) → j < length after → get_or after j 0 ≡ kept_byte c.y.0 (get_or tops (c.x.0 + j) 0) (get_or tops (c.x.0 + suc j) 0)

-- the slot of a cut node at a corner is written from a filled line
abbrev pub CornerCut : Cut → List ℕ → Corner → List ℕ → List ℕ → Type 0
CornerCut cut line c before after =
    SlotOn cut.board cut.t c (laid_slot cut.direction cut.board (held_top line) c (slots_on cut.board before cut.left c)) before after

-- the corners at the first n places of a line, and those of all lines before one
abbrev pub on_line : Direction → ℕ → ℕ → Corner → Bool
on_line d line n c = eqb (line_of d c) line && ltb (place_of d c) n

abbrev pub before_line : Direction → ℕ → Corner → Bool
before_line d line c = ltb (line_of d c) line

-- the slots of a cut node are those of its children's pairings, at the corners of a line, and at all
abbrev pub LineCut : Cut → ℕ → List ℕ → List ℕ → Type 0
LineCut cut line before after =
    PartOn cut.board cut.t (paired_slot cut before) (on_line cut.direction line (places cut.direction cut.board)) before after

abbrev pub NodeCut : Cut → List ℕ → List ℕ → Type 0
NodeCut cut before after = NodeOn cut.board cut.t (paired_slot cut before) before after
