-- Chip, rectangles, needs: rules 1 to 4 of docs/RULES.md.
use Rattle.std.specs.Prelude.{◌≡◌, Bool, ◌&&◌, ℕ, zero, suc, ◌+◌, ◌*◌, ◌/◌, ◌≤◌, ◌<◌, leb, ltb, eqb, get_or}
use Rattle.rules.specs.declared.Chip.{Chip}
use Rattle.rules.specs.declared.Corner.{Corner}
use Rattle.rules.specs.declared.Shape.{Shape}
use Rattle.rules.specs.declared.Rectangle.{Rectangle}
use Rattle.rules.specs.declared.Need.{Need}
use Rattle.rules.specs.Search.{count, total}

-- Rules 1, 2: "Columns are counted 0 to W-1 from the left, rows 0 to H-1 from below." "Each column has a kind: 0 CLB, 1 RAM, 2 multiplier."
abbrev pub kind_at : Chip → ℕ → ℕ
kind_at C x = get_or C.kinds x 0

-- What a column holds: its blocks, `many` of them, are each `high` rows high, start at row `first` and follow without gaps.
pub record Column : Type 0 where
  pub kind : ℕ
  pub first : ℕ
  pub high : ℕ
  pub many : ℕ

-- Rule 2: "A CLB column holds one CLB in each row. Blocks in kinds 1 and 2 are B rows high, start at row 0 and follow without gaps;
-- rows above the last whole block hold nothing." Where a column's blocks start and how many there are is said here alone.
unfoldable pub column_of : Chip → ℕ → Column
column_of C zero = record { kind = 0; first = 0; high = 1; many = C.height.0 }
column_of C (suc k) = record { kind = suc k; first = 0; high = C.block.0; many = C.height.0 / C.block.0 }

-- what column x holds; kinds and blocks' heights are asked for here alone
unfoldable pub column : Chip → ℕ → Column
column C x = column_of C (kind_at C x)

-- A rectangle (x, y, w, h), and its four sides: it takes the columns from `left` to before `right`, and the rows from
-- `bottom` to before `top`.
abbrev pub corner : ℕ → ℕ → Corner
corner x y = record { x = record { 0 = x }; y = record { 0 = y } }

abbrev pub shape : ℕ → ℕ → Shape
shape w h = record { w = record { 0 = w }; h = record { 0 = h } }

abbrev pub rectangle : ℕ → ℕ → ℕ → ℕ → Rectangle
rectangle x y w h = record { corner = corner x y; shape = shape w h }

abbrev pub left : Rectangle → ℕ
left r = r.corner.x.0

abbrev pub right : Rectangle → ℕ
right r = r.corner.x.0 + r.shape.w.0

abbrev pub bottom : Rectangle → ℕ
bottom r = r.corner.y.0

abbrev pub top : Rectangle → ℕ
top r = r.corner.y.0 + r.shape.h.0

-- Rule 3: "A rectangle is (x, y, w, h), w and h at least 1, x+w at most W, y+h at most H."
pub record OnChip (W H : ℕ) (r : Rectangle) : Type 0 where
  pub wide : 1 ≤ r.shape.w.0
  pub high : 1 ≤ r.shape.h.0
  pub columns : right r ≤ W
  pub rows : top r ≤ H

-- Rule 3: "It holds a block only if it covers all the block's rows": block j of the column stands whole between two rows.
unfoldable pub covers_block : Column → ℕ → ℕ → ℕ → Bool
covers_block c low far j = leb low (c.first + j * c.high) && leb (c.first + suc j * c.high) far

-- how many blocks of kind k stand whole between four sides: the left side a, the bottom c, the right side b and the top d
unfoldable pub held_between : Chip → ℕ → ℕ → ℕ → ℕ → ℕ → ℕ
held_between C k a c b d =
    total C.width.0 (λ x. leb a x && ltb x b && eqb (column C x).kind k)
    (λ x. count (column C x).many (covers_block (column C x) c d))

-- what a rectangle holds of each kind; document 000's resource vector of a rectangle
unfoldable pub holds : Chip → Rectangle → Need
holds C r = record {
  clbs = held_between C 0 (left r) (bottom r) (right r) (top r);
  rams = held_between C 1 (left r) (bottom r) (right r) (top r);
  multipliers = held_between C 2 (left r) (bottom r) (right r) (top r);
}

-- "at least that many of each": document 000, definition 1, of two resource vectors
pub record AtMost (n m : Need) : Type 0 where
  pub clbs : n.clbs ≤ m.clbs
  pub rams : n.rams ≤ m.rams
  pub multipliers : n.multipliers ≤ m.multipliers

-- Rule 4: "A rectangle suits it if it holds at least that many of each."
abbrev pub Suits : Chip → Need → Rectangle → Type 0
Suits C n r = AtMost n (holds C r)

-- Rule 22: "Places beyond W .. are ignored, also when two designs are called the same."
pub record SameChip (C D : Chip) : Type 0 where
  pub width : C.width ≡ D.width
  pub height : C.height ≡ D.height
  pub block : C.block ≡ D.block
  pub kinds : (x : ℕ) → x < C.width.0 → kind_at C x ≡ kind_at D x
