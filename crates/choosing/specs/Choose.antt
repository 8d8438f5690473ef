-- Choosing from stored bytes, step by step: the best shape of a slot, and the first pair at a cut.
use Rattle.std.specs.Prelude.{◌≡◌, Bool, true, false, ◌&&◌, List, ℕ, zero, suc, ◌+◌, ◌≤◌, ◌<◌, ltb, eqb, length, get_or, Option, Some, None, MatchOption}
use Rattle.std.specs.Option.{option_or}
use Rattle.rules.specs.declared.Corner.{Corner}
use Rattle.rules.specs.declared.Shape.{Shape}
use Rattle.rules.specs.declared.Rectangle.{Rectangle}
use Rattle.rules.specs.declared.Direction.{Direction}
use Rattle.rules.specs.Chip.{shape}
use Rattle.rules.specs.Placement.{area}
use Rattle.rules.specs.Choice.{beside, pairing}
use Rattle.rules.specs.Design.{most_columns, most_rows}
use Rattle.rules.proofs.Test.{best_width, left_shape, right_shape, has_pair}
use Rattle.slots.specs.declared.Board.{Board}
use Rattle.choosing.specs.declared.Pair.{Pair}

-- a slot that is read: the bytes of a list, as many as the chip has columns
abbrev pub byte_in : List ℕ → ℕ → ℕ
byte_in slot j = get_or slot j 0

pub record IsSlot (W : ℕ) (bytes : ℕ → ℕ) (slot : List ℕ) : Type 0 where
  pub long : length slot ≡ W
  pub same : (j : ℕ) → j < W → byte_in slot j ≡ bytes j

-- the shape that a byte of a slot stores
abbrev pub shape_at : (ℕ → ℕ) → ℕ → Shape
shape_at bytes j = shape (suc j) (bytes j)

-- a shape that a byte of a slot can store
pub record Storable (s : Shape) : Type 0 where
  pub wide : s.w.0 ≤ most_columns
  pub high : s.h.0 ≤ 255

-- a corner of the chip, or one past it by no more than such a shape
pub record Near (c : Corner) : Type 0 where
  pub column : c.x.0 ≤ most_columns + most_columns
  pub row : c.y.0 ≤ most_rows + 255

-- the shape of a width, which is none if it is 0
abbrev pub shape_of : (ℕ → ℕ) → ℕ → Option Shape
shape_of bytes zero = None
shape_of bytes (suc j) = Some (shape_at bytes j)

-- "take the shape of least area w·h; of equals the narrowest": of the first n bytes, if they store one
unfoldable pub chosen_shape : ℕ → (ℕ → ℕ) → Option Shape
chosen_shape n bytes = shape_of bytes (best_width bytes n)

-- of the best shape so far and a wider one: the wider if it is a shape, and the first or of less area
abbrev pub better_of : Option Shape → Shape → Option Shape
better_of None next = elim (ltb 0 next.h.0) [ true ↦ Some next | false ↦ None ]
better_of (Some best) next = elim (ltb 0 next.h.0 && ltb (area next) (area best)) [ true ↦ Some next | false ↦ Some best ]

-- the two shapes if a test holds
abbrev pub taken_if : Bool → Shape → Shape → Option Pair
taken_if true s o = Some (record { left = s; right = o })
taken_if false s o = None

-- the pair to take at a cut: "the first shape of the left list there for which the right list .. has" one
unfoldable pub pair_of : ℕ → ℕ → Direction → (Corner → ℕ → ℕ) → (Corner → ℕ → ℕ) → Corner → Shape → Option Pair
pair_of W H d lefts rights c whole =
    taken_if (has_pair W H d lefts rights c whole) (left_shape W H d lefts rights c whole)
    (right_shape W H d lefts rights c whole)

abbrev pub pair_in : Board → (ℕ → Corner → ℕ → ℕ) → Direction → ℕ → ℕ → Corner → Shape → Option Pair
pair_in board slots d left right c whole =
    pair_of board.width.0 board.height.0 d (slots left) (slots right) c whole

-- of n searches the first that finds one
unfoldable pub first_pair : (ℕ → Option Pair) → ℕ → Option Pair
first_pair f zero = None
first_pair f (suc n) = option_or (first_pair f n) (f n)

-- what a search that stops at the first finds
abbrev pub IsFirst : (ℕ → Option Pair) → ℕ → Option Pair → Type 0
IsFirst f n r =
    MatchOption r ((k : ℕ) → k < n → f k ≡ None) (λ p. (i : ℕ) × (i < n) × (f i ≡ Some p) × ((k : ℕ) → k < i → f k ≡ None))

-- the right shape is one, and the box of the two is the whole
unfoldable pub makes_whole : Direction → Shape → Shape → Shape → Bool
makes_whole d s o whole =
    let p = pairing d s o in ltb 0 o.h.0 && eqb p.w.0 whole.w.0 && eqb p.h.0 whole.h.0

-- a left shape with byte j of a slot; with the first of its W bytes that makes the whole; and with the slot beside it, which is
-- there only at a corner of the chip
unfoldable pub pair_at : Direction → Shape → Shape → (ℕ → ℕ) → ℕ → Option Pair
pair_at d s whole bytes j = taken_if (makes_whole d s (shape_at bytes j) whole) s (shape_at bytes j)

unfoldable pub pair_with : ℕ → ℕ → Direction → (Corner → ℕ → ℕ) → Corner → Shape → Shape → Option Pair
pair_with W H d rights c whole s =
    let b = beside d c s in
    elim (ltb 0 s.h.0 && ltb b.x.0 W && ltb b.y.0 H) [
      | true ↦ first_pair (pair_at d s whole (rights b)) W
      | false ↦ None
    ]

abbrev pub pair_beside : Board → Direction → (Corner → ℕ → ℕ) → Corner → Shape → Shape → Option Pair
pair_beside board d rights c whole s = pair_with board.width.0 board.height.0 d rights c whole s

-- the first pair with byte i of the left list
unfoldable pub pair_from : ℕ → ℕ → Direction → (Corner → ℕ → ℕ) → (Corner → ℕ → ℕ) → Corner → Shape → ℕ → Option Pair
pair_from W H d lefts rights c whole i = pair_with W H d rights c whole (shape_at (lefts c) i)

-- the first left shape of a slot with which there is a pair
abbrev pub FirstBeside : Board → (ℕ → Corner → ℕ → ℕ) → Direction → ℕ → Rectangle → List ℕ → Option Pair → Type 0
FirstBeside board slots d right room slot r =
    IsFirst (λ i. pair_beside board d (slots right) room.corner room.shape (shape_at (byte_in slot) i)) (length slot) r
