-- Tests that compute, beside the rules that they decide. None of them has to be believed: proofs/ shows of each which rule it
-- decides. A room is given by its four sides, left, bottom, right and top; its test is a Bool.
use mathlib.Core.Bool.{Bool, true, false, ◌&&◌, ◌||◌}
use Prim.Native.Nat.{ℕ, zero, suc, ◌+◌, ◌-◌, ◌*◌, ◌/◌}
use lib.Dec.{leb, ltb, eqb}
use Rattle.rules.specs.declared.Direction.{Direction}
use Rattle.rules.specs.declared.Direction.TheVariants.{Vertical, Horizontal}
use Rattle.rules.specs.declared.Corner.{Corner}
use Rattle.rules.specs.declared.Shape.{Shape}
use Rattle.rules.specs.declared.Rectangle.{Rectangle}
use Rattle.rules.specs.declared.Need.{Need}
use Rattle.rules.specs.declared.Chip.{Chip}
use Rattle.rules.specs.declared.Design.{Design}
use Rattle.rules.specs.Search.{any, all, least}
use Rattle.rules.specs.Chip.{corner, shape, rectangle, held_between}
use Rattle.rules.specs.Tree.{Tree, leaf, cut, has, position}
use Rattle.rules.specs.Placement.{Placement}
use Rattle.rules.specs.Choice.{beside, pairing}
use Rattle.rules.specs.Design.{need_at, given_for, root, width_of, height_of}
use Rattle.rules.specs.Check.{is_suited}

abbrev pub Test : Type 0
Test = ℕ → ℕ → ℕ → ℕ → Bool

-- the bytes of a node's slots: column, row, place in the slot
abbrev pub Grid : Type 0
Grid = ℕ → ℕ → ℕ → ℕ

-- the slots of a node, by column and row
abbrev pub grid : (Corner → ℕ → ℕ) → Grid
grid g x y = g (corner x y)

-- The two directions. A statement on rooms is turned by swapping columns and rows; of a column and a row, `across` is the one
-- that counts across the cut.
abbrev pub turn {ℓ} : {A : Type ℓ} → Direction → (ℕ → ℕ → ℕ → ℕ → A) → ℕ → ℕ → ℕ → ℕ → A
turn Vertical F a c b d = F a c b d
turn Horizontal F a c b d = F c a d b

abbrev pub across : Direction → ℕ → ℕ → ℕ
across Vertical m n = m
across Horizontal m n = n

abbrev pub room : ℕ → ℕ → ℕ → ℕ → Rectangle
room a c b d = rectangle a c (b - a) (d - c)

-- by division: how many blocks of B rows, the first at row 0, stand whole in the rows from low to before far; and how many blocks a
-- column of kind k holds there
unfoldable pub blocks_between : ℕ → ℕ → ℕ → ℕ
blocks_between B low far = far / B - (low + (B - 1)) / B

unfoldable pub blocks_of : ℕ → ℕ → ℕ → ℕ → ℕ
blocks_of zero B low far = far - low
blocks_of (suc k) B low far = blocks_between B low far

-- the room is on the chip and suits the need
unfoldable pub suits_room : Chip → Need → Test
suits_room C n a c b d =
    ltb a b && ltb c d && leb b C.width.0 && leb d C.height.0
    && leb n.clbs (held_between C 0 a c b d) && leb n.rams (held_between C 1 a c b d)
    && leb n.multipliers (held_between C 2 a c b d)

-- the tests of a design's leaves: whether a room is on the chip and listed
abbrev pub leaf_test : Design → ℕ → Test
leaf_test d k = suits_room d.chip (need_at d k)

-- a line parts the room into one that passes left and one that passes right
unfoldable pub parted : Test → Test → Test
parted F G a c b d = any b (λ m. F a c m d && G m c b d)

-- the room has place for the tree
unfoldable pub fits : (ℕ → Test) → Tree → Test
fits F (leaf t k) = F k
fits F (cut t d l r) = turn d (parted (turn d (fits F l)) (turn d (fits F r)))

-- the least top side at which a room with these other sides passes, or H + 1
unfoldable pub lowest : ℕ → Test → ℕ → ℕ → ℕ → ℕ
lowest H F a c b = least (λ d. F a c b d) (suc H - c) c

abbrev pub only_if : Bool → ℕ → ℕ
only_if b n = elim b [ true ↦ n | false ↦ 0 ]

-- byte j of the slot at (a, c): the least height at width j + 1, where it is less than at the width before
unfoldable pub list_byte : ℕ → Test → Grid
list_byte H F a c j =
    let t = lowest H F a c (a + suc j) in only_if (ltb t (lowest H F a c (a + j))) (t - c)

-- the slot holds the shape of this room, which is on the chip
unfoldable pub stored : ℕ → ℕ → Grid → Test
stored W H g a c b d = ltb a b && ltb c d && leb b W && leb d H && eqb (c + g a c (b - suc a)) d

-- in the room lies a shape of the left bytes, with one of the right bytes beside it
unfoldable pub side_by_side : ℕ → ℕ → Test → Test → Test
side_by_side B D F G a c b d =
    leb b B && leb d D
    && any (suc b) (λ m. any (suc d) (λ d1. F a c m d1) && any (suc b) (λ b2. any (suc d) (λ d2. G m c b2 d2)))

unfoldable pub pair_test : Direction → ℕ → ℕ → Grid → Grid → Test
pair_test d W H g g' =
    turn d (side_by_side (across d W H) (across d H W) (turn d (stored W H g)) (turn d (stored W H g')))

-- of the first n bytes, the width of the shape of least area, of equals the narrowest; 0 where there is none
abbrev pub better : (ℕ → ℕ) → ℕ → ℕ → ℕ
better bytes n zero = suc n
better bytes n (suc i) = elim (ltb (suc n * bytes n) (suc i * bytes i)) [ true ↦ suc n | false ↦ suc i ]

unfoldable pub best_width : (ℕ → ℕ) → ℕ → ℕ
best_width bytes zero = 0
best_width bytes (suc n) =
    let i = best_width bytes n in elim (ltb 0 (bytes n)) [ true ↦ better bytes n i | false ↦ i ]

-- the left shape of width i + 1 and the right shape of width j + 1 beside it have this box
unfoldable pub meets : ℕ → ℕ → Direction → (Corner → ℕ → ℕ) → (Corner → ℕ → ℕ) → Corner → Shape → ℕ → ℕ → Bool
meets W H d lefts rights c whole i j =
    let s = shape (suc i) (lefts c i) in let b = beside d c s in let o = shape (suc j) (rights b j) in let p = pairing d s o in
    ltb 0 s.h.0 && ltb b.x.0 W && ltb b.y.0 H && ltb 0 o.h.0 && eqb p.w.0 whole.w.0 && eqb p.h.0 whole.h.0

-- the first left shape that has a pair, and the first right shape that makes one with it
unfoldable pub left_index : ℕ → ℕ → Direction → (Corner → ℕ → ℕ) → (Corner → ℕ → ℕ) → Corner → Shape → ℕ
left_index W H d lefts rights c whole = least (λ i. any W (meets W H d lefts rights c whole i)) W 0

abbrev pub left_shape : ℕ → ℕ → Direction → (Corner → ℕ → ℕ) → (Corner → ℕ → ℕ) → Corner → Shape → Shape
left_shape W H d lefts rights c whole = let i = left_index W H d lefts rights c whole in shape (suc i) (lefts c i)

unfoldable pub right_index : ℕ → ℕ → Direction → (Corner → ℕ → ℕ) → (Corner → ℕ → ℕ) → Corner → Shape → ℕ
right_index W H d lefts rights c whole = least (meets W H d lefts rights c whole (left_index W H d lefts rights c whole)) W 0

abbrev pub right_shape : ℕ → ℕ → Direction → (Corner → ℕ → ℕ) → (Corner → ℕ → ℕ) → Corner → Shape → Shape
right_shape W H d lefts rights c whole =
    let j = right_index W H d lefts rights c whole in shape (suc j) (rights (beside d c (left_shape W H d lefts rights c whole)) j)

unfoldable pub has_pair : ℕ → ℕ → Direction → (Corner → ℕ → ℕ) → (Corner → ℕ → ℕ) → Corner → Shape → Bool
has_pair W H d lefts rights c whole = any W (λ i. any W (meets W H d lefts rights c whole i))

-- one placement for the left child's modules and another for the rest
unfoldable pub merge : Tree → Placement → Placement → Placement
merge l p q k = elim (has l k) [ true ↦ p k | false ↦ q k ]

-- going down finds a pair at every cut, and every leaf's room passes a test; and the rooms that it comes to
unfoldable pub goes_down : ℕ → ℕ → (ℕ → Rectangle → Bool) → (ℕ → Corner → ℕ → ℕ) → Tree → Corner → Shape → Bool
goes_down W H suits slots (leaf t k) c s = suits k (record { corner = c; shape = s })
goes_down W H suits slots (cut t d l r) c whole =
    let s = left_shape W H d (slots (position l)) (slots (position r)) c whole in
    let o = right_shape W H d (slots (position l)) (slots (position r)) c whole in
    has_pair W H d (slots (position l)) (slots (position r)) c whole && goes_down W H suits slots l c s && goes_down W H suits slots r (beside d c s) o

unfoldable pub laid : ℕ → ℕ → (ℕ → Corner → ℕ → ℕ) → Tree → Corner → Shape → Placement
laid W H slots (leaf t k) c s = λ _. record { corner = c; shape = s }
laid W H slots (cut t d l r) c whole =
    let s = left_shape W H d (slots (position l)) (slots (position r)) c whole in
    let o = right_shape W H d (slots (position l)) (slots (position r)) c whole in
    merge l (laid W H slots l c s) (laid W H slots r (beside d c s) o)

-- a room passes if the rectangle given for it suits; the rectangles given for rooms
abbrev pub given_suits : (ℕ → Rectangle → Bool) → (ℕ → Rectangle → Rectangle) → ℕ → Rectangle → Bool
given_suits suits given k r = suits k (given k r)

abbrev pub given_in : (ℕ → Rectangle → Rectangle) → Placement → Placement
given_in given rooms k = given k (rooms k)

-- of a design: going down from a shape of the root at (0, 0) succeeds, and the rectangles that it then gives
abbrev pub goes_for : Design → (ℕ → Corner → ℕ → ℕ) → Shape → Bool
goes_for d slots s =
    goes_down (width_of d) (height_of d) (given_suits (is_suited d) (given_for d)) slots (root d) (corner 0 0) s

abbrev pub laid_for : Design → (ℕ → Corner → ℕ → ℕ) → Shape → Placement
laid_for d slots s = given_in (given_for d) (laid (width_of d) (height_of d) slots (root d) (corner 0 0) s)

-- a slot is a stair; and so are all slots of the first n nodes
unfoldable pub is_stair : ℕ → ℕ → Corner → (ℕ → ℕ) → Bool
is_stair W H c g =
    all W (λ j. leb (g j) (H - c.y.0) && (leb (suc j) (W - c.x.0) || eqb (g j) 0)
    && all j (λ i. eqb (g i) 0 || (eqb (g j) 0 || ltb (g j) (g i))))

unfoldable pub are_stairs : ℕ → ℕ → ℕ → ℕ → (ℕ → Corner → ℕ → ℕ) → Bool
are_stairs W H R n slots = all n (λ t. all R (λ y. all W (λ x. is_stair W H (corner x y) (slots t (corner x y)))))
