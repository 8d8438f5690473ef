-- 01, "Bench examples (P: proved)": P1 to P12 as one table. What a row says, it says through the rules alone; proofs/Bench has the
-- theorem that every row holds.
use Rattle.std.specs.Prelude.{◌≡◌, ◌⊎◌, ◌↔◌, List, [], ◌∷◌, ◌++◌, ℕ, ◌-◌, ◌<◌, length, get_or}
use Rattle.rules.specs.declared.Corner.{Corner}
use Rattle.rules.specs.declared.Shape.{Shape}
use Rattle.rules.specs.declared.Rectangle.{Rectangle}
use Rattle.rules.specs.declared.Need.{Need}
use Rattle.rules.specs.declared.Design.{Design}
use Rattle.rules.specs.declared.Edit.TheVariants.{Change, Turn}
use Rattle.rules.specs.declared.Refusal.TheVariants.{BadToken}
use Rattle.rules.specs.Chip.{corner, shape, rectangle, holds}
use Rattle.rules.specs.Tree.{Tree, leaf, cut}
use Rattle.rules.specs.Placement.{Placement}
use Rattle.rules.specs.Shape.{ShapeAt, Listed}
use Rattle.rules.specs.Slot.{slot_start, ListsAt, IsListOf}
use Rattle.rules.specs.Choice.{Chosen}
use Rattle.rules.specs.Edit.{Paired, changed}
use Rattle.rules.specs.Design.{nodes, root, ListsOf, LawfulPlacement, OwnLists, root_slot, GoesDown, width_of, height_of, slot_rows}
use Rattle.rules.specs.Bytes.{Took, took, refuse, design_at, chip_from, design_from}

pub data Example : Type 0 where
  -- the root's list at a corner is these shapes
  lists : Design → Corner → List Shape → Example
  -- a rectangle holds so much
  contains : Design → Rectangle → Need → Example
  -- the root's slot at (0, 0) starts at a place and has these bytes
  slot_is : Design → ℕ → List ℕ → Example
  -- and so has the slot of the undominated pairings of the children's lists
  pairs_to : Design → List ℕ → Example
  -- over own lists this box is chosen, and going down gives these rectangles to the first modules
  plans_to : Design → Shape → List Rectangle → Example
  -- there is no lawful placement
  has_none : Design → Example
  -- the bytes are read as a design, or refused
  reads : List ℕ → Took Design → Example

unfoldable pub OneOf : Shape → List Shape → Type 0
OneOf s [] = ⊥
OneOf s (o ∷ os) = (s ≡ o) ⊎ OneOf s os

abbrev pub PairsTo : Design → List ℕ → Tree → Type 0
PairsTo d bytes (leaf t k) = ⊥
PairsTo d bytes (cut t k l r) =
    let W = width_of d in let H = height_of d in (lefts rights : Corner → ℕ → ℕ)
    → ListsAt W H H (ListsOf d) lefts l → ListsAt W H H (ListsOf d) rights r
    → IsListOf W (λ j. get_or bytes j 0) (Paired W H k lefts rights (corner 0 0))

unfoldable pub Says : Example → Type 0
Says (lists d c shapes) = (s : Shape) → Listed (width_of d) (height_of d) (ListsOf d) (root d) c s ↔ OneOf s shapes
Says (contains d r n) = holds d.chip r ≡ n
Says (slot_is d start bytes) =
    (slot_start (width_of d) (slot_rows d) (nodes d - 1) (corner 0 0) ≡ start)
    × IsListOf (width_of d) (λ j. get_or bytes j 0) (ShapeAt (width_of d) (height_of d) (ListsOf d) (root d) (corner 0 0))
Says (pairs_to d bytes) = PairsTo d bytes (root d)
Says (plans_to d s rs) =
    (slots : ℕ → Corner → ℕ → ℕ) → OwnLists d slots → Chosen (width_of d) (root_slot d slots) s
    × ((p : Placement) × GoesDown d slots s p)
    × ((p : Placement) → GoesDown d slots s p → (k : ℕ) → k < length rs → p k ≡ get_or rs k (rectangle 0 0 0 0))
Says (has_none d) = (p : Placement) → LawfulPlacement d p → ⊥
Says (reads s t) = design_at s ≡ t

-- designs by their numbers
abbrev pub need : ℕ → ℕ → ℕ → Need
need a b c = record { clbs = a; rams = b; multipliers = c }

abbrev pub design : List ℕ → ℕ → ℕ → List Need → List ℕ → Design
design kinds h b needs tokens = design_from (chip_from (length kinds) h b kinds) (length needs) needs tokens

-- "Chip E: kinds 0 1 2 0 0 four times, H 12, B 3, need (12,1,1)"; D; "four CLB columns, H 4, B 1, one module (12,0,0)"
unfoldable pub E : Design
E =
    design (0 ∷ 1 ∷ 2 ∷ 0 ∷ 0 ∷ 0 ∷ 1 ∷ 2 ∷ 0 ∷ 0 ∷ 0 ∷ 1 ∷ 2 ∷ 0 ∷ 0 ∷ 0 ∷ 1 ∷ 2 ∷ 0 ∷ 0 ∷ []) 12 3 (need 12 1 1 ∷ []) (2 ∷ [])

unfoldable pub D : Design
D = design (0 ∷ 1 ∷ 2 ∷ 0 ∷ 0 ∷ []) 6 3 (need 2 1 0 ∷ need 3 0 1 ∷ []) (2 ∷ 3 ∷ 0 ∷ [])

unfoldable pub four : Design
four = design (0 ∷ 0 ∷ 0 ∷ 0 ∷ []) 4 1 (need 12 0 0 ∷ []) (2 ∷ [])

-- "D, hexadecimal 01 05 06 03 00 01 02 00 00 02 02 01 00 03 00 01 02 03 00", and its last three bytes otherwise
abbrev pub bytes_ending : List ℕ → List ℕ
bytes_ending end = (1 ∷ 5 ∷ 6 ∷ 3 ∷ 0 ∷ 1 ∷ 2 ∷ 0 ∷ 0 ∷ 2 ∷ 2 ∷ 1 ∷ 0 ∷ 3 ∷ 0 ∷ 1 ∷ []) ++ end

unfoldable pub table : List Example
table =
    lists E (corner 4 1) (shape 4 6 ∷ shape 5 5 ∷ [])  -- P1
    ∷ lists E (corner 10 0) (shape 3 12 ∷ shape 4 6 ∷ shape 5 4 ∷ shape 6 3 ∷ [])  -- P2
    ∷ lists E (corner 10 6) (shape 4 6 ∷ shape 5 4 ∷ shape 6 3 ∷ [])  -- P3
    ∷ contains E (rectangle 0 0 4 6) (need 12 2 2)  -- P4
    ∷ contains E (rectangle 0 1 2 4) (need 4 0 0)  -- P5
    ∷ contains E (rectangle 0 1 2 5) (need 5 1 0)  -- P6
    ∷ reads (bytes_ending (2 ∷ 3 ∷ 0 ∷ [])) (took D 19)
    ∷ slot_is D 300 (0 ∷ 0 ∷ 0 ∷ 3 ∷ 0 ∷ [])  -- P7
    ∷ pairs_to D (0 ∷ 0 ∷ 0 ∷ 3 ∷ 0 ∷ [])
    ∷ plans_to D (shape 4 3) (rectangle 0 0 2 3 ∷ rectangle 2 0 2 3 ∷ [])
    ∷ lists (changed D (Turn 2)) (corner 0 0) (shape 3 6 ∷ [])  -- P8
    ∷ plans_to (changed D (Turn 2)) (shape 3 6) (rectangle 0 0 2 3 ∷ rectangle 0 3 3 3 ∷ [])
    ∷ slot_is (changed D (Change 1 (need 4 0 1))) 300 (0 ∷ 0 ∷ 0 ∷ 4 ∷ 3 ∷ [])  -- P9
    ∷ pairs_to (changed D (Change 1 (need 4 0 1))) (0 ∷ 0 ∷ 0 ∷ 4 ∷ 3 ∷ [])
    ∷ plans_to (changed D (Change 1 (need 4 0 1))) (shape 5 3) []
    ∷ has_none (changed D (Change 0 (need 2 3 0)))  -- P10
    ∷ lists four (corner 0 0) (shape 3 4 ∷ shape 4 3 ∷ [])  -- P11
    ∷ plans_to four (shape 3 4) (rectangle 0 0 3 4 ∷ [])
    ∷ reads (bytes_ending (2 ∷ 2 ∷ 0 ∷ [])) (refuse (BadToken 17))  -- P12
    ∷ []

unfoldable pub AllSay : List Example → Type 0
AllSay [] = Unit {0}
AllSay (e ∷ es) = Says e × AllSay es
