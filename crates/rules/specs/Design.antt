-- The design as a value: the limits (rule 5 of docs/RULES.md), the tree of its tokens, and its tests in file order (rule 22).
use Rattle.std.specs.Prelude.{◌≡◌, Bool, true, false, not, ◌&&◌, List, [], ◌∷◌, ℕ, suc, ◌-◌, ◌*◌, ◌<◌, leb, eqb, length, get_or, Ok, Err}
use Rattle.rules.specs.declared.Need.{Need}
use Rattle.rules.specs.declared.Corner.{Corner}
use Rattle.rules.specs.declared.Shape.{Shape}
use Rattle.rules.specs.declared.Rectangle.{Rectangle}
use Rattle.rules.specs.declared.Chip.{Chip}
use Rattle.rules.specs.declared.Design.{Design}
use Rattle.rules.specs.declared.Token.{Token}
use Rattle.rules.specs.declared.Refusal.TheVariants.{BreaksLimits, BadToken, NotOneThing}
use Rattle.rules.specs.Answers.{Reply}
use Rattle.rules.specs.Search.{all}
use Rattle.rules.specs.Chip.{corner, kind_at, Suits, SameChip}
use Rattle.rules.specs.Tree.{Tree, Standing, refused, things, token_of, standing, last}
use Rattle.rules.specs.Placement.{Placement, Lawful}
use Rattle.rules.specs.Slot.{slot, Empty, CornerOn, Stairs, FullLists}
use Rattle.rules.specs.Choice.{Chosen, Down}

-- Rule 5: "Limits: W 1..64, H 1..64, B 1..H, kinds 0..2, modules m 1..16, each of a need's three numbers 0..65,535, not all three
-- zero." The numbers are said here alone, and no law names them.
abbrev pub most_columns : ℕ
most_columns = 64

abbrev pub most_rows : ℕ
most_rows = 64

abbrev pub last_kind : ℕ
last_kind = 2

abbrev pub most_modules : ℕ
most_modules = 16

-- "2m-1 tokens", of the most modules
abbrev pub most_tokens : ℕ
most_tokens = 2 * most_modules - 1

abbrev pub most_number : ℕ
most_number = 65535

-- A design's places: each of its three lists is as long as the array that it is. Every contract says so of the design that it speaks of.
pub record Sized (d : Design) : Type 0 where
  pub kinds : length d.chip.kinds ≡ most_columns
  pub needs : length d.needs ≡ most_modules
  pub tokens : length d.tokens ≡ most_tokens

-- W and H of a design's chip, and what stands in its places. Those beyond m and 2m-1 are ignored.
abbrev pub width_of : Design → ℕ
width_of d = d.chip.width.0

abbrev pub height_of : Design → ℕ
height_of d = d.chip.height.0

abbrev pub no_need : Need
no_need = record { clbs = 0; rams = 0; multipliers = 0 }

abbrev pub need_at : Design → ℕ → Need
need_at d k = get_or d.needs k no_need

abbrev pub token_in : List ℕ → ℕ → Token
token_in tokens t = token_of most_modules (get_or tokens t 0)

abbrev pub token_at : Design → ℕ → Token
token_at d t = token_in d.tokens t

-- the design with another chip, other modules, other needs, or other tokens
abbrev pub with_chip : Design → Chip → Design
with_chip d chip = record { chip = chip; modules = d.modules; needs = d.needs; tokens = d.tokens }

abbrev pub with_modules : Design → ℕ → List Need → Design
with_modules d m needs = record { chip = d.chip; modules = m; needs = needs; tokens = d.tokens }

abbrev pub with_needs : Design → List Need → Design
with_needs d needs = with_modules d d.modules needs

abbrev pub with_tokens : Design → List ℕ → Design
with_tokens d tokens = record { chip = d.chip; modules = d.modules; needs = d.needs; tokens = tokens }

-- "2m-1 tokens", one for each node
abbrev pub nodes : Design → ℕ
nodes d = 2 * d.modules - 1

unfoldable pub in_range : ℕ → ℕ → ℕ → Bool
in_range low most n = leb low n && leb n most

abbrev pub lawful_kind : ℕ → Bool
lawful_kind k = leb k last_kind

unfoldable pub lawful_need : Need → Bool
lawful_need n =
    leb n.clbs most_number && leb n.rams most_number && leb n.multipliers most_number
    && not (eqb n.clbs 0 && eqb n.rams 0 && eqb n.multipliers 0)

-- a chip, and a design, within the limits
unfoldable pub lawful_chip : Chip → Bool
lawful_chip C =
    in_range 1 most_columns C.width.0 && in_range 1 most_rows C.height.0 && in_range 1 C.height.0 C.block.0
    && all C.width.0 (λ x. lawful_kind (kind_at C x))

unfoldable pub within_limits : Design → Bool
within_limits d =
    lawful_chip d.chip && in_range 1 most_modules d.modules && all d.modules (λ k. lawful_need (need_at d k))

-- What suits a design's modules (rule 4): "A rectangle suits it if it holds at least that many of each."
abbrev pub SuitsOf : Design → ℕ → Rectangle → Type 0
SuitsOf d k r = Suits d.chip (need_at d k) r

-- What its leaves list, and what its modules are given. A leaf lists the rooms in which the module can stand, and the
-- module is given a rectangle in its room. The rules as they are make the two one: a room is listed exactly if it suits
-- ("whose rectangle from (x, y) is on the chip and suits the need"), and the whole of it is given ("A leaf's rectangle is
-- its shape at its corner"). No law may use that: the laws are told what proofs/Suiting.antt shows of a design's leaves.
unfoldable pub ListsOf : Design → ℕ → Rectangle → Type 0
ListsOf d k r = SuitsOf d k r

unfoldable pub given_for : Design → ℕ → Rectangle → Rectangle
given_for d k r = r

-- The tree of a design: what stands after the first n tokens; node t is what then stands last; "the last is the root"
abbrev pub standing_of : Design → ℕ → Standing
standing_of d n = standing d.modules (token_at d) n

abbrev pub node_at : Design → ℕ → Tree
node_at d t = last (standing_of d (suc t))

abbrev pub root : Design → Tree
root d = last (standing_of d (nodes d))

-- a lawful placement of the design
abbrev pub LawfulPlacement : Design → Placement → Type 0
LawfulPlacement d p = Lawful (width_of d) (height_of d) (SuitsOf d) (root d) p

-- how many rows have slots: all of the chip's. It is said here alone.
unfoldable pub slot_rows : Design → ℕ
slot_rows d = height_of d

-- the corners that have slots; the slots of a design's nodes in work bytes; slots that are all stairs; slots that are the design's
-- full lists
abbrev pub HasSlots : Design → Corner → Type 0
HasSlots d c = CornerOn (width_of d) (slot_rows d) c

abbrev pub slots_of : Design → List ℕ → ℕ → Corner → ℕ → ℕ
slots_of d work = slot (width_of d) (slot_rows d) work

abbrev pub AllStairs : Design → (ℕ → Corner → ℕ → ℕ) → Type 0
AllStairs d slots = Stairs (width_of d) (height_of d) (slot_rows d) (nodes d) slots

abbrev pub OwnLists : Design → (ℕ → Corner → ℕ → ℕ) → Type 0
OwnLists d slots = FullLists (width_of d) (height_of d) (slot_rows d) (ListsOf d) (node_at d) (nodes d) slots

-- going down from a shape of the root at (0, 0)
abbrev pub root_slot : Design → (ℕ → Corner → ℕ → ℕ) → ℕ → ℕ
root_slot d slots = slots (nodes d - 1) (corner 0 0)

-- in work, the root's list at (0, 0) is empty; this shape of it is chosen
abbrev pub NoShapeIn : Design → List ℕ → Type 0
NoShapeIn d work = Empty (width_of d) (root_slot d (slots_of d work))

abbrev pub ChosenIn : Design → List ℕ → Shape → Type 0
ChosenIn d work s = Chosen (width_of d) (root_slot d (slots_of d work)) s

abbrev pub GoesDown : Design → (ℕ → Corner → ℕ → ℕ) → Shape → Placement → Type 0
GoesDown d slots s p = Down (width_of d) (height_of d) (SuitsOf d) (given_for d) slots (root d) (corner 0 0) s p

-- 5: "token over m+1, module repeated, or cut with fewer than two things standing"; 6: "tokens used up and not exactly one
-- thing stands"
abbrev pub tree_test : Standing → Reply
tree_test refused = Err (BadToken 0)
tree_test (things []) = Err (NotOneThing 0)
tree_test (things (t ∷ [])) = (Ok tt)
tree_test (things (t ∷ (u ∷ ts))) = Err (NotOneThing 0)

-- Rule 22: "A design handed over as a value is tested first by the same limits and tree rules, in file order, with 4, 5 or 6 at
-- position 0."
unfoldable pub value_test : Design → Reply
value_test d = elim (within_limits d) [ true ↦ tree_test (standing_of d (nodes d)) | false ↦ Err (BreaksLimits 0) ]

-- a lawful design
abbrev pub LawfulDesign : Design → Type 0
LawfulDesign d = value_test d ≡ (Ok tt)

-- Rule 22: "Places beyond W, m and 2m-1 in it are ignored, also when two designs are called the same."
pub record SameDesign (d e : Design) : Type 0 where
  pub chip : SameChip d.chip e.chip
  pub modules : d.modules ≡ e.modules
  pub needs : (k : ℕ) → k < d.modules → need_at d k ≡ need_at e k
  pub tokens : (t : ℕ) → t < nodes d → get_or d.tokens t 0 ≡ get_or e.tokens t 0
