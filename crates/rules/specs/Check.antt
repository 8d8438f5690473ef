-- The checker's verdict, replies 12 to 14: rules 23 and 25 of docs/RULES.md.
use Rattle.std.specs.Prelude.{Bool, true, false, not, ◌&&◌, ◌||◌, List, ℕ, ◌+◌, ◌*◌, ◌<◌, leb, ltb, length, get_or, Ok, Err}
use Rattle.rules.specs.declared.Need.{Need}
use Rattle.rules.specs.declared.Rectangle.{Rectangle}
use Rattle.rules.specs.declared.Design.{Design}
use Rattle.rules.specs.declared.Direction.{Direction}
use Rattle.rules.specs.declared.Refusal.TheVariants.{TooShort, OffTheChip, ShortOfNeed, CutNotKept}
use Rattle.rules.specs.Answers.{Reply}
use Rattle.rules.specs.Search.{all, least}
use Rattle.rules.specs.Chip.{OnChip, rectangle, right, top, holds}
use Rattle.rules.specs.Tree.{Tree, leaf, cut, has}
use Rattle.rules.specs.Placement.{Placement, KeptAt, begins, ends}
use Rattle.rules.specs.Design.{need_at, SuitsOf, nodes, node_at, value_test, width_of, height_of}

-- a floorplan from its rows: "four bytes x, y, w, h for each module, in module order"
unfoldable pub from_rows : List ℕ → Placement
from_rows rows k =
    rectangle (get_or rows (4 * k) 0) (get_or rows (4 * k + 1) 0) (get_or rows (4 * k + 2) 0) (get_or rows (4 * k + 3) 0)

-- What the checker finds: module k has a rectangle on the chip that suits it
pub record Fine (d : Design) (p : Placement) (k : ℕ) : Type 0 where
  pub on_chip : OnChip (width_of d) (height_of d) (p k)
  pub suits : SuitsOf d k (p k)

-- "modules in order (12 before 13 for each), then cuts in token order": the first fault is module k off the chip, or on the chip and short of
-- its need; or all modules are fine, and cut t is the first that is not kept
pub record FirstOff (d : Design) (p : Placement) (k : ℕ) : Type 0 where
  pub below : k < d.modules
  pub before : (j : ℕ) → j < k → Fine d p j
  pub fault : OnChip (width_of d) (height_of d) (p k) → ⊥

pub record FirstShort (d : Design) (p : Placement) (k : ℕ) : Type 0 where
  pub below : k < d.modules
  pub before : (j : ℕ) → j < k → Fine d p j
  pub on_chip : OnChip (width_of d) (height_of d) (p k)
  pub fault : SuitsOf d k (p k) → ⊥

pub record FirstNotKept (d : Design) (p : Placement) (t : ℕ) : Type 0 where
  pub below : t < nodes d
  pub fine : (k : ℕ) → k < d.modules → Fine d p k
  pub before : (s : ℕ) → s < t → KeptAt p (node_at d s)
  pub fault : KeptAt p (node_at d t) → ⊥

-- the tests of a rectangle on the chip, of a suiting one, and of a cut that is kept
unfoldable pub is_on_chip : ℕ → ℕ → Rectangle → Bool
is_on_chip W H r = leb 1 r.shape.w.0 && leb 1 r.shape.h.0 && leb (right r) W && leb (top r) H

unfoldable pub is_at_most : Need → Need → Bool
is_at_most n m = leb n.clbs m.clbs && leb n.rams m.rams && leb n.multipliers m.multipliers

unfoldable pub is_kept : ℕ → Direction → Tree → Tree → Placement → Bool
is_kept m d l r p = all m (λ i. all m (λ j. not (has l i && has r j) || leb (ends d (p i)) (begins d (p j))))

abbrev pub kept_at : ℕ → Placement → Tree → Bool
kept_at m p (leaf t k) = true
kept_at m p (cut t d l r) = is_kept m d l r p

-- "modules in order (12 before 13 for each), then cuts in token order; it names the module (12, 13) or the token's position (14)"
unfoldable pub judged_cuts : Design → Placement → Reply
judged_cuts d p =
    let t = least (λ t. not (kept_at d.modules p (node_at d t))) (nodes d) 0 in
    elim (ltb t (nodes d)) [ true ↦ Err (CutNotKept t) | false ↦ (Ok tt) ]

abbrev pub is_on : Design → Rectangle → Bool
is_on d r = is_on_chip (width_of d) (height_of d) r

abbrev pub is_suited : Design → ℕ → Rectangle → Bool
is_suited d k r = is_at_most (need_at d k) (holds d.chip r)

unfoldable pub judged_rows : Design → Placement → Reply
judged_rows d p =
    let k = least (λ k. not (is_on d (p k) && is_suited d k (p k))) d.modules 0 in
    elim (ltb k d.modules) [
      | true ↦ elim (is_on d (p k)) [ true ↦ Err (ShortOfNeed k) | false ↦ Err (OffTheChip k) ]
      | false ↦ judged_cuts d p
    ]

-- the design's own tests first, then 8
abbrev pub after_tests : Reply → Reply → Reply
after_tests (Err e) next = Err e
after_tests (Ok tt) next = next

unfoldable pub verdict : Design → List ℕ → Reply
verdict d rows =
    after_tests (value_test d)
    (elim (leb (4 * d.modules) (length rows)) [ true ↦ judged_rows d (from_rows rows) | false ↦ Err TooShort ])
