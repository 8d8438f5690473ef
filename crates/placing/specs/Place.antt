-- One floorplan from stored lists: what each step asks for, and the answer by its outcomes.
use Rattle.std.specs.Prelude.{◌≡◌, List, ◌++◌, ℕ, ◌≤◌, ◌<◌, ◌*◌, length, drop, Option, IfSome, is_some, Ok, Err}
use Rattle.rules.specs.declared.Corner.{Corner}
use Rattle.rules.specs.declared.Shape.{Shape}
use Rattle.rules.specs.declared.Rectangle.{Rectangle}
use Rattle.rules.specs.declared.Design.{Design}
use Rattle.rules.specs.declared.Refusal.TheVariants.{Unreliable, NoPlacement}
use Rattle.rules.specs.Answers.{Planned}
use Rattle.rules.specs.Chip.{OnChip}
use Rattle.rules.specs.Placement.{Placement}
use Rattle.rules.specs.Slot.{Stores}
use Rattle.rules.specs.Choice.{rows_out}
use Rattle.rules.specs.Design.{most_columns, most_rows, most_modules, given_for, LawfulDesign, slots_of, AllStairs, root_slot, GoesDown, width_of, height_of, NoShapeIn, ChosenIn}
use Rattle.rules.specs.Service.{work_of, rows_of}
use Rattle.rules.proofs.Test.{goes_for, laid_for}
use Rattle.choosing.specs.Descend.{place_of}

-- the places of the first m modules are on a chip
pub record PlacesOn (W H m : ℕ) (places : List Rectangle) : Type 0 where
  pub on : (k : ℕ) → k < m → OnChip W H (place_of places k)

-- a lawful design, all slots of its nodes in work are stairs, and the root's at (0, 0) stores this shape
pub record FromStairs (d : Design) (work : List ℕ) (s : Shape) : Type 0 where
  pub lawful : LawfulDesign d
  pub bytes : work_of d ≤ length work
  pub stairs : AllStairs d (slots_of d work)
  pub stored : Stores (width_of d) (root_slot d (slots_of d work)) s

-- the places are the rectangles that the modules are given for these rooms
abbrev pub GivenIn : Design → List Rectangle → List Rectangle → Type 0
GivenIn d rooms places = (k : ℕ) → k < d.modules → place_of places k ≡ given_for d k (place_of rooms k)

-- what going down from the root's shape at (0, 0) gives, where what the modules are given has to suit
pub record WentDown (d : Design) (slots : ℕ → Corner → ℕ → ℕ) (s : Shape) (r : Option (List Rectangle)) : Type 0 where
  pub ok : is_some r ≡ goes_for d slots s
  pub places : IfSome r (λ ps. (k : ℕ) → k < d.modules → place_of ps k ≡ laid_for d slots s k)
  pub chip : IfSome r (λ ps. PlacesOn (width_of d) (height_of d) d.modules ps)

-- what rows out asks: places of so many modules on the largest chip, and "four bytes" lent for each
pub record RowsLent (m : ℕ) (places : List Rectangle) (rows : List ℕ) : Type 0 where
  pub few : m ≤ most_modules
  pub bytes : 4 * m ≤ length rows
  pub on : PlacesOn most_columns most_rows m places

-- the answer over lists that are all stairs, with room enough: the root's list is empty, or going down from its chosen shape fails, or
-- it gives the floorplan
pub record PlacedFrom (d : Design) (work rows : List ℕ) (r : Planned) (rows' : List ℕ) : Type 0 where
  pub none : NoShapeIn d work → (r ≡ Err NoPlacement) × (rows' ≡ rows)
  pub lost : (s : Shape) → ChosenIn d work s → ((p : Placement) → GoesDown d (slots_of d work) s p → ⊥)
      → (r ≡ Err Unreliable) × (rows' ≡ rows)
  pub done : (s : Shape) (p : Placement) → ChosenIn d work s → GoesDown d (slots_of d work) s p
      → (r ≡ Ok s) × (rows' ≡ rows_out d.modules p ++ drop (rows_of d) rows)
