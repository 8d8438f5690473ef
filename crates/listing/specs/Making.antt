-- What a pass over the nodes has made: of the first nodes the marked ones are listed, over the bytes as they then stand; the others stay.
use Rattle.std.specs.Prelude.{◌≡◌, Bool, false, List, ℕ, ◌≤◌, ◌<◌, length, get_or}
use Rattle.std.proofs.Math.Bool.{So}
use Rattle.rules.specs.declared.Corner.{Corner}
use Rattle.rules.specs.declared.Design.{Design}
use Rattle.rules.specs.Tree.{spans}
use Rattle.rules.specs.Slot.{IsListOf, FullLists, PastKept}
use Rattle.rules.specs.Design.{node_at, nodes, ListsOf, slot_rows, HasSlots, slots_of, LawfulDesign, OwnLists, width_of, height_of}
use Rattle.rules.specs.Edit.{Relists}
use Rattle.rules.specs.Service.{work_of}
use Rattle.slots.specs.Written.{NodeIs}
use Rattle.cuts.specs.declared.Cut.{Cut}
use Rattle.cuts.specs.Cut.{Cuttable}
use Rattle.scans.specs.Scan.{Scannable}
use Rattle.trees.specs.Positions.{LeftChildren}
use Rattle.listing.specs.declared.By.{By}
use Rattle.listing.specs.declared.By.TheVariants.{Scan}

-- what node t is listed from at a corner, over the bytes as they stand
abbrev pub IsListed : Design → ℕ → (ℕ → ℕ) → List ℕ → Corner → Type 0
IsListed d t bytes work c =
    IsListOf (width_of d) bytes (Relists (width_of d) (height_of d) (slot_rows d) (ListsOf d) work (node_at d t) c)

-- what a pass asks: a lawful design, its cuts' left children, and bytes enough
pub record Listable (d : Design) (children work : List ℕ) : Type 0 where
  pub lawful : LawfulDesign d
  pub lefts : LeftChildren d children
  pub bytes : work_of d ≤ length work

-- the nodes that are marked in an array
abbrev pub is_marked : List Bool → ℕ → Bool
is_marked marks t = get_or marks t false

-- Cuts may be listed by the scan where their children's slots are their own lists: where the nodes before one have theirs. A pass that lists every
-- node, child before parent, has that at each; an edit over a stranger's bytes has not.
abbrev pub ListsBelow : Design → ℕ → List ℕ → Type 0
ListsBelow d t work = FullLists (width_of d) (height_of d) (slot_rows d) (ListsOf d) (node_at d) t (slots_of d work)

abbrev pub MayScan : By → Design → ℕ → List ℕ → Type 0
MayScan by d t work = by ≡ Scan → ListsBelow d t work

abbrev pub MayScanAll : By → Design → List Bool → Type 0
MayScanAll by d marks = by ≡ Scan → (t : ℕ) → t < nodes d → So (is_marked marks t)

pub record CutReady (by : By) (cut : Cut) (work : List ℕ) : Type 0 where
  pub cuttable : Cuttable cut work
  pub scannable : by ≡ Scan → Scannable cut work

-- node t is listed from what stood before, and no other byte has changed
pub record NodeMade (d : Design) (t : ℕ) (before after : List ℕ) : Type 0 where
  pub slots : Corner → ℕ → ℕ
  pub written : NodeIs (width_of d) (slot_rows d) t slots before after
  pub listed : (c : Corner) → HasSlots d c → IsListed d t (slots c) before c

pub record Made (d : Design) (marked : ℕ → Bool) (done : ℕ) (before after : List ℕ) : Type 0 where
  pub long : length after ≡ length before
  pub made : (t : ℕ) → t < done → So (marked t) → (c : Corner) → HasSlots d c
      → IsListed d t (slots_of d after t c) after c
  pub kept : (t : ℕ) → t < nodes d → (t < done → So (marked t) → ⊥) → (c : Corner) → HasSlots d c
      → (j : ℕ) → j < width_of d → slots_of d after t c j ≡ slots_of d before t c j
  pub past : (i : ℕ) → work_of d ≤ i → get_or after i 0 ≡ get_or before i 0

-- the nodes on the way from a position up to the root
abbrev pub on_way : Design → ℕ → ℕ → Bool
on_way d at t = spans (node_at d t) at

-- all nodes are listed: the design's full lists stand in work, and the bytes past them stay
abbrev pub ListedAfresh : Design → List ℕ → List ℕ → Type 0
ListedAfresh d before after = PastKept (work_of d) before after × OwnLists d (slots_of d after)
