-- Demand 2: "From a chip, the modules' needs and a slicing tree it works by the definitions of the 2004 paper on irreducible realization
-- lists." Those definitions are rules/specs/Shape.antt's. The sentences that follow it are stated here.
use Rattle.std.specs.Prelude.{◌≡◌, ◌↔◌, List, ℕ, ◌≤◌, ◌<◌, length, take}
use Rattle.rules.specs.declared.Corner.{Corner}
use Rattle.rules.specs.declared.Shape.{Shape}
use Rattle.rules.specs.declared.Design.{Design}
use Rattle.rules.specs.Answers.{Reply, Written, Planned}
use Rattle.rules.specs.declared.Handed.{Handed}
use Rattle.rules.specs.Chip.{OnChip}
use Rattle.rules.specs.Placement.{Placement, Follows, Covers, box, area}
use Rattle.rules.specs.Shape.{ShapeAt, Dominates}
use Rattle.rules.specs.Slot.{Stores, CornerOn}
use Rattle.rules.specs.Design.{LawfulDesign, LawfulPlacement, SameDesign, SuitsOf, ListsOf, nodes, node_at, root, slots_of, OwnLists, width_of, height_of}
use Rattle.rules.specs.Bytes.{AreBytes, design_bytes}
use Rattle.rules.specs.Check.{from_rows}
use Rattle.rules.specs.Reply.{Answer, plainly, answer, written_answer, planned_answer}
use Rattle.rules.specs.Service.{Enough, work_of, rows_of}
use Rattle.promises.specs.Services.{Services}

-- "Each list is complete, sorted and free of dominated shapes": the slot of node t at a corner holds shapes of the node there; for each such
-- shape one that dominates it; "widths rising, heights falling"; and none that another dominates.
pub record GoodList (d : Design) (t : ℕ) (c : Corner) (bytes : ℕ → ℕ) : Type 0 where
  pub shapes : (s : Shape) → Stores (width_of d) bytes s → ShapeAt (width_of d) (height_of d) (ListsOf d) (node_at d t) c s
  pub complete : (s : Shape) → ShapeAt (width_of d) (height_of d) (ListsOf d) (node_at d t) c s
      → (o : Shape) × Stores (width_of d) bytes o × Dominates o s
  pub sorted : (s o : Shape) → Stores (width_of d) bytes s → Stores (width_of d) bytes o → s.w.0 < o.w.0
      → o.h.0 < s.h.0
  pub undominated : (s o : Shape) → Stores (width_of d) bytes s
      → ShapeAt (width_of d) (height_of d) (ListsOf d) (node_at d t) c o → Dominates o s → o ≡ s

-- of every node, at every corner of the chip
abbrev pub GoodLists : Design → List ℕ → Type 0
GoodLists d work = (t : ℕ) (c : Corner) → t < nodes d → CornerOn (width_of d) (height_of d) c
    → GoodList d t c (slots_of d work t c)

-- "no placement on the chip follows the tree and meets every need"
abbrev pub NoPlacement : Design → Type 0
NoPlacement d = (p : Placement) → LawfulPlacement d p → ⊥

-- "the rectangles follow it, lie on the chip, meet the needs and share no cell, and no such placement has a box of smaller area drawn from the
-- chip's lower left corner"; the box replied is theirs
pub record GoodPlan (d : Design) (s : Shape) (rows : List ℕ) : Type 0 where
  pub follow : Follows (root d) (from_rows rows)
  pub on_chip : (k : ℕ) → k < d.modules → OnChip (width_of d) (height_of d) (from_rows rows k)
  pub meet : (k : ℕ) → k < d.modules → SuitsOf d k (from_rows rows k)
  pub apart : (i j x y : ℕ) → i < d.modules → j < d.modules → Covers (from_rows rows i) x y
      → Covers (from_rows rows j) x y → i ≡ j
  pub smallest : (q : Placement) → LawfulPlacement d q → area s ≤ area (box (root d) q)
  pub boxed : s ≡ box (root d) (from_rows rows)

-- "For a lawful design with enough room lent, "no placement" is said exactly if no placement .. Otherwise the rectangles .."
pub record PlannedWell (d : Design) (a : Answer) (rows : List ℕ) : Type 0 where
  pub none : (a.number ≡ 10) ↔ NoPlacement d
  pub otherwise : (a.number ≡ 10 → ⊥) → (a.number ≡ 0) × GoodPlan d a.box rows

pub record Demand2 (S : Services) : Type 0 where
  -- "Each list is complete, sorted and free of dominated shapes", after list and after plan (after edits: demand 3)
  pub listed : (d : Design) (before after : List ℕ) (r : Reply) → S.list d before r after
      → LawfulDesign d → work_of d ≤ length before → ((answer r).number ≡ 0) × GoodLists d after
  pub plan_listed : (d : Design) (before rows after rows' : List ℕ) (r : Planned) → S.plan d before rows r after rows'
      → Enough d before rows → GoodLists d after
  -- the floorplan, from plan, and from place over the design's own lists ("10 and least area from place are promised only over this design's own lists")
  pub planned : (d : Design) (before rows after rows' : List ℕ) (r : Planned) → S.plan d before rows r after rows'
      → Enough d before rows → PlannedWell d (planned_answer r) rows'
  pub placed : (d : Design) (work rows rows' : List ℕ) (r : Planned) → S.place d work rows r rows'
      → Enough d work rows → OwnLists d (slots_of d work) → PlannedWell d (planned_answer r) rows'
  -- "The separate checker passes exactly the lawful placements."
  pub checked : (d : Design) (rows : List ℕ) (r : Reply) → S.check d rows r
      → LawfulDesign d → rows_of d ≤ length rows → ((answer r).number ≡ 0) ↔ LawfulPlacement d (from_rows rows)
  -- "Given room, accepted bytes, written again, are the same bytes"
  pub bytes_again : (s before after : List ℕ) (r : Handed) (w : Written) → AreBytes s → S.read s r
      → (answer r.reply).number ≡ 0
      → S.write r.design before w after → length s ≤ length before
      → (written_answer w ≡ plainly 0 (length s)) × (take (length s) after ≡ s)
  -- "a lawful design, written and read, is the same design"
  pub design_again : (d : Design) (before after : List ℕ) (w : Written) (r : Handed) → LawfulDesign d
      → S.write d before w after
      → length (design_bytes d) ≤ length before → S.read (take (written_answer w).value after) r
      → ((answer r.reply).number ≡ 0) × SameDesign d r.design
