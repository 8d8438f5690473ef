-- How lists stand in the work bytes: rules 11 and 12 of docs/RULES.md.
use Rattle.std.specs.Prelude.{◌≡◌, ◌↔◌, List, ℕ, suc, ◌+◌, ◌-◌, ◌*◌, ◌≤◌, ◌<◌, length, get_or}
use Rattle.rules.specs.declared.Corner.{Corner}
use Rattle.rules.specs.declared.Shape.{Shape}
use Rattle.rules.specs.declared.Rectangle.{Rectangle}
use Rattle.rules.specs.Tree.{Tree}
use Rattle.rules.specs.Shape.{ShapeAt, Undominated}

-- Slots stand for the corners of the lowest R rows: of a design all H of them (`slot_rows` in Design.antt). R is counted apart from H,
-- which bounds what a shape may reach.

-- Rule 11: "Node t at corner (x, y) has a slot of W bytes starting at ((t·H + y)·W + x)·W."
abbrev pub slot_start : ℕ → ℕ → ℕ → Corner → ℕ
slot_start W R t c = ((t * R + c.y.0) * W + c.x.0) * W

-- Rule 11: "Work needs (2m-1)·H·W·W bytes": for n nodes
abbrev pub work_needed : ℕ → ℕ → ℕ → ℕ
work_needed W R n = n * R * W * W

-- byte j of the slot of node t at a corner
unfoldable pub slot : ℕ → ℕ → List ℕ → ℕ → Corner → ℕ → ℕ
slot W R work t c j = get_or work (slot_start W R t c + j) 0

-- a corner in the first so many columns and rows: on the chip, or among those that have slots
pub record CornerOn (W H : ℕ) (c : Corner) : Type 0 where
  pub column : c.x.0 < W
  pub row : c.y.0 < H

-- Rule 11: "Byte j of the slot is the height of the listed shape of width j+1, or 0 where there is none": the slot holds this shape.
pub record Stores (W : ℕ) (bytes : ℕ → ℕ) (s : Shape) : Type 0 where
  pub wide : 1 ≤ s.w.0
  pub within : s.w.0 ≤ W
  pub high : 1 ≤ s.h.0
  pub byte : bytes (s.w.0 - 1) ≡ s.h.0

-- the slot holds no shape
abbrev pub Empty : ℕ → (ℕ → ℕ) → Type 0
Empty W bytes = (s : Shape) → Stores W bytes s → ⊥

-- the slot's bytes are the list of these shapes: it holds exactly those that no other dominates
abbrev pub IsListOf : ℕ → (ℕ → ℕ) → (Shape → Type 0) → Type 0
IsListOf W bytes P = (s : Shape) → Stores W bytes s ↔ Undominated P s

-- the slots of a tree are its lists, at every corner that has slots; the full lists of the nodes below n
abbrev pub ListsAt : ℕ → ℕ → ℕ → (ℕ → Rectangle → Type 0) → (Corner → ℕ → ℕ) → Tree → Type 0
ListsAt W H R Lists slots t = (c : Corner) → CornerOn W R c → IsListOf W (slots c) (ShapeAt W H Lists t c)

abbrev pub FullLists : ℕ → ℕ → ℕ → (ℕ → Rectangle → Type 0) → (ℕ → Tree) → ℕ → (ℕ → Corner → ℕ → ℕ) → Type 0
FullLists W H R Lists node n slots = (t : ℕ) → t < n → ListsAt W H R Lists (slots t) (node t)

-- Rule 11: "bytes after them are never touched"
pub record PastKept (size : ℕ) (before after : List ℕ) : Type 0 where
  pub length : length after ≡ length before
  pub past : (i : ℕ) → size ≤ i → get_or after i 0 ≡ get_or before i 0

-- Rule 12: "A slot is a stair if its nonzero bytes fall strictly, none exceeds H-y, and none stands at a width over W-x."
pub record Stair (W H : ℕ) (c : Corner) (bytes : ℕ → ℕ) : Type 0 where
  pub fall : (i j : ℕ) → i < j → j < W → 1 ≤ bytes i → 1 ≤ bytes j → bytes j < bytes i
  pub rows : (j : ℕ) → j < W → bytes j ≤ H - c.y.0
  pub columns : (j : ℕ) → j < W → W - c.x.0 < suc j → bytes j ≡ 0

-- every slot of every node is a stair
abbrev pub Stairs : ℕ → ℕ → ℕ → ℕ → (ℕ → Corner → ℕ → ℕ) → Type 0
Stairs W H R n slots = (t : ℕ) (c : Corner) → t < n → CornerOn W R c → Stair W H c (slots t c)
