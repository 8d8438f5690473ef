-- Edits: rules 16 and 17 of docs/RULES.md.
use Rattle.std.specs.Prelude.{◌≡◌, Bool, ◌&&◌, List, ℕ, ◌<◌, ltb, set}
use Rattle.std.proofs.Math.Bool.{So}
use Rattle.rules.specs.declared.Corner.{Corner}
use Rattle.rules.specs.declared.Shape.{Shape}
use Rattle.rules.specs.declared.Rectangle.{Rectangle}
use Rattle.rules.specs.declared.Direction.{Direction}
use Rattle.rules.specs.declared.Direction.TheVariants.{Vertical, Horizontal}
use Rattle.rules.specs.declared.Token.{Token}
use Rattle.rules.specs.declared.Token.TheVariants.{Cut, Module, Beyond}
use Rattle.rules.specs.declared.Design.{Design}
use Rattle.rules.specs.declared.Edit.{Edit}
use Rattle.rules.specs.declared.Edit.TheVariants.{Change, Turn}
use Rattle.rules.specs.Search.{least}
use Rattle.rules.specs.Chip.{OnChip}
use Rattle.rules.specs.Tree.{Tree, leaf, cut, position, spans, number_of, is_cut, is_module}
use Rattle.rules.specs.Shape.{ShapeAt}
use Rattle.rules.specs.Slot.{slot, work_needed, CornerOn, IsListOf, PastKept}
use Rattle.rules.specs.Choice.{Pair}
use Rattle.rules.specs.Design.{width_of, height_of, with_needs, with_tokens, nodes, lawful_need, node_at, ListsOf, most_modules, token_at, slot_rows}

-- The edit names a module and brings a lawful need, or names a cut; otherwise it is refused with 11.
unfoldable pub names_place : Design → Edit → Bool
names_place d (Change k n) = ltb k d.modules && lawful_need n
names_place d (Turn t) = ltb t (nodes d) && is_cut (token_at d t)

-- Rule 16: "turn the cut at position t into the other kind"; only a cut is turned
abbrev pub other : Direction → Direction
other Vertical = Horizontal
other Horizontal = Vertical

abbrev pub turned : Token → Token
turned (Cut d) = Cut (other d)
turned (Module k) = Module k
turned Beyond = Beyond

-- Rule 16: "hands the design back with that one change": the need of module k, or the cut at position t turned into the other kind
unfoldable pub changed : Design → Edit → Design
changed d (Change k n) = with_needs d (set d.needs k n)
changed d (Turn t) = with_tokens d (set d.tokens t (number_of most_modules (turned (token_at d t))))

-- the position of module k's leaf
abbrev pub module_position : Design → ℕ → ℕ
module_position d k = least (λ t. is_module k (token_at d t)) (nodes d) 0

-- the changed node: the cut itself, or module k's leaf
unfoldable pub changed_node : Design → Edit → ℕ
changed_node d (Change k n) = module_position d k
changed_node d (Turn t) = t

-- "all pairings of the children's stored shapes in the pattern above .. that fit on the chip"
pub record Paired (W H : ℕ) (d : Direction) (lefts rights : Corner → ℕ → ℕ) (c : Corner) (whole : Shape) : Type 0 where
  pub s : Shape
  pub o : Shape
  pub pair : Pair W H d lefts rights c s o whole
  pub fits : OnChip W H (record { corner = c; shape = whole })

-- Rule 17: "A changed leaf is relisted from its need. A cut's slot becomes the undominated ones among all pairings": what a node's
-- slot is the list of, over the bytes as they then stand.
abbrev pub Relists : ℕ → ℕ → ℕ → (ℕ → Rectangle → Type 0) → List ℕ → Tree → Corner → Shape → Type 0
Relists W H R Lists work (leaf t k) c = ShapeAt W H Lists (leaf t k) c
Relists W H R Lists work (cut t d l r) c = Paired W H d (slot W R work (position l)) (slot W R work (position r)) c

-- Rule 17: "relists the changed node and each node above it": those whose tree spans the changed position. All other bytes stand.
pub record Relisted (W H R : ℕ) (Lists : ℕ → Rectangle → Type 0) (node : ℕ → Tree) (n at : ℕ) (before after : List ℕ)
    : Type 0 where
  pub way : (t : ℕ) (c : Corner) → t < n → CornerOn W R c → So (spans (node t) at)
      → IsListOf W (slot W R after t c) (Relists W H R Lists after (node t) c)
  pub off : (t : ℕ) (c : Corner) → t < n → CornerOn W R c → (So (spans (node t) at) → ⊥)
      → (j : ℕ) → j < W → slot W R after t c j ≡ slot W R before t c j
  pub past : PastKept (work_needed W R n) before after

-- the bytes that an edit leaves for the design that it hands back
abbrev pub EditedLists : Design → Edit → List ℕ → List ℕ → Type 0
EditedLists d e =
    Relisted (width_of d) (height_of d) (slot_rows d) (ListsOf (changed d e)) (node_at (changed d e))
    (nodes d) (changed_node d e)
