-- Going down node by node, from the root, which stands last, to the first token; a parent stands after its children.
use Rattle.std.specs.Prelude.{◌≡◌, Bool, true, false, List, ℕ, zero, suc, ◌+◌, ◌-◌, ◌<◌, ltb, get_or, set, replicate, Option, Some, None, IfSome, is_some}
use Rattle.std.specs.Option.{option_and_then}
use Rattle.rules.specs.declared.Corner.{Corner}
use Rattle.rules.specs.declared.Shape.{Shape}
use Rattle.rules.specs.declared.Rectangle.{Rectangle}
use Rattle.rules.specs.declared.Direction.{Direction}
use Rattle.rules.specs.declared.Token.{Token}
use Rattle.rules.specs.declared.Token.TheVariants.{Cut, Module, Beyond}
use Rattle.rules.specs.declared.Design.{Design}
use Rattle.rules.specs.Chip.{corner, rectangle}
use Rattle.rules.specs.Choice.{beside}
use Rattle.rules.specs.Design.{most_tokens, most_modules, token_in, nodes, root, LawfulDesign}
use Rattle.rules.proofs.Test.{goes_down, laid}
use Rattle.slots.specs.declared.Board.{Board}
use Rattle.slots.specs.Lent.{OnBoard}
use Rattle.trees.specs.Positions.{LeftChildren}
use Rattle.choosing.specs.declared.Pair.{Pair}
use Rattle.choosing.specs.declared.Descent.{Descent}
use Rattle.choosing.specs.Choose.{pair_in}

-- no rectangle yet; the rectangle that a node has been given, and that a module has
abbrev pub nowhere : Rectangle
nowhere = rectangle 0 0 0 0

abbrev pub room_of : Descent → ℕ → Rectangle
room_of e t = get_or e.rooms t nowhere

abbrev pub place_of : List Rectangle → ℕ → Rectangle
place_of places k = get_or places k nowhere

-- the root of n nodes has its shape at (0, 0)
unfoldable pub first_descent : ℕ → Shape → Descent
first_descent n s = record {
  rooms = set (replicate most_tokens nowhere) (n - 1) (record { corner = corner 0 0; shape = s });
  places = replicate most_modules nowhere;
}

-- "A leaf's rectangle is its shape at its corner."
abbrev pub down_leaf : ℕ → ℕ → Descent → Descent
down_leaf k t e = record { rooms = e.rooms; places = set e.places k (room_of e t) }

-- two nodes get their rectangles: the children of a cut, at positions l and r, those of its pair
abbrev pub given_rooms : ℕ → Rectangle → ℕ → Rectangle → Descent → Descent
given_rooms l a r b e = record { rooms = set (set e.rooms l a) r b; places = e.places }

abbrev pub down_pair : Direction → ℕ → ℕ → Corner → Option Pair → Descent → Option Descent
down_pair d l r c (Some p) e =
    Some (given_rooms l (record { corner = c; shape = p.left }) r (record { corner = beside d c p.left; shape = p.right }) e)
down_pair d l r c None e = None

-- the right child of the cut at position t stands just before it, its left child, at position l, before that
unfoldable pub down_cut : Board → (ℕ → Corner → ℕ → ℕ) → Direction → ℕ → ℕ → Descent → Option Descent
down_cut board slots d l t e =
    let c = (room_of e t).corner in
    elim (ltb (l + 1) t) [
      | true ↦ down_pair d l (t - 1) c (pair_in board slots d l (t - 1) c (room_of e t).shape) e
      | false ↦ None
    ]

-- going down at node t, and at the nodes t - 1, .., 0: a cut may have no pair, or a token be none
abbrev pub down_token : Board → (ℕ → Corner → ℕ → ℕ) → Token → ℕ → ℕ → Descent → Option Descent
down_token board slots (Cut d) l t e = down_cut board slots d l t e
down_token board slots (Module k) l t e = Some (down_leaf k t e)
down_token board slots Beyond l t e = None

abbrev pub down_node : Board → (ℕ → Corner → ℕ → ℕ) → List ℕ → List ℕ → ℕ → Descent → Option Descent
down_node board slots tokens lefts t e = down_token board slots (token_in tokens t) (get_or lefts t 0) t e

unfoldable pub descended : Board → (ℕ → Corner → ℕ → ℕ) → List ℕ → List ℕ → ℕ → Descent → Option Descent
descended board slots tokens lefts zero e = Some e
descended board slots tokens lefts (suc t) e =
    option_and_then (descended board slots tokens lefts t) (down_node board slots tokens lefts t e)

-- every corner given is one of the chip
pub record Settled (board : Board) (e : Descent) : Type 0 where
  pub on : (t : ℕ) → OnBoard board (room_of e t).corner

-- going down with no test of the leaves
abbrev pub any_suits : ℕ → Rectangle → Bool
any_suits k r = true

-- what going down from the root's shape at (0, 0) gives of a design: every cut has a pair, and then each module its rectangle
pub record LaidOut (board : Board) (slots : ℕ → Corner → ℕ → ℕ) (d : Design) (s : Shape) (r : Option (List Rectangle)) : Type 0 where
  pub ok : is_some r ≡ goes_down board.width.0 board.height.0 any_suits slots (root d) (corner 0 0) s
  pub places : IfSome r (λ ps. (k : ℕ) → k < d.modules
      → place_of ps k ≡ laid board.width.0 board.height.0 slots (root d) (corner 0 0) s k)

-- of any lawful design with these n tokens and left children
abbrev pub LaysOut : Board → (ℕ → Corner → ℕ → ℕ) → List ℕ → List ℕ → ℕ → Shape → Option (List Rectangle) → Type 0
LaysOut board slots tokens lefts n s r =
    (d : Design) → LawfulDesign d → d.tokens ≡ tokens → nodes d ≡ n → LeftChildren d lefts → LaidOut board slots d s r
