-- The tree: rule 6 of docs/RULES.md.
use Rattle.std.specs.Prelude.{Bool, true, false, not, ◌&&◌, ◌||◌, List, [], ◌∷◌, ℕ, zero, suc, ◌+◌, ltb, eqb}
use Rattle.rules.specs.declared.Direction.{Direction}
use Rattle.rules.specs.declared.Direction.TheVariants.{Vertical, Horizontal}
use Rattle.rules.specs.declared.Token.{Token}
use Rattle.rules.specs.declared.Token.TheVariants.{Cut, Module, Beyond}

-- A leaf has a position and a module; a cut has a position, a direction, a left child and a right child.
pub data Tree : Type 0 where
  leaf : ℕ → ℕ → Tree
  cut : ℕ → Direction → Tree → Tree → Tree

-- "Node t is the token at position t": a tree's own position is that of its last token
abbrev pub position : Tree → ℕ
position (leaf t k) = t
position (cut t d l r) = t

-- module k stands in the tree
unfoldable pub has : Tree → ℕ → Bool
has (leaf t j) k = eqb k j
has (cut t d l r) k = has l k || has r k

-- position p is one of the tree's
unfoldable pub spans : Tree → ℕ → Bool
spans (leaf t k) p = eqb p t
spans (cut t d l r) p = eqb p t || (spans l p || spans r p)

-- Rule 6: "0 is a vertical cut, 1 a horizontal cut, k+2 is module k", for modules below a bound
abbrev pub token_of : ℕ → ℕ → Token
token_of most zero = Cut Vertical
token_of most (suc zero) = Cut Horizontal
token_of most (suc (suc k)) = elim (ltb k most) [ true ↦ Module k | false ↦ Beyond ]

-- The number that a token is written as, the first one beyond where it names no module: `token_of` undoes it.
abbrev pub number_of : ℕ → Token → ℕ
number_of most (Cut Vertical) = 0
number_of most (Cut Horizontal) = 1
number_of most (Module k) = k + 2
number_of most Beyond = most + 2

-- a cut's token; module k's
abbrev pub is_cut : Token → Bool
is_cut (Cut d) = true
is_cut (Module k) = false
is_cut Beyond = false

abbrev pub is_module : ℕ → Token → Bool
is_module k (Cut d) = false
is_module k (Module j) = eqb j k
is_module k Beyond = false

-- What stands after some tokens, the last thing first; or a token was refused.
pub data Standing : Type 0 where
  refused : Standing
  things : List Tree → Standing

unfoldable pub stands : List Tree → ℕ → Bool
stands [] k = false
stands (t ∷ ts) k = has t k || stands ts k

-- Rule 6: "A cut joins the two things standing last, the earlier being its left child." With fewer than two it is refused.
unfoldable pub joined : ℕ → Direction → List Tree → Standing
joined t d [] = refused
joined t d (r ∷ []) = refused
joined t d (r ∷ (l ∷ ts)) = things (cut t d l r ∷ ts)

-- Rule 6: "Each module stands once." There are m of them, so a token over m+1 is refused, and a module repeated.
unfoldable pub added : ℕ → ℕ → ℕ → List Tree → Standing
added m t k ts = elim (ltb k m && not (stands ts k)) [ true ↦ things (leaf t k ∷ ts) | false ↦ refused ]

-- the token at position t, over what stands
abbrev pub after : ℕ → ℕ → Token → List Tree → Standing
after m t (Cut d) ts = joined t d ts
after m t (Module k) ts = added m t k ts
after m t Beyond ts = refused

-- what stands after the first n tokens
unfoldable pub standing : ℕ → (ℕ → Token) → ℕ → Standing
standing m token zero = things []
standing m token (suc n) = elim (standing m token n) [ refused ↦ refused | things ts ↦ after m n (token n) ts ]

-- what stands last
abbrev pub last : Standing → Tree
last refused = leaf 0 0
last (things []) = leaf 0 0
last (things (t ∷ ts)) = t
