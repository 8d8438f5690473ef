-- The tree of a lawful design as positions, which is how code has it: left children, the leaf of a module, and the way up to the root.
use Rattle.std.specs.Prelude.{◌≡◌, Bool, false, ◌&&◌, ◌||◌, List, [], ◌∷◌, ℕ, ◌-◌, ◌≤◌, ◌<◌, eqb, get_or}
use Rattle.rules.specs.declared.Design.{Design}
use Rattle.rules.specs.declared.Token.{Token}
use Rattle.rules.specs.Tree.{Standing, refused, things, position, spans, is_cut}
use Rattle.rules.specs.Design.{nodes, standing_of, node_at}

-- where the last thing but one stands; 0 with fewer than two
abbrev pub last_but_one : Standing → ℕ
last_but_one refused = 0
last_but_one (things []) = 0
last_but_one (things (r ∷ [])) = 0
last_but_one (things (r ∷ (l ∷ ts))) = position l

-- "A cut joins the two things standing last, the earlier being its left child": at each position stands where the last thing but one
-- is before that token is read. At a cut this is its left child. Places beyond the tokens are 0.
pub record LeftChildren (d : Design) (lefts : List ℕ) : Type 0 where
  pub before : (t : ℕ) → t < nodes d → get_or lefts t 0 ≡ last_but_one (standing_of d t)
  pub past : (t : ℕ) → nodes d ≤ t → get_or lefts t 0 ≡ 0

-- "the changed node and each node above it": those nodes are marked whose tree spans a position. Places beyond the tokens are not.
pub record WayUp (d : Design) (at : ℕ) (marks : List Bool) : Type 0 where
  pub node : (t : ℕ) → t < nodes d → get_or marks t false ≡ spans (node_at d t) at
  pub past : (t : ℕ) → nodes d ≤ t → get_or marks t false ≡ false

-- a node's mark, by its token, from its children's
unfoldable pub mark_of : Token → List ℕ → List Bool → ℕ → ℕ → Bool
mark_of token lefts marks t at =
    eqb at t || (is_cut token && (get_or marks (get_or lefts t 0) false || get_or marks (t - 1) false))
