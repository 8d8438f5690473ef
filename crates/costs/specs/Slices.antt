-- Terms and nets in slices, as a program in another language hands them over: kinds and weights as two slices, nets as bytes n k1..kn one after
-- another. What is no term or net there becomes one that no score is given for: 15, 16.
use Rattle.std.specs.Prelude.{◌≡◌, Bool, true, false, ◌&&◌, List, [], ◌∷◌, ◌++◌, ℕ, zero, suc, ◌≤◌, leb, length, take, drop, Float}
use Rattle.std.specs.Float.{nan}
use Rattle.rules.specs.declared.Term.{Term}
use Rattle.rules.specs.declared.Term.TheVariants.{Area, Ratio, Wire}
use Rattle.rules.specs.declared.Net.{Net}
use Rattle.rules.specs.declared.Cost.{Cost}
use Rattle.rules.specs.Design.{most_modules}
use Rattle.rules.specs.Score.{most_terms, most_nets, cost, no_net}

-- what is no term: no number is its weight
abbrev pub no_term : Term
no_term = Area nan

-- a kind is 0 area, 1 ratio, 2 wire
abbrev pub term_of : ℕ → Float → Term
term_of zero w = Area w
term_of (suc zero) w = Ratio w
term_of (suc (suc zero)) w = Wire w
term_of (suc (suc (suc k))) w = no_term

-- The terms, at most so many: a kind and its weight, one after another. A kind without a weight, a weight without a kind and what is one too
-- many are no term, and the last.
unfoldable pub terms_in : ℕ → List ℕ → List Float → List Term
terms_in most [] [] = []
terms_in most [] (w ∷ ws) = no_term ∷ []
terms_in most (k ∷ ks) [] = no_term ∷ []
terms_in zero (k ∷ ks) (w ∷ ws) = no_term ∷ []
terms_in (suc most) (k ∷ ks) (w ∷ ws) = term_of k w ∷ terms_in most ks ws

-- The net that bytes begin with, and the bytes past it. A net whose count is past its places, or in which the bytes end, is no net, and the last.
unfoldable pub net_there : List ℕ → Bool
net_there [] = false
net_there (n ∷ s) = leb n most_modules && leb n (length s)

abbrev pub net_of : List ℕ → Net
net_of [] = no_net
net_of (n ∷ s) = record { count = n; modules = take n s }

unfoldable pub first_net : List ℕ → Net
first_net s = elim (net_there s) [ true ↦ net_of s | false ↦ no_net ]

unfoldable pub past_net : List ℕ → List ℕ
past_net s = elim (net_there s) [ true ↦ drop (suc (net_of s).count) s | false ↦ [] ]

-- The nets, at most so many, until no byte is left; what is one too many is no net, and the last.
abbrev pub if_left : List ℕ → List Net → List Net
if_left [] nets = []
if_left (n ∷ s) nets = nets

unfoldable pub nets_in : ℕ → List ℕ → List Net
nets_in zero s = if_left s (no_net ∷ [])
nets_in (suc most) s = if_left s (first_net s ∷ nets_in most (past_net s))

-- what a score is asked with: all these terms and nets
abbrev pub cost_of : List Term → List Net → Cost
cost_of terms nets = cost terms (length terms) nets (length nets)

abbrev pub cost_in : List ℕ → List Float → List ℕ → Cost
cost_in kinds weights bytes = cost_of (terms_in most_terms kinds weights) (nets_in most_nets bytes)

-- How a program says terms and nets: a term by its kind's number and its weight, a net by its count and then its members, n k1..kn.
abbrev pub kind_number : Term → ℕ
kind_number (Area w) = 0
kind_number (Ratio w) = 1
kind_number (Wire w) = 2

unfoldable pub nets_bytes : List Net → List ℕ
nets_bytes [] = []
nets_bytes (net ∷ nets) = net.count ∷ (net.modules ++ nets_bytes nets)

-- a net as it is said: as many members as it counts, and places for them
pub record Said (net : Net) : Type 0 where
  pub members : length net.modules ≡ net.count
  pub few : net.count ≤ most_modules
