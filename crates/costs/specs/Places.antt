-- What the places hold while terms and nets are taken from slices.
use Rattle.std.specs.Prelude.{◌≡◌, true, List, ◌++◌, ℕ, ◌-◌, ◌≤◌, ◌<◌, min, length, Float}
use Rattle.rules.specs.declared.Term.{Term}
use Rattle.rules.specs.declared.Net.{Net}
use Rattle.rules.specs.Design.{most_modules}
use Rattle.rules.specs.Score.{most_terms, most_nets, term_at, net_at, SameNet}
use Rattle.costs.specs.Slices.{terms_in, net_there, net_of, past_net, nets_in}

-- how many kinds have a weight, of those that there are places for
abbrev pub pairs : List ℕ → List Float → ℕ
pairs kinds weights = min (min (length kinds) (length weights)) most_terms

-- the terms in their places
abbrev pub TermsFrom : List ℕ → List Float → List Term → Type 0
TermsFrom kinds weights terms = (i : ℕ) → i < length (terms_in most_terms kinds weights)
    → term_at terms i ≡ term_at (terms_in most_terms kinds weights) i

-- the net of these members
abbrev pub net_with : List ℕ → Net
net_with members = record { count = length members; modules = members }

-- a net is there: its members, and the bytes past it
pub record Split (bytes members past : List ℕ) : Type 0 where
  pub is_there : net_there bytes ≡ true
  pub few : length members ≤ most_modules
  pub net : net_of bytes ≡ net_with members
  pub after : past ≡ past_net bytes

-- so many nets in their places, taken from the front of the bytes, and what is left to take
pub record Taking (bytes : List ℕ) (nets : List Net) (count : ℕ) (left : List ℕ) : Type 0 where
  pub done : List Net
  pub rest : nets_in most_nets bytes ≡ done ++ nets_in (most_nets - count) left
  pub many : length done ≡ count
  pub few : count ≤ most_nets
  pub places : length nets ≡ most_nets
  pub same : (i : ℕ) → i < count → SameNet (net_at nets i) (net_at done i)

-- all nets in their places
pub record NetsFrom (bytes : List ℕ) (nets : List Net) (count : ℕ) : Type 0 where
  pub many : count ≡ length (nets_in most_nets bytes)
  pub same : (i : ℕ) → i < count → SameNet (net_at nets i) (net_at (nets_in most_nets bytes) i)
