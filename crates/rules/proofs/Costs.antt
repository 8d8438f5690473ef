-- Costs that agree at all places that count have the same score, and so have same designs. A net's half perimeter hangs on which modules it
-- names alone: the greatest and the least centre are those of a member. Assumes nothing.
use Rattle.std.specs.Prelude.{Ok}
use mathlib.Core.Path.{◌≡◌, refl, sym, ◌∙◌, ap}
use mathlib.Core.Bool.{So}
use mathlib.Core.List.{List}
use Prim.Native.Nat.{ℕ, zero, suc, ◌-◌, ◌≤◌}
use native.Mathlib.Omega.{arith}
use native.Mathlib.Nat.{le_refl, le_antisymm}
use lib.Dec.{ltb}
use Rattle.rules.specs.declared.Design.{Design}
use Rattle.rules.specs.declared.Direction.{Direction}
use Rattle.rules.specs.declared.Direction.TheVariants.{Vertical, Horizontal}
use Rattle.rules.specs.declared.Term.{Term}
use Rattle.rules.specs.declared.Term.TheVariants.{Area, Ratio, Wire}
use Rattle.rules.specs.declared.Net.{Net}
use Rattle.rules.specs.declared.Cost.{Cost}
use Rattle.rules.specs.Answers.{Scored}
use Rattle.rules.specs.Placement.{Placement}
use Rattle.rules.specs.Design.{SameDesign}
use Rattle.rules.specs.Check.{from_rows}
use Rattle.rules.specs.Service.{Scores}
use Rattle.rules.specs.Score.{Names, NamedAlike, term_at, net_at, member_at, weight_of, lawful_weight, lawful_terms, lawful_net, lawful_nets, area_of, greatest_to, least_to, centres_of, spread, half_perimeter, wire_of, amount_of, score_after, score_of, SameNet, SameCost}
use Rattle.rules.proofs.Below.{all_below}
use Rattle.rules.proofs.Same.{same_refl, root_same}
use Rattle.rules.proofs.Greatest.{greatest_most, least_most, greatest_in, least_in}
use Rattle.rules.proofs.Scoring.{nets_limits}

module _ (x : Direction) (p : Placement) (a b : Net) (some : 1 ≤ a.count) (names : Names a b) where
  greatest_names : greatest_to (a.count - 1) (centres_of x p a) ≤ greatest_to (b.count - 1) (centres_of x p b)
  greatest_names = greatest_most (a.count - 1) (centres_of x p a) _ (λ i h.
      let (j, k, q) = names i (omega arith) in rw q (greatest_in (b.count - 1) (centres_of x p b) j (omega arith)))

  least_names : least_to (b.count - 1) (centres_of x p b) ≤ least_to (a.count - 1) (centres_of x p a)
  least_names = least_most (a.count - 1) (centres_of x p a) _ (λ i h.
      let (j, k, q) = names i (omega arith) in rw q (least_in (b.count - 1) (centres_of x p b) j (omega arith)))

spread_same : (x : Direction) (p : Placement) (a b : Net) → 1 ≤ a.count → 1 ≤ b.count → Names a b → Names b a → spread x p a ≡ spread x p b
unfolding spread
spread_same x p a b s t f g =
    let most = le_antisymm (greatest_names x p a b s f) (greatest_names x p b a t g) in
    let least = le_antisymm (least_names x p b a t g) (least_names x p a b s f) in rw (most, least)

-- nets that name the same modules, in any order and as often as they like, have the same half perimeter
pub named_twice : (p : Placement) (a b : Net) → 1 ≤ a.count → 1 ≤ b.count → Names a b → Names b a → half_perimeter p a ≡ half_perimeter p b
named_twice p a b s t f g = rw (spread_same Vertical p a b s t f g, spread_same Horizontal p a b s t f g)

-- ---- costs whose nets name the same modules, of same designs
module _ {a b : Cost} (z : NamedAlike a b) {d e : Design} (y : SameDesign d e) (p : Placement)
    (k : So (lawful_nets d.modules a.nets a.net_count)) (l : So (lawful_nets e.modules b.nets b.net_count)) where
  wire_alike : (n : ℕ) → n ≤ a.net_count → wire_of p a.nets n ≡ wire_of p b.nets n
  unfolding wire_of
  wire_alike zero h = refl
  wire_alike (suc n) h =
      let some = ((nets_limits d.modules a.nets a.net_count k).each n h).some in
      let some' = ((nets_limits e.modules b.nets b.net_count l).each n (rw z.net_count at h)).some in
      let (f, g) = z.nets n h in
      rw (wire_alike n (omega arith), named_twice p (net_at a.nets n) (net_at b.nets n) some some' f g)

  amount_alike : (t : Term) → amount_of d p a t ≡ amount_of e p b t
  unfolding area_of
  amount_alike (Area w) = rw (root_same y)
  amount_alike (Ratio w) = rw y.modules
  amount_alike (Wire w) = rw (wire_alike a.net_count (le_refl a.net_count), z.net_count)

  after_alike : (n : ℕ) → n ≤ a.term_count → score_after d p a n ≡ score_after e p b n
  unfolding score_after
  after_alike zero h = refl
  after_alike (suc n) h = rw (after_alike n (omega arith), z.terms n h, amount_alike (term_at b.terms n))

  pub score_alike : score_of d p a ≡ score_of e p b
  score_alike = after_alike a.term_count (le_refl a.term_count) ∙ rw z.term_count

-- ---- same costs: their nets name the same modules
names_same : {a b : Net} → SameNet a b → Names a b
names_same z i h = (i, rw z.count at h, z.members i h)

net_sym : {a b : Net} → SameNet a b → SameNet b a
net_sym z = record { count = sym z.count; members = λ j h. sym (z.members j (rw z.count h)) }

same_named : {a b : Cost} → SameCost a b → NamedAlike a b
same_named z = record {
  term_count = z.term_count;
  net_count = z.net_count;
  terms = z.terms;
  nets = λ i h. let n = z.nets i h in (names_same n, names_same (net_sym n));
}

net_same : (m : ℕ) (a b : Net) → SameNet a b → lawful_net m a ≡ lawful_net m b
unfolding lawful_net
net_same m a b z =
    let each = all_below a.count (λ j. ltb (member_at a j) m) (λ j. ltb (member_at b j) m) (λ j h. rw (z.members j h)) in
    rw (each, z.count)

module _ {a b : Cost} (z : SameCost a b) where
  pub terms_same : lawful_terms a.terms a.term_count ≡ lawful_terms b.terms b.term_count
  unfolding lawful_terms
  terms_same =
      let each = all_below a.term_count (λ i. lawful_weight (weight_of (term_at a.terms i))) (λ i. lawful_weight (weight_of (term_at b.terms i)))
      (λ i h. rw (z.terms i h)) in
      rw (each, z.term_count)

  module _ {d e : Design} (y : SameDesign d e) where
    pub nets_same : lawful_nets d.modules a.nets a.net_count ≡ lawful_nets e.modules b.nets b.net_count
    unfolding lawful_nets
    nets_same =
        let m = d.modules in
        let each = all_below a.net_count (λ i. lawful_net m (net_at a.nets i)) (λ i. lawful_net m (net_at b.nets i))
        (λ i h. net_same m (net_at a.nets i) (net_at b.nets i) (z.nets i h)) in
        rw (each, z.net_count, y.modules)

    pub score_same : (p : Placement) → So (lawful_nets d.modules a.nets a.net_count) → score_of d p a ≡ score_of e p b
    score_same p nets = score_alike (same_named z) y p nets (sym nets_same ∙ nets)

-- so an answer that a score may give for one of two same costs it may give for the other
pub scores_alike : (d : Design) (rows : List ℕ) {a b : Cost} {r : Scored} → SameCost a b → Scores d rows a r → Scores d rows b r
scores_alike d rows {a} {b} z s =
    let t = terms_same z in let n = nets_same z (same_refl d) in record {
      sized = s.sized;
      judged = s.judged;
      bad_term = λ p f. s.bad_term p (λ l. f (sym t ∙ l));
      bad_net = λ p l f. s.bad_net p (t ∙ l) (λ k. f (sym n ∙ k));
      done = λ p l k. s.done p (t ∙ l) (n ∙ k) ∙ ap Ok (score_same z (same_refl d) (from_rows rows) (n ∙ k));
    }
