-- Ratio, wire and score, one module, net or term more. Assumes nothing.
use mathlib.Core.Path.{◌≡◌, refl, ◌∙◌}
use mathlib.Core.List.{List}
use Prim.Native.Nat.{ℕ, zero, suc, ◌+◌}
use native.Mathlib.Numerals.{add-one}
use lib.Ieee.{Float, binary64, of_bits}
use Rattle.rules.specs.declared.Design.{Design}
use Rattle.rules.specs.declared.Net.{Net}
use Rattle.rules.specs.declared.Rectangle.{Rectangle}
use Rattle.rules.specs.declared.Score.{Score}
use Rattle.rules.specs.declared.Term.{Term}
use Rattle.rules.specs.declared.Cost.{Cost}
use Rattle.rules.specs.declared.Term.TheVariants.{Area, Ratio, Wire}
use Rattle.rules.specs.Placement.{Placement}
use Rattle.rules.specs.Score.{exact, ratio_more, ratio_of, half_perimeter, wire_of, net_at, term_at, weight_of, amount_of, with_term, score_after, score_of}
use Rattle.scoring.specs.declared.amounts.Amounts.{Amounts}
use Rattle.scoring.specs.Amounts.{amounts_of, after_term, after_terms}
use Rattle.rules.proofs.Floats.{zero_is}

pub no_ratio : (p : Placement) → of_bits binary64 0 ≡ ratio_of 0 p
unfolding ratio_of
no_ratio p = zero_is

pub ratio_next : (p : Placement) (k : ℕ) (sum next : Float) (r : Rectangle) → sum ≡ ratio_of k p → r ≡ p k
    → next ≡ ratio_more sum (exact r.shape.w.0) (exact r.shape.h.0) → next ≡ ratio_of (k + 1) p
unfolding ratio_of
ratio_next p k sum next r s e n = rw (add-one, n, s, e)

pub no_wire : (p : Placement) (nets : List Net) → 0 ≡ wire_of p nets 0
unfolding wire_of
no_wire p nets = refl

pub wire_next : (p : Placement) (nets : List Net) (i sum more : ℕ) → sum ≡ wire_of p nets i → more ≡ half_perimeter p (net_at nets i)
    → sum + more ≡ wire_of p nets (i + 1)
unfolding wire_of
wire_next p nets i sum more s e = rw (add-one, s, e)

pub no_terms : (a : Amounts) (terms : List Term)
    → ◌≡◌ {A = Score} (record { total = of_bits binary64 0; last = of_bits binary64 0 }) (after_terms a terms 0)
unfolding after_terms
no_terms a terms = rw zero_is

pub terms_next : (a : Amounts) (terms : List Term) (i : ℕ) (s r : Score) → s ≡ after_terms a terms i → r ≡ after_term s a (term_at terms i)
    → r ≡ after_terms a terms (i + 1)
unfolding after_terms
terms_next a terms i s r e q = rw (add-one, q, e)

-- with the amounts of a floorplan it is the rules' score: a term's amount is the one of its kind
module _ (d : Design) (p : Placement) (c : Cost) where
  after_is : (s : Score) (t : Term) → after_term s (amounts_of d p c.nets c.net_count) t ≡ with_term s (amount_of d p c t) (weight_of t)
  after_is s (Area w) = refl
  after_is s (Ratio w) = refl
  after_is s (Wire w) = refl

  score_is : (n : ℕ) → after_terms (amounts_of d p c.nets c.net_count) c.terms n ≡ score_after d p c n
  unfolding after_terms score_after
  score_is zero = refl
  score_is (suc n) = rw (score_is n) (after_is (score_after d p c n) (term_at c.terms n))

  pub score_by : (a : Amounts) (r : Score) → a ≡ amounts_of d p c.nets c.net_count → r ≡ after_terms a c.terms c.term_count
      → r ≡ score_of d p c
  score_by a r e q = q ∙ rw e (score_is c.term_count)
