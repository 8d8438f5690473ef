-- The amounts of a floorplan, and the extents that area and wire come from.
use Rattle.std.proofs.Math.Bool.{So}
use Rattle.std.specs.Prelude.{List, ℕ, zero, suc, ◌≤◌, length}
use Rattle.rules.specs.declared.Rectangle.{Rectangle}
use Rattle.rules.specs.declared.Design.{Design}
use Rattle.rules.specs.declared.Direction.TheVariants.{Vertical, Horizontal}
use Rattle.rules.specs.declared.Net.{Net}
use Rattle.rules.specs.declared.Score.{Score}
use Rattle.rules.specs.declared.Term.{Term}
use Rattle.rules.specs.declared.Cost.{Cost}
use Rattle.rules.specs.declared.Term.TheVariants.{Area, Ratio, Wire}
use Rattle.rules.specs.Placement.{Placement}
use Rattle.rules.specs.Design.{LawfulDesign}
use Rattle.rules.specs.Service.{rows_of}
use Rattle.rules.specs.Score.{most_terms, lawful_nets, exact, area_of, ratio_of, wire_of, centre, member_at, term_at, no_score, with_term}
use Rattle.extents.specs.declared.Extent.{Extent}
use Rattle.extents.specs.Sides.{extent, extent_of, together}
use Rattle.scoring.specs.declared.amounts.Amounts.{Amounts}

-- the extent of the things 0, 1, .., n together
unfoldable pub extent_to : ℕ → (ℕ → Extent) → Extent
extent_to zero g = g 0
extent_to (suc n) g = together (extent_to n g) (g (suc n))

-- of the rectangles of modules 0 to n; of the doubled centres of a net's members 0 to n
abbrev pub modules_to : ℕ → Placement → Extent
modules_to n p = extent_to n (λ k. extent_of (p k))

abbrev pub point_of : Rectangle → Extent
point_of r = extent (centre Vertical r) (centre Horizontal r) (centre Vertical r) (centre Horizontal r)

abbrev pub members_to : ℕ → Placement → Net → Extent
members_to n p net = extent_to n (λ j. point_of (p (member_at net j)))

-- a side or a doubled centre of a rectangle from four bytes is at most so much
abbrev pub most_centre : ℕ
most_centre = 765

pub record Near (e : Extent) : Type 0 where
  pub right : e.far.x.0 ≤ most_centre
  pub top : e.far.y.0 ≤ most_centre
  pub across : e.low.x.0 ≤ e.far.x.0
  pub up : e.low.y.0 ≤ e.far.y.0

-- what each kind of term counts
abbrev pub amounts_of : Design → Placement → List Net → ℕ → Amounts
amounts_of d p nets n =
    record { area = exact (area_of d p); ratio = ratio_of d.modules p; wire = exact (wire_of p nets n) }

abbrev pub after_term : Score → Amounts → Term → Score
after_term s a (Area w) = with_term s a.area w
after_term s a (Ratio w) = with_term s a.ratio w
after_term s a (Wire w) = with_term s a.wire w

unfoldable pub after_terms : Amounts → List Term → ℕ → Score
after_terms a terms zero = no_score
after_terms a terms (suc n) = after_term (after_terms a terms n) a (term_at terms n)

-- what has been tested before the amounts of a floorplan are worked out, and before its score is
pub record Countable (d : Design) (rows : List ℕ) (nets : List Net) (n : ℕ) : Type 0 where
  pub design : LawfulDesign d
  pub places : rows_of d ≤ length rows
  pub lawful : So (lawful_nets d.modules nets n)

pub record Ready (d : Design) (rows : List ℕ) (c : Cost) : Type 0 where
  pub countable : Countable d rows c.nets c.net_count
  pub terms : c.term_count ≤ most_terms
