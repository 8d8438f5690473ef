-- A score beside the floorplan (order 1 of 02): rules 27 to 31 of docs/RULES.md.
use Rattle.std.specs.Prelude.{◌≡◌, Bool, ◌&&◌, List, [], ℕ, zero, suc, ◌+◌, ◌-◌, ◌*◌, ◌<◌, min, max, leb, ltb, pos, get_or, Float}
use Rattle.std.specs.Float.{nan, binary64}
use Rattle.std.specs.Float.Ieee.{of_int, add, mul, div, le}
use Rattle.rules.specs.declared.Rectangle.{Rectangle}
use Rattle.rules.specs.declared.Design.{Design}
use Rattle.rules.specs.declared.Direction.{Direction}
use Rattle.rules.specs.declared.Direction.TheVariants.{Vertical, Horizontal}
use Rattle.rules.specs.declared.Term.{Term}
use Rattle.rules.specs.declared.Term.TheVariants.{Area, Ratio, Wire}
use Rattle.rules.specs.declared.Net.{Net}
use Rattle.rules.specs.declared.Cost.{Cost}
use Rattle.rules.specs.declared.Score.{Score}
use Rattle.rules.specs.Search.{all}
use Rattle.rules.specs.Chip.{left, bottom}
use Rattle.rules.specs.Placement.{Placement, box, area}
use Rattle.rules.specs.Design.{in_range, most_modules, root}

-- "each division, product and sum rounds once": the logic's binary64, in which every operation is rounded to the nearest value
abbrev pub plus : Float → Float → Float
plus x y = add binary64 x y

abbrev pub times : Float → Float → Float
times x y = mul binary64 x y

abbrev pub over : Float → Float → Float
over x y = div binary64 x y

-- a whole number, as an f64; up to 2 to the 53 it is exact
abbrev pub exact : ℕ → Float
exact n = of_int binary64 (pos n)

-- Rule 27: "Terms come as a list of up to eight, each being area, ratio or wire, and each carrying its own weight as an f64"; "up to 32 nets".
-- The numbers are said here alone.
abbrev pub most_terms : ℕ
most_terms = 8

abbrev pub most_nets : ℕ
most_nets = 32

abbrev pub most_weight : ℕ
most_weight = 1000000

-- what a score is asked with; places past a count are ignored
abbrev pub cost : List Term → ℕ → List Net → ℕ → Cost
cost terms n nets k = record { terms = terms; term_count = n; nets = nets; net_count = k }

abbrev pub term_at : List Term → ℕ → Term
term_at terms i = get_or terms i (Area nan)

abbrev pub no_net : Net
no_net = record { count = 0; modules = [] }

abbrev pub net_at : List Net → ℕ → Net
net_at nets i = get_or nets i no_net

abbrev pub member_at : Net → ℕ → ℕ
member_at net j = get_or net.modules j 0

abbrev pub weight_of : Term → Float
weight_of (Area w) = w
weight_of (Ratio w) = w
weight_of (Wire w) = w

-- 15: "a ninth term or a weight outside 0 to 1,000,000 or not a number". What is no number passes no comparison, and -0.0 passes both.
unfoldable pub lawful_weight : Float → Bool
lawful_weight w = le (exact 0) w && le w (exact most_weight)

unfoldable pub lawful_terms : List Term → ℕ → Bool
lawful_terms terms n = leb n most_terms && all n (λ i. lawful_weight (weight_of (term_at terms i)))

-- 16: "a 33rd net or one that is empty or names a missing module". A net has a place for each module that a design can have, and one with a
-- count past these is no net either.
unfoldable pub lawful_net : ℕ → Net → Bool
lawful_net m net = in_range 1 most_modules net.count && all net.count (λ j. ltb (member_at net j) m)

unfoldable pub lawful_nets : ℕ → List Net → ℕ → Bool
lawful_nets m nets n = leb n most_nets && all n (λ i. lawful_net m (net_at nets i))

-- Rule 28: "Area is w·h of the box from the chip's lower left corner." It is demand 2's box.
unfoldable pub area_of : Design → Placement → ℕ
area_of d p = area (box (root d) p)

-- Rule 29: "Ratio adds w/h and then h/w for each module in module order, from zero": with one module more, and after the first k
abbrev pub ratio_more : Float → Float → Float → Float
ratio_more sum w h = plus (plus sum (over w h)) (over h w)

unfoldable pub ratio_of : ℕ → Placement → Float
ratio_of zero p = exact 0
ratio_of (suc k) p = ratio_more (ratio_of k p) (exact (p k).shape.w.0) (exact (p k).shape.h.0)

-- Rule 30: "the members' doubled centres 2x+w and 2y+h", across a direction
abbrev pub centre : Direction → Rectangle → ℕ
centre Vertical r = 2 * left r + r.shape.w.0
centre Horizontal r = 2 * bottom r + r.shape.h.0

-- the greatest and the least of g's values at 0, 1, .., n
unfoldable pub greatest_to : ℕ → (ℕ → ℕ) → ℕ
greatest_to zero g = g 0
greatest_to (suc n) g = max (greatest_to n g) (g (suc n))

unfoldable pub least_to : ℕ → (ℕ → ℕ) → ℕ
least_to zero g = g 0
least_to (suc n) g = min (least_to n g) (g (suc n))

-- where a net's members have their centres; "the box round" them is so wide, or high; and its half perimeter
abbrev pub centres_of : Direction → Placement → Net → ℕ → ℕ
centres_of d p net j = centre d (p (member_at net j))

unfoldable pub spread : Direction → Placement → Net → ℕ
spread d p net = greatest_to (net.count - 1) (centres_of d p net) - least_to (net.count - 1) (centres_of d p net)

abbrev pub half_perimeter : Placement → Net → ℕ
half_perimeter p net = spread Vertical p net + spread Horizontal p net

-- "Wire adds, over up to 32 nets, the half perimeter": after n nets
unfoldable pub wire_of : Placement → List Net → ℕ → ℕ
wire_of p nets zero = 0
wire_of p nets (suc n) = wire_of p nets n + half_perimeter p (net_at nets n)

-- A module that a net names twice counts once: what counts is which modules it names. Net b names every module that net a does:
abbrev pub Names : Net → Net → Type 0
Names a b = (i : ℕ) → i < a.count → (j : ℕ) × (j < b.count) × (member_at a i ≡ member_at b j)

-- Rule 31: a term's amount, without its weight. "Area and wire are whole numbers and exact."
abbrev pub amount_of : Design → Placement → Cost → Term → Float
amount_of d p c (Area w) = exact (area_of d p)
amount_of d p c (Ratio w) = ratio_of d.modules p
amount_of d p c (Wire w) = exact (wire_of p c.nets c.net_count)

-- "Each term's amount times its weight is added to the total, from zero. The running total and the last term's amount are kept together":
-- after one term more, and after n terms, in list order
abbrev pub no_score : Score
no_score = record { total = exact 0; last = exact 0 }

abbrev pub with_term : Score → Float → Float → Score
with_term s amount weight = record { total = plus s.total (times amount weight); last = amount }

unfoldable pub score_after : Design → Placement → Cost → ℕ → Score
score_after d p c zero = no_score
score_after d p c (suc n) =
    let t = term_at c.terms n in with_term (score_after d p c n) (amount_of d p c t) (weight_of t)

abbrev pub score_of : Design → Placement → Cost → Score
score_of d p c = score_after d p c c.term_count

-- Places past a count are ignored: two costs are called the same if they agree at all others.
pub record SameNet (a b : Net) : Type 0 where
  pub count : a.count ≡ b.count
  pub members : (j : ℕ) → j < a.count → member_at a j ≡ member_at b j

pub record SameCost (a b : Cost) : Type 0 where
  pub term_count : a.term_count ≡ b.term_count
  pub net_count : a.net_count ≡ b.net_count
  pub terms : (i : ℕ) → i < a.term_count → term_at a.terms i ≡ term_at b.terms i
  pub nets : (i : ℕ) → i < a.net_count → SameNet (net_at a.nets i) (net_at b.nets i)

-- two costs with the same terms, whose nets name the same modules, in any order and as often as they like
pub record NamedAlike (a b : Cost) : Type 0 where
  pub term_count : a.term_count ≡ b.term_count
  pub net_count : a.net_count ≡ b.net_count
  pub terms : (i : ℕ) → i < a.term_count → term_at a.terms i ≡ term_at b.terms i
  pub nets : (i : ℕ) → i < a.net_count
      → Names (net_at a.nets i) (net_at b.nets i) × Names (net_at b.nets i) (net_at a.nets i)
