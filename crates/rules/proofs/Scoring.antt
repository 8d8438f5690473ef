-- What a score is, of rectangles on the chip. The box stands on the chip, and so do the doubled centres: area and wire are small whole
-- numbers, each module adds two small quotients to the ratio, and no sum of terms comes near 2 to the 53, where exactness ends.
-- Assumes nothing.
use mathlib.Core.Bool.{So}
use mathlib.Core.List.{List}
use Prim.Native.Nat.{ℕ, zero, suc, ◌+◌, ◌-◌, ◌*◌, ◌≤◌, ◌<◌, max, zero-le}
use native.Mathlib.Omega.{arith}
use native.Mathlib.Nat.{le_trans, le_refl, mul-le-mul, suc-mul, add-le-add}
use lib.Dec.{lit≤}
use Rattle.rules.specs.declared.Design.{Design}
use Rattle.rules.specs.declared.Direction.{Direction}
use Rattle.rules.specs.declared.Direction.TheVariants.{Vertical, Horizontal}
use Rattle.rules.specs.declared.Term.{Term}
use Rattle.rules.specs.declared.Term.TheVariants.{Area, Ratio, Wire}
use Rattle.rules.specs.declared.Net.{Net}
use Rattle.rules.specs.declared.Cost.{Cost}
use Rattle.rules.specs.Chip.{OnChip, right, top}
use Rattle.rules.specs.Placement.{Placement}
use Rattle.rules.specs.Design.{most_columns, most_rows, most_modules, in_range, root, width_of, height_of, LawfulDesign}
use Rattle.rules.specs.Score.{plus, times, over, exact, most_terms, most_nets, most_weight, term_at, net_at, member_at, weight_of, lawful_weight, lawful_terms, lawful_net, lawful_nets, area_of, ratio_of, centres_of, spread, half_perimeter, wire_of, amount_of, score_after, score_of}
use Rattle.rules.proofs.Searching.{test-iffs, all_iff}
use Rattle.rules.proofs.Placing.{furthest_within}
use Rattle.rules.proofs.Nodes.{lawful_tree}
use Rattle.rules.proofs.Limits.{limits}
use Rattle.rules.proofs.Greatest.{greatest_most, least_most}
use Rattle.rules.proofs.Floats.{UpTo, up_to_more, exact_up_to, over_up_to, plus_up_to, plus_nearly, times_nearly, weight_nearly}

-- every module's rectangle is on the chip
abbrev pub AllOnChip : Design → Placement → Type 0
AllOnChip d p = (k : ℕ) → k < d.modules → OnChip (width_of d) (height_of d) (p k)

-- ---- the area: no rectangle ends beyond the chip, so the furthest does not
pub area_within : (d : Design) → LawfulDesign d → (p : Placement) → AllOnChip d p → area_of d p ≤ width_of d * height_of d
unfolding area_of
area_within d l p on =
    let below = (lawful_tree d l).modules in
    mul-le-mul
    (furthest_within right (root d) p (width_of d) (λ k s. (on k ((below k).0 s)).columns))
    (furthest_within top (root d) p (height_of d) (λ k s. (on k ((below k).0 s)).rows))

pub area_most : (d : Design) → LawfulDesign d → (p : Placement) → AllOnChip d p → area_of d p ≤ most_columns * most_rows
area_most d l p on = let c = (limits d l).chip in le_trans (area_within d l p on) (mul-le-mul c.width c.height)

-- ---- the wire
-- a lawful net has a member, and each is a module
pub record NetLimits (m : ℕ) (net : Net) : Type 0 where
  pub some : 1 ≤ net.count
  pub most : net.count ≤ most_modules
  pub members : (j : ℕ) → j < net.count → member_at net j < m

pub net_limits : (m : ℕ) (net : Net) → So (lawful_net m net) → NetLimits m net
unfolding lawful_net in_range
net_limits m net t = let s = simp (test-iffs, all_iff) at t in record { some = omega arith; most = omega arith; members = s.1 }

pub record NetsLimits (m : ℕ) (nets : List Net) (n : ℕ) : Type 0 where
  pub most : n ≤ most_nets
  pub each : (i : ℕ) → i < n → NetLimits m (net_at nets i)

pub nets_limits : (m : ℕ) (nets : List Net) (n : ℕ) → So (lawful_nets m nets n) → NetsLimits m nets n
unfolding lawful_nets
nets_limits m nets n t =
    let s = simp (test-iffs, all_iff) at t in record { most = s.0; each = λ i h. net_limits m (net_at nets i) (s.1 i h) }

pub record TermsLimits (terms : List Term) (n : ℕ) : Type 0 where
  pub most : n ≤ most_terms
  pub each : (i : ℕ) → i < n → So (lawful_weight (weight_of (term_at terms i)))

pub terms_limits : (terms : List Term) (n : ℕ) → So (lawful_terms terms n) → TermsLimits terms n
unfolding lawful_terms
terms_limits terms n t = let s = simp (test-iffs, all_iff) at t in record { most = s.0; each = s.1 }

spread_most : (a : Direction) (p : Placement) (net : Net) (b : ℕ) → 1 ≤ net.count
    → ((j : ℕ) → j < net.count → (1 ≤ centres_of a p net j) × (centres_of a p net j ≤ 2 * b - 1)) → spread a p net ≤ 2 * (b - 1)
unfolding spread
spread_most a p net b s h =
    let last = net.count - 1 in let g = centres_of a p net in
    let most = greatest_most last g (2 * b - 1) (λ i k. (h i (omega arith)).1) in
    let least = least_most last g 1 (λ i k. (h i (omega arith)).0) in omega arith

module _ (d : Design) (p : Placement) (on : AllOnChip d p) where
  -- a doubled centre on the chip is between 1 and 2W-1, or 2H-1
  pub half_perimeter_most : (net : Net) → NetLimits d.modules net
      → half_perimeter p net ≤ 2 * (width_of d - 1) + 2 * (height_of d - 1)
  half_perimeter_most net z =
      let across = spread_most Vertical p net (width_of d) z.some (λ j h. let o = on (member_at net j) (z.members j h) in omega arith) in
      let up = spread_most Horizontal p net (height_of d) z.some (λ j h. let o = on (member_at net j) (z.members j h) in omega arith) in
      omega arith

  wire_to : (nets : List Net) (n : ℕ) → ((i : ℕ) → i < n → NetLimits d.modules (net_at nets i))
      → wire_of p nets n ≤ n * (2 * (width_of d - 1) + 2 * (height_of d - 1))
  unfolding wire_of
  wire_to nets zero h = zero-le
  wire_to nets (suc n) h =
      let a = wire_to nets n (λ i k. h i (omega arith)) in
      rw (suc-mul n) (add-le-add a (half_perimeter_most (net_at nets n) (h n (le_refl (suc n)))))

  pub wire_within : (nets : List Net) (n : ℕ) → So (lawful_nets d.modules nets n)
      → wire_of p nets n ≤ n * (2 * (width_of d - 1) + 2 * (height_of d - 1))
  wire_within nets n t = wire_to nets n (nets_limits d.modules nets n t).each

-- a chip's longest side
abbrev most_side : ℕ
most_side = max most_columns most_rows

-- The most that the wire can be, 8,064, is more than the area and the ratio can be. So it is the most of any amount; and with the most
-- weight it is the most that a term adds.
abbrev pub most_amount : ℕ
most_amount = most_nets * (2 * (most_columns - 1) + 2 * (most_rows - 1))

abbrev pub most_added : ℕ
most_added = most_amount * most_weight

module _ (d : Design) (lawful : LawfulDesign d) (p : Placement) (on : AllOnChip d p) where
  pub wire_most : (nets : List Net) (n : ℕ) → So (lawful_nets d.modules nets n) → wire_of p nets n ≤ most_amount
  wire_most nets n t =
      let c = (limits d lawful).chip in
      let b : 2 * (width_of d - 1) + 2 * (height_of d - 1) ≤ 2 * (most_columns - 1) + 2 * (most_rows - 1) = omega arith in
      le_trans (wire_within d p on nets n t) (mul-le-mul (nets_limits d.modules nets n t).most b)

  -- each module adds two quotients, each at most a chip's longest side
  ratio_to : (k : ℕ) → k ≤ d.modules → UpTo (k * (2 * most_side)) (ratio_of k p)
  unfolding ratio_of
  ratio_to zero h = exact_up_to 0 (lit≤ tt)
  ratio_to (suc k) h =
      let l = limits d lawful in let o = on k h in let w = (p k).shape.w.0 in let v = (p k).shape.h.0 in
      let before = k * (2 * most_side) in let wide = over (exact w) (exact v) in let high = over (exact v) (exact w) in
      let one = plus_up_to before most_side (ratio_of k p) wide (omega arith) (ratio_to k (omega arith))
      (over_up_to most_side w v o.high (omega arith) (lit≤ tt)) in
      up_to_more (before + most_side + most_side) (suc k * (2 * most_side)) (ratio_of (suc k) p) (omega arith)
      (plus_up_to (before + most_side) most_side (plus (ratio_of k p) wide) high (omega arith) one
      (over_up_to most_side v w o.wide (omega arith) (lit≤ tt)))

  pub ratio_most : UpTo most_amount (ratio_of d.modules p)
  ratio_most =
      let l = limits d lawful in let m = d.modules in
      up_to_more (m * (2 * most_side)) most_amount (ratio_of m p) (omega arith) (ratio_to m (le_refl m))

  exact_most : (n : ℕ) → n ≤ most_amount → UpTo most_amount (exact n)
  exact_most n h = up_to_more n most_amount (exact n) h (exact_up_to n (omega arith))

  module _ (c : Cost) (terms : So (lawful_terms c.terms c.term_count)) (nets : So (lawful_nets d.modules c.nets c.net_count)) where
    amount_most : (t : Term) → UpTo most_amount (amount_of d p c t)
    amount_most (Area w) = exact_most (area_of d p) (le_trans (area_most d lawful p on) (lit≤ tt))
    amount_most (Ratio w) = ratio_most
    amount_most (Wire w) = exact_most (wire_of p c.nets c.net_count) (wire_most c.nets c.net_count nets)

    score_to : (n : ℕ) → n ≤ c.term_count → UpTo (n * most_added) (score_after d p c n).total × UpTo most_amount (score_after d p c n).last
    unfolding score_after
    score_to zero h = (exact_up_to 0 (lit≤ tt), exact_most 0 (lit≤ tt))
    score_to (suc n) h =
        let z = terms_limits c.terms c.term_count terms in let most = z.most in
        let t = term_at c.terms n in let w = weight_of t in let a = amount_of d p c t in let s = (score_after d p c n).total in
        let more = times_nearly most_amount most_weight a w (lit≤ tt) (amount_most t) (weight_nearly w (z.each n h)) in
        let sum = plus_nearly (n * most_added) most_added s (times a w) (omega arith) (score_to n (omega arith)).0 more in
        (up_to_more (n * most_added + most_added) (suc n * most_added) (plus s (times a w)) (omega arith) sum, amount_most t)

    -- the total is at most 8 times 8,064 times 1,000,000, and the last term's amount at most 8,064
    pub score_finite : UpTo (most_terms * most_added) (score_of d p c).total × UpTo most_amount (score_of d p c).last
    score_finite =
        let z = terms_limits c.terms c.term_count terms in let (total, last) = score_to c.term_count (le_refl c.term_count) in
        (up_to_more (c.term_count * most_added) (most_terms * most_added) (score_of d p c).total (omega arith) total, last)
