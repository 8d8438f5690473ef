-- Extents put together one after another: their sides are the least and the greatest of all, and they stay small. Of all modules' rectangles
-- the far corner is the box. Assumes nothing.
use mathlib.Core.Path.{◌≡◌, refl}
use Prim.Native.Nat.{ℕ, zero, suc, ◌+◌, ◌-◌, ◌*◌, ◌≤◌}
use native.Mathlib.Nat.{mul-le-mul}
use native.Mathlib.Omega.{arith}
use Rattle.rules.specs.declared.Rectangle.{Rectangle}
use Rattle.rules.specs.declared.Design.{Design}
use Rattle.rules.specs.declared.Net.{Net}
use Rattle.rules.specs.Chip.{right, top}
use Rattle.rules.specs.Placement.{Placement}
use Rattle.rules.specs.Design.{LawfulDesign}
use Rattle.rules.specs.Score.{area_of, greatest_to, least_to, member_at, spread, half_perimeter}
use Rattle.rules.proofs.Greatest.{furthest_is}
use Rattle.rows.specs.Row.{Bytes}
use Rattle.extents.specs.declared.Extent.{Extent}
use Rattle.extents.specs.Sides.{extent, extent_of, together}
use Rattle.scoring.specs.Amounts.{extent_to, modules_to, point_of, members_to, most_centre, Near}

-- small extents, and small ones together
pub near_rectangle : (r : Rectangle) → Bytes r → Near (extent_of r)
near_rectangle r b =
    let x = b.x in let y = b.y in let w = b.w in let h = b.h in
    record { right = omega arith; top = omega arith; across = omega arith; up = omega arith }

pub near_together : (l r : Extent) → Near l → Near r → Near (together l r)
near_together l r a b =
    let p = a.right in let q = a.top in let s = a.across in let t = a.up in
    let p' = b.right in let q' = b.top in let s' = b.across in let t' = b.up in
    record { right = omega arith; top = omega arith; across = omega arith; up = omega arith }

-- the things before k together: one alone, one more, and all
pub record Reached (g : ℕ → Extent) (k : ℕ) (e : Extent) : Type 0 where
  pub is : e ≡ extent_to (k - 1) g
  pub near : Near e

pub one_reached : {g : ℕ → Extent} {e : Extent} → (e ≡ g 0) × Near e → Reached g 1 e
unfolding extent_to
one_reached z = record { is = z.0; near = z.1 }

pub next_reached : {g : ℕ → Extent} {k : ℕ} {e f r : Extent} → 1 ≤ k → Reached g k e → (f ≡ g k) × Near f → r ≡ together e f
    → Reached g (k + 1) r
unfolding extent_to
next_reached {k = zero} h z y q = absurd (omega arith)
next_reached {g = g} {k = suc k} {e = e} {f = f} h z y q =
    let a : suc k - 1 ≡ k = omega arith in let b : suc k + 1 - 1 ≡ suc k = omega arith in
    let i : e ≡ extent_to k g = rw a at z.is in
    record { is = rw (q, b, i, y.0); near = rw q (near_together e f z.near y.1) }

pub all_reached : {g : ℕ → Extent} {k n : ℕ} {e : Extent} → k ≡ n → Reached g k e → (e ≡ extent_to (n - 1) g) × Near e
all_reached q z = (rw q at z.is, z.near)

-- the four sides
pub extent_sides : (n : ℕ) (g : ℕ → Extent)
    → extent_to n g ≡ extent (least_to n (λ k. (g k).low.x.0)) (least_to n (λ k. (g k).low.y.0))
    (greatest_to n (λ k. (g k).far.x.0)) (greatest_to n (λ k. (g k).far.y.0))
unfolding extent_to least_to greatest_to
extent_sides zero g = refl
extent_sides (suc n) g = rw (extent_sides n g)

-- the area of the box, and a net's half perimeter
pub area_is : (d : Design) → LawfulDesign d → (p : Placement) (e : Extent) → e ≡ modules_to (d.modules - 1) p
    → e.far.x.0 * e.far.y.0 ≡ area_of d p
unfolding area_of
area_is d l p e q = rw (q, extent_sides (d.modules - 1) (λ k. extent_of (p k)), furthest_is d l right p, furthest_is d l top p)

pub area_near : (e : Extent) → Near e → e.far.x.0 * e.far.y.0 ≤ most_centre * most_centre
area_near e n = mul-le-mul n.right n.top

pub perimeter_is : (p : Placement) (net : Net) (e : Extent) → e ≡ members_to (net.count - 1) p net
    → e.far.x.0 - e.low.x.0 + (e.far.y.0 - e.low.y.0) ≡ half_perimeter p net
unfolding spread
perimeter_is p net e q = rw (q, extent_sides (net.count - 1) (λ j. point_of (p (member_at net j))))
