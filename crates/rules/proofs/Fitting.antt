-- Shapes and placements are rooms that fit. A tree's shapes, bounding boxes of shapes of its children anywhere on the
-- chip, are exactly the rooms that lines part down to rooms for its modules; and such a room is one in which a lawful
-- placement lies. All of it over what a leaf asks. Assumes nothing.
use mathlib.Core.Path.{◌≡◌, ap}
use mathlib.Core.Logic.{◌↔◌}
use mathlib.Core.Bool.{So}
use Prim.Native.Nat.{ℕ, ◌+◌, ◌-◌, ◌≤◌, ◌<◌, min, max}
use native.Mathlib.Omega.{arith}
use native.Mathlib.Nat.{le_refl}
use Rattle.rules.specs.declared.Direction.{Direction}
use Rattle.rules.specs.declared.Direction.TheVariants.{Vertical, Horizontal}
use Rattle.rules.specs.declared.Rectangle.{Rectangle}
use Rattle.rules.specs.Chip.{OnChip, rectangle, left, right, bottom, top}
use Rattle.rules.specs.Tree.{Tree, leaf, cut}
use Rattle.rules.specs.Placement.{begins, ends}
use Rattle.rules.specs.Shape.{Realizes, bounding}
use Rattle.rules.proofs.Test.{Test, across, parted, fits, room}
use Rattle.rules.proofs.Rooms.{Growing, turn_growing, parted_in, joined, joined_growing, joined_out}

-- two rectangles with the same sides are the same
pub same_sides : (r o : Rectangle) → left r ≡ left o → bottom r ≡ bottom o → right r ≡ right o → top r ≡ top o → r ≡ o
same_sides r o ex ey er et =
    let ew : r.shape.w.0 ≡ o.shape.w.0 = omega arith in let eh : r.shape.h.0 ≡ o.shape.h.0 = omega arith in
    λ i. rectangle (ex i) (ey i) (ew i) (eh i)

pub room_right : (a b : ℕ) → a ≤ b → a + (b - a) ≡ b
room_right a b h = omega arith

-- The test F decides which rooms a leaf lists, and grows.
pub record Decides (W H : ℕ) (Lists : ℕ → Rectangle → Type 0) (F : ℕ → Test) : Type 0 where
  pub growing : (k : ℕ) → Growing W H (F k)
  pub decides : (k : ℕ) (r : Rectangle) → (OnChip W H r × Lists k r) ↔ So (F k (left r) (bottom r) (right r) (top r))

pub fits_growing : {W H : ℕ} (F : ℕ → Test) → ((k : ℕ) → Growing W H (F k)) → (t : Tree) → Growing W H (fits F t)
unfolding fits
fits_growing F g (leaf t k) = g k
fits_growing F g (cut t d l r) = joined_growing d (fits_growing F g l) (fits_growing F g r)

-- a room round one that passes left and one that passes right, the two in order, is parted
round_both : {B D : ℕ} {F G : Test} → Growing B D F → Growing B D G → (a1 c1 b1 d1 a2 c2 b2 d2 a c b d : ℕ)
    → So (F a1 c1 b1 d1) → So (G a2 c2 b2 d2)
    → b1 ≤ a2 → a ≤ min a1 a2 → c ≤ min c1 c2 → max b1 b2 ≤ b → max d1 d2 ≤ d → b ≤ B → d ≤ D → So (parted F G a c b d)
round_both {F} f g a1 c1 b1 d1 a2 c2 b2 d2 a c b d s t o ha hc hb hd hB hD =
    let u = f.solid a1 c1 b1 d1 s in let v = g.solid a2 c2 b2 d2 t in
    parted_in F g a c b d b1
    (f.grow a1 c1 b1 d1 a c b1 d s (omega arith) (omega arith) (le_refl b1) (omega arith) (omega arith) hD)
    (g.grow a2 c2 b2 d2 b1 c b d t o (omega arith) (omega arith) (omega arith) hB hD)

-- a statement on rectangles, and the test of their sides that decides it
abbrev pub Says : (Rectangle → Type 0) → Test → Type 0
Says P F = (r : Rectangle) → P r ↔ So (F (left r) (bottom r) (right r) (top r))

-- of a room with columns and rows the statement is the test's
says_room : {P : Rectangle → Type 0} (F : Test) → Says P F → (a c b d : ℕ) → a ≤ b → c ≤ d → So (F a c b d)
    → P (room a c b d)
says_room F s a c b d h k t = (s (room a c b d)).1 (rw (room_right a b h, room_right c d k) t)

abbrev Bounds : Direction → (Rectangle → Type 0) → (Rectangle → Type 0) → Rectangle → Type 0
Bounds d P Q b = (p : Rectangle) × (q : Rectangle) × P p × Q q × (ends d p ≤ begins d q) × (b ≡ bounding p q)

-- The two directions of a cut: the box of two rectangles in order is parted, and of the two rooms that a line parts the
-- first ends where the second begins. From here on no law asks which direction it is.
box_parted : (k : Direction) {B D : ℕ} {F G : Test} → Growing B D F → Growing B D G → (p q : Rectangle) (a c b d : ℕ)
    → So (F (left p) (bottom p) (right p) (top p)) → So (G (left q) (bottom q) (right q) (top q))
    → ends k p ≤ begins k q
    → a ≤ min (left p) (left q) → c ≤ min (bottom p) (bottom q) → max (right p) (right q) ≤ b → max (top p) (top q) ≤ d
    → b ≤ B → d ≤ D
    → So (joined k F G a c b d)
box_parted Vertical f g p q a c b d s t o ha hc hb hd hB hD =
    round_both f g _ _ _ _ _ _ _ _ a c b d s t o ha hc hb hd hB hD
box_parted Horizontal f g p q a c b d s t o ha hc hb hd hB hD =
    round_both (turn_growing Horizontal f) (turn_growing Horizontal g)
    (bottom p) (left p) (top p) (right p) (bottom q) (left q) (top q) (right q) c a d b s t o hc ha hd hb hD hB

line_parts : (k : Direction) (a c b d m : ℕ) → a < across k m b → c < across k d m → across k m a < b → across k c m < d
    → (a ≤ across k m a) × (c ≤ across k c m) × (across k m b ≤ b) × (across k d m ≤ d)
    × (ends k (room a c (across k m b) (across k d m)) ≤ begins k (room (across k m a) (across k c m) b d))
line_parts Vertical a c b d m p q r s = (omega arith, le_refl c, omega arith, le_refl d, omega arith)
line_parts Horizontal a c b d m p q r s = (le_refl a, omega arith, le_refl b, omega arith, omega arith)

-- bounding boxes of two rectangles in order, anywhere on the chip, are the rooms that a line parts
module _ {W H : ℕ} {P Q : Rectangle → Type 0} {F G : Test} (f : Growing W H F) (g : Growing W H G) (x : Says P F) (y : Says Q G) where
  bounds_joined : (d : Direction) (b : Rectangle) → Bounds d P Q b
      → So (joined d F G (left b) (bottom b) (right b) (top b))
  bounds_joined d b (p, q, x', y', o, e) =
      let s = (x p).0 x' in let t = (y q).0 y' in let u = f.solid _ _ _ _ s in let v = g.solid _ _ _ _ t in
      let ex : left b ≡ min (left p) (left q) = ap left e in
      let ey : bottom b ≡ min (bottom p) (bottom q) = ap bottom e in
      let er : right b ≡ right (bounding p q) = ap right e in let et : top b ≡ top (bounding p q) = ap top e in
      box_parted d f g p q (left b) (bottom b) (right b) (top b) s t o (omega arith) (omega arith) (omega arith) (omega arith) (omega arith) (omega arith)

  joined_bounds : (d : Direction) (b : Rectangle) → So (joined d F G (left b) (bottom b) (right b) (top b))
      → Bounds d P Q b
  joined_bounds d b j =
      let (m, s, t) = joined_out d F G (left b) (bottom b) (right b) (top b) j in let u = f.solid _ _ _ _ s in
      let v = g.solid _ _ _ _ t in
      let p = room (left b) (bottom b) (across d m (right b)) (across d (top b) m) in
      let q = room (across d m (left b)) (across d (bottom b) m) (right b) (top b) in
      let (h1, h2, h3, h4, o) = line_parts d (left b) (bottom b) (right b) (top b) m u.0 u.1 v.0 v.1 in (
        p,
        q,
        says_room F x _ _ _ _ (omega arith) (omega arith) s,
        says_room G y _ _ _ _ (omega arith) (omega arith) t,
        o,
        same_sides b (bounding p q) (omega arith) (omega arith) (omega arith) (omega arith),
      )

module _ {W H : ℕ} {S : ℕ → Rectangle → Type 0} {F : ℕ → Test} (dec : Decides W H S F) where
  -- 01's shapes, and document 000's realizations, are the rooms that fit
  pub realizes_fits : (t : Tree) → Says (Realizes W H S t) (fits F t)
  unfolding Realizes fits
  realizes_fits (leaf t k) b = dec.decides k b
  realizes_fits (cut t d l r) b =
      let f = fits_growing F dec.growing l in let g = fits_growing F dec.growing r in
      (bounds_joined f g (realizes_fits l) (realizes_fits r) d b, joined_bounds f g (realizes_fits l) (realizes_fits r) d b)
