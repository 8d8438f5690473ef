-- Pairings of stored shapes. Over any bytes the test below computes the slot of the undominated pairings that fit on
-- the chip; over lists of the two children it is the cut's own list, by lemma 2. Assumes nothing.
use mathlib.Core.Path.{◌≡◌, refl, sym, ap}
use mathlib.Core.Logic.{◌↔◌}
use mathlib.Core.Bool.{So}
use Prim.Native.Nat.{ℕ, suc, ◌+◌, ◌-◌, ◌≤◌, ◌<◌, max}
use native.Mathlib.Omega.{arith}
use native.Mathlib.Nat.{le_refl}
use Rattle.rules.specs.declared.Corner.{Corner}
use Rattle.rules.specs.declared.Shape.{Shape}
use Rattle.rules.specs.declared.Rectangle.{Rectangle}
use Rattle.rules.specs.declared.Direction.{Direction}
use Rattle.rules.specs.declared.Direction.TheVariants.{Vertical, Horizontal}
use Rattle.rules.specs.Chip.{corner, shape}
use Rattle.rules.specs.Tree.{Tree, cut}
use Rattle.rules.specs.Shape.{Undominated, Listed}
use Rattle.rules.specs.Slot.{Stores, IsListOf, ListsAt}
use Rattle.rules.specs.Choice.{beside, pairing}
use Rattle.rules.specs.Edit.{Paired}
use Rattle.rules.proofs.Test.{Test, Grid, grid, turn, across, fits, list_byte, stored, side_by_side, pair_test}
use Rattle.rules.proofs.Searching.{test-iffs, search-iffs}
use Rattle.rules.proofs.Rooms.{Rel, Passes, Rising, Minimal, same_minimal, turn_minimal, Beside, Lists, Pairings, lemma_2}
use Rattle.rules.proofs.Fitting.{Decides, fits_growing}
use Rattle.rules.proofs.Listing.{same_shape, bytes_minimal, minimal_undominated, minimal_listed}

-- a test that holds of rooms on the chip only
pub record Solid (B D : ℕ) (F : Test) : Type 0 where
  pub solid : (a c b d : ℕ) → So (F a c b d) → (a < b) × (c < d) × (b ≤ B) × (d ≤ D)

pub stored_solid : (W H : ℕ) (g : Grid) → Solid W H (stored W H g)
unfolding stored
stored_solid W H g = record { solid = λ a c b d t. let h = simp test-iffs at t in omega arith }

turned_solid : (W H : ℕ) (g : Grid) → Solid H W (turn Horizontal (stored W H g))
turned_solid W H g = record { solid = λ a c b d t. let h = (stored_solid W H g).solid c a d b t in (h.1, h.0, h.3, h.2) }

-- a stored room is a shape that the slot holds, on the chip
pub stored_iff : (W H : ℕ) (g : Grid) (a c : ℕ) (s : Shape)
    → So (stored W H g a c (a + s.w.0) (c + s.h.0)) ↔ (Stores W (g a c) s × (a + s.w.0 ≤ W) × (c + s.h.0 ≤ H))
unfolding stored
stored_iff W H g a c s = (
  λ t. let h = simp test-iffs at t in to (omega arith) h,
  λ z. let (y, p, q) = z in from p q y.wide y.high y.byte (omega arith),
)
  where
    to : a + s.w.0 - suc a ≡ s.w.0 - 1
        → ((((a < a + s.w.0) × (c < c + s.h.0)) × (a + s.w.0 ≤ W)) × (c + s.h.0 ≤ H)) × (c + g a c (a + s.w.0 - suc a) ≡ c + s.h.0)
        → Stores W (g a c) s × (a + s.w.0 ≤ W) × (c + s.h.0 ≤ H)
    to e h =
        let q : c + g a c (s.w.0 - 1) ≡ c + s.h.0 = rw e at h.1 in
        (record { wide = omega arith; within = omega arith; high = omega arith; byte = omega arith }, omega arith, omega arith)

    from : a + s.w.0 ≤ W → c + s.h.0 ≤ H → 1 ≤ s.w.0 → 1 ≤ s.h.0 → g a c (s.w.0 - 1) ≡ s.h.0
        → a + s.w.0 - suc a ≡ s.w.0 - 1
        → So (stored W H g a c (a + s.w.0) (c + s.h.0))
    from p q u v y e = simp test-iffs ((((omega arith, omega arith), p), q), rw e (omega arith))

stored_room : (W H : ℕ) (g : Grid) (a c b d : ℕ) → So (stored W H g a c b d) → Stores W (g a c) (shape (b - a) (d - c))
stored_room W H g a c b d t =
    let z = (stored_solid W H g).solid a c b d t in let e : b ≡ a + (b - a) = omega arith in
    let e' : d ≡ c + (d - c) = omega arith in
    ((stored_iff W H g a c (shape (b - a) (d - c))).0 (rw (e, e') at t)).0

-- the rooms with a stored shape of each side by side are those that hold a box of two such
module _ {B D : ℕ} {F G : Test} (f : Solid B D F) (g : Solid B D G) where
  side_out : (a c b d : ℕ) → So (side_by_side B D F G a c b d)
      → (b ≤ B) × (d ≤ D) × ((b' : ℕ) × (d' : ℕ) × Beside (Passes F) (Passes G) a c b' d' × (b' ≤ b) × (d' ≤ d))
  unfolding side_by_side Beside
  side_out a c b d t =
      let ((p, q), (m, h, ((d1, h1, x), (b2, h2, (d2, h3, y))))) = simp search-iffs at t in
      (p, q, (b2, max d1 d2, (m, d1, d2, x, y, refl {a = max d1 d2}), omega arith, omega arith))

  side_in : (a c b d b' d' : ℕ) → b ≤ B → d ≤ D → Beside (Passes F) (Passes G) a c b' d' → b' ≤ b → d' ≤ d
      → So (side_by_side B D F G a c b d)
  unfolding side_by_side Beside
  side_in a c b d b' d' p q (m, d1, d2, x, y, e) h k =
      let v = g.solid m c b' d2 y in
      simp search-iffs ((p, q), (m, omega arith, ((d1, omega arith, x), (b', omega arith, (d2, omega arith, y)))))

-- A room of each, the right one's corner beside the left one, and the box of both. It reads the same in either
-- direction.
pub record Boxed (k : Direction) (L R : Rel) (a c b d : ℕ) : Type 0 where
  pub b1 : ℕ
  pub d1 : ℕ
  pub b2 : ℕ
  pub d2 : ℕ
  pub left : L a c b1 d1
  pub right : R (across k b1 a) (across k c d1) b2 d2
  pub wide : max b1 b2 ≡ b
  pub high : max d1 d2 ≡ d

module _ (W H : ℕ) (g g' : Grid) where
  abbrev Left : Rel
  Left = Passes (stored W H g)

  abbrev Right : Rel
  Right = Passes (stored W H g')

  abbrev Rooms : Direction → Rel
  Rooms k = turn k (Beside (turn k Left) (turn k Right))

  pub rooms_out : (k : Direction) {a c b d : ℕ} → Rooms k a c b d → Boxed k Left Right a c b d
  unfolding Beside
  rooms_out Vertical {b} (m, d1, d2, x, y, e) =
      let v = (stored_solid W H g').solid _ _ _ _ y in
      record { b1 = m; d1 = d1; b2 = b; d2 = d2; left = x; right = y; wide = omega arith; high = sym e }
  rooms_out Horizontal {d} (m, b1, b2, x, y, e) =
      let v = (stored_solid W H g').solid _ _ _ _ y in
      record { b1 = b1; d1 = m; b2 = b2; d2 = d; left = x; right = y; wide = sym e; high = omega arith }

  pub rooms_in : (k : Direction) {a c b d : ℕ} → Boxed k Left Right a c b d → Rooms k a c b d
  unfolding Beside
  rooms_in Vertical {b} z =
      let v = (stored_solid W H g').solid _ _ _ _ z.right in let h = z.wide in let e : z.b2 ≡ b = omega arith in
      (z.b1, z.d1, z.d2, z.left, rw e at z.right, sym z.high)
  rooms_in Horizontal {d} z =
      let v = (stored_solid W H g').solid _ _ _ _ z.right in let h = z.high in let e : z.d2 ≡ d = omega arith in
      (z.d1, z.b1, z.b2, z.left, rw e at z.right, sym z.wide)

  pub pairs_out : (k : Direction) (a c b d : ℕ) → So (pair_test k W H g g' a c b d)
      → (b ≤ W) × (d ≤ H) × ((b' : ℕ) × (d' : ℕ) × Rooms k a c b' d' × (b' ≤ b) × (d' ≤ d))
  unfolding pair_test
  pairs_out Vertical a c b d t = side_out (stored_solid W H g) (stored_solid W H g') a c b d t
  pairs_out Horizontal a c b d t =
      let (p, q, (d', b', z, h, l)) = side_out (turned_solid W H g) (turned_solid W H g') c a d b t in
      (q, p, (b', d', z, l, h))

  pub pairs_in : (k : Direction) (a c b d b' d' : ℕ) → b ≤ W → d ≤ H → Rooms k a c b' d' → b' ≤ b → d' ≤ d
      → So (pair_test k W H g g' a c b d)
  unfolding pair_test
  pairs_in Vertical a c b d b' d' p q z h l = side_in (stored_solid W H g) (stored_solid W H g') a c b d b' d' p q z h l
  pairs_in Horizontal a c b d b' d' p q z h l =
      side_in (turned_solid W H g) (turned_solid W H g') c a d b d' b' q p z l h

  -- from here on no law asks which direction it is
  rooms_solid : (k : Direction) {a c b d : ℕ} → Rooms k a c b d → (a < b) × (c < d) × (b ≤ W) × (d ≤ H)
  rooms_solid k r =
      let z = rooms_out k r in let u = (stored_solid W H g).solid _ _ _ _ z.left in
      let v = (stored_solid W H g').solid _ _ _ _ z.right in
      let e = z.wide in let e' = z.high in (omega arith, omega arith, omega arith, omega arith)

  pub pairs_rising : (k : Direction) (a c : ℕ) → Rising W H (pair_test k W H g g') a c
  pairs_rising k a c = record {
    rise = λ b d b' d' t p q r s. let (_, _, (b2, d2, z, h, l)) = pairs_out k a c b d t in
        pairs_in k a c b' d' b2 d2 r s z (omega arith) (omega arith);
    solid =
        λ b d t. let (p, q, (b', d', z, h, l)) =
        pairs_out k a c b d t in let s = rooms_solid k z in (omega arith, omega arith, p, q);
  }

  pairs_minimal : (k : Direction) (a c b d : ℕ)
      → Minimal (Passes (pair_test k W H g g')) a c b d ↔ Pairings k Left Right a c b d
  pairs_minimal k a c b d =
      let t = turn_minimal k (Beside (turn k Left) (turn k Right)) a c b d in
      let e = same_minimal (Rooms k) (Passes (pair_test k W H g g')) a c
      (λ b d z. let s = rooms_solid k z in pairs_in k a c b d b d s.2 s.3 z (le_refl b) (le_refl d))
      (λ b d t. (pairs_out k a c b d t).2) b d in
      (λ m. t.1 (e.1 m), λ m. e.0 (t.0 m))

-- 01's words for it: the right child's corner, and the box's two sides, where the left shape ends at b1 and d1
beside_at : (k : Direction) (c : Corner) (s : Shape) {b1 d1 : ℕ} → c.x.0 + s.w.0 ≡ b1 → c.y.0 + s.h.0 ≡ d1
    → beside k c s ≡ corner (across k b1 c.x.0) (across k c.y.0 d1)
beside_at Vertical c s e h = λ i. corner (e i) c.y.0
beside_at Horizontal c s e h = λ i. corner c.x.0 (h i)

box_sides : (k : Direction) (c : Corner) (s o : Shape) {b1 d1 : ℕ} → c.x.0 + s.w.0 ≡ b1 → c.y.0 + s.h.0 ≡ d1
    → (max b1 (across k b1 c.x.0 + o.w.0) ≡ c.x.0 + (pairing k s o).w.0)
    × (max d1 (across k c.y.0 d1 + o.h.0) ≡ c.y.0 + (pairing k s o).h.0)
box_sides Vertical c s o e h = (omega arith, omega arith)
box_sides Horizontal c s o e h = (omega arith, omega arith)

-- so 01's pairings are these boxes
module _ (W H : ℕ) (k : Direction) (L R : Corner → ℕ → ℕ) (c : Corner) where
  abbrev RoomsAt : Shape → Type 0
  RoomsAt s = Rooms W H (grid L) (grid R) k c.x.0 c.y.0 (c.x.0 + s.w.0) (c.y.0 + s.h.0)

  paired_rooms : (whole : Shape) → Paired W H k L R c whole → RoomsAt whole
  paired_rooms whole z =
      let p = z.pair in let s = z.s in let o = z.o in let q = z.fits.columns in let q' = z.fits.rows in
      let (ew, eh) = box_sides k c s o refl refl in
      let fw : (pairing k s o).w.0 ≡ whole.w.0 = ap (λ n. n.w.0) p.box in
      let fh : (pairing k s o).h.0 ≡ whole.h.0 = ap (λ n. n.h.0) p.box in
      rooms_in W H (grid L) (grid R) k (record {
        b1 = _;
        d1 = _;
        b2 = _;
        d2 = _;
        left = (stored_iff W H (grid L) c.x.0 c.y.0 s).1 (p.left, omega arith, omega arith);
        right =
            (stored_iff W H (grid R) _ _ o).1 (rw (beside_at k c s refl refl) at p.right, omega arith, omega arith);
        wide = omega arith;
        high = omega arith;
      })

  rooms_paired : (whole : Shape) → RoomsAt whole → Paired W H k L R c whole
  rooms_paired whole r =
      let z = rooms_out W H (grid L) (grid R) k r in let e = z.wide in let e' = z.high in
      let u = (stored_solid W H (grid L)).solid _ _ _ _ z.left in
      let v = (stored_solid W H (grid R)).solid _ _ _ _ z.right in
      let s = shape (z.b1 - c.x.0) (z.d1 - c.y.0) in
      let o = shape (z.b2 - across k z.b1 c.x.0) (z.d2 - across k c.y.0 z.d1) in
      let eb : c.x.0 + s.w.0 ≡ z.b1 = omega arith in let ed : c.y.0 + s.h.0 ≡ z.d1 = omega arith in
      let (ew, eh) = box_sides k c s o eb ed in
      record {
        s = s;
        o = o;
        pair = record {
          left = stored_room W H (grid L) _ _ _ _ z.left;
          corner = rw (beside_at k c s eb ed) (record { column = omega arith; row = omega arith });
          right = rw (beside_at k c s eb ed) (stored_room W H (grid R) _ _ _ _ z.right);
          box = same_shape (pairing k s o) whole (omega arith) (omega arith);
        };
        fits = record { wide = omega arith; high = omega arith; columns = omega arith; rows = omega arith };
      }

  paired_minimal : (s : Shape)
      → Pairings k (Passes (stored W H (grid L))) (Passes (stored W H (grid R))) c.x.0 c.y.0 (c.x.0 + s.w.0) (c.y.0 + s.h.0)
      ↔ Undominated (Paired W H k L R c) s
  paired_minimal s =
      let t = turn_minimal k (Beside (turn k (Passes (stored W H (grid L)))) (turn k (Passes (stored W H (grid R)))))
      c.x.0 c.y.0 (c.x.0 + s.w.0) (c.y.0 + s.h.0) in
      let u = minimal_undominated c.x.0 c.y.0 (λ b d r. let h = rooms_solid W H (grid L) (grid R) k r in (h.0, h.1))
      (λ o. (paired_rooms o, rooms_paired o)) s in
      (λ m. u.0 (t.0 m), λ m. t.1 (u.1 m))

  -- the computed slot is the list of the undominated pairings, whatever the bytes
  pub pairings_bytes : IsListOf W (list_byte H (pair_test k W H (grid L) (grid R)) c.x.0 c.y.0) (Paired W H k L R c)
  pairings_bytes s =
      let m = bytes_minimal (pairs_rising W H (grid L) (grid R) k c.x.0 c.y.0) s in
      let p = pairs_minimal W H (grid L) (grid R) k c.x.0 c.y.0 (c.x.0 + s.w.0) (c.y.0 + s.h.0) in
      let u = paired_minimal s in
      (λ z. u.0 (p.0 (m.0 z)), λ z. m.1 (p.1 (u.1 z)))

module _ {W H : ℕ} {S : ℕ → Rectangle → Type 0} {F : ℕ → Test} (dec : Decides W H S F) where
  pub stored_lists : (g : Corner → ℕ → ℕ) (t : Tree) → ListsAt W H H S g t
      → Lists (fits F t) (Passes (stored W H (grid g)))
  stored_lists g t l a c b d = (to, back)
    where
      to : So (stored W H (grid g) a c b d) → Minimal (Passes (fits F t)) a c b d
      to x =
          let s = shape (b - a) (d - c) in
          let z = (stored_solid W H (grid g)).solid a c b d x in let e : a + (b - a) ≡ b = omega arith in
          let e' : c + (d - c) ≡ d = omega arith in
          let u = (l (corner a c) (record { column = omega arith; row = omega arith }) s).0 (stored_room W H (grid g) a c b d x) in
          rw (e, e') at ((minimal_listed dec t (corner a c) s).1 u)

      back : Minimal (Passes (fits F t)) a c b d → So (stored W H (grid g) a c b d)
      back m =
          let s = shape (b - a) (d - c) in
          let z = (fits_growing F dec.growing t).solid a c b d m.is in let e : b ≡ a + (b - a) = omega arith in
          let e' : d ≡ c + (d - c) = omega arith in
          let u = (minimal_listed dec t (corner a c) s).0 (rw (e, e') at m) in
          let y = (l (corner a c) (record { column = omega arith; row = omega arith }) s).1 u in
          rw (e, e') ((stored_iff W H (grid g) a c s).1 (y, omega arith, omega arith))

  -- the undominated pairings of the children's lists are the cut's list
  pub pairings_list_the_cut : (t : ℕ) (k : Direction) (l r : Tree) (L R : Corner → ℕ → ℕ) → ListsAt W H H S L l
      → ListsAt W H H S R r
      → (c : Corner) (s : Shape) → Undominated (Paired W H k L R c) s ↔ Listed W H S (cut t k l r) c s
  unfolding fits
  pairings_list_the_cut t k l r L R x y c s =
      let p = paired_minimal W H k L R c s in let m = minimal_listed dec (cut t k l r) c s in
      let q = lemma_2 k (fits_growing F dec.growing l) (fits_growing F dec.growing r) (stored_lists L l x) (stored_lists R r y)
      c.x.0 c.y.0 (c.x.0 + s.w.0) (c.y.0 + s.h.0) in
      (λ u. m.0 (q.0 (p.1 u)), λ u. p.0 (q.1 (m.1 u)))
