-- The least top side that the code computes is the least one at which the test of pairings passes: a box that the code
-- takes is such a pairing, and each pairing has a box of the code's that ends no higher. Once for both directions.
-- Assumes nothing.
use mathlib.Core.Path.{◌≡◌, refl, sym, ap}
use mathlib.Core.Bool.{Bool, true, false, So}
use mathlib.Core.List.{List}
use Prim.Native.Nat.{ℕ, suc, ◌+◌, ◌-◌, ◌≤◌, ◌<◌, max}
use native.Mathlib.Omega.{arith}
use native.Mathlib.Decide.{dec_le}
use Rattle.rules.specs.declared.Direction.{Direction}
use Rattle.rules.specs.declared.Direction.TheVariants.{Vertical, Horizontal}
use Rattle.rules.specs.declared.Corner.{Corner}
use Rattle.rules.specs.Search.{least}
use Rattle.rules.specs.Chip.{corner}
use Rattle.rules.proofs.Test.{Grid, grid, across, only_if, lowest, list_byte, stored, pair_test}
use Rattle.rules.proofs.Searching.{test-iffs, Least, least_is}
use Rattle.rules.proofs.Pairing.{rooms_out, rooms_in, pairs_out, pairs_in}
use Rattle.slots.specs.declared.Board.{Board}
use Rattle.cuts.specs.Cut.{corner_at, line_of, places, slot_top, line_top, held_top, LineFilled, has_box, greater_top, box_top, least_top, kept_byte, laid_slot}
use Rattle.cuts.proofs.Least.{least_start, least_under, least_found, least_same}

-- a stored room, by its shape
record At (W H : ℕ) (g : Grid) (x y b t : ℕ) : Type 0 where
  i : ℕ
  some : 0 < g x y i
  wide : b ≡ x + suc i
  high : t ≡ y + g x y i
  columns : b ≤ W
  rows : t ≤ H

stored_out : (W H : ℕ) (g : Grid) (x y b t : ℕ) → So (stored W H g x y b t) → At W H g x y b t
unfolding stored
stored_out W H g x y b t s =
    let ((((p, q), r), u), e) = simp test-iffs at s in
    record { i = b - suc x; some = omega arith; wide = omega arith; high = sym e; columns = r; rows = u }

stored_in : (W H : ℕ) (g : Grid) (x y i : ℕ) → 0 < g x y i → x + suc i ≤ W → y + g x y i ≤ H
    → So (stored W H g x y (x + suc i) (y + g x y i))
unfolding stored
stored_in W H g x y i p q r =
    let e : x + suc i - suc x ≡ i = omega arith in
    simp test-iffs ((((omega arith, omega arith), q), r), ap (λ n. y + g x y n) e)

-- two stored shapes, the right one beside the left one, whose box has its right side at b or before and its top side at
-- t or below
record Box (d : Direction) (g g' : Grid) (x y b t : ℕ) : Type 0 where
  i : ℕ
  j : ℕ
  left : 0 < g x y i
  right : 0 < g' (across d (x + suc i) x) (across d y (y + g x y i)) j
  wide : x + suc i ≤ b
  wide' : across d (x + suc i) x + suc j ≤ b
  high : y + g x y i ≤ t
  high' : across d y (y + g x y i) + g' (across d (x + suc i) x) (across d y (y + g x y i)) j ≤ t

-- the test of pairings finds such boxes
module _ (d : Direction) (W H : ℕ) (g g' : Grid) (x y b t : ℕ) where
  two_stored : {b1 t1 b2 t2 : ℕ} → At W H g x y b1 t1 → At W H g' (across d b1 x) (across d y t1) b2 t2 → max b1 b2 ≤ b
      → max t1 t2 ≤ t → Box d g g' x y b t
  two_stored {b1} {t1} {b2} {t2} l r h k =
      let e = l.wide in let e' = l.high in
      let r' : At W H g' (across d (x + suc l.i) x) (across d y (y + g x y l.i)) b2 t2 = rw (e, e') at r in
      let f = r'.wide in let f' = r'.high in
      record { i = l.i; j = r'.i; left = l.some; right = r'.some; wide = omega arith; wide' = omega arith; high = omega arith; high' = omega arith }

  box_out : So (pair_test d W H g g' x y b t) → (b ≤ W) × (t ≤ H) × Box d g g' x y b t
  box_out s =
      let (p, q, (b', t', r, h, k)) = pairs_out W H g g' d x y b t s in
      let z = rooms_out W H g g' d r in let w = z.wide in let w' = z.high in
      (p, q, two_stored (stored_out W H g _ _ _ _ z.left) (stored_out W H g' _ _ _ _ z.right) (omega arith) (omega arith))

  box_in : b ≤ W → t ≤ H → Box d g g' x y b t → So (pair_test d W H g g' x y b t)
  box_in p q z =
      let u = z.wide in let u' = z.wide' in let v = z.high in let v' = z.high' in
      pairs_in W H g g' d x y b t _ _ p q
      (rooms_in W H g g' d (record {
        b1 = _;
        d1 = _;
        b2 = _;
        d2 = _;
        left = stored_in W H g x y z.i z.left (omega arith) (omega arith);
        right = stored_in W H g' _ _ z.j z.right (omega arith) (omega arith);
        wide = refl;
        high = refl;
      })) (omega arith) (omega arith)

-- what a left shape asks to have a box, and that its box is then this one
pub record Meets (d : Direction) (B : Board) (c : Corner) (i h b : ℕ) : Type 0 where
  pub some : 0 < h
  pub rows : c.y.0 + h ≤ B.height.0
  pub place : across d (c.x.0 + suc i) (c.y.0 + h) < places d B
  pub wide : c.x.0 + suc i ≤ b
  pub beside : across d (c.x.0 + suc i) c.x.0 < b
  pub columns : b ≤ B.width.0

pub meets_out : (d : Direction) (B : Board) (c : Corner) (i h b : ℕ) → So (has_box d B c i h b) → Meets d B c i h b
unfolding has_box
meets_out d B c i h b s =
    let (((((p, q), r), u), v), w) = simp test-iffs at s in
    record { some = p; rows = q; place = r; wide = u; beside = v; columns = w }

meets_in : (d : Direction) (B : Board) (c : Corner) (i h b : ℕ) → Meets d B c i h b → So (has_box d B c i h b)
unfolding has_box
meets_in d B c i h b m = simp test-iffs (((((m.some, m.rows), m.place), m.wide), m.beside), m.columns)

only_some : (b : Bool) (n : ℕ) → 0 < only_if b n → So b × (only_if b n ≡ n)
only_some true n h = (refl, refl)
only_some false n h = absurd (omega arith)

module _ (d : Direction) (B : Board) (tops : ℕ → ℕ → ℕ) (c : Corner) (i h b : ℕ) where
  pub top_out : 0 < box_top d B tops c i h b → Meets d B c i h b × (box_top d B tops c i h b ≡ greater_top d tops c i h b)
  unfolding box_top
  top_out k = let (s, e) = only_some (has_box d B c i h b) (greater_top d tops c i h b) k in (meets_out d B c i h b s, e)

  pub top_in : Meets d B c i h b → box_top d B tops c i h b ≡ greater_top d tops c i h b
  unfolding box_top
  top_in m = rw (meets_in d B c i h b m)

-- beside a shape of the left slot at c, the corner on c's line is the right child's, and the line has the right slot
-- there
beside_corner : (d : Direction) (c : Corner) (i h : ℕ)
    → corner_at d (line_of d c) (across d (c.x.0 + suc i) (c.y.0 + h)) ≡ corner (across d (c.x.0 + suc i) c.x.0) (across d c.y.0 (c.y.0 + h))
beside_corner Vertical c i h = refl
beside_corner Horizontal c i h = refl

beside_top : (d : Direction) (B : Board) (R : Corner → ℕ → ℕ) (c : Corner) (i h b : ℕ)
    → line_top d B R (line_of d c) (across d (c.x.0 + suc i) (c.y.0 + h)) b
    ≡ slot_top B.height.0 (across d c.y.0 (c.y.0 + h)) (grid R (across d (c.x.0 + suc i) c.x.0) (across d c.y.0 (c.y.0 + h)))
    (b - across d (c.x.0 + suc i) c.x.0)
beside_top d B R c i h b = ap (λ k. slot_top B.height.0 k.y.0 (R k) (b - k.x.0)) (beside_corner d c i h)

-- the right shape's corner is on the chip
place_on : (d : Direction) (W H x y i h b j h' t : ℕ) → b ≤ W → t ≤ H → across d (x + suc i) x + suc j ≤ b → 0 < h'
    → across d y (y + h) + h' ≤ t
    → across d (x + suc i) (y + h) < across d W H
place_on Vertical W H x y i h b j h' t p q u v w = omega arith
place_on Horizontal W H x y i h b j h' t p q u v w = omega arith

module _ (d : Direction) (B : Board) (L R : Corner → ℕ → ℕ) (c : Corner) where
  abbrev W : ℕ
  W = B.width.0

  abbrev H : ℕ
  H = B.height.0

  abbrev x : ℕ
  x = c.x.0

  abbrev y : ℕ
  y = c.y.0

  abbrev tops : ℕ → ℕ → ℕ
  tops = line_top d B R (line_of d c)

  -- the right slot beside the left shape i, and their lowest box
  abbrev column : ℕ → ℕ
  column i = across d (x + suc i) x

  abbrev row : ℕ → ℕ
  row i = across d y (y + L c i)

  abbrev bytes : ℕ → ℕ → ℕ
  bytes i = grid R (column i) (row i)

  abbrev top : ℕ → ℕ → ℕ
  top b i = box_top d B tops c i (L c i) b

  -- a box of the code's is a pairing
  box_paired : (i b : ℕ) → 0 < top b i → top b i ≤ H → Box d (grid L) (grid R) x y b (top b i)
  unfolding slot_top
  box_paired i b p q =
      let (m, e) = top_out d B tops c i (L c i) b p in let f = beside_top d B R c i (L c i) b in let u = m.beside in
      let (j, v, w, z) = least_found (suc (H - row i)) (bytes i) (b - column i) (omega arith) in
      record { i = i; j = j; left = m.some; right = w; wide = m.wide; wide' = omega arith; high = omega arith; high' = omega arith }

  -- and a pairing has a box of the code's that ends no higher
  paired_box : (b t : ℕ) → b ≤ W → t ≤ H → (z : Box d (grid L) (grid R) x y b t)
      → (0 < top b z.i) × (top b z.i ≤ t) × (z.i < W - x)
  unfolding slot_top
  paired_box b t h k z =
      let p = z.left in let q = z.right in let u = z.wide in let u' = z.wide' in let v = z.high in
      let v' = z.high' in
      let e = top_in d B tops c z.i (L c z.i) b (record {
        some = p;
        rows = omega arith;
        place = place_on d W H x y z.i (L c z.i) b z.j (bytes z.i z.j) t h k u' q v';
        wide = u;
        beside = omega arith;
        columns = h;
      }) in
      let f = beside_top d B R c z.i (L c z.i) b in
      let l = least_under (suc (H - row z.i)) (bytes z.i) (b - column z.i) z.j (omega arith) q in
      (omega arith, omega arith, omega arith)

  abbrev found : ℕ → ℕ
  found b = least_top d B tops c (L c) (W - x) b

  lowest_is : (b : ℕ) → y ≤ H → lowest H (pair_test d W H (grid L) (grid R)) x y b ≡ found b
  unfolding lowest least_top
  lowest_is b on = both (dec_le (found b) H) (dec_le (lowest H (pair_test d W H (grid L) (grid R)) x y b) H)
    where
      f : ℕ → Bool
      f t = pair_test d W H (grid L) (grid R) x y b t

      r : ℕ
      r = least f (suc H - y) y

      l : Least f (suc H - y) y r
      l = least_is f (suc H - y) y

      under : found b ≤ H → r ≤ found b
      under h =
          let (i, p, q, e) = least_found (suc H) (top b) (W - x) (omega arith) in
          let z : Box d (grid L) (grid R) x y b (found b) = rw e at (box_paired i b q (omega arith)) in
          let v = z.high in
          l.least (found b) (omega arith) (omega arith) (box_in d W H (grid L) (grid R) x y b (found b) (top_out d B tops c i (L c i) b q).0.columns h z)

      over : r ≤ H → found b ≤ r
      over h =
          let (p, q, z) = box_out d W H (grid L) (grid R) x y b r (l.passes (omega arith)) in
          let (u, v, w) = paired_box b r p q z in let m = least_under (suc H) (top b) (W - x) z.i w u in omega arith

      both : Dec (found b ≤ H) → Dec (r ≤ H) → r ≡ found b
      both (yes p) (yes q) = let h = under p in let k = over q in omega arith
      both (yes p) (no q) = let h = under p in absurd (omega arith)
      both (no p) (yes q) = let k = over q in absurd (omega arith)
      both (no p) (no q) = let h = least_start (suc H) (top b) (W - x) in let k = l.within in omega arith

  -- so the slot that is laid is the slot of the undominated pairings
  pub laid_paired : (j : ℕ) → y ≤ H → laid_slot d B tops c (L c) j ≡ list_byte H (pair_test d W H (grid L) (grid R)) x y j
  unfolding laid_slot kept_byte list_byte
  laid_paired j on = rw (lowest_is (x + j) on, lowest_is (x + suc j) on)

-- a line's bytes do as well as the slots that they were filled from
box_same : (d : Direction) (B : Board) (tops tops' : ℕ → ℕ → ℕ) (c : Corner) (i h b : ℕ)
    → (Meets d B c i h b → tops (across d (c.x.0 + suc i) (c.y.0 + h)) b ≡ tops' (across d (c.x.0 + suc i) (c.y.0 + h)) b)
    → box_top d B tops c i h b ≡ box_top d B tops' c i h b
unfolding box_top
box_same d B tops tops' c i h b e = go (has_box d B c i h b) (λ s. e (meets_out d B c i h b s))
  where
    go : (s : Bool)
        → (So s → tops (across d (c.x.0 + suc i) (c.y.0 + h)) b ≡ tops' (across d (c.x.0 + suc i) (c.y.0 + h)) b)
        → only_if s (greater_top d tops c i h b) ≡ only_if s (greater_top d tops' c i h b)
    go true f = rw (f refl)
    go false f = refl

pub filled_tops : (d : Direction) (B : Board) (R : Corner → ℕ → ℕ) (c : Corner) (filled : List ℕ)
    → LineFilled d B R (line_of d c) (places d B) filled
    → (bytes : ℕ → ℕ) (n b : ℕ)
    → least_top d B (held_top filled) c bytes n b ≡ least_top d B (line_top d B R (line_of d c)) c bytes n b
unfolding least_top
filled_tops d B R c filled z bytes n b =
    least_same _ _ _ n (λ i k. box_same d B (held_top filled) (line_top d B R (line_of d c)) c i (bytes i) b
    (λ m. z.at _ b m.place (let e = ap (λ k. k.x.0) (beside_corner d c i (bytes i)) in omega (arith, m.beside)) m.columns))
