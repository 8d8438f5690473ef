-- Document 000's lemmas in its own words, for every tree node and over the direction; and that its lists come out the same whether
-- a cut's boxes are drawn round all shapes of the children anywhere on the chip, as 01 has it, or round their listed shapes alone.
-- Assumes nothing.
use mathlib.Core.Path.{◌≡◌, ap}
use mathlib.Core.Logic.{◌↔◌}
use Prim.Native.Nat.{ℕ, ◌+◌, ◌-◌, ◌≤◌, max}
use native.Mathlib.Omega.{arith}
use native.Mathlib.Nat.{le_refl, le_trans}
use Rattle.rules.specs.declared.Corner.{Corner}
use Rattle.rules.specs.declared.Shape.{Shape}
use Rattle.rules.specs.declared.Rectangle.{Rectangle}
use Rattle.rules.specs.declared.Direction.{Direction}
use Rattle.rules.specs.declared.Direction.TheVariants.{Vertical, Horizontal}
use Rattle.rules.specs.Chip.{shape, left, right, bottom, top}
use Rattle.rules.specs.Tree.{Tree, cut}
use Rattle.rules.specs.Placement.{begins, ends}
use Rattle.rules.specs.Shape.{bounding, Realizes, Dominates, Undominated, Listed}
use Rattle.rules.specs.Choice.{beside, pairing}
use Rattle.rules.proofs.Test.{Test, fits, list_byte}
use Rattle.rules.proofs.Rooms.{lemma_1}
use Rattle.rules.proofs.Fitting.{Decides, same_sides, fits_growing, realizes_fits}
use Rattle.rules.proofs.Listing.{same_shape, list_bytes, minimal_listed, list_complete}
use Rattle.rules.proofs.Pairing.{pairings_list_the_cut}

-- the rectangle of a shape at a corner
abbrev pub at : Corner → Shape → Rectangle
at c s = record { corner = c; shape = s }

-- where P lies in Q, and below each of Q stands one of P, both have the same undominated shapes
pub undominated_below : {P Q : Shape → Type 0} → ((s : Shape) → P s → Q s) → ((s : Shape) → Q s → (o : Shape) × P o × Dominates o s)
    → (s : Shape) → Undominated P s ↔ Undominated Q s
undominated_below {P} {Q} f g s = (
  λ u. record {
    is = f s u.is;
    alone = λ o q d. let (o', p, e) = g o q in
        let z = u.alone o' p (record { wide = le_trans e.wide d.wide; high = le_trans e.high d.high }) in
        let ew : o'.w.0 ≡ s.w.0 = ap (λ n. n.w.0) z in let eh : o'.h.0 ≡ s.h.0 = ap (λ n. n.h.0) z in
        let a = d.wide in let b = d.high in let a' = e.wide in let b' = e.high in same_shape o s (omega arith) (omega arith);
  },
  λ u. let (o, p, e) = g s u.is in
      record { is = rw (u.alone o (f o p) e) at p; alone = λ o' p' d. u.alone o' (f o' p') d },
)

module _ {W H : ℕ} {S : ℕ → Rectangle → Type 0} {F : ℕ → Test} (dec : Decides W H S F) where
  -- "Lemma 1: .. a rectangle r = (x, y, w, h) .. If x' ≤ x and y' ≤ y, then there is a rectangle r' in L(.., x', y'), such that
  -- x(r') + w(r') ≤ x(r) + w(r) and y(r') + h(r') ≤ y(r) + h(r)"
  pub document_lemma_1 : (t : Tree) (r : Rectangle) (c : Corner) → Realizes W H S t r → c.x.0 ≤ left r → c.y.0 ≤ bottom r
      → (s : Shape) × Listed W H S t c s × (right (at c s) ≤ right r) × (top (at c s) ≤ top r)
  document_lemma_1 t r c z p q =
      let g = fits_growing F dec.growing t in
      let (b', d', m, h, k) = lemma_1 g (left r) (bottom r) (right r) (top r) c.x.0 c.y.0 ((realizes_fits dec t r).0 z) p q in
      let u = g.solid c.x.0 c.y.0 b' d' m.is in let s = shape (b' - c.x.0) (d' - c.y.0) in
      let eb : b' ≡ c.x.0 + s.w.0 = omega arith in let ed : d' ≡ c.y.0 + s.h.0 = omega arith in
      (s, (minimal_listed dec t c s).0 (rw (eb, ed) at m), omega arith, omega arith)

  pairing_bounds : (k : Direction) (c : Corner) (s o whole : Shape) → 1 ≤ o.w.0 → 1 ≤ o.h.0 → pairing k s o ≡ whole → at c whole ≡ bounding (at c s) (at (beside k c s) o)
  pairing_bounds Vertical c s o whole p q e =
      let ew : s.w.0 + o.w.0 ≡ whole.w.0 = ap (λ n. n.w.0) e in let eh : max s.h.0 o.h.0 ≡ whole.h.0 = ap (λ n. n.h.0) e in
      same_sides (at c whole) (bounding (at c s) (at (beside Vertical c s) o)) (omega arith) (omega arith) (omega arith) (omega arith)
  pairing_bounds Horizontal c s o whole p q e =
      let ew : max s.w.0 o.w.0 ≡ whole.w.0 = ap (λ n. n.w.0) e in let eh : s.h.0 + o.h.0 ≡ whole.h.0 = ap (λ n. n.h.0) e in
      same_sides (at c whole) (bounding (at c s) (at (beside Horizontal c s) o)) (omega arith) (omega arith) (omega arith) (omega arith)

  -- "Lemma 2: If r in L(u, x, y), then there exist r1, r2 such that r1 in L(v, x, y), r2 in L(q, x + w(r1), y), and r is an bounding
  -- rectangle of r1 and r2", and so for horizontal cuts
  pub document_lemma_2 : (t : ℕ) (k : Direction) (l r : Tree) (c : Corner) (s : Shape) → Listed W H S (cut t k l r) c s
      → (s1 : Shape) × (s2 : Shape) × Listed W H S l c s1 × Listed W H S r (beside k c s1) s2 × (at c s ≡ bounding (at c s1) (at (beside k c s1) s2))
  document_lemma_2 t k l r c s z =
      let L : Corner → ℕ → ℕ = λ c. list_byte H (fits F l) c.x.0 c.y.0 in let R : Corner → ℕ → ℕ = λ c. list_byte H (fits F r) c.x.0 c.y.0 in
      let p = ((pairings_list_the_cut dec t k l r L R (λ c on. list_bytes dec l c) (λ c on. list_bytes dec r c) c s).1 z).is in
      let q = p.pair in (
        p.s,
        p.o,
        (list_bytes dec l c p.s).0 q.left,
        (list_bytes dec r (beside k c p.s) p.o).0 q.right,
        pairing_bounds k c p.s p.o s q.right.wide q.right.high q.box,
      )

  -- boxes round listed shapes of the children, anywhere on the chip
  abbrev pub ListedBoxes : Direction → Tree → Tree → Rectangle → Type 0
  ListedBoxes k l r b =
      (p : Rectangle) × (q : Rectangle) × Listed W H S l p.corner p.shape × Listed W H S r q.corner q.shape × (ends k p ≤ begins k q) × (b ≡ bounding p q)

  -- the lists are the same, whether all shapes or the listed ones of the children are meant
  pub listed_children_suffice : (t : ℕ) (k : Direction) (l r : Tree) (c : Corner) (s : Shape)
      → Undominated (λ s. ListedBoxes k l r (at c s)) s ↔ Listed W H S (cut t k l r) c s
  unfolding Realizes
  listed_children_suffice t k l r c =
      undominated_below (λ s z. let (p, q, x, y, o, e) = z in (p, q, x.is, y.is, o, e))
      (λ s z. let (o, i, d) = list_complete dec (cut t k l r) c s z in
      let (s1, s2, x, y, e) = document_lemma_2 t k l r c o i in (o, (at c s1, at (beside k c s1) s2, x, y, in_order k c s1 s2, e), d))
    where
      in_order : (k : Direction) (c : Corner) (s1 s2 : Shape) → ends k (at c s1) ≤ begins k (at (beside k c s1) s2)
      in_order Vertical c s1 s2 = le_refl _
      in_order Horizontal c s1 s2 = le_refl _
