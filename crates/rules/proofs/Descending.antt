-- Going down. Over any bytes the rectangles given for the computed rooms are the ones that 01's rule gives, if it gives any; over
-- stairs they are a lawful placement inside the shape that was asked; over a design's own lists going down never fails. Assumes
-- nothing.
use mathlib.Core.Path.{◌≡◌, refl, sym, ◌∙◌, ap}
use mathlib.Core.Logic.{◌⊎◌, inl, inr, ◌↔◌}
use mathlib.Core.Bool.{Bool, So, ◌&&◌}
use Prim.Native.Nat.{ℕ, ◌+◌, ◌-◌, ◌≤◌, max}
use native.Mathlib.Omega.{arith}
use native.Mathlib.Nat.{le_refl}
use native.Mathlib.Decide.{dec_le}
use borrow.Author.Tests.{eqb-true, eq-eqb}
use Rattle.rules.specs.declared.Corner.{Corner}
use Rattle.rules.specs.declared.Shape.{Shape}
use Rattle.rules.specs.declared.Rectangle.{Rectangle}
use Rattle.rules.specs.declared.Direction.{Direction}
use Rattle.rules.specs.declared.Direction.TheVariants.{Vertical, Horizontal}
use Rattle.rules.specs.Chip.{OnChip}
use Rattle.rules.specs.Tree.{Tree, leaf, cut, has, position}
use Rattle.rules.specs.Placement.{Placement, Follows}
use Rattle.rules.specs.Shape.{Realizes, Listed}
use Rattle.rules.specs.Slot.{Stores, CornerOn, Stair, ListsAt}
use Rattle.rules.specs.Choice.{Down, beside, pairing}
use Rattle.rules.proofs.Test.{Test, left_shape, right_shape, has_pair, goes_down, laid, merge, given_suits, given_in}
use Rattle.rules.proofs.Searching.{or_iff, and_iff}
use Rattle.rules.proofs.Fitting.{Decides}
use Rattle.rules.proofs.Standing.{Once, Part, whole, in_left, in_right}
use Rattle.rules.proofs.Placing.{PlacedIn, GivesInside, Leaves, wider, both_placed, merge_left, merge_right}
use Rattle.rules.proofs.Pairing.{pairings_list_the_cut}
use Rattle.rules.proofs.Choosing.{takes, taken_once, pair_found}

-- something holds of a tree and of every part of it
abbrev pub Every : (Tree → Type 0) → Tree → Type 0
Every P t = (u : Tree) → Part u t → P u

module _ (W H : ℕ) (S : ℕ → Rectangle → Type 0) (given : ℕ → Rectangle → Rectangle) (slots : ℕ → Corner → ℕ → ℕ) where
  -- what goes down hangs on the rectangles of the tree's own modules
  pub down_same : (t : Tree) (c : Corner) (s : Shape) (p q : Placement) → ((k : ℕ) → So (has t k) → p k ≡ q k)
      → Down W H S given slots t c s p → Down W H S given slots t c s q
  unfolding Down has
  down_same (leaf t k) c s p q e (u, v) = let e' = e k (eq-eqb k k refl) in (rw (← e') u, sym e' ∙ v)
  down_same (cut t d l r) c box p q e (s, o, x, y, z) = (
    s,
    o,
    x,
    down_same l c s p q (λ k i. e k ((or_iff (has l k) (has r k)).1 (inl i))) y,
    down_same r (beside d c s) o p q (λ k i. e k ((or_iff (has l k) (has r k)).1 (inr i))) z,
  )

  module _ (suits : ℕ → Rectangle → Bool) (decides : (k : ℕ) (r : Rectangle) → S k r ↔ So (suits k r)) where
    -- where the test passes, the rectangles given for the computed rooms go down
    pub laid_down : (t : Tree) → Once t → (c : Corner) (s : Shape) → So (goes_down W H (given_suits suits given) slots t c s)
        → Down W H S given slots t c s (given_in given (laid W H slots t c s))
    unfolding goes_down laid Down Once
    laid_down (leaf t k) o c s g = ((decides k (given k (record { corner = c; shape = s }))).1 g, refl)
    laid_down (cut t d l r) (ol, or, apart) c box g =
        let L = slots (position l) in let R = slots (position r) in let pass = given_suits suits given in
        let s = left_shape W H d L R c box in let o = right_shape W H d L R c box in
        let (g1, g2) = (and_iff (has_pair W H d L R c box && goes_down W H pass slots l c s) (goes_down W H pass slots r (beside d c s) o)).0 g in
        let (g0, g1') = (and_iff (has_pair W H d L R c box) (goes_down W H pass slots l c s)).0 g1 in
        let p = laid W H slots l c s in let q = laid W H slots r (beside d c s) o in let m = given_in given (merge l p q) in (
          s,
          o,
          takes W H d L R c box g0,
          down_same l c s (given_in given p) m (λ k i. ap (given k) (sym (merge_left l p q k i))) (laid_down l ol c s g1'),
          down_same r (beside d c s) o (given_in given q) m (λ k i. ap (given k) (sym (merge_right l r p q k apart i)))
              (laid_down r or (beside d c s) o g2),
        )

    -- and whatever goes down is what is given for them
    pub down_laid : (t : Tree) → Once t → (c : Corner) (s : Shape) (p : Placement) → Down W H S given slots t c s p
        → So (goes_down W H (given_suits suits given) slots t c s) × ((k : ℕ) → So (has t k) → p k ≡ given k (laid W H slots t c s k))
    unfolding goes_down laid Down Once has
    down_laid (leaf t k) o c s p (u, v) =
        ((decides k (given k (record { corner = c; shape = s }))).0 (rw v at u), λ j i. rw (eqb-true j k i) v)
    down_laid (cut t d l r) (ol, or, apart) c box p (s', o', x, y, z) =
        let L = slots (position l) in let R = slots (position r) in let pass = given_suits suits given in
        let s = left_shape W H d L R c box in let o = right_shape W H d L R c box in
        let g = pair_found W H d L R c box s' o' x.pair in
        let (es, eo) = taken_once W H d L R c box s' o' s o x (takes W H d L R c box g) in
        let (gl, el) = down_laid l ol c s p (rw es at y) in let (gr, er) = down_laid r or (beside d c s) o p (rw (es, eo) at z) in (
          (and_iff (has_pair W H d L R c box && goes_down W H pass slots l c s) (goes_down W H pass slots r (beside d c s) o)).1
              ((and_iff (has_pair W H d L R c box) (goes_down W H pass slots l c s)).1 (g, gl), gr),
          λ k i. either k (laid W H slots l c s) (laid W H slots r (beside d c s) o) (el k) (er k) ((or_iff (has l k) (has r k)).0 i),
        )
      where
        either : (k : ℕ) (a b : Placement) → (So (has l k) → p k ≡ given k (a k)) → (So (has r k) → p k ≡ given k (b k))
            → So (has l k) ⊎ So (has r k) → p k ≡ given k (merge l a b k)
        either k a b f g (inl i) = f i ∙ ap (given k) (sym (merge_left l a b k i))
        either k a b f g (inr i) = g i ∙ ap (given k) (sym (merge_right l r a b k apart i))

-- a shape that a stair holds is on the chip
pub stair_on_chip : (W H : ℕ) (c : Corner) (g : ℕ → ℕ) (s : Shape) → CornerOn W H c → Stair W H c g → Stores W g s → OnChip W H (record { corner = c; shape = s })
stair_on_chip W H c g s on st z =
    let a = z.wide in let b = z.within in let h = z.high in let e = z.byte in let x = on.column in let y = on.row in
    let r = st.rows (s.w.0 - 1) (omega arith) in
    record { wide = a; high = h; columns = go (dec_le (c.x.0 + s.w.0) W); rows = omega arith }
  where
    go : Dec (c.x.0 + s.w.0 ≤ W) → c.x.0 + s.w.0 ≤ W
    go (yes k) = k
    go (no k) =
        let a = z.wide in let b = z.within in let h = z.high in let e = z.byte in let x = on.column in
        let n = st.columns (s.w.0 - 1) (omega arith) (omega arith) in absurd (omega arith)

module _ {W H : ℕ} {S : ℕ → Rectangle → Type 0} where
  widened : {t : Tree} {p : Placement} (a c b d a' c' b' d' : ℕ) → a' ≤ a → c' ≤ c → b ≤ b' → d ≤ d'
      → PlacedIn W H S t p a c b d → PlacedIn W H S t p a' c' b' d'
  widened a c b d a' c' b' d' p q u v z = record { lawful = z.lawful; inside = λ k i. wider p q u v (z.inside k i) }

  -- a placement in a shape, and one in the shape beside it, are one of the cut in their box
  placed_pair : (t : ℕ) (d : Direction) (l r : Tree) (p : Placement) (c : Corner) (s o box : Shape) → pairing d s o ≡ box
      → PlacedIn W H S l p c.x.0 c.y.0 (c.x.0 + s.w.0) (c.y.0 + s.h.0)
      → PlacedIn W H S r p (beside d c s).x.0 (beside d c s).y.0 ((beside d c s).x.0 + o.w.0) ((beside d c s).y.0 + o.h.0)
      → PlacedIn W H S (cut t d l r) p c.x.0 c.y.0 (c.x.0 + box.w.0) (c.y.0 + box.h.0)
  placed_pair t Vertical l r p c s o box e x y =
      let ew : s.w.0 + o.w.0 ≡ box.w.0 = ap (λ n. n.w.0) e in let eh : max s.h.0 o.h.0 ≡ box.h.0 = ap (λ n. n.h.0) e in
      both_placed t Vertical l r p c.x.0 c.y.0 (c.x.0 + box.w.0) (c.y.0 + box.h.0) (c.x.0 + s.w.0) (omega arith) (omega arith)
      (widened _ _ _ _ _ _ _ _ (le_refl _) (le_refl _) (le_refl _) (omega arith) x) (widened _ _ _ _ _ _ _ _ (le_refl _) (le_refl _) (omega arith) (omega arith) y)
  placed_pair t Horizontal l r p c s o box e x y =
      let ew : max s.w.0 o.w.0 ≡ box.w.0 = ap (λ n. n.w.0) e in let eh : s.h.0 + o.h.0 ≡ box.h.0 = ap (λ n. n.h.0) e in
      both_placed t Horizontal l r p c.x.0 c.y.0 (c.x.0 + box.w.0) (c.y.0 + box.h.0) (c.y.0 + s.h.0) (omega arith) (omega arith)
      (widened _ _ _ _ _ _ _ _ (le_refl _) (le_refl _) (omega arith) (le_refl _) x) (widened _ _ _ _ _ _ _ _ (le_refl _) (le_refl _) (omega arith) (omega arith) y)

  -- whatever a stranger wrote, if only in stairs: what goes down is a lawful placement in the shape asked
  pub down_placed : {given : ℕ → Rectangle → Rectangle} → GivesInside W H given → (slots : ℕ → Corner → ℕ → ℕ) (t : Tree) (c : Corner) (s : Shape) (p : Placement)
      → Every (λ u. (c : Corner) → CornerOn W H c → Stair W H c (slots (position u) c)) t → CornerOn W H c → Stores W (slots (position t) c) s
      → Down W H S given slots t c s p → PlacedIn W H S t p c.x.0 c.y.0 (c.x.0 + s.w.0) (c.y.0 + s.h.0)
  unfolding Down Follows has
  down_placed inside slots (leaf t k) c s p st on z (u, v) =
      let (chip, lies) = inside k (record { corner = c; shape = s }) (stair_on_chip W H c (slots t c) s on (st (leaf t k) whole c on) z) in
      record {
        lawful = record { on_chip = λ j i. rw (eqb-true j k i, v) chip; suits = λ j i. rw (eqb-true j k i) u; follows = tt };
        inside = λ j i. rw (eqb-true j k i, v) lies;
      }
  down_placed inside slots (cut t d l r) c box p st on z (s, o, x, y, w) =
      placed_pair t d l r p c s o box x.pair.box
      (down_placed inside slots l c s p (λ u q. st u (in_left q)) on x.pair.left y)
      (down_placed inside slots r (beside d c s) o p (λ u q. st u (in_right q)) x.pair.corner x.pair.right w)

  -- over a design's own lists going down never fails
  module _ {Lists : ℕ → Rectangle → Type 0} {F : ℕ → Test} {given : ℕ → Rectangle → Rectangle} (dec : Decides W H Lists F) (laws : Leaves W H S F given)
      (suits : ℕ → Rectangle → Bool) (decides : (k : ℕ) (r : Rectangle) → S k r ↔ So (suits k r)) where
    pub own_goes_down : (slots : ℕ → Corner → ℕ → ℕ) (t : Tree) → Every (λ u. ListsAt W H H Lists (slots (position u)) u) t
        → (c : Corner) (s : Shape) → CornerOn W H c → Listed W H Lists t c s → So (goes_down W H (given_suits suits given) slots t c s)
    unfolding goes_down Realizes
    own_goes_down slots (leaf t k) own c s on z =
        let r : Rectangle = record { corner = c; shape = s } in (decides k (given k r)).0 (laws.suits k r ((dec.decides k r).0 z.is))
    own_goes_down slots (cut t d l r) own c box on z =
        let L = slots (position l) in let R = slots (position r) in let pass = given_suits suits given in
        let s = left_shape W H d L R c box in let o = right_shape W H d L R c box in
        let ll = own l (in_left whole) in let lr = own r (in_right whole) in
        let q = ((pairings_list_the_cut dec t d l r L R ll lr c box).1 z).is in
        let g = pair_found W H d L R c box q.s q.o q.pair in let k = (takes W H d L R c box g).pair in
        (and_iff (has_pair W H d L R c box && goes_down W H pass slots l c s) (goes_down W H pass slots r (beside d c s) o)).1 (
          (and_iff (has_pair W H d L R c box) (goes_down W H pass slots l c s)).1
              (g, own_goes_down slots l (λ u q. own u (in_left q)) c s on ((ll c on s).0 k.left)),
          own_goes_down slots r (λ u q. own u (in_right q)) (beside d c s) o k.corner ((lr (beside d c s) k.corner o).0 k.right),
        )
