-- A room has place for a tree exactly if a lawful placement of it lies there. One way the cut's line is drawn where the left
-- child's rectangles end; the other way each module is given a rectangle in its room, and the two halves' placements are
-- merged, since no module stands twice. Assumes nothing.
use mathlib.Core.Path.{◌≡◌, refl, sym}
use mathlib.Core.Logic.{◌⊎◌, inl, inr}
use mathlib.Core.Bool.{Bool, true, false, So, ◌||◌}
use Prim.Native.Nat.{ℕ, ◌≤◌, max}
use native.Mathlib.Omega.{arith}
use native.Mathlib.Nat.{le_refl, le_trans}
use borrow.Author.Tests.{eqb-true, eq-eqb}
use Rattle.rules.specs.declared.Direction.{Direction}
use Rattle.rules.specs.declared.Direction.TheVariants.{Vertical, Horizontal}
use Rattle.rules.specs.declared.Rectangle.{Rectangle}
use Rattle.rules.specs.Chip.{OnChip, left, right, bottom, top}
use Rattle.rules.specs.Tree.{Tree, leaf, cut, has}
use Rattle.rules.specs.Placement.{Placement, begins, ends, Follows, Lawful, furthest}
use Rattle.rules.proofs.Test.{Test, across, room, fits, merge}
use Rattle.rules.proofs.Searching.{or_iff}
use Rattle.rules.proofs.Rooms.{Growing, joined_in, joined_out}
use Rattle.rules.proofs.Standing.{Once}
use Rattle.rules.proofs.Fitting.{Decides, room_right, fits_growing}

-- a rectangle in a room
pub record Inside (a c b d : ℕ) (r : Rectangle) : Type 0 where
  pub left : a ≤ left r
  pub bottom : c ≤ bottom r
  pub right : right r ≤ b
  pub top : top r ≤ d

-- a lawful placement that lies in a room
pub record PlacedIn (W H : ℕ) (Suits : ℕ → Rectangle → Type 0) (t : Tree) (p : Placement) (a c b d : ℕ) : Type 0 where
  pub lawful : Lawful W H Suits t p
  pub inside : (k : ℕ) → So (has t k) → Inside a c b d (p k)

-- The rectangle that a module is given for a room on the chip is on the chip and in the room, whatever the room: a stranger's
-- stairs may hold one in which nothing suits.
abbrev pub GivesInside : ℕ → ℕ → (ℕ → Rectangle → Rectangle) → Type 0
GivesInside W H given =
    (k : ℕ) (r : Rectangle) → OnChip W H r → OnChip W H (given k r) × Inside (left r) (bottom r) (right r) (top r) (given k r)

-- What the laws ask of suiting and of what is given: the leaf's test grows, so a room that contains a suitable rectangle passes
-- it as the rectangle does; and for a room that passes a suitable rectangle is given, in the room.
pub record Leaves (W H : ℕ) (Suits : ℕ → Rectangle → Type 0) (F : ℕ → Test) (given : ℕ → Rectangle → Rectangle) : Type 0 where
  pub growing : (k : ℕ) → Growing W H (F k)
  pub passes : (k : ℕ) (r : Rectangle) → OnChip W H r → Suits k r → So (F k (left r) (bottom r) (right r) (top r))
  pub suits : (k : ℕ) (r : Rectangle) → So (F k (left r) (bottom r) (right r) (top r)) → Suits k (given k r)
  pub inside : GivesInside W H given

-- where a module is given its whole room, that lies in the room, and the laws ask of a leaf what its test decides
pub whole_inside : (W H : ℕ) → GivesInside W H (λ k r. r)
whole_inside W H k r on = (on, record { left = le_refl _; bottom = le_refl _; right = le_refl _; top = le_refl _ })

pub plain_leaves : {W H : ℕ} {S : ℕ → Rectangle → Type 0} {F : ℕ → Test} → Decides W H S F → Leaves W H S F (λ k r. r)
plain_leaves {W} {H} dec = record {
  growing = dec.growing;
  passes = λ k r o s. (dec.decides k r).0 (o, s);
  suits = λ k r t. ((dec.decides k r).1 t).1;
  inside = whole_inside W H;
}

-- the furthest side of a tree's rectangles
pub furthest_within : (side : Rectangle → ℕ) (t : Tree) (p : Placement) (n : ℕ) → ((k : ℕ) → So (has t k) → side (p k) ≤ n) → furthest side t p ≤ n
unfolding furthest has
furthest_within side (leaf t k) p n f = f k (eq-eqb k k refl)
furthest_within side (cut t d l r) p n f =
    let h = furthest_within side l p n (λ k s. f k ((or_iff (has l k) (has r k)).1 (inl s))) in
    let g = furthest_within side r p n (λ k s. f k ((or_iff (has l k) (has r k)).1 (inr s))) in omega arith

pub furthest_same : (side : Rectangle → ℕ) (t : Tree) (p q : Placement) → ((k : ℕ) → So (has t k) → p k ≡ q k) → furthest side t p ≡ furthest side t q
unfolding furthest has
furthest_same side (leaf t k) p q same = rw (same k (eq-eqb k k refl))
furthest_same side (cut t d l r) p q same =
    rw (furthest_same side l p q (λ k s. same k ((or_iff (has l k) (has r k)).1 (inl s))), furthest_same side r p q (λ k s. same k ((or_iff (has l k) (has r k)).1 (inr s))))

pub furthest_reaches : (side : Rectangle → ℕ) (t : Tree) (p : Placement) (k : ℕ) → So (has t k) → side (p k) ≤ furthest side t p
unfolding furthest has
furthest_reaches side (leaf t j) p k s = rw (eqb-true k j s) (le_refl (side (p j)))
furthest_reaches side (cut t d l r) p k s = go ((or_iff (has l k) (has r k)).0 s) (furthest_reaches side l p k) (furthest_reaches side r p k)
  where
    go : So (has l k) ⊎ So (has r k) → (So (has l k) → side (p k) ≤ furthest side l p) → (So (has r k) → side (p k) ≤ furthest side r p)
        → side (p k) ≤ max (furthest side l p) (furthest side r p)
    go (inl s) f g = let h = f s in omega arith
    go (inr s) f g = let h = g s in omega arith

-- a room is cut at m: what is inside and ends before m is inside the first part, what begins beyond m inside the second
before : (d : Direction) {a c b e m : ℕ} {r : Rectangle} → Inside a c b e r → ends d r ≤ m → Inside a c (across d m b) (across d e m) r
before Vertical z h = record { left = z.left; bottom = z.bottom; right = h; top = z.top }
before Horizontal z h = record { left = z.left; bottom = z.bottom; right = z.right; top = h }

beyond : (d : Direction) {a c b e m : ℕ} {r : Rectangle} → Inside a c b e r → m ≤ begins d r → Inside (across d m a) (across d c m) b e r
beyond Vertical z h = record { left = h; bottom = z.bottom; right = z.right; top = z.top }
beyond Horizontal z h = record { left = z.left; bottom = h; right = z.right; top = z.top }

ends_before : (d : Direction) (a c b e m : ℕ) (r : Rectangle) → Inside a c (across d m b) (across d e m) r → ends d r ≤ m
ends_before Vertical a c b e m r z = z.right
ends_before Horizontal a c b e m r z = z.top

begins_beyond : (d : Direction) (a c b e m : ℕ) (r : Rectangle) → Inside (across d m a) (across d c m) b e r → m ≤ begins d r
begins_beyond Vertical a c b e m r z = z.left
begins_beyond Horizontal a c b e m r z = z.bottom

pub wider : {a c b d a' c' b' d' : ℕ} {r : Rectangle} → a' ≤ a → c' ≤ c → b ≤ b' → d ≤ d' → Inside a c b d r → Inside a' c' b' d' r
wider p q u v z = record { left = le_trans p z.left; bottom = le_trans q z.bottom; right = le_trans z.right u; top = le_trans z.top v }

-- the line of a cut whose halves pass lies in the room
line_in : (d : Direction) {B D : ℕ} {F G : Test} → Growing B D F → Growing B D G → (a c b e m : ℕ)
    → So (F a c (across d m b) (across d e m)) → So (G (across d m a) (across d c m) b e) → (across d a c ≤ m) × (m ≤ across d b e)
line_in Vertical f g a c b e m s t = let h = f.solid a c m e s in let k = g.solid m c b e t in (omega arith, omega arith)
line_in Horizontal f g a c b e m s t = let h = f.solid a c b m s in let k = g.solid a m b e t in (omega arith, omega arith)

from_first : (d : Direction) (a c b e m : ℕ) (r : Rectangle) → m ≤ across d b e → Inside a c (across d m b) (across d e m) r → Inside a c b e r
from_first Vertical a c b e m r h = wider (le_refl a) (le_refl c) h (le_refl e)
from_first Horizontal a c b e m r h = wider (le_refl a) (le_refl c) (le_refl b) h

from_second : (d : Direction) (a c b e m : ℕ) (r : Rectangle) → across d a c ≤ m → Inside (across d m a) (across d c m) b e r → Inside a c b e r
from_second Vertical a c b e m r h = wider h (le_refl c) (le_refl b) (le_refl e)
from_second Horizontal a c b e m r h = wider (le_refl a) h (le_refl b) (le_refl e)

columns_in : (d : Direction) (m b e : ℕ) {W : ℕ} → m ≤ across d b e → b ≤ W → across d m b ≤ W
columns_in Vertical m b e h k = le_trans h k
columns_in Horizontal m b e h k = k

rows_in : (d : Direction) (m b e : ℕ) {H : ℕ} → m ≤ across d b e → e ≤ H → across d e m ≤ H
rows_in Vertical m b e h k = k
rows_in Horizontal m b e h k = le_trans h k

-- merged placements
pub merge_left : (l : Tree) (p q : Placement) (k : ℕ) → So (has l k) → merge l p q k ≡ p k
unfolding merge
merge_left l p q k s = rw (s, merge)

pub merge_right : (l r : Tree) (p q : Placement) (k : ℕ) → ((k : ℕ) → So (has l k) → So (has r k) → ⊥) → So (has r k) → merge l p q k ≡ q k
unfolding merge
merge_right l r p q k o s = go (has l k) refl
  where
    go : (b : Bool) → has l k ≡ b → elim b as (λ _. Rectangle) [ true ↦ p k | false ↦ q k ] ≡ q k
    go true e = absurd (o k e s)
    go false e = refl

-- what is said of a placement hangs on the rectangles of the tree's own modules
pub follows_same : (t : Tree) (p q : Placement) → ((k : ℕ) → So (has t k) → p k ≡ q k) → Follows t p → Follows t q
unfolding Follows has
follows_same (leaf t k) p q e f = tt
follows_same (cut t d l r) p q e (f, g, h) =
    let el : (k : ℕ) → So (has l k) → p k ≡ q k = λ k s. e k ((or_iff (has l k) (has r k)).1 (inl s)) in
    let er : (k : ℕ) → So (has r k) → p k ≡ q k = λ k s. e k ((or_iff (has l k) (has r k)).1 (inr s)) in
    (follows_same l p q el f, follows_same r p q er g, λ i j s u. rw (← el i s, ← er j u) (h i j s u))

module _ {W H : ℕ} {Suits : ℕ → Rectangle → Type 0} where
  pub lawful_same : (t : Tree) (p q : Placement) → ((k : ℕ) → So (has t k) → p k ≡ q k) → Lawful W H Suits t p → Lawful W H Suits t q
  lawful_same t p q same z = record {
    on_chip = λ k s. rw (← same k s) (z.on_chip k s);
    suits = λ k s. rw (← same k s) (z.suits k s);
    follows = follows_same t p q same z.follows;
  }

  pub same_placed : (t : Tree) (p q : Placement) (a c b e : ℕ) → ((k : ℕ) → So (has t k) → p k ≡ q k)
      → PlacedIn W H Suits t p a c b e → PlacedIn W H Suits t q a c b e
  same_placed t p q a c b e same z = record { lawful = lawful_same t p q same z.lawful; inside = λ k s. rw (← same k s) (z.inside k s) }

  -- placements of the two children, one in each part of the room, are one of the cut
  pub both_placed : (t : ℕ) (d : Direction) (l r : Tree) (p : Placement) (a c b e m : ℕ) → across d a c ≤ m → m ≤ across d b e
      → PlacedIn W H Suits l p a c (across d m b) (across d e m) → PlacedIn W H Suits r p (across d m a) (across d c m) b e → PlacedIn W H Suits (cut t d l r) p a c b e
  unfolding Follows has
  both_placed t d l r p a c b e m hm hn x y = record {
    lawful = record {
      on_chip = λ k s. ⊎-cases k (x.lawful.on_chip k) (y.lawful.on_chip k) ((or_iff (has l k) (has r k)).0 s);
      suits = λ k s. ⊎-cases k (x.lawful.suits k) (y.lawful.suits k) ((or_iff (has l k) (has r k)).0 s);
      follows = (
        x.lawful.follows,
        y.lawful.follows,
        λ i j s u. le_trans (ends_before d a c b e m (p i) (x.inside i s)) (begins_beyond d a c b e m (p j) (y.inside j u)),
      );
    };
    inside = λ k s. ⊎-cases k (λ u. from_first d a c b e m (p k) hn (x.inside k u)) (λ u. from_second d a c b e m (p k) hm (y.inside k u)) ((or_iff (has l k) (has r k)).0 s);
  }
    where
      ⊎-cases : {P : Type 0} (k : ℕ) → (So (has l k) → P) → (So (has r k) → P) → So (has l k) ⊎ So (has r k) → P
      ⊎-cases k f g (inl s) = f s
      ⊎-cases k f g (inr s) = g s

  -- a placement of a cut is parted where the left child's rectangles end
  halves : (t : ℕ) (d : Direction) (l r : Tree) (p : Placement) (a c b e m : ℕ) → m ≡ furthest (ends d) l p → PlacedIn W H Suits (cut t d l r) p a c b e
      → PlacedIn W H Suits l p a c (across d m b) (across d e m) × PlacedIn W H Suits r p (across d m a) (across d c m) b e × (m ≤ across d b e)
  unfolding Follows has
  halves t d l r p a c b e m q z = (
    record {
      lawful = record { on_chip = λ k s. z.lawful.on_chip k (inl' k s); suits = λ k s. z.lawful.suits k (inl' k s); follows = z.lawful.follows.0 };
      inside = λ k s. before d (z.inside k (inl' k s)) (rw q (furthest_reaches (ends d) l p k s));
    },
    record {
      lawful = record { on_chip = λ k s. z.lawful.on_chip k (inr' k s); suits = λ k s. z.lawful.suits k (inr' k s); follows = z.lawful.follows.1 };
      inside = λ k s. beyond d (z.inside k (inr' k s)) (rw q (furthest_within (ends d) l p (begins d (p k)) (λ i u. z.lawful.follows.2 i k u s)));
    },
    rw q (furthest_within (ends d) l p (across d b e) (λ k s. in_room d (p k) (z.inside k (inl' k s)))),
  )
    where
      inl' : (k : ℕ) → So (has l k) → So (has l k || has r k)
      inl' k s = (or_iff (has l k) (has r k)).1 (inl s)

      inr' : (k : ℕ) → So (has r k) → So (has l k || has r k)
      inr' k s = (or_iff (has l k) (has r k)).1 (inr s)

      in_room : (d : Direction) (q : Rectangle) → Inside a c b e q → ends d q ≤ across d b e
      in_room Vertical q z = z.right
      in_room Horizontal q z = z.top

  module _ {F : ℕ → Test} {given : ℕ → Rectangle → Rectangle} (laws : Leaves W H Suits F given) where
    -- where a lawful placement lies in a room on the chip, the room has place for the tree
    pub placed_fits : (t : Tree) (p : Placement) (a c b e : ℕ) → PlacedIn W H Suits t p a c b e → b ≤ W → e ≤ H → So (fits F t a c b e)
    unfolding fits Follows has
    placed_fits (leaf t k) p a c b e z hb he =
        let s = eq-eqb k k refl in let w = z.inside k s in
        (laws.growing k).grow (left (p k)) (bottom (p k)) (right (p k)) (top (p k)) a c b e
        (laws.passes k (p k) (z.lawful.on_chip k s) (z.lawful.suits k s)) w.left w.bottom w.right w.top hb he
    placed_fits (cut t d l r) p a c b e z hb he =
        let m = furthest (ends d) l p in let (x, y, h) = halves t d l r p a c b e m refl z in
        joined_in d (fits F l) (fits_growing F laws.growing r) a c b e m
        (placed_fits l p a c (across d m b) (across d e m) x (columns_in d m b e h hb) (rows_in d m b e h he))
        (placed_fits r p (across d m a) (across d c m) b e y hb he)

    -- where the room has place for the tree, a lawful placement lies in it
    pub fits_placed : (t : Tree) → Once t → (a c b e : ℕ) → So (fits F t a c b e) → (p : Placement) × PlacedIn W H Suits t p a c b e
    unfolding fits Once Follows has
    fits_placed (leaf t k) o a c b e s =
        let g = (laws.growing k).solid a c b e s in let r = room a c b e in
        let er : right r ≡ b = room_right a b (omega arith) in let et : top r ≡ e = room_right c e (omega arith) in
        let (on, within) = laws.inside k r (record { wide = omega arith; high = omega arith; columns = omega arith; rows = omega arith }) in
        let fine = laws.suits k r (rw (er, et) s) in (
          λ _. given k r,
          record {
            lawful = record { on_chip = λ j _. on; suits = λ j u. rw (eqb-true j k u) fine; follows = tt };
            inside = λ j _. rw (er, et) at within;
          },
        )
    fits_placed (cut t d l r) o a c b e s =
        let (m, u, v) = joined_out d (fits F l) (fits F r) a c b e s in
        let (p, x) = fits_placed l o.0 a c (across d m b) (across d e m) u in
        let (q, y) = fits_placed r o.1 (across d m a) (across d c m) b e v in
        let h = line_in d (fits_growing F laws.growing l) (fits_growing F laws.growing r) a c b e m u v in (
          merge l p q,
          both_placed t d l r (merge l p q) a c b e m h.0 h.1
              (same_placed l p (merge l p q) a c (across d m b) (across d e m) (λ k w. sym (merge_left l p q k w)) x)
              (same_placed r q (merge l p q) (across d m a) (across d c m) b e (λ k w. sym (merge_right l r p q k o.2 w)) y),
        )
