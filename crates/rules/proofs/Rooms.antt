-- Rooms that grow. Of a test on rooms the list laws ask only this: a room on the chip that contains one that passes, passes. From
-- it follow the lemmas 1 and 2 of document 000, along the columns first and then, by turning, along the rows too.
-- Assumes nothing.
use mathlib.Core.Path.{◌≡◌, refl}
use mathlib.Core.Logic.{◌↔◌}
use mathlib.Core.Bool.{◌&&◌, So}
use Prim.Native.Nat.{ℕ, ◌≤◌, ◌<◌, max}
use native.Mathlib.Omega.{arith}
use native.Mathlib.Nat.{le_refl}
use native.Mathlib.Decide.{dec_le}
use Rattle.rules.specs.declared.Direction.{Direction}
use Rattle.rules.specs.declared.Direction.TheVariants.{Vertical, Horizontal}
use Rattle.rules.proofs.Test.{Test, turn, across, parted}
use Rattle.rules.proofs.Searching.{any_iff, and_iff, first}

-- a statement on rooms
abbrev pub Rel : Type 1
Rel = ℕ → ℕ → ℕ → ℕ → Type 0

abbrev pub Passes : Test → Rel
Passes F a c b d = So (F a c b d)

-- what the list laws ask of a test, on a chip of B columns and D rows
pub record Growing (B D : ℕ) (F : Test) : Type 0 where
  pub grow : (a c b d a' c' b' d' : ℕ) → So (F a c b d) → a' ≤ a → c' ≤ c → b ≤ b' → d ≤ d' → b' ≤ B → d' ≤ D → So (F a' c' b' d')
  pub solid : (a c b d : ℕ) → So (F a c b d) → (a < b) × (c < d) × (b ≤ B) × (d ≤ D)

pub turn_growing : (k : Direction) {B D : ℕ} {F : Test} → Growing B D F → Growing (across k B D) (across k D B) (turn k F)
turn_growing Vertical G = record { grow = G.grow; solid = G.solid }
turn_growing Horizontal G = record {
  grow = λ a c b d a' c' b' d' t p q r s u v. G.grow c a d b c' a' d' b' t q p s r v u;
  solid = λ a c b d t. let h = G.solid c a d b t in (h.1, h.0, h.3, h.2);
}

-- at one corner
pub record Rising (W H : ℕ) (F : Test) (a c : ℕ) : Type 0 where
  pub rise : (b d b' d' : ℕ) → So (F a c b d) → b ≤ b' → d ≤ d' → b' ≤ W → d' ≤ H → So (F a c b' d')
  pub solid : (b d : ℕ) → So (F a c b d) → (a < b) × (c < d) × (b ≤ W) × (d ≤ H)

pub rising : {W H : ℕ} {F : Test} → Growing W H F → (a c : ℕ) → Rising W H F a c
rising G a c = record { rise = λ b d b' d' t p q r s. G.grow a c b d a c b' d' t (le_refl a) (le_refl c) p q r s; solid = G.solid a c }

-- the undominated rooms at a corner
pub record Minimal (P : Rel) (a c b d : ℕ) : Type 0 where
  pub is : P a c b d
  pub least : (b' d' : ℕ) → P a c b' d' → b' ≤ b → d' ≤ d → (b ≤ b') × (d ≤ d')

-- where P lies in Q, and below each of Q stands one of P, both have the same undominated ones
pub same_minimal : (P Q : Rel) (a c : ℕ) → ((b d : ℕ) → P a c b d → Q a c b d)
    → ((b d : ℕ) → Q a c b d → (b' : ℕ) × (d' : ℕ) × P a c b' d' × (b' ≤ b) × (d' ≤ d))
    → (b d : ℕ) → Minimal P a c b d ↔ Minimal Q a c b d
same_minimal P Q a c f g b d = (to, back)
  where
    to : Minimal P a c b d → Minimal Q a c b d
    to m = record {
      is = f b d m.is;
      least = λ b' d' q h k. let (b2, d2, p, h2, k2) = g b' d' q in let e = m.least b2 d2 p (omega arith) (omega arith) in (omega arith, omega arith);
    }

    back : Minimal Q a c b d → Minimal P a c b d
    back m =
        let (b2, d2, p, h, k) = g b d m.is in let e = m.least b2 d2 (f b2 d2 p) h k in
        let e1 : b2 ≡ b = omega arith in let e2 : d2 ≡ d = omega arith in
        record { is = rw (e1, e2) at p; least = λ b' d' q h k. m.least b' d' (f b' d' q) h k }

-- under each room that passes stands an undominated one, as narrow as any that is no higher
narrowest_below : {W H : ℕ} {F : Test} {a c : ℕ} → Rising W H F a c → (b d : ℕ) → So (F a c b d)
    → (b' : ℕ) × (d' : ℕ) × Minimal (Passes F) a c b' d' × (b' ≤ b) × (d' ≤ d) × ((b2 : ℕ) → So (F a c b2 d) → b' ≤ b2)
narrowest_below {W} {H} {F} {a} {c} G b d t =
    let z = G.solid b d t in
    let (b', h, s, l) = first (λ i. F a c i d) b t in
    let (d', k, u, n) = first (λ j. F a c b' j) d s in
    let least : (b2 d2 : ℕ) → So (F a c b2 d2) → b2 ≤ b' → d2 ≤ d' → (b' ≤ b2) × (d' ≤ d2) = λ b2 d2 v p q.
    (l b2 (G.rise b2 d2 b2 d v (le_refl b2) (omega arith) (omega arith) (omega arith)), n d2 (G.rise b2 d2 b' d2 v p (le_refl d2) (omega arith) (omega arith))) in
    (b', d', record { is = u; least = least }, h, k, l)

pub minimal_below : {W H : ℕ} {F : Test} {a c : ℕ} → Rising W H F a c → (b d : ℕ) → So (F a c b d)
    → (b' : ℕ) × (d' : ℕ) × Minimal (Passes F) a c b' d' × (b' ≤ b) × (d' ≤ d)
minimal_below G b d t = let (b', d', m, h, k, _) = narrowest_below G b d t in (b', d', m, h, k)

-- Lemma 1 of document 000: at a corner further down and left an undominated room ends no later
pub lemma_1 : {W H : ℕ} {F : Test} → Growing W H F → (a c b d a' c' : ℕ) → So (F a c b d) → a' ≤ a → c' ≤ c
    → (b' : ℕ) × (d' : ℕ) × Minimal (Passes F) a' c' b' d' × (b' ≤ b) × (d' ≤ d)
lemma_1 G a c b d a' c' t p q =
    let z = G.solid a c b d t in
    minimal_below (rising G a' c') b d (G.grow a c b d a' c' b d t p q (le_refl b) (le_refl d) (omega arith) (omega arith))

-- rooms parted by a line
pub parted_in : {B D : ℕ} (F : Test) {G : Test} → Growing B D G → (a c b d m : ℕ) → So (F a c m d) → So (G m c b d) → So (parted F G a c b d)
unfolding parted
parted_in F {G} g a c b d m s t =
    (any_iff b (λ m. F a c m d && G m c b d)).1 (m, (g.solid m c b d t).0, (and_iff (F a c m d) (G m c b d)).1 (s, t))

pub parted_out : (F G : Test) (a c b d : ℕ) → So (parted F G a c b d) → (m : ℕ) × So (F a c m d) × So (G m c b d)
unfolding parted
parted_out F G a c b d t =
    let (m, h, s) = (any_iff b (λ m. F a c m d && G m c b d)).0 t in
    let (s1, s2) = (and_iff (F a c m d) (G m c b d)).0 s in (m, s1, s2)

pub parted_growing : {B D : ℕ} {F G : Test} → Growing B D F → Growing B D G → Growing B D (parted F G)
parted_growing {F} {G} f g = record {
  grow = λ a c b d a' c' b' d' t p q r s u v.
      let (m, x, y) = parted_out F G a c b d t in let h = f.solid a c m d x in let k = g.solid m c b d y in
      parted_in F g a' c' b' d' m (f.grow a c m d a' c' m d' x p q (le_refl m) s (omega arith) v) (g.grow m c b d m c' b' d' y (le_refl m) q r s u v);
  solid = λ a c b d t.
      let (m, x, y) = parted_out F G a c b d t in let h = f.solid a c m d x in let k = g.solid m c b d y in
      (omega arith, omega arith, omega arith, omega arith);
}

-- the boxes of a room of each, the right one's corner beside the left one
unfoldable pub Beside : Rel → Rel → Rel
Beside L R a c b d = (m : ℕ) × (d1 : ℕ) × (d2 : ℕ) × L a c m d1 × R m c b d2 × (d ≡ max d1 d2)

-- L holds the undominated rooms of F
abbrev pub Lists : Test → Rel → Type 0
Lists F L = (a c b d : ℕ) → L a c b d ↔ Minimal (Passes F) a c b d

-- Lemma 2 of document 000, both ways: the undominated pairings of the children's listed rooms are the undominated parted ones
lemma_2_across : {B D : ℕ} {F G : Test} {L R : Rel} → Growing B D F → Growing B D G → Lists F L → Lists G R → Lists (parted F G) (Minimal (Beside L R))
unfolding Beside
lemma_2_across {B} {D} {F} {G} {L} {R} f g l r a c b d = same_minimal (Beside L R) (Passes (parted F G)) a c into under b d
  where
    into : (b d : ℕ) → Beside L R a c b d → So (parted F G a c b d)
    into b d (m, d1, d2, p, q, e) =
        let s = ((l a c m d1).0 p).is in let t = ((r m c b d2).0 q).is in let h = f.solid a c m d1 s in let k = g.solid m c b d2 t in
        parted_in F g a c b d m
        (f.grow a c m d1 a c m d s (le_refl a) (le_refl c) (le_refl m) (omega arith) (omega arith) (omega arith))
        (g.grow m c b d2 m c b d t (le_refl m) (le_refl c) (le_refl b) (omega arith) (omega arith) (omega arith))

    under : (b d : ℕ) → So (parted F G a c b d) → (b' : ℕ) × (d' : ℕ) × Beside L R a c b' d' × (b' ≤ b) × (d' ≤ d)
    under b d t =
        let (m, s, u) = parted_out F G a c b d t in let k = g.solid m c b d u in
        let (m', d1, p, hm, hd) = lemma_1 f a c m d a c s (le_refl a) (le_refl c) in
        let (b', d2, q, hb, he) = lemma_1 g m c b d m' c u hm (le_refl c) in
        (b', max d1 d2, (m', d1, d2, (l a c m' d1).1 p, (r m' c b' d2).1 q, refl), hb, omega arith)

-- turning a room turns its undominated ones
pub turn_minimal : (k : Direction) (P : Rel) (a c b d : ℕ) → turn k (Minimal P) a c b d ↔ Minimal (turn k P) a c b d
turn_minimal Vertical P a c b d = (λ m. record { is = m.is; least = m.least }, λ m. record { is = m.is; least = m.least })
turn_minimal Horizontal P a c b d = (swap P c a d b, swap (turn Horizontal P) a c b d)
  where
    swap : (Q : Rel) (c a d b : ℕ) → Minimal Q c a d b → Minimal (turn Horizontal Q) a c b d
    swap Q c a d b m = record { is = m.is; least = λ b' d' t h k. let e = m.least d' b' t k h in (e.1, e.0) }

-- Under a room that passes stands an undominated one that is the highest of those no higher than the room; turned, the widest of those no wider.
highest_across : {W H : ℕ} {F : Test} → Growing W H F → (a c b d : ℕ) → So (F a c b d)
    → (b' : ℕ) × (d' : ℕ) × Minimal (Passes F) a c b' d' × (b' ≤ b) × (d' ≤ d) × ((b2 d2 : ℕ) → Minimal (Passes F) a c b2 d2 → d2 ≤ d → d2 ≤ d')
highest_across {W} {H} {F} G a c b d t =
    let z = G.solid a c b d t in
    let (b', d', m, h, k, l) = narrowest_below (rising G a c) b d t in (
      b',
      d',
      m,
      h,
      k,
      λ b2 d2 n p.
          go b2 d2 n (l b2 (G.grow a c b2 d2 a c b2 d n.is (le_refl a) (le_refl c) (le_refl b2) p (G.solid a c b2 d2 n.is).2 z.3)) m,
    )
  where
    go : {b' d' : ℕ} (b2 d2 : ℕ) → Minimal (Passes F) a c b2 d2 → b' ≤ b2 → Minimal (Passes F) a c b' d' → d2 ≤ d'
    go {b'} {d'} b2 d2 n q m = at (dec_le d2 d')
      where
        at : Dec (d2 ≤ d') → d2 ≤ d'
        at (yes r) = r
        at (no r) = (n.least b' d' m.is q (omega arith)).1

pub highest_below : (k : Direction) {W H : ℕ} {F : Test} → Growing W H F → (a c b d : ℕ) → So (F a c b d)
    → (b' : ℕ) × (d' : ℕ) × Minimal (Passes F) a c b' d' × (b' ≤ b) × (d' ≤ d)
    × ((b2 d2 : ℕ) → Minimal (Passes F) a c b2 d2 → across k d2 b2 ≤ across k d b → across k d2 b2 ≤ across k d' b')
highest_below Vertical G a c b d t = highest_across G a c b d t
highest_below Horizontal {F = F} G a c b d t =
    let (d', b', m, k, h, l) = highest_across (turn_growing Horizontal G) c a d b t in (
      b',
      d',
      (turn_minimal Horizontal (turn Horizontal (Passes F)) a c b' d').0 m,
      h,
      k,
      λ b2 d2 n.
          l d2 b2 ((turn_minimal Horizontal (turn Horizontal (Passes F)) a c b2 d2).1 n),
    )

turn_lists : (k : Direction) {F : Test} {L : Rel} → Lists F L → Lists (turn k F) (turn k L)
turn_lists Vertical l a c b d = l a c b d
turn_lists Horizontal {F} l a c b d =
    let e = turn_minimal Horizontal (Passes F) a c b d in (λ p. e.0 ((l c a d b).0 p), λ m. (l c a d b).1 (e.1 m))

-- a cut in either direction, and its laws once for both
abbrev pub joined : Direction → Test → Test → Test
joined k F G = turn k (parted (turn k F) (turn k G))

abbrev pub Pairings : Direction → Rel → Rel → Rel
Pairings k L R = turn k (Minimal (Beside (turn k L) (turn k R)))

pub joined_growing : (k : Direction) {B D : ℕ} {F G : Test} → Growing B D F → Growing B D G → Growing B D (joined k F G)
joined_growing Vertical f g = turn_growing Vertical (parted_growing (turn_growing Vertical f) (turn_growing Vertical g))
joined_growing Horizontal f g = turn_growing Horizontal (parted_growing (turn_growing Horizontal f) (turn_growing Horizontal g))

pub lemma_2 : (k : Direction) {B D : ℕ} {F G : Test} {L R : Rel} → Growing B D F → Growing B D G → Lists F L → Lists G R → Lists (joined k F G) (Pairings k L R)
lemma_2 k f g l r = turn_lists k (lemma_2_across (turn_growing k f) (turn_growing k g) (turn_lists k l) (turn_lists k r))

-- the room before the line m, and the room beyond it
pub joined_in : (k : Direction) {B D : ℕ} (F : Test) {G : Test} → Growing B D G → (a c b d m : ℕ)
    → So (F a c (across k m b) (across k d m)) → So (G (across k m a) (across k c m) b d) → So (joined k F G a c b d)
joined_in Vertical F g a c b d m s t = parted_in F g a c b d m s t
joined_in Horizontal F g a c b d m s t = parted_in (turn Horizontal F) (turn_growing Horizontal g) c a d b m s t

pub joined_out : (k : Direction) (F G : Test) (a c b d : ℕ) → So (joined k F G a c b d)
    → (m : ℕ) × So (F a c (across k m b) (across k d m)) × So (G (across k m a) (across k c m) b d)
joined_out Vertical F G a c b d t = parted_out F G a c b d t
joined_out Horizontal F G a c b d t = parted_out (turn Horizontal F) (turn Horizontal G) c a d b t
