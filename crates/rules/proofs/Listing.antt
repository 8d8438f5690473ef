-- The bytes of a list. For each width the least height, where it is less than for the width before, is the height of the listed
-- shape of that width; so the computed bytes are the list, and they are the only ones. Assumes nothing.
use mathlib.Core.Path.{◌≡◌, refl, sym, ◌∙◌, ap}
use mathlib.Core.Logic.{◌↔◌}
use mathlib.Core.Bool.{Bool, true, false, So}
use Prim.Native.Nat.{ℕ, suc, ◌+◌, ◌-◌, ◌≤◌, ◌<◌}
use native.Mathlib.Omega.{arith}
use native.Mathlib.Nat.{le_refl}
use native.Mathlib.Decide.{dec_le, dec_lt}
use lib.Dec.{ltb}
use borrow.Author.Tests.{ltb-true, lt-ltb}
use Rattle.rules.specs.declared.Corner.{Corner}
use Rattle.rules.specs.declared.Shape.{Shape}
use Rattle.rules.specs.declared.Rectangle.{Rectangle}
use Rattle.rules.specs.Chip.{shape}
use Rattle.rules.specs.Tree.{Tree}
use Rattle.rules.specs.Shape.{ShapeAt, Dominates, Undominated, Listed}
use Rattle.rules.specs.Slot.{Stores, IsListOf}
use Rattle.rules.proofs.Test.{Test, fits, lowest, list_byte, only_if}
use Rattle.rules.proofs.Searching.{least_is}
use Rattle.rules.proofs.Rooms.{Rel, Rising, rising, Minimal, Passes, minimal_below}
use Rattle.rules.proofs.Fitting.{Decides, fits_growing, realizes_fits}

pub same_shape : (s o : Shape) → s.w.0 ≡ o.w.0 → s.h.0 ≡ o.h.0 → s ≡ o
same_shape s o ew eh = λ i. shape (ew i) (eh i)

module _ {W H : ℕ} {F : Test} {a c : ℕ} (G : Rising W H F a c) where
  pub lowest_passes : (b : ℕ) → lowest H F a c b ≤ H → So (F a c b (lowest H F a c b))
  unfolding lowest
  lowest_passes b k = let h = least_is (λ d. F a c b d) (suc H - c) c in let f = h.from in h.passes (omega arith)

  pub lowest_from : (b : ℕ) → (c ≤ lowest H F a c b) × (lowest H F a c b ≤ c + (suc H - c))
  unfolding lowest
  lowest_from b = let h = least_is (λ d. F a c b d) (suc H - c) c in (h.from, h.within)

  pub lowest_least : (b d : ℕ) → So (F a c b d) → lowest H F a c b ≤ d
  unfolding lowest
  lowest_least b d t = let s = G.solid b d t in (least_is (λ d. F a c b d) (suc H - c) c).least d (omega arith) (omega arith) t

  wider_passes : (b b' d' : ℕ) → b' ≤ b → So (F a c b' d') → b ≤ W → So (F a c b d')
  wider_passes b b' d' p t q = let s = G.solid b' d' t in G.rise b' d' b d' t p (le_refl d') q s.3

  -- a byte that is not 0 is the height of an undominated room
  byte_minimal : (j h : ℕ) → 1 ≤ h → list_byte H F a c j ≡ h → Minimal (Passes F) a c (a + suc j) (c + h)
  unfolding list_byte
  byte_minimal j h k e = go (ltb (lowest H F a c (a + suc j)) (lowest H F a c (a + j))) refl e
    where
      go : (b : Bool) → ltb (lowest H F a c (a + suc j)) (lowest H F a c (a + j)) ≡ b
          → only_if b (lowest H F a c (a + suc j) - c) ≡ h → Minimal (Passes F) a c (a + suc j) (c + h)
      go false q e = absurd (omega arith)
      go true q e =
          let l = ltb-true (lowest H F a c (a + suc j)) (lowest H F a c (a + j)) q in
          let f = lowest_from (a + suc j) in let m = lowest_from (a + j) in
          let is = lowest_passes (a + suc j) (omega arith) in let s = G.solid (a + suc j) (lowest H F a c (a + suc j)) is in
          let eh : c + h ≡ lowest H F a c (a + suc j) = omega arith in
          record {
            is = rw eh is;
            least = λ b' d' t p r. let u = lowest_least (a + suc j) d' (wider_passes (a + suc j) b' d' p t s.2) in
                (narrow b' d' t (omega arith) l s.2 (dec_le (a + suc j) b'), omega arith);
          }
        where
          narrow : (b' d' : ℕ) → So (F a c b' d') → d' ≤ lowest H F a c (a + suc j) → lowest H F a c (a + suc j) < lowest H F a c (a + j)
              → a + suc j ≤ W → Dec (a + suc j ≤ b') → a + suc j ≤ b'
          narrow b' d' t p l g (yes v) = v
          narrow b' d' t p l g (no v) = let u = lowest_least (a + j) d' (wider_passes (a + j) b' d' (omega arith) t (omega arith)) in absurd (omega arith)

  -- and each undominated room's height is such a byte
  minimal_byte : (j h : ℕ) → Minimal (Passes F) a c (a + suc j) (c + h) → list_byte H F a c j ≡ h
  unfolding list_byte
  minimal_byte j h m =
      let s = G.solid (a + suc j) (c + h) m.is in let i = lowest_least (a + suc j) (c + h) m.is in
      let k = (m.least (a + suc j) (lowest H F a c (a + suc j)) (lowest_passes (a + suc j) (omega arith)) (le_refl (a + suc j)) i).1 in
      let e : lowest H F a c (a + suc j) ≡ c + h = omega arith in let z : c + h - c ≡ h = omega arith in
      rw (e, lt-ltb (c + h) (lowest H F a c (a + j)) (go (dec_le (lowest H F a c (a + j)) (c + h)))) z
    where
      go : Dec (lowest H F a c (a + j) ≤ c + h) → c + h < lowest H F a c (a + j)
      go (no v) = omega arith
      go (yes v) =
          let s = G.solid (a + suc j) (c + h) m.is in
          let w = m.least (a + j) (lowest H F a c (a + j)) (lowest_passes (a + j) (omega arith)) (omega arith) v in absurd (omega arith)

  -- the bytes hold exactly the undominated rooms
  pub bytes_minimal : (s : Shape) → Stores W (list_byte H F a c) s ↔ Minimal (Passes F) a c (a + s.w.0) (c + s.h.0)
  bytes_minimal s = (λ z. to s.w.0 z.wide z.high z.byte, back)
    where
      to : (w : ℕ) → 1 ≤ w → 1 ≤ s.h.0 → list_byte H F a c (w - 1) ≡ s.h.0 → Minimal (Passes F) a c (a + w) (c + s.h.0)
      to w k l e = let q : a + w ≡ a + suc (w - 1) = omega arith in rw q (byte_minimal (w - 1) s.h.0 l e)

      back : Minimal (Passes F) a c (a + s.w.0) (c + s.h.0) → Stores W (list_byte H F a c) s
      back m =
          let z = G.solid (a + s.w.0) (c + s.h.0) m.is in let q : a + s.w.0 ≡ a + suc (s.w.0 - 1) = omega arith in
          record { wide = omega arith; within = omega arith; high = omega arith; byte = minimal_byte (s.w.0 - 1) s.h.0 (rw q at m) }

-- undominated rooms at a corner are undominated shapes there
pub minimal_undominated : {Q : Rel} {P : Shape → Type 0} (a c : ℕ) → ((b d : ℕ) → Q a c b d → (a < b) × (c < d))
    → ((s : Shape) → P s ↔ Q a c (a + s.w.0) (c + s.h.0)) → (s : Shape) → Minimal Q a c (a + s.w.0) (c + s.h.0) ↔ Undominated P s
minimal_undominated {Q} {P} a c solid says s = (
  λ m. record {
    is = (says s).1 m.is;
    alone = λ o p e. let ew = e.wide in let eh = e.high in
        let l = m.least (a + o.w.0) (c + o.h.0) ((says o).0 p) (omega arith) (omega arith) in same_shape o s (omega arith) (omega arith);
  },
  λ u. record { is = (says s).0 u.is; least = λ b' d' t p q. at b' d' t p q u },
)
  where
    at : (b' d' : ℕ) → Q a c b' d' → b' ≤ a + s.w.0 → d' ≤ c + s.h.0 → Undominated P s → (a + s.w.0 ≤ b') × (c + s.h.0 ≤ d')
    at b' d' t p q u =
        let z = solid b' d' t in let o = shape (b' - a) (d' - c) in
        let eb : a + (b' - a) ≡ b' = omega arith in let ed : c + (d' - c) ≡ d' = omega arith in
        let e = u.alone o ((says o).1 (rw (eb, ed) t)) (record { wide = omega arith; high = omega arith }) in
        let ew : b' - a ≡ s.w.0 = ap (λ o. o.w.0) e in let eh : d' - c ≡ s.h.0 = ap (λ o. o.h.0) e in (omega arith, omega arith)

-- a list of some shapes, in other bytes that agree with it, of other shapes that are the same
pub same_undominated : {P Q : Shape → Type 0} → ((s : Shape) → P s ↔ Q s) → (s : Shape) → Undominated P s → Undominated Q s
same_undominated e s u = record { is = (e s).0 u.is; alone = λ o q d. u.alone o ((e o).1 q) d }

pub same_stores : (W : ℕ) (g g' : ℕ → ℕ) → ((j : ℕ) → j < W → g j ≡ g' j) → (s : Shape) → Stores W g s → Stores W g' s
same_stores W g g' e s z =
    let p = z.wide in let q = z.within in
    record { wide = p; within = q; high = z.high; byte = sym (e (s.w.0 - 1) (omega arith)) ∙ z.byte }

pub same_list : (W : ℕ) (g g' : ℕ → ℕ) {P Q : Shape → Type 0} → ((j : ℕ) → j < W → g j ≡ g' j) → ((s : Shape) → P s ↔ Q s) → IsListOf W g P → IsListOf W g' Q
same_list W g g' e f l s = (
  λ z. same_undominated f s ((l s).0 (same_stores W g' g (λ j h. sym (e j h)) s z)),
  λ u. same_stores W g g' e s ((l s).1 (same_undominated (λ o. ((f o).1, (f o).0)) s u)),
)

-- slots that hold the same shapes have the same bytes
pub same_bytes : (W : ℕ) (g g' : ℕ → ℕ) → ((s : Shape) → Stores W g s ↔ Stores W g' s) → (j : ℕ) → j < W → g j ≡ g' j
same_bytes W g g' f j h = go (dec_lt 0 (g j)) (dec_lt 0 (g' j))
  where
    at : (u v : ℕ → ℕ) → ((s : Shape) → Stores W u s → Stores W v s) → 0 < u j → u j ≡ v j
    at u v k p =
        let e : suc j - 1 ≡ j = omega arith in let s = shape (suc j) (u j) in
        let z = (k s (record { wide = omega arith; within = h; high = p; byte = rw e refl })).byte in sym (rw e at z)

    go : Dec (0 < g j) → Dec (0 < g' j) → g j ≡ g' j
    go (yes p) q = at g g' (λ s. (f s).0) p
    go (no p) (yes q) = sym (at g' g (λ s. (f s).1) q)
    go (no p) (no q) = omega arith

-- "its bytes are the only ones"
pub list_unique : (W : ℕ) (g g' : ℕ → ℕ) {P : Shape → Type 0} → IsListOf W g P → IsListOf W g' P → (j : ℕ) → j < W → g j ≡ g' j
list_unique W g g' l l' = same_bytes W g g' (λ s. (λ z. (l' s).1 ((l s).0 z), λ z. (l s).1 ((l' s).0 z)))

-- "widths rising, heights falling"
pub list_sorted : (W : ℕ) (g : ℕ → ℕ) {P : Shape → Type 0} → IsListOf W g P → (s o : Shape) → Stores W g s → Stores W g o → s.w.0 < o.w.0 → o.h.0 < s.h.0
list_sorted W g l s o x y h = go (dec_lt o.h.0 s.h.0)
  where
    go : Dec (o.h.0 < s.h.0) → o.h.0 < s.h.0
    go (yes k) = k
    go (no k) =
        let e = ((l o).0 y).alone s ((l s).0 x).is (record { wide = omega arith; high = omega arith }) in
        let ew : s.w.0 ≡ o.w.0 = ap (λ z. z.w.0) e in absurd (omega arith)

module _ {W H : ℕ} {S : ℕ → Rectangle → Type 0} {F : ℕ → Test} (dec : Decides W H S F) (t : Tree) (c : Corner) where
  shapes_fit : (s : Shape) → ShapeAt W H S t c s ↔ So (fits F t c.x.0 c.y.0 (c.x.0 + s.w.0) (c.y.0 + s.h.0))
  shapes_fit s = realizes_fits dec t (record { corner = c; shape = s })

  fits_rising : Rising W H (fits F t) c.x.0 c.y.0
  fits_rising = rising (fits_growing F dec.growing t) c.x.0 c.y.0

  pub minimal_listed : (s : Shape) → Minimal (Passes (fits F t)) c.x.0 c.y.0 (c.x.0 + s.w.0) (c.y.0 + s.h.0) ↔ Listed W H S t c s
  minimal_listed =
      minimal_undominated c.x.0 c.y.0 (λ b d z. let h = fits_rising.solid b d z in (h.0, h.1)) shapes_fit

  -- the computed bytes are the tree's list
  pub list_bytes : IsListOf W (list_byte H (fits F t) c.x.0 c.y.0) (ShapeAt W H S t c)
  list_bytes s = let m = bytes_minimal fits_rising s in let u = minimal_listed s in (λ z. u.0 (m.0 z), λ z. m.1 (u.1 z))

  -- "complete": below each shape stands a listed one
  pub list_complete : (s : Shape) → ShapeAt W H S t c s → (o : Shape) × Listed W H S t c o × Dominates o s
  list_complete s p =
      let (b', d', m, h, k) = minimal_below fits_rising _ _ ((shapes_fit s).0 p) in let z = fits_rising.solid b' d' m.is in
      let o = shape (b' - c.x.0) (d' - c.y.0) in let eb : b' ≡ c.x.0 + o.w.0 = omega arith in let ed : d' ≡ c.y.0 + o.h.0 = omega arith in
      (o, (minimal_listed o).0 (rw (eb, ed) at m), record { wide = omega arith; high = omega arith })
