-- The source's short scan. In its order the boxes' heights rise, whatever the bytes; so over stairs those kept are the undominated ones, and no
-- filter comes after it. Over the children's own lists, by lemma 1 of document 000, a box that it looks at stands below every pairing; so what
-- it keeps is the cut's list. All of it once over the direction. Assumes nothing.
use mathlib.Core.Path.{◌≡◌, refl, sym, ◌∙◌, ap, subst}
use mathlib.Core.Logic.{◌⊎◌, inl, inr, ◌↔◌}
use Prim.Native.Nat.{ℕ, zero, suc, ◌+◌, ◌-◌, ◌≤◌, ◌<◌, max}
use native.Mathlib.Omega.{arith}
use native.Mathlib.Nat.{le_refl}
use native.Mathlib.Decide.{dec_lt, ℕ_discrete}
use Rattle.rules.specs.declared.Corner.{Corner}
use Rattle.rules.specs.declared.Shape.{Shape}
use Rattle.rules.specs.declared.Rectangle.{Rectangle}
use Rattle.rules.specs.declared.Direction.{Direction}
use Rattle.rules.specs.declared.Direction.TheVariants.{Vertical, Horizontal}
use Rattle.rules.specs.Chip.{OnChip, shape, right, top}
use Rattle.rules.specs.Tree.{Tree, cut}
use Rattle.rules.specs.Shape.{Dominates, Undominated, Listed}
use Rattle.rules.specs.Slot.{Stores, CornerOn, ListsAt, Stair}
use Rattle.rules.specs.Choice.{beside, pairing}
use Rattle.rules.specs.Edit.{Paired}
use Rattle.rules.specs.Scan.{level, along, LooksAt, BoxOf, Scanned, Earlier, Keeps}
use Rattle.rules.proofs.Test.{Test, across, fits}
use Rattle.rules.proofs.Rooms.{Growing, rising, Passes, Minimal, highest_below}
use Rattle.rules.proofs.Fitting.{Decides, fits_growing}
use Rattle.rules.proofs.Listing.{same_shape, same_stores, minimal_listed}
use Rattle.rules.proofs.Pairing.{pairings_list_the_cut}
use Rattle.rules.proofs.Stairs.{minimal_stair}
use Rattle.rules.proofs.Paper.{at, undominated_below}

-- the two sides of a shape: what dominance says of them, and those of a box
pub dominates : (d : Direction) (s o : Shape) → along d s ≤ along d o → level d s ≤ level d o → Dominates s o
dominates Vertical s o p q = record { wide = p; high = q }
dominates Horizontal s o p q = record { wide = q; high = p }

pub dominated : (d : Direction) (s o : Shape) → Dominates s o → (along d s ≤ along d o) × (level d s ≤ level d o)
dominated Vertical s o z = (z.wide, z.high)
dominated Horizontal s o z = (z.high, z.wide)

pub box_sides : (d : Direction) (s o : Shape) → (along d (pairing d s o) ≡ along d s + along d o) × (level d (pairing d s o) ≡ max (level d s) (level d o))
box_sides Vertical s o = (refl, refl)
box_sides Horizontal s o = (refl, refl)

pub sides : {W H : ℕ} {d : Direction} {c : Corner} {Looks : Shape → Shape → Type 0} {q : Shape} (b : BoxOf W H d c Looks q)
    → (along d q ≡ along d b.s + along d b.o) × (level d q ≡ max (level d b.s) (level d b.o))
sides {d = d} b = let (e, f) = box_sides d b.s b.o in (ap (along d) (sym b.box) ∙ e, ap (level d) (sym b.box) ∙ f)

-- In the scan's order the boxes' heights rise: another left shape's are no lower than itself, where the scan stopped before; and from the one
-- looked up on the right shapes are higher than the left one.
pub scan_rises : {W H : ℕ} {d : Direction} {L R : Corner → ℕ → ℕ} {c : Corner} {p q : Shape} (a : Scanned W H d L R c p) (b : Scanned W H d L R c q)
    → Earlier d a.s a.o b.s b.o → level d p < level d q
scan_rises a b (inl h) = let k = a.looks.stop b.s b.looks.left h in omega (arith, (sides a).1, (sides b).1)
scan_rises {W} {d = d} {R = R} {c = c} {p = p} {q = q} a b (inr (e, h)) = go (ap (level d) e) (dec_lt (level d a.s) (level d b.o))
  where
    go : level d a.s ≡ level d b.s → Dec (level d a.s < level d b.o) → level d p < level d q
    go es (yes k) = omega (arith, (sides a).1, (sides b).1)
    go es (no k) = absurd (omega (arith, a.looks.from b.o (subst (λ s. Stores W (R (beside d c s)) b.o) (sym e) b.looks.right) (omega arith)))

-- One pair comes before another that comes before a third: so it comes before that.
earlier_still : (d : Direction) (s o s' o' s2 o2 : Shape) → Earlier d s o s' o' → Earlier d s' o' s2 o2 → Earlier d s o s2 o2
earlier_still d s o s' o' s2 o2 (inl h) (inl k) = inl (omega arith)
earlier_still d s o s' o' s2 o2 (inl h) (inr (e, k)) = let q = ap (level d) e in inl (omega arith)
earlier_still d s o s' o' s2 o2 (inr (e, h)) (inl k) = let q = ap (level d) e in inl (omega arith)
earlier_still d s o s' o' s2 o2 (inr (e, h)) (inr (f, k)) = inr (e ∙ f, omega arith)

-- "each kept only if narrower .. than the last kept": narrower than those kept before it, of which the last is the narrowest, a box is narrower than
-- all before it. For one before it that is not wider would be narrower than all before itself, and so kept.
pub narrower_than_the_kept : {W H : ℕ} {d : Direction} {L R : Corner → ℕ → ℕ} {c : Corner} {q : Shape} (b : Scanned W H d L R c q)
    → ((p : Shape) (k : Keeps W H d c (LooksAt W H d L R c) p) → Earlier d k.box.s k.box.o b.s b.o → along d q < along d p)
    → Keeps W H d c (LooksAt W H d L R c) q
narrower_than_the_kept {W} {H} {d} {L} {R} {c} {q} b than = record { box = b; narrower = λ p a e. go (suc (level d p)) p a (le_refl _) e }
  where
    go : (n : ℕ) (p : Shape) (a : Scanned W H d L R c p) → level d p < n → Earlier d a.s a.o b.s b.o → along d q < along d p
    go zero p a h e = absurd (omega arith)
    go (suc n) p a h e = at (go n) (dec_lt (along d q) (along d p))
      where
        at : ((p : Shape) (a : Scanned W H d L R c p) → level d p < n → Earlier d a.s a.o b.s b.o → along d q < along d p) → Dec (along d q < along d p) → along d q < along d p
        at ih (yes k) = k
        at ih (no k) = than p (record { box = a; narrower = λ o a' e'. omega (arith, ih o a' (omega (arith, scan_rises a' a e')) (earlier_still d a'.s a'.o a.s a.o b.s b.o e' e)) }) e

-- In a stair the wider of two shapes is the lower; so in either direction the higher is the narrower, and no two have the same height.
module _ {W H : ℕ} {c : Corner} {g : ℕ → ℕ} (z : Stair W H c g) where
  wider_lower : {s o : Shape} → Stores W g s → Stores W g o → s.w.0 < o.w.0 → o.h.0 < s.h.0
  wider_lower {s} {o} x y h =
      let p = x.wide in let q = y.wide in let r = y.within in let e = x.byte in let f = y.byte in let k = x.high in let l = y.high in
      omega (arith, z.fall (s.w.0 - 1) (o.w.0 - 1) (omega arith) (omega arith) (omega arith) (omega arith))

  same_width : {s o : Shape} → Stores W g s → Stores W g o → s.w.0 ≡ o.w.0 → s ≡ o
  same_width {s} {o} x y e = same_shape s o e (sym x.byte ∙ ap (λ w. g (w - 1)) e ∙ y.byte)

  higher_narrower : {s o : Shape} → Stores W g s → Stores W g o → s.h.0 < o.h.0 → o.w.0 < s.w.0
  higher_narrower {s} {o} x y h = go (dec_lt o.w.0 s.w.0) (ℕ_discrete s.w.0 o.w.0)
    where
      go : Dec (o.w.0 < s.w.0) → Dec (s.w.0 ≡ o.w.0) → o.w.0 < s.w.0
      go (yes k) _ = k
      go (no k) (yes e) = let q = ap (λ n. n.h.0) (same_width x y e) in absurd (omega arith)
      go (no k) (no e) = absurd (omega (arith, wider_lower x y (omega arith)))

  same_height : {s o : Shape} → Stores W g s → Stores W g o → s.h.0 ≡ o.h.0 → s ≡ o
  same_height {s} {o} x y e = go (dec_lt o.w.0 s.w.0) (dec_lt s.w.0 o.w.0)
    where
      go : Dec (o.w.0 < s.w.0) → Dec (s.w.0 < o.w.0) → s ≡ o
      go (yes k) _ = absurd (omega (arith, wider_lower y x k))
      go (no k) (yes l) = absurd (omega (arith, wider_lower x y l))
      go (no k) (no l) = same_width x y (omega arith)

  pub stair_falls : (d : Direction) {s o : Shape} → Stores W g s → Stores W g o → level d s < level d o → along d o < along d s
  stair_falls Vertical x y h = higher_narrower x y h
  stair_falls Horizontal x y h = wider_lower x y h

  pub stair_one : (d : Direction) {s o : Shape} → Stores W g s → Stores W g o → level d s ≡ level d o → s ≡ o
  stair_one Vertical x y e = same_height x y e
  stair_one Horizontal x y e = same_width x y e

-- a node's slots are stairs
abbrev pub StairsOf : ℕ → ℕ → (Corner → ℕ → ℕ) → Type 0
StairsOf W H g = (c : Corner) → CornerOn W H c → Stair W H c (g c)

module _ {W H : ℕ} {d : Direction} {L R : Corner → ℕ → ℕ} {c : Corner} (on : CornerOn W H c) (ls : StairsOf W H L) (rs : StairsOf W H R) where
  -- of two boxes with the same left shape the higher is the narrower, and of the same height there is one
  pub same_left : {p q : Shape} (a : Scanned W H d L R c p) (b : Scanned W H d L R c q) → a.s ≡ b.s
      → Earlier d a.s a.o b.s b.o ⊎ (Earlier d b.s b.o a.s a.o ⊎ (p ≡ q))
  same_left {p} {q} a b e = go (dec_lt (level d a.o) (level d b.o)) (dec_lt (level d b.o) (level d a.o))
    where
      right : Stores W (R (beside d c a.s)) b.o
      right = subst (λ s. Stores W (R (beside d c s)) b.o) (sym e) b.looks.right

      go : Dec (level d a.o < level d b.o) → Dec (level d b.o < level d a.o)
          → Earlier d a.s a.o b.s b.o ⊎ (Earlier d b.s b.o a.s a.o ⊎ (p ≡ q))
      go (yes k) _ = inl (inr (e, k))
      go (no k) (yes l) = inr (inl (inr (sym e, l)))
      go (no k) (no l) =
          let f = stair_one (rs (beside d c a.s) a.looks.corner) d a.looks.right right (omega arith) in
          inr (inr (sym a.box ∙ (λ i. pairing d (e i) (f i)) ∙ b.box))

  -- of two boxes one comes first, or they are the same
  in_order : {p q : Shape} (a : Scanned W H d L R c p) (b : Scanned W H d L R c q)
      → Earlier d a.s a.o b.s b.o ⊎ (Earlier d b.s b.o a.s a.o ⊎ (p ≡ q))
  in_order {p} {q} a b = go (dec_lt (level d a.s) (level d b.s)) (dec_lt (level d b.s) (level d a.s))
    where
      go : Dec (level d a.s < level d b.s) → Dec (level d b.s < level d a.s)
          → Earlier d a.s a.o b.s b.o ⊎ (Earlier d b.s b.o a.s a.o ⊎ (p ≡ q))
      go (yes k) _ = inl (inl k)
      go (no k) (yes l) = inr (inl (inl l))
      go (no k) (no l) = same_left a b (stair_one (ls c on) d a.looks.left b.looks.left (omega arith))

  -- "each kept only if narrower (horizontal: lower) than the last kept: no filter after it"
  pub kept_is_undominated : (q : Shape) → Keeps W H d c (LooksAt W H d L R c) q ↔ Undominated (Scanned W H d L R c) q
  kept_is_undominated q = (
    λ k. record { is = k.box; alone = λ p a z. out k a (dominated d p q z) (in_order a k.box) },
    λ u. record { box = u.is; narrower = λ p a e. into u a (scan_rises a u.is e) (dec_lt (along d q) (along d p)) },
  )
    where
      out : {p : Shape} (k : Keeps W H d c (LooksAt W H d L R c) q) (a : Scanned W H d L R c p) → (along d p ≤ along d q) × (level d p ≤ level d q)
          → Earlier d a.s a.o k.box.s k.box.o ⊎ (Earlier d k.box.s k.box.o a.s a.o ⊎ (p ≡ q)) → p ≡ q
      out {p} k a z (inl e) = absurd (omega (arith, k.narrower p a e))
      out k a z (inr (inl e)) = absurd (omega (arith, scan_rises k.box a e))
      out k a z (inr (inr e)) = e

      into : {p : Shape} → Undominated (Scanned W H d L R c) q → Scanned W H d L R c p → level d p < level d q → Dec (along d q < along d p) → along d q < along d p
      into u a h (yes k) = k
      into {p} u a h (no k) = let e = ap (level d) (u.alone p a (dominates d p q (omega arith) (omega arith))) in absurd (omega arith)

-- where a corner stands along the cut and across it, and how far the chip reaches; the corner beside a shape, corners and boxes on the chip
abbrev pub along_at : Direction → Corner → ℕ
along_at k c = across k c.x.0 c.y.0

abbrev pub level_at : Direction → Corner → ℕ
level_at k c = across k c.y.0 c.x.0

pub beside_at : (k : Direction) (c : Corner) (s : Shape) → (along_at k (beside k c s) ≡ along_at k c + along k s) × (level_at k (beside k c s) ≡ level_at k c)
beside_at Vertical c s = (refl, refl)
beside_at Horizontal c s = (refl, refl)

corner_on : (k : Direction) {W H : ℕ} (c : Corner) → along_at k c < across k W H → level_at k c < across k H W → CornerOn W H c
corner_on Vertical c p q = record { column = p; row = q }
corner_on Horizontal c p q = record { column = q; row = p }

abbrev pub Reaches : Direction → ℕ → ℕ → Corner → Shape → Type 0
Reaches k W H c s = (1 ≤ along k s) × (1 ≤ level k s) × (along_at k c + along k s ≤ across k W H) × (level_at k c + level k s ≤ across k H W)

pub fits_iff : (k : Direction) {W H : ℕ} (c : Corner) (s : Shape) → OnChip W H (at c s) ↔ Reaches k W H c s
fits_iff Vertical c s = (λ z. (z.wide, z.high, z.columns, z.rows), λ (a, b, p, q). record { wide = a; high = b; columns = p; rows = q })
fits_iff Horizontal c s = (λ z. (z.high, z.wide, z.rows, z.columns), λ (a, b, p, q). record { wide = b; high = a; columns = q; rows = p })

-- The slots of a node are the lists of rooms that grow: what a test that grows holds undominated at each corner of the chip. So are the slots of a
-- tree that are its own lists, over any suiting whose rooms grow; a stranger's stairs need not be.
pub record Grows (W H : ℕ) (g : Corner → ℕ → ℕ) : Type 0 where
  pub test : Test
  pub growing : Growing W H test
  pub lists : (c : Corner) → CornerOn W H c → (s : Shape) → Stores W (g c) s ↔ Minimal (Passes test) c.x.0 c.y.0 (right (at c s)) (top (at c s))

pub own_grows : {W H : ℕ} {S : ℕ → Rectangle → Type 0} {F : ℕ → Test} → Decides W H S F → (t : Tree) (g : Corner → ℕ → ℕ) → ListsAt W H H S g t → Grows W H g
own_grows {F = F} dec t g l = record {
  test = fits F t;
  growing = fits_growing F dec.growing t;
  lists = λ c on s. let m = minimal_listed dec t c s in (λ z. m.1 ((l c on s).0 z), λ z. (l c on s).1 (m.0 z));
}

pub grows_same : {W H : ℕ} {g g' : Corner → ℕ → ℕ} → ((c : Corner) → CornerOn W H c → (j : ℕ) → j < W → g c j ≡ g' c j) → Grows W H g → Grows W H g'
grows_same {W} {g = g} {g' = g'} e G = record {
  test = G.test;
  growing = G.growing;
  lists = λ c on s. let l = G.lists c on s in
      (λ z. l.0 (same_stores W (g' c) (g c) (λ j h. sym (e c on j h)) s z), λ m. same_stores W (g c) (g' c) (e c on) s (l.1 m));
}

module _ {W H : ℕ} {g : Corner → ℕ → ℕ} (G : Grows W H g) where
  -- a shape stored there is on the chip, and each slot is a stair
  stored_reaches : (k : Direction) {c : Corner} {s : Shape} → CornerOn W H c → Stores W (g c) s → Reaches k W H c s
  stored_reaches k {c} {s} on z =
      let b = G.growing.solid _ _ _ _ ((G.lists c on s).0 z).is in
      (fits_iff k c s).0 (record { wide = omega arith; high = omega arith; columns = b.2; rows = b.3 })

  pub grows_stairs : StairsOf W H g
  grows_stairs c on = minimal_stair c (g c) (rising G.growing c.x.0 c.y.0) (G.lists c on)

  -- Lemma 1 of document 000, and more: of the shapes stored at a corner that end within a room round one stored further on the highest
  highest_within : (k : Direction) (c0 c : Corner) (o : Shape) (b e : ℕ) → CornerOn W H c0 → Stores W (g c0) o → c.x.0 ≤ c0.x.0 → c.y.0 ≤ c0.y.0
      → right (at c0 o) ≤ b → top (at c0 o) ≤ e → b ≤ W → e ≤ H
      → (s : Shape) × Stores W (g c) s × (right (at c s) ≤ b) × (top (at c s) ≤ e)
      × ((o' : Shape) → Stores W (g c) o' → across k (top (at c o')) (right (at c o')) ≤ across k e b → across k (top (at c o')) (right (at c o')) ≤ across k (top (at c s)) (right (at c s)))
  highest_within k c0 c o b e on z p q p' q' hb he =
      let f = G.growing in let x = on.column in let y = on.row in let on' : CornerOn W H c = record { column = omega arith; row = omega arith } in
      let (b', d', m, h, j, l) = highest_below k f c.x.0 c.y.0 b e (f.grow c0.x.0 c0.y.0 (right (at c0 o)) (top (at c0 o)) c.x.0 c.y.0 b e ((G.lists c0 on o).0 z).is p q p' q' hb he) in
      let u = f.solid c.x.0 c.y.0 b' d' m.is in let s = shape (b' - c.x.0) (d' - c.y.0) in
      let eb : b' ≡ c.x.0 + s.w.0 = omega arith in let ed : d' ≡ c.y.0 + s.h.0 = omega arith in
      (s, (G.lists c on' s).1 (rw (eb, ed) at m), omega arith, omega arith, λ o' i v. rw (← eb, ← ed) (l _ _ ((G.lists c on' o').0 i) v))

  -- in the words of the scan: a shape o at a corner c0 further along, in room of these two sides at the corner c
  pub record Room (k : Direction) (c0 c : Corner) (o : Shape) (long high : ℕ) : Type 0 where
    before : along_at k c ≤ along_at k c0
    level_with : level_at k c ≡ level_at k c0
    ends : along_at k c0 + along k o ≤ along_at k c + long
    under : level k o ≤ high
    columns : along_at k c + long ≤ across k W H
    rows : level_at k c + high ≤ across k H W

  highest_stored : (k : Direction) (c0 c : Corner) (o : Shape) (long high : ℕ) → CornerOn W H c0 → Stores W (g c0) o → Room k c0 c o long high
      → (s : Shape) × Stores W (g c) s × (along k s ≤ long) × (level k s ≤ high) × ((o' : Shape) → Stores W (g c) o' → level k o' ≤ high → level k o' ≤ level k s)
  highest_stored Vertical c0 c o long high on u r =
      let p = r.before in let q = r.level_with in let m = r.ends in let n = r.under in
      let (s, l, x, y, top) = highest_within Vertical c0 c o (c.x.0 + long) (c.y.0 + high) on u p (omega arith) m (omega arith) r.columns r.rows in
      (s, l, omega arith, omega arith, λ o' i v. let z = top o' i (omega arith) in omega arith)
  highest_stored Horizontal c0 c o long high on u r =
      let p = r.before in let q = r.level_with in let m = r.ends in let n = r.under in
      let (s, l, x, y, top) = highest_within Horizontal c0 c o (c.x.0 + high) (c.y.0 + long) on u (omega arith) p (omega arith) m r.rows r.columns in
      (s, l, omega arith, omega arith, λ o' i v. let z = top o' i (omega arith) in omega arith)

module _ {W H : ℕ} (k : Direction) {L R : Corner → ℕ → ℕ} (GL : Grows W H L) (GR : Grows W H R) {c : Corner} (on : CornerOn W H c) where
  scanned_paired : (whole : Shape) → Scanned W H k L R c whole → Paired W H k L R c whole
  scanned_paired whole z = let y = z.looks in
      record { s = z.s; o = z.o; pair = record { left = y.left; corner = y.corner; right = y.right; box = z.box }; fits = z.fits }

  -- Below every pairing stands a box that the scan looks at: that of the highest left shape no higher than the pairing, and of the highest right
  -- shape beside it that is no higher. Lemma 1 has it that neither ends further along.
  scan_below : (whole : Shape) → Paired W H k L R c whole → (o : Shape) × Scanned W H k L R c o × Dominates o whole
  scan_below whole z = first (highest_stored GL k c c s0 (along k s0) (level k whole) on z.pair.left room)
    where
      s0 : Shape
      s0 = z.s

      o0 : Shape
      o0 = z.o

      two : (along k whole ≡ along k s0 + along k o0) × (level k whole ≡ max (level k s0) (level k o0))
      two = let (e, f) = box_sides k s0 o0 in (ap (along k) (sym z.pair.box) ∙ e, ap (level k) (sym z.pair.box) ∙ f)

      fit : Reaches k W H c whole
      fit = (fits_iff k c whole).0 z.fits

      room : Room GL k c c s0 (along k s0) (level k whole)
      room = record {
        before = le_refl _;
        level_with = refl;
        ends = le_refl _;
        under = omega (arith, two.1);
        columns = omega (arith, two.0, fit.2);
        rows = fit.3;
      }

      first : (s : Shape) × Stores W (L c) s × (along k s ≤ along k s0) × (level k s ≤ level k whole) × ((o' : Shape) → Stores W (L c) o' → level k o' ≤ level k whole → level k o' ≤ level k s)
          → (o : Shape) × Scanned W H k L R c o × Dominates o whole
      first (s, i, short, low, high) = second (highest_stored GR k (beside k c s0) (beside k c s) o0 (along k whole - along k s) (level k whole) z.pair.corner z.pair.right room')
        where
          room' : Room GR k (beside k c s0) (beside k c s) o0 (along k whole - along k s) (level k whole)
          room' = let (e, f) = beside_at k c s in let (e0, f0) = beside_at k c s0 in record {
            before = omega arith;
            level_with = omega arith;
            ends = omega (arith, two.0);
            under = omega (arith, two.1);
            columns = omega (arith, two.0, fit.2);
            rows = omega (arith, fit.3);
          }

          -- the corner beside a narrower left shape is on the chip too
          beyond : CornerOn W H (beside k c s)
          beyond = let (e, f) = beside_at k c s in let (e0, f0) = beside_at k c s0 in
              let r = stored_reaches GR k z.pair.corner z.pair.right in
              corner_on k (beside k c s) (omega (arith, r.0, r.2)) (omega (arith, r.1, r.3))

          second : (o : Shape) × Stores W (R (beside k c s)) o × (along k o ≤ along k whole - along k s) × (level k o ≤ level k whole)
              × ((o' : Shape) → Stores W (R (beside k c s)) o' → level k o' ≤ level k whole → level k o' ≤ level k o)
              → (o : Shape) × Scanned W H k L R c o × Dominates o whole
          second (o, j, short', low', high') = (
            pairing k s o,
            record {
              s = s;
              o = o;
              looks = record {
                left = i;
                corner = beyond;
                right = j;
                from = λ o' x v. high' o' x (omega arith);
                stop = λ s' x v. lower s' x v (dec_lt (level k o) (level k s'));
              };
              box = refl;
              fits = (fits_iff k c (pairing k s o)).1 (omega (arith, box.0, r.0), omega (arith, box.1, r.1), omega (arith, box.0, two.0, fit.2), omega (arith, box.1, fit.3));
            },
            dominates k (pairing k s o) whole (omega (arith, box.0, two.0)) (omega (arith, box.1)),
          )
            where
              box : (along k (pairing k s o) ≡ along k s + along k o) × (level k (pairing k s o) ≡ max (level k s) (level k o))
              box = box_sides k s o

              r : Reaches k W H (beside k c s) o
              r = stored_reaches GR k beyond j

              lower : (s' : Shape) → Stores W (L c) s' → level k s < level k s' → Dec (level k o < level k s') → level k o < level k s'
              lower s' x v (yes w) = w
              lower s' x v (no w) = absurd (omega (arith, high s' x (omega arith)))

  -- the undominated boxes that it looks at are the undominated pairings
  pub scan_is_all_pairs : (s : Shape) → Undominated (Scanned W H k L R c) s ↔ Undominated (Paired W H k L R c) s
  scan_is_all_pairs = undominated_below scanned_paired scan_below

-- and so, over the children's own lists, the cut's list
pub scan_lists_the_cut : {W H : ℕ} {S : ℕ → Rectangle → Type 0} {F : ℕ → Test} (dec : Decides W H S F) (t : ℕ) (k : Direction) (l r : Tree) (L R : Corner → ℕ → ℕ)
    → ListsAt W H H S L l → ListsAt W H H S R r → (c : Corner) → CornerOn W H c → (s : Shape) → Undominated (Scanned W H k L R c) s ↔ Listed W H S (cut t k l r) c s
scan_lists_the_cut dec t k l r L R x y c on s =
    let p = scan_is_all_pairs k (own_grows dec l L x) (own_grows dec r R y) on s in let q = pairings_list_the_cut dec t k l r L R x y c s in
    (λ u. q.0 (p.0 u), λ u. p.1 (q.1 u))
