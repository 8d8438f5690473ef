-- The scan left shape by left shape. From the height of one up to the stop all boxes are its own; of these the ones narrower than the last kept are
-- kept, and with them the bytes hold what the scan keeps of all boxes lower than the stop. Over stairs, and once over the direction. Assumes nothing.
use mathlib.Core.Path.{◌≡◌, refl, sym, ◌∙◌, ap, subst}
use mathlib.Core.Logic.{◌⊎◌, inl, inr, ⊎_elim, ◌↔◌}
use Prim.Native.Nat.{ℕ, ◌+◌, ◌-◌, ◌≤◌, ◌<◌, max}
use native.Mathlib.Omega.{arith}
use native.Mathlib.Nat.{le_trans}
use native.Mathlib.Decide.{dec_lt}
use Rattle.rules.specs.declared.Corner.{Corner}
use Rattle.rules.specs.declared.Shape.{Shape}
use Rattle.rules.specs.declared.Direction.{Direction}
use Rattle.rules.specs.Chip.{OnChip}
use Rattle.rules.specs.Shape.{Undominated}
use Rattle.rules.specs.Slot.{Stores, CornerOn, IsListOf}
use Rattle.rules.specs.Choice.{beside, pairing}
use Rattle.rules.specs.Scan.{level, along, Scanned, Earlier}
use Rattle.rules.proofs.Descending.{stair_on_chip}
use Rattle.rules.proofs.Scanning.{along_at, level_at, Reaches, fits_iff, beside_at, box_sides, sides, dominates, dominated, scan_rises, stair_falls, stair_one, StairsOf, same_left}

module _ (W H : ℕ) (d : Direction) (L R : Corner → ℕ → ℕ) (c : Corner) where
  -- The scan has gone so high: the bytes hold what it keeps of the boxes lower than v, none of those boxes is narrower than `last`, and one is as
  -- narrow, unless every box on the chip is narrower.
  pub record KeptTo (v last : ℕ) (bytes : ℕ → ℕ) : Type 0 where
    pub holds : (q : Shape) → Stores W bytes q ↔ (Undominated (Scanned W H d L R c) q × (level d q < v))
    pub bound : (q : Shape) → Scanned W H d L R c q → level d q < v → last ≤ along d q
    pub found : ((q : Shape) × Scanned W H d L R c q × (level d q < v) × (along d q ≡ last)) ⊎ ((q : Shape) → Scanned W H d L R c q → along d q < last)

  -- a left shape at which the scan stops at this height: no left shape stands between
  pub record StopsAt (s : Shape) (stop : ℕ) : Type 0 where
    pub left : Stores W (L c) s
    pub above : level d s < stop
    pub next : (s' : Shape) → Stores W (L c) s' → level d s < level d s' → stop ≤ level d s'

  -- a box of it: with a right shape from the one looked up on, lower than the stop
  pub record BoxWith (s : Shape) (stop : ℕ) (q : Shape) : Type 0 where
    pub o : Shape
    pub right : Stores W (R (beside d c s)) o
    pub from : (o' : Shape) → Stores W (R (beside d c s)) o' → level d o' ≤ level d s → level d o' ≤ level d o
    pub below : level d o < stop
    pub box : pairing d s o ≡ q

module _ {W H : ℕ} {d : Direction} {L R : Corner → ℕ → ℕ} {c : Corner} where
  -- it begins with no byte, and ends when all boxes are lower
  pub keeping_begins : {v last : ℕ} {bytes : ℕ → ℕ} → ((j : ℕ) → j < W → bytes j ≡ 0) → ((q : Shape) → Scanned W H d L R c q → v ≤ level d q)
      → ((q : Shape) → Scanned W H d L R c q → along d q < last) → KeptTo W H d L R c v last bytes
  keeping_begins none lower within = record {
    holds = λ q. (
      λ z. absurd (omega (arith, z.wide, z.within, z.high, z.byte, none (q.w.0 - 1) (omega (arith, z.wide, z.within)))),
      λ (u, h). absurd (omega (arith, lower q u.is)),
    );
    bound = λ q b h. absurd (omega (arith, lower q b));
    found = inr within;
  }

  pub keeping_ends : {v last : ℕ} {bytes : ℕ → ℕ} → KeptTo W H d L R c v last bytes → ((q : Shape) → Scanned W H d L R c q → level d q < v)
      → IsListOf W bytes (Scanned W H d L R c)
  keeping_ends k all q = (λ z. ((k.holds q).0 z).0, λ u. (k.holds q).1 (u, all q u.is))

  module _ (on : CornerOn W H c) (ls : StairsOf W H L) (rs : StairsOf W H R) {s : Shape} {stop : ℕ} (at : StopsAt W H d L R c s stop) where
    -- a box from the left shape's height up to the stop has this left shape
    its_left : {q : Shape} (b : Scanned W H d L R c q) → level d s ≤ level d q → level d q < stop → b.s ≡ s
    its_left {q} b h k = go (dec_lt (level d s) (level d b.s)) (dec_lt (level d b.s) (level d s))
      where
        go : Dec (level d s < level d b.s) → Dec (level d b.s < level d s) → b.s ≡ s
        go (yes p) _ = absurd (omega (arith, at.next b.s b.looks.left p, (sides b).1))
        go (no p) (yes r) = absurd (omega (arith, b.looks.stop s at.left r, (sides b).1))
        go (no p) (no r) = stair_one (ls c on) d b.looks.left at.left (omega arith)

    its_box : {q : Shape} (b : Scanned W H d L R c q) → level d s ≤ level d q → level d q < stop → CornerOn W H (beside d c s) × BoxWith W H d L R c s stop q
    its_box {q} b h k = let e = its_left b h k in (
      subst (λ s. CornerOn W H (beside d c s)) e b.looks.corner,
      record {
        o = b.o;
        right = subst (λ s. Stores W (R (beside d c s)) b.o) e b.looks.right;
        from = subst (λ s. (o' : Shape) → Stores W (R (beside d c s)) o' → level d o' ≤ level d s → level d o' ≤ level d b.o) e b.looks.from;
        below = omega (arith, (sides b).1);
        box = subst (λ s. pairing d s b.o ≡ q) e b.box;
      },
    )

    -- where the corner beside it is off the chip it has none
    pub no_corner : {last : ℕ} {bytes : ℕ → ℕ} → (CornerOn W H (beside d c s) → ⊥) → KeptTo W H d L R c (level d s) last bytes → KeptTo W H d L R c stop last bytes
    no_corner off k = record {
      holds = λ q. (λ z. let (u, h) = (k.holds q).0 z in (u, omega (arith, at.above)), λ (u, h). (k.holds q).1 (u, lower u.is h));
      bound = λ q b h. k.bound q b (lower b h);
      found = ⊎_elim (λ (q, b, h, e). inl (q, b, omega (arith, at.above), e)) inr k.found;
    }
      where
        lower : {q : Shape} → Scanned W H d L R c q → level d q < stop → level d q < level d s
        lower {q} b h = go (dec_lt (level d q) (level d s))
          where
            go : Dec (level d q < level d s) → level d q < level d s
            go (yes p) = p
            go (no p) = absurd (off (its_box b (omega arith) h).0)

    module _ (beyond : CornerOn W H (beside d c s)) where
      -- its boxes are the scan's: stairs keep them on the chip
      box_scanned : {q : Shape} → BoxWith W H d L R c s stop q → Scanned W H d L R c q
      box_scanned {q} z = record {
        s = s;
        o = z.o;
        looks = record {
          left = at.left;
          corner = beyond;
          right = z.right;
          from = z.from;
          stop = λ s' x h. omega (arith, at.next s' x h, z.below);
        };
        box = z.box;
        fits = subst (λ q. OnChip W H (record { corner = c; shape = q })) z.box ((fits_iff d c (pairing d s z.o)).1
            (omega (arith, e.0, l.0), omega (arith, e.1, l.1), omega (arith, e.0, b.0, r.2), omega (arith, e.1, b.1, l.3, r.3)));
      }
        where
          e : (along d (pairing d s z.o) ≡ along d s + along d z.o) × (level d (pairing d s z.o) ≡ max (level d s) (level d z.o))
          e = box_sides d s z.o

          b : (along_at d (beside d c s) ≡ along_at d c + along d s) × (level_at d (beside d c s) ≡ level_at d c)
          b = beside_at d c s

          l : Reaches d W H c s
          l = (fits_iff d c s).0 (stair_on_chip W H c (L c) s on (ls c on) at.left)

          r : Reaches d W H (beside d c s) z.o
          r = (fits_iff d (beside d c s) z.o).0 (stair_on_chip W H (beside d c s) (R (beside d c s)) z.o beyond (rs (beside d c s) beyond) z.right)

      -- how long they are, and how high
      long : {q : Shape} (z : BoxWith W H d L R c s stop q) → along d q ≡ along d s + along d z.o
      long z = ap (along d) (sym z.box) ∙ (box_sides d s z.o).0

      box_window : {q : Shape} → BoxWith W H d L R c s stop q → (level d s ≤ level d q) × (level d q < stop)
      box_window {q} z = let e = ap (level d) (sym z.box) ∙ (box_sides d s z.o).1 in (omega arith, omega (arith, at.above, z.below))

      -- of two of them, one that is no higher and no wider is the same
      apart : {p q : Shape} → BoxWith W H d L R c s stop p → BoxWith W H d L R c s stop q → along d p ≤ along d q → level d p ≤ level d q → p ≡ q
      unfolding box_scanned
      apart {p} {q} y z h k = go (same_left on ls rs (box_scanned y) (box_scanned z) refl)
        where
          narrower : (a b : Shape) → Stores W (R (beside d c s)) a → Stores W (R (beside d c s)) b → level d a < level d b → along d b < along d a
          narrower a b x y = stair_falls (rs (beside d c s) beyond) d x y

          go : Earlier d s y.o s z.o ⊎ (Earlier d s z.o s y.o ⊎ (p ≡ q)) → p ≡ q
          go (inr (inr e)) = e
          go (inr (inl e)) = absurd (omega (arith, scan_rises (box_scanned z) (box_scanned y) e))
          go (inl (inl e)) = absurd (omega arith)
          go (inl (inr (_, e))) = absurd (omega (arith, narrower y.o z.o y.right z.right e, long y, long z))

      -- one left shape more: of its boxes those are kept that are narrower than the last kept
      pub one_left : {last last' : ℕ} {bytes bytes' : ℕ → ℕ} → KeptTo W H d L R c (level d s) last bytes
          → ((q : Shape) → Stores W bytes' q ↔ (Stores W bytes q ⊎ (BoxWith W H d L R c s stop q × (along d q < last))))
          → ((q : Shape) → BoxWith W H d L R c s stop q → last' ≤ along d q) → last' ≤ last
          → (last' ≡ last) ⊎ ((q : Shape) × BoxWith W H d L R c s stop q × (along d q ≡ last'))
          → KeptTo W H d L R c stop last' bytes'
      one_left {last} {last'} {bytes} {bytes'} k kept least low new = record {
        holds = λ q. (λ z. out q ((kept q).0 z), λ (u, h). (kept q).1 (into q u h (dec_lt (level d q) (level d s))));
        bound = λ q b h. under q b h (dec_lt (level d q) (level d s));
        found = ⊎_elim (λ e. ⊎_elim (λ (q, b, h, f). inl (q, b, omega (arith, at.above), f ∙ sym e)) (λ f. inr (λ q b. subst (λ n. along d q < n) (sym e) (f q b))) k.found)
            (λ (q, z, e). inl (q, box_scanned z, (box_window z).1, e)) new;
      }
        where
          out : (q : Shape) → Stores W bytes q ⊎ (BoxWith W H d L R c s stop q × (along d q < last)) → Undominated (Scanned W H d L R c) q × (level d q < stop)
          out q (inl z) = let (u, h) = (k.holds q).0 z in (u, omega (arith, at.above))
          out q (inr (z, h)) = (record { is = box_scanned z; alone = λ p b e. alone p b (dominated d p q e) (dec_lt (level d p) (level d s)) }, (box_window z).1)
            where
              alone : (p : Shape) → Scanned W H d L R c p → (along d p ≤ along d q) × (level d p ≤ level d q) → Dec (level d p < level d s) → p ≡ q
              alone p b e (yes v) = absurd (omega (arith, k.bound p b v))
              alone p b e (no v) = apart (its_box b (omega arith) (omega (arith, (box_window z).1))).1 z e.0 e.1

          into : (q : Shape) → Undominated (Scanned W H d L R c) q → level d q < stop → Dec (level d q < level d s)
              → Stores W bytes q ⊎ (BoxWith W H d L R c s stop q × (along d q < last))
          into q u h (yes v) = inl ((k.holds q).1 (u, v))
          into q u h (no v) = inr ((its_box u.is (omega arith) h).1, narrow (dec_lt (along d q) last) k.found)
            where
              narrow : Dec (along d q < last)
                  → ((p : Shape) × Scanned W H d L R c p × (level d p < level d s) × (along d p ≡ last)) ⊎ ((p : Shape) → Scanned W H d L R c p → along d p < last)
                  → along d q < last
              narrow (yes n) _ = n
              narrow (no n) (inr f) = f q u.is
              narrow (no n) (inl (p, b, g, e)) = let f = ap (level d) (u.alone p b (dominates d p q (omega arith) (omega arith))) in absurd (omega arith)

          under : (q : Shape) → Scanned W H d L R c q → level d q < stop → Dec (level d q < level d s) → last' ≤ along d q
          under q b h (yes v) = le_trans low (k.bound q b v)
          under q b h (no v) = least q (its_box b (omega arith) h).1
