-- One left shape of a horizontal cut: the right shapes of which the code keeps the box are those that the scan looks at with it, as far as their boxes
-- are lower than the last kept. So the slot holds what the scan keeps up to the next left shape's width. Assumes nothing.
use mathlib.Core.Path.{◌≡◌, refl, sym, ap}
use mathlib.Core.Logic.{◌⊎◌, inl, inr, ⊎_elim, ◌↔◌}
use mathlib.Core.List.{List}
use Prim.Native.Nat.{ℕ, suc, ◌+◌, ◌-◌, ◌≤◌, ◌<◌, max}
use native.Mathlib.Omega.{arith}
use native.Mathlib.Decide.{dec_lt}
use Rattle.rules.specs.declared.Corner.{Corner}
use Rattle.rules.specs.declared.Shape.{Shape}
use Rattle.rules.specs.declared.Direction.TheVariants.{Horizontal}
use Rattle.rules.specs.Chip.{corner, shape}
use Rattle.rules.specs.Slot.{Stores, CornerOn}
use Rattle.rules.proofs.Choosing.{byte_stores}
use Rattle.rules.proofs.Listing.{same_shape}
use Rattle.rules.proofs.Scanning.{StairsOf}
use Rattle.rules.proofs.Keeping.{KeptTo, StopsAt, BoxWith, one_left}
use Rattle.scans.specs.Run.{bytes, KeptAbove, AboveKept}
use Rattle.scans.proofs.Storing.{Boxes, put_stores}

module _ {W H : ℕ} {L R : Corner → ℕ → ℕ} {c : Corner} (on : CornerOn W H c) (ls : StairsOf W H L) (rs : StairsOf W H R) {i next height : ℕ} (low : ℕ)
    (at : StopsAt W H Horizontal L R c (shape (suc i) height) (suc next)) (inside : c.y.0 + height < H) (within : c.x.0 + next ≤ W) where
  beyond : CornerOn W H (corner c.x.0 (c.y.0 + height))
  beyond = record { column = on.column; row = inside }

  -- the right shapes there, and the box that each makes
  abbrev f : ℕ → ℕ
  f = R (corner c.x.0 (c.y.0 + height))

  abbrev box : ℕ → Shape
  box k = shape (suc (max i k)) (height + f k)

  abbrev Its : Shape → Type 0
  Its = BoxWith W H Horizontal L R c (shape (suc i) height) (suc next)

  kept_box : (k : ℕ) → KeptAbove f i next height low k → Its (box k) × (height + f k < low)
  kept_box k z = let b = z.before in (
    record {
      o = shape (suc k) (f k);
      right = byte_stores W f k (omega arith) z.shape;
      from = λ o x h. let w = x.wide in let s = x.high in let e = x.byte in omega (arith, z.first (o.w.0 - 1) (omega arith) (omega arith));
      below = omega arith;
      box = same_shape (shape (max (suc i) (suc k)) (height + f k)) (box k) (omega arith) refl;
    },
    z.lower,
  )

  box_kept : (q : Shape) → Its q → q.h.0 < low → (k : ℕ) × KeptAbove f i next height low k × (q ≡ box k)
  box_kept q z h =
      let x = z.right in let w = x.wide in let v = z.below in let e : max (suc i) z.o.w.0 ≡ q.w.0 = ap (λ s. s.w.0) z.box in
      let g : height + z.o.h.0 ≡ q.h.0 = ap (λ s. s.h.0) z.box in (
        z.o.w.0 - 1,
        record {
          before = omega arith;
          shape = omega (arith, x.byte, x.high);
          first = λ j p s. omega (arith, z.from (shape (suc j) (f j)) (byte_stores W f j (omega (arith, at.above)) s) (omega arith));
          lower = omega (arith, x.byte);
        },
        same_shape q (box (z.o.w.0 - 1)) (omega arith) (omega (arith, x.byte)),
      )

  -- the slot after it holds what the scan keeps up to the next left shape
  pub above_kept_to : {r : ℕ} {before after : List ℕ} → KeptTo W H Horizontal L R c (suc i) low (bytes before)
      → AboveKept f i next height low before after r → KeptTo W H Horizontal L R c (suc next) r (bytes after)
  above_kept_to {r} {before} {after} kt z = one_left on ls rs at beyond kt kept
      (λ q y. least q y (dec_lt q.h.0 low)) z.within (⊎_elim inl (λ (k, y, e). inr (box k, (kept_box k y).0, sym e)) z.kept)
    where
      boxes : Boxes W (KeptAbove f i next height low) (λ k. max i k) (λ k. height + f k) box
      boxes = record {
        wide = λ k y. omega arith;
        within = λ k y. let b = y.before in omega (arith, at.above);
        high = λ k y. let s = y.shape in omega arith;
        at = λ k y. omega arith;
        as_high = λ k y. refl;
      }

      kept : (q : Shape) → Stores W (bytes after) q ↔ (Stores W (bytes before) q ⊎ (Its q × (q.h.0 < low)))
      kept q =
          let p = put_stores boxes z.put (λ q k s y e. omega (arith, ((kt.holds q).0 s).1)) q in (
            λ s. ⊎_elim inl (λ (j, y, e). let (i, h) = kept_box j y in inr (rw e i, rw e h)) (p.0 s),
            λ s. p.1 (⊎_elim inl (λ (i, h). inr (box_kept q i h)) s),
          )

      least : (q : Shape) → Its q → Dec (q.h.0 < low) → r ≤ q.h.0
      least q y (yes h) = let (j, i, e) = box_kept q y h in let eh = ap (λ s. s.h.0) e in omega (arith, z.least j i)
      least q y (no h) = omega (arith, z.within)
