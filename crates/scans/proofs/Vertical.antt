-- One left shape of a vertical cut: the right shapes of which the code keeps the box are those that the scan looks at with it, as far as their boxes are
-- narrower than the last kept. So the slot holds what the scan keeps up to the stop. Assumes nothing.
use mathlib.Core.Path.{◌≡◌, refl, ap}
use mathlib.Core.Logic.{◌⊎◌, inl, inr, ⊎_elim, ◌↔◌}
use mathlib.Core.List.{List}
use Prim.Native.Nat.{ℕ, suc, ◌+◌, ◌-◌, ◌≤◌, ◌<◌, max}
use native.Mathlib.Omega.{arith}
use native.Mathlib.Decide.{dec_lt, ℕ_discrete}
use Rattle.rules.specs.declared.Corner.{Corner}
use Rattle.rules.specs.declared.Shape.{Shape}
use Rattle.rules.specs.declared.Direction.TheVariants.{Vertical}
use Rattle.rules.specs.Chip.{corner, shape}
use Rattle.rules.specs.Slot.{Stores, CornerOn}
use Rattle.rules.proofs.Choosing.{byte_stores}
use Rattle.rules.proofs.Listing.{same_shape}
use Rattle.rules.proofs.Scanning.{StairsOf}
use Rattle.rules.proofs.Keeping.{KeptTo, StopsAt, BoxWith, one_left}
use Rattle.scans.specs.Run.{bytes, KeptBeside, BesideKept}
use Rattle.scans.proofs.Storing.{Boxes, put_stores}

module _ {W H : ℕ} {L R : Corner → ℕ → ℕ} {c : Corner} (on : CornerOn W H c) (ls : StairsOf W H L) (rs : StairsOf W H R) {wide height stop last : ℕ}
    (at : StopsAt W H Vertical L R c (shape wide height) stop) (inside : c.x.0 + wide < W) (room : wide < last) (narrow : last ≤ suc (W - c.x.0)) where
  beyond : CornerOn W H (corner (c.x.0 + wide) c.y.0)
  beyond = record { column = inside; row = on.row }

  -- the right shapes there, how many make a box narrower than the last, and the box that each makes
  abbrev f : ℕ → ℕ
  f = R (corner (c.x.0 + wide) c.y.0)

  abbrev n : ℕ
  n = last - 1 - wide

  abbrev box : ℕ → Shape
  box k = shape (wide + suc k) (max height (f k))

  abbrev Its : Shape → Type 0
  Its = BoxWith W H Vertical L R c (shape wide height) stop

  kept_box : (k : ℕ) → KeptBeside f n height stop k → Its (box k) × (wide + suc k < last)
  kept_box k z = let b = z.before in (
    record {
      o = shape (suc k) (f k);
      right = byte_stores W f k (omega arith) z.shape;
      from = λ o x h. go o x h (dec_lt (o.w.0 - 1) k) (ℕ_discrete (o.w.0 - 1) k);
      below = z.lower;
      box = refl;
    },
    omega arith,
  )
    where
      go : (o : Shape) → Stores W f o → o.h.0 ≤ height → Dec (o.w.0 - 1 < k) → Dec (o.w.0 - 1 ≡ k) → o.h.0 ≤ f k
      go o x h (yes p) _ = let e = x.byte in let s = x.high in absurd (omega (arith, z.first (o.w.0 - 1) p (omega arith)))
      go o x h (no p) (yes q) = let e = x.byte in omega (arith, ap f q)
      go o x h (no p) (no q) =
          let e = x.byte in let s = x.high in let u = x.wide in let v = x.within in
          omega (arith, (rs (corner (c.x.0 + wide) c.y.0) beyond).fall k (o.w.0 - 1) (omega arith) (omega arith) z.shape (omega arith))

  box_kept : (q : Shape) → Its q → q.w.0 < last → (k : ℕ) × KeptBeside f n height stop k × (q ≡ box k)
  box_kept q z h =
      let x = z.right in let w = x.wide in let e : wide + z.o.w.0 ≡ q.w.0 = ap (λ s. s.w.0) z.box in
      let g : max height z.o.h.0 ≡ q.h.0 = ap (λ s. s.h.0) z.box in (
        z.o.w.0 - 1,
        record {
          before = omega arith;
          shape = omega (arith, x.byte, x.high);
          lower = omega (arith, x.byte, z.below);
          first = λ i p s. first i p s (dec_lt height (f i));
        },
        same_shape q (box (z.o.w.0 - 1)) (omega arith) (omega (arith, x.byte)),
      )
    where
      first : (i : ℕ) → i < z.o.w.0 - 1 → 1 ≤ f i → Dec (height < f i) → height < f i
      first i p s (yes q) = q
      first i p s (no q) =
          let x = z.right in let u = x.wide in let v = x.within in
          let a = z.from (shape (suc i) (f i)) (byte_stores W f i (omega arith) s) (omega arith) in
          absurd (omega (arith, x.byte, (rs (corner (c.x.0 + wide) c.y.0) beyond).fall i (z.o.w.0 - 1) p (omega arith) s (omega (arith, x.byte, x.high))))

  -- the slot after it holds what the scan keeps up to the stop
  pub beside_kept_to : {k : ℕ} {before after : List ℕ} → KeptTo W H Vertical L R c height last (bytes before)
      → BesideKept f n height stop wide before after k → KeptTo W H Vertical L R c stop (wide + 1 + k) (bytes after)
  beside_kept_to {k} {before} {after} kt z = one_left on ls rs at beyond kt kept
      (λ q y. least q y (dec_lt q.w.0 last)) (omega (arith, z.within)) (new (dec_lt k n))
    where
      boxes : Boxes W (KeptBeside f n height stop) (λ k. wide + k) (λ k. max height (f k)) box
      boxes = record {
        wide = λ k y. omega arith;
        within = λ k y. let b = y.before in omega arith;
        high = λ k y. let s = y.shape in omega arith;
        at = λ k y. omega arith;
        as_high = λ k y. refl;
      }

      kept : (q : Shape) → Stores W (bytes after) q ↔ (Stores W (bytes before) q ⊎ (Its q × (q.w.0 < last)))
      kept q =
          let p = put_stores boxes z.put (λ q k s y e. let b = y.before in let u = (kt.holds q).0 s in omega (arith, kt.bound q u.0.is u.1)) q in (
            λ s. ⊎_elim inl (λ (j, y, e). let (i, h) = kept_box j y in inr (rw e i, rw e h)) (p.0 s),
            λ s. p.1 (⊎_elim inl (λ (i, h). inr (box_kept q i h)) s),
          )

      least : (q : Shape) → Its q → Dec (q.w.0 < last) → wide + 1 + k ≤ q.w.0
      least q y (yes h) = let (j, i, e) = box_kept q y h in let ew = ap (λ s. s.w.0) e in omega (arith, z.least j i)
      least q y (no h) = let w = z.within in omega arith

      new : Dec (k < n) → (wide + 1 + k ≡ last) ⊎ ((q : Shape) × Its q × (q.w.0 ≡ wide + 1 + k))
      new (yes h) = inr (box k, (kept_box k (z.kept h)).0, omega arith)
      new (no h) = let w = z.within in inl (omega arith)
