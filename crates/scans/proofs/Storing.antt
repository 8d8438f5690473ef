-- Boxes put into a slot are the shapes that it then holds besides those it held. Assumes nothing.
use mathlib.Core.Path.{◌≡◌, sym, ◌∙◌, ap, subst}
use mathlib.Core.Logic.{◌⊎◌, inl, inr, ⊎_elim, ◌↔◌}
use mathlib.Core.List.{List}
use Prim.Native.Nat.{ℕ, ◌-◌, ◌≤◌}
use native.Mathlib.Omega.{arith}
use lib.ListN.{get_or}
use Rattle.rules.specs.declared.Shape.{Shape}
use Rattle.rules.specs.Slot.{Stores}
use Rattle.rules.proofs.Listing.{same_shape}
use Rattle.scans.specs.Run.{bytes, PlaceOf, Put}

-- each number that is kept has a box within the slot, which stands at its width and is put with its height
pub record Boxes (W : ℕ) (Kept : ℕ → Type 0) (place value : ℕ → ℕ) (box : ℕ → Shape) : Type 0 where
  pub wide : (k : ℕ) → Kept k → 1 ≤ (box k).w.0
  pub within : (k : ℕ) → Kept k → (box k).w.0 ≤ W
  pub high : (k : ℕ) → Kept k → 1 ≤ (box k).h.0
  pub at : (k : ℕ) → Kept k → place k ≡ (box k).w.0 - 1
  pub as_high : (k : ℕ) → Kept k → value k ≡ (box k).h.0

pub put_stores : {W : ℕ} {Kept : ℕ → Type 0} {place value : ℕ → ℕ} {box : ℕ → Shape} {before after : List ℕ}
    → Boxes W Kept place value box → Put Kept place value before after
    → ((q : Shape) (k : ℕ) → Stores W (bytes before) q → Kept k → q.w.0 ≡ (box k).w.0 → ⊥)
    → (q : Shape) → Stores W (bytes after) q ↔ (Stores W (bytes before) q ⊎ ((k : ℕ) × Kept k × (q ≡ box k)))
put_stores {W} {Kept} {place} {value} {box} {before} {after} b p apart q = (
  λ z. out z (p.known (q.w.0 - 1)),
  λ s. ⊎_elim old new s,
)
  where
    out : Stores W (bytes after) q → PlaceOf Kept place (q.w.0 - 1) ⊎ (PlaceOf Kept place (q.w.0 - 1) → ⊥)
        → Stores W (bytes before) q ⊎ ((k : ℕ) × Kept k × (q ≡ box k))
    out z (inr f) = inl (record { wide = z.wide; within = z.within; high = z.high; byte = sym (p.others _ f) ∙ z.byte })
    out z (inl (k, y, e)) =
        let w = z.wide in let v = b.wide k y in let a = b.at k y in
        let h : get_or after (q.w.0 - 1) 0 ≡ value k = rw e at (p.here k y) in
        inr (k, y, same_shape q (box k) (omega arith) (sym z.byte ∙ h ∙ b.as_high k y))

    old : Stores W (bytes before) q → Stores W (bytes after) q
    old z = record {
      wide = z.wide;
      within = z.within;
      high = z.high;
      byte = p.others _ (λ (k, y, e). apart q k z y (omega (arith, z.wide, b.wide k y, b.at k y))) ∙ z.byte;
    }

    new : (k : ℕ) × Kept k × (q ≡ box k) → Stores W (bytes after) q
    new (k, y, e) = subst (Stores W (bytes after)) (sym e) (record {
      wide = b.wide k y;
      within = b.within k y;
      high = b.high k y;
      byte = ap (λ i. get_or after i 0) (sym (b.at k y)) ∙ p.here k y ∙ b.as_high k y;
    })
