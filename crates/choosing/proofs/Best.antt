-- The best shape of a slot, byte by byte: each step keeps the rules' best of the bytes so far, so in the end it is the shape that 01
-- says to choose, or there is none. Assumes nothing.
use mathlib.Core.Path.{◌≡◌, refl, sym, ◌∙◌, ap}
use mathlib.Core.Bool.{Bool, true, false, ◌&&◌}
use Prim.Native.Nat.{ℕ, zero, suc, ◌+◌, ◌-◌, ◌*◌, ◌<◌}
use native.Mathlib.Omega.{arith}
use native.Mathlib.Numerals.{add-one}
use lib.Dec.{ltb}
use Rattle.std.specs.Prelude.{Option, Some, None, IfSome}
use Rattle.std.proofs.lemmas.Option.{none-some}
use Rattle.rules.specs.declared.Shape.{Shape}
use Rattle.rules.specs.Placement.{area}
use Rattle.rules.specs.Slot.{Empty}
use Rattle.rules.specs.Choice.{Chosen}
use Rattle.rules.proofs.Test.{better, best_width}
use Rattle.rules.proofs.Choosing.{chooses_none, chooses_this}
use Rattle.choosing.specs.Choose.{shape_at, shape_of, chosen_shape, better_of}

better_step : (g : ℕ → ℕ) (n : ℕ) → better_of (chosen_shape n g) (shape_at g n) ≡ chosen_shape (suc n) g
unfolding chosen_shape best_width
better_step g n = go (best_width g n)
  where
    first : (b : Bool)
        → ◌≡◌ {A = Option Shape} (elim b as (λ _. Option Shape) [ true ↦ Some (shape_at g n) | false ↦ None ])
        (shape_of g (elim b as (λ _. ℕ) [ true ↦ suc n | false ↦ 0 ]))
    first true = refl
    first false = refl

    by_area : (k : ℕ) (b : Bool)
        → ◌≡◌ {A = Option Shape} (elim b as (λ _. Option Shape) [ true ↦ Some (shape_at g n) | false ↦ Some (shape_at g k) ])
        (shape_of g (elim b as (λ _. ℕ) [ true ↦ suc n | false ↦ suc k ]))
    by_area k true = refl
    by_area k false = refl

    later : (k : ℕ) (b : Bool)
        → ◌≡◌ {A = Option Shape}
        (elim (b && ltb (suc n * g n) (suc k * g k)) as (λ _. Option Shape) [ true ↦ Some (shape_at g n) | false ↦ Some (shape_at g k) ])
        (shape_of g (elim b as (λ _. ℕ) [ true ↦ better g n (suc k) | false ↦ suc k ]))
    later k true = by_area k (ltb (suc n * g n) (suc k * g k))
    later k false = refl

    go : (w : ℕ) → better_of (shape_of g w) (shape_at g n) ≡ shape_of g (elim (ltb 0 (g n)) as (λ _. ℕ) [ true ↦ better g n w | false ↦ w ])
    go zero = first (ltb 0 (g n))
    go (suc k) = later k (ltb 0 (g n))

-- one byte more
pub next_best : (g : ℕ → ℕ) (n : ℕ) {best r : Option Shape} {next : Shape} → best ≡ chosen_shape n g → next ≡ shape_at g n → r ≡ better_of best next
    → r ≡ chosen_shape (n + 1) g
next_best g n p q e = e ∙ rw (p, q, add-one) (better_step g n)

pub first_best : (g : ℕ → ℕ) → None ≡ chosen_shape 0 g
unfolding chosen_shape best_width
first_best g = refl

-- bytes that are the same choose the same
pub same_best : (f g : ℕ → ℕ) (n : ℕ) → ((j : ℕ) → j < n → f j ≡ g j) → chosen_shape n f ≡ chosen_shape n g
unfolding chosen_shape best_width
same_best f g zero h = refl
same_best f g (suc n) h =
    sym (better_step f n) ∙ rw (same_best f g n (λ j k. h j (omega arith)), h n (omega arith)) (better_step g n)

-- the better of two is one of them
pub better_either : (P : Shape → Type 0) (best : Option Shape) (next : Shape) → IfSome best P → P next → IfSome (better_of best next) P
better_either P None next p q = go (ltb 0 next.h.0)
  where
    go : (b : Bool) → IfSome (elim b as (λ _. Option Shape) [ true ↦ Some next | false ↦ None ]) P
    go true = q
    go false = tt
better_either P (Some best) next p q = go (ltb 0 next.h.0 && ltb (area next) (area best))
  where
    go : (b : Bool) → IfSome (elim b as (λ _. Option Shape) [ true ↦ Some next | false ↦ Some best ]) P
    go true = q
    go false = p

-- the computed shape is the one to choose, or the slot is empty
module _ (W : ℕ) (g : ℕ → ℕ) where
  pub chosen_none : None ≡ chosen_shape W g → Empty W g
  unfolding chosen_shape
  chosen_none e = go (best_width g W) refl e
    where
      go : (w : ℕ) → best_width g W ≡ w → None ≡ shape_of g w → Empty W g
      go zero q n = chooses_none W g q
      go (suc k) q n = absurd (none-some _ n)

  pub chosen_this : {s : Shape} → Some s ≡ chosen_shape W g → Chosen W g s
  unfolding chosen_shape
  chosen_this {s} e = go (best_width g W) refl e
    where
      go : (w : ℕ) → best_width g W ≡ w → Some s ≡ shape_of g w → Chosen W g s
      go zero q n = absurd (none-some _ (sym n))
      go (suc k) q n =
          let is : shape_at g k ≡ s = cc in
          let this = chooses_this W g (shape_at g k) (omega arith) q (let x : suc k - 1 ≡ k = omega arith in ap g x) in rw is at this
