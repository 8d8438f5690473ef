-- The places of a row: those that a list gives, and zeros. Assumes nothing.
use mathlib.Core.Path.{◌≡◌, refl}
use mathlib.Core.List.{List, [], ◌∷◌, ◌++◌}
use Prim.Native.Nat.{ℕ, zero, suc, ◌-◌, ◌≤◌, ◌<◌}
use native.Mathlib.Omega.{arith}
use lib.ListN.{length, get_or, replicate, length-append, length-replicate}
use Rattle.rules.specs.Bytes.{padded}

-- "reading sets them to zero": a padded row has the same things in every place
pub padded_at : {A : Type 0} (size : ℕ) (z : A) (xs : List A) (i : ℕ) → get_or (padded size z xs) i z ≡ get_or xs i z
unfolding padded
padded_at {A} size z xs i = go (size - length xs) xs i
  where
    go : (n : ℕ) (xs : List A) (i : ℕ) → get_or (xs ++ replicate n z) i z ≡ get_or xs i z
    go zero [] i = refl
    go (suc n) [] zero = refl
    go (suc n) [] (suc i) = go n [] i
    go n (x ∷ xs) zero = refl
    go n (x ∷ xs) (suc i) = go n xs i

-- the first n of a row of things, as a list
unfoldable pub listed : {A : Type 0} → (ℕ → A) → ℕ → List A
listed a zero = []
listed a (suc n) = a 0 ∷ listed (λ i. a (suc i)) n

pub listed_at : {A : Type 0} (a : ℕ → A) (n i : ℕ) (z : A) → i < n → get_or (listed a n) i z ≡ a i
unfolding listed
listed_at a zero i z l = absurd (omega arith)
listed_at a (suc n) zero z l = refl
listed_at a (suc n) (suc i) z l = listed_at (λ i. a (suc i)) n i z (omega arith)

-- a padded row has as many places as it is given
pub padded_long : {A : Type 0} (size : ℕ) (z : A) (xs : List A) → length xs ≤ size → length (padded size z xs) ≡ size
unfolding padded
padded_long size z xs h = simp (length-append, length-replicate) (omega arith)
