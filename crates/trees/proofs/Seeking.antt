-- The first byte that passes a test, or how many bytes there are, is the least number that passes. Assumes nothing.
use mathlib.Core.Path.{◌≡◌, refl, ◌∙◌, ap}
use mathlib.Core.Bool.{Bool, true, false}
use mathlib.Core.List.{List, [], ◌∷◌}
use Prim.Native.Nat.{ℕ, suc, ◌+◌, ◌≤◌, ◌<◌}
use native.Mathlib.Omega.{arith}
use native.Mathlib.Numerals.{add-one}
use native.Mathlib.Nat.{zero-add, add-zero}
use lib.ListN.{length, get_or, take}
use Rattle.std.specs.Prelude.{Some, cond, position}
use Rattle.std.specs.Option.{unwrap_or}
use Rattle.std.specs.List.{position_from}
use Rattle.std.proofs.lemmas.List.{get_or-take, length-take-le}
use Rattle.std.proofs.lemmas.Iterator.Adapters.{position_from-zero}
use Rattle.rules.specs.Search.{least}

module _ (test f : ℕ → Bool) where
  found_from : (xs : List ℕ) (i n : ℕ) → n ≡ i + length xs → ((j : ℕ) → j < length xs → test (get_or xs j 0) ≡ f (i + j))
      → unwrap_or (position_from test i xs) n ≡ least f (length xs) i
  unfolding least
  found_from [] i n e h = e ∙ add-zero i
  found_from (x ∷ xs) i n e h =
      rw (← rw add-zero at (h 0 (omega arith))) (go (test x) (found_from xs (i + 1) n (omega arith) (λ j l.
      let q : i + 1 + j ≡ i + suc j = omega arith in rw q (h (suc j) (omega arith)))))
    where
      go : (b : Bool) → unwrap_or (position_from test (i + 1) xs) n ≡ least f (length xs) (i + 1)
          → unwrap_or (cond b (Some i) (position_from test (i + 1) xs)) n ≡ elim b as (λ _. ℕ) [ true ↦ i | false ↦ least f (length xs) (suc i) ]
      go true ih = refl
      go false ih = ih ∙ ap (least f (length xs)) (add-one i)

  pub first_found : (xs : List ℕ) (n : ℕ) → n ≤ length xs → ((j : ℕ) → j < n → test (get_or xs j 0) ≡ f j)
      → unwrap_or (position test (take n xs)) n ≡ least f n 0
  first_found xs n h e =
      let long = length-take-le n xs h in
      ap (λ o. unwrap_or o n) (position_from-zero test (take n xs))
      ∙ rw long at (found_from (take n xs) 0 n (omega (arith, long)) (λ j l.
      ap test (get_or-take n xs j 0 (omega (arith, long))) ∙ rw zero-add (e j (omega (arith, long)))))
