-- What a test answers of the first things of a list is what the rules' `all` answers of the places below their number. Assumes nothing.
use Rattle.std.specs.List.{list_all}
use Rattle.std.proofs.lemmas.List.Folds.{list_all_more}
use mathlib.Core.Path.{◌≡◌, ◌∙◌}
use mathlib.Core.Bool.{Bool}
use mathlib.Core.List.{List}
use Prim.Native.Nat.{ℕ, zero, suc, ◌≤◌, ◌<◌}
use native.Mathlib.Omega.{arith}
use native.Mathlib.Numerals.{add-one}
use lib.ListN.{length, get_or, take}
use Rattle.rules.specs.Search.{all}
use Rattle.rules.proofs.Testing.{all_none, all_and}

pub all_listed : {A : Type 0} (f : A → Bool) (xs : List A) (d : A) (n : ℕ) → n ≤ length xs
    → list_all f (take n xs) ≡ all n (λ i. f (get_or xs i d))
all_listed f xs d zero h = rw (all_none (λ i. f (get_or xs i d)))
all_listed f xs d (suc n) h =
    let l : n < length xs = omega arith in
    rw (← add-one) (list_all_more f xs n d l ∙ (rw (all_listed f xs d n (omega arith)) (all_and n (λ i. f (get_or xs i d)))))
