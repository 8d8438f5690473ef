-- A loop over the first n of some things: one of those is one of all, and its place is before n. Assumes nothing.
use mathlib.Core.Path.{◌≡◌}
use mathlib.Core.List.{List}
use Prim.Native.Nat.{ℕ, ◌<◌}
use native.Mathlib.Omega.{arith}
use lib.ListN.{length, get_or, take}
use Rattle.std.proofs.lemmas.List.{length-take, get_or-take}

module _ {A : Type 0} (n : ℕ) (l : List A) {i : ℕ} (h : i < length (take n l)) where
  pub before : i < n
  before = omega (arith, length-take n l)

  pub one_of_all : (d : A) → get_or (take n l) i d ≡ get_or l i d
  one_of_all d = get_or-take n l i d before
