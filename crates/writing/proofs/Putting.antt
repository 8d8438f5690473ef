-- A row is measured and put element by element. Assumes nothing.
use Rattle.std.specs.List.{flat_map}
use Rattle.std.proofs.lemmas.List.Folds.{length-flat_map-take}
use Rattle.std.proofs.lemmas.Grind.{flat_map-append}
use mathlib.Core.Path.{◌≡◌, refl}
use mathlib.Core.List.{List, ◌++◌, append-nil}
use Prim.Native.Nat.{ℕ, zero, suc, ◌+◌, ◌≤◌, ◌<◌}
use native.Mathlib.Omega.{arith}
use native.Mathlib.Numerals.{add-one}
use lib.ListN.{length, get_or, take}
use lib.Seq.{take-suc}
use Rattle.rules.specs.Bytes.{row_bytes}
use Rattle.putting.specs.Put.{Put}
use Rattle.putting.proofs.Putting.{same_long, both_put}

module _ {A : Type 0} (f : A → List ℕ) where
  -- the first elements and the next lie within the row
  within_row : (row : List A) (i : ℕ) (x : A) → i < length row → x ≡ get_or row i x
      → length (flat_map f (take i row)) + length (f x) ≤ length (flat_map f row)
  within_row row i x h e = rw (← e) at (length-flat_map-take f row i x h)

  row_more : (row : List A) (i : ℕ) (x : A) → i < length row → x ≡ get_or row i x
      → flat_map f (take (i + 1) row) ≡ flat_map f (take i row) ++ f x
  row_more row i x h e = rw (add-one, take-suc row i x h, ← e, flat_map-append) (rw append-nil)

  -- with room for the whole row there is room for its next element, and it is put behind the others
  module _ {u v : List ℕ} {at next : ℕ} (row : List A) (i : ℕ) (x : A) (h : i < length row) (e : x ≡ get_or row i x)
      (p : Put u at (flat_map f (take i row)) next v) where
    pub next_fits : at + length (flat_map f row) ≤ length u → next + length (f x) ≤ length v
    next_fits room = omega (arith, p.counted, same_long p, within_row row i x h e)

    pub row_grown : {w : List ℕ} {m : ℕ} → Put v next (f x) m w → Put u at (flat_map f (take (i + 1) row)) m w
    row_grown q = rw (row_more row i x h e) (both_put p q)

  -- the first n of a row, as the rules say it
  pub row_listed : (row : List A) (d : A) (n : ℕ) → n ≤ length row → row_bytes f (λ i. get_or row i d) n ≡ flat_map f (take n row)
  unfolding row_bytes
  row_listed row d zero h = refl
  row_listed row d (suc n) h =
      rw (row_bytes, row_listed row d n (omega arith), take-suc row n d (omega arith), flat_map-append) (rw append-nil)
