-- A row of things is read one after another into places that are lent. While the loop goes on, what is still to be read, put behind
-- what has been read, is the whole row. Assumes nothing.
use Rattle.std.specs.Prelude.{Result, Ok, Err}
use Rattle.std.proofs.lemmas.List.{take_all, drop-replicate, take_more_set}
use mathlib.Core.Path.{◌≡◌, refl, ◌∙◌}
use mathlib.Core.List.{List, [], ◌∷◌, ◌++◌, append_assoc, append-nil}
use Prim.Native.Nat.{ℕ, suc, ◌+◌, ◌-◌, ◌≤◌, ◌<◌}
use native.Mathlib.Omega.{arith}
use lib.ListN.{length, set, take, drop, length-set, replicate}
use Rattle.rules.specs.declared.Refusal.{Refusal}
use Rattle.rules.specs.Bytes.{Took, took, refuse, and_then, row_at, padded}
use Rattle.reading.specs.Stages.{RowRead}

-- the first i places of the row have been read, and `rest` is still to be read
pub record Reading {A : Type 0} (whole rest : Took (List A)) (i : ℕ) (row : List A) : Type 0 where
  pub left : whole ≡ and_then rest λ more end. took (take i row ++ more) end

module _ {A : Type 0} {row : List A} where
  pub begun : (whole : Took (List A)) → Reading whole whole 0 row
  begun whole = record { left = same whole }
    where
      same : (t : Took (List A)) → t ≡ and_then t λ more end. took more end
      same (took xs end) = refl
      same (refuse e) = refl

  module _ {whole : Took (List A)} {i : ℕ} where
    pub one_more : (a : A) (rest : Took (List A)) → Reading whole (and_then rest λ more end. took (a ∷ more) end) i row
        → i < length row → Reading whole rest (i + 1) (set row i a)
    one_more a rest R h = record { left = rw (take_more_set row i a h) (R.left ∙ regrouped rest) }
      where
        regrouped : (t : Took (List A))
            → and_then (and_then t λ more end. took (a ∷ more) end) (λ more end. took (take i row ++ more) end)
            ≡ and_then t λ more end. took ((take i row ++ (a ∷ [])) ++ more) end
        regrouped (took xs end) = rw append_assoc
        regrouped (refuse e) = refl

-- i of a row's n things have been read into its places, from one position up to another
pub record ReadingRow {A : Type 0} (f : ℕ → Took A) (n from at i : ℕ) (row : List A) : Type 0 where
  pub long : length row ≡ n
  pub reading : Reading (row_at f n from) (row_at f (n - i) at) i row

module _ {A : Type 0} (f : ℕ → Took A) {row : List A} {n from : ℕ} where
  pub row_begun : length row ≡ n → ReadingRow f n from from 0 row
  row_begun l = record { long = l; reading = let e : n - 0 ≡ n = omega arith in rw e (begun (row_at f n from)) }

  module _ {at i : ℕ} (R : ReadingRow f n from at i row) where
    rest : i < n
        → row_at f (n - i) at
        ≡ and_then (f at) λ a next. and_then (row_at f (n - (i + 1)) next) λ more end. took (a ∷ more) end
    unfolding row_at
    rest h = let e : n - i ≡ suc (n - (i + 1)) = omega arith in rw (e, row_at)

    pub next_read : {a : A} {next : ℕ} → i < length row → f at ≡ took a next → ReadingRow f n from next (i + 1) (set row i a)
    next_read {a} {next} h q =
        let l : i < n = omega (arith, R.long) in record {
          long = length-set row i a ∙ R.long;
          reading = one_more a _ (rw (rest l, q) at R.reading) h;
        }

    pub next_refused : {e : Refusal} → i < length row → f at ≡ refuse e → row_at f n from ≡ refuse e
    next_refused h q = let l : i < n = omega (arith, R.long) in (rw (rest l, q) at R.reading).left

    pub row_read : length row ≤ i → row_at f n from ≡ took row at
    unfolding row_at
    row_read h =
        let e : n - i ≡ 0 = omega (arith, R.long) in
        R.reading.left ∙ rw (e, row_at) (rw (append-nil, take_all i row h))

-- the places behind what was read stay as they were
pub filled : {A : Type 0} (size : ℕ) (zeros : A) (row : List A) (n : ℕ) → length row ≡ n
    → row ++ drop n (replicate size zeros) ≡ padded size zeros row
unfolding padded
filled size zeros row n l = rw (l, drop-replicate)

-- a row was read, or refused
module _ {A : Type 0} (f : ℕ → Took A) (n at : ℕ) {m : ℕ} (row : List A) {r : Result ℕ Refusal} (R : RowRead (row_at f m at) row r)
    (e : m ≡ n) where
  pub row_taken : {end : ℕ} → r ≡ Ok end → row_at f n at ≡ took row end
  row_taken {end} q = rw (← e) (go (row_at f m at) R)
    where
      go : (t : Took (List A)) → RowRead t row r → t ≡ took row end
      go (took xs o) (p, k) = cc
      go (refuse x) k = absurd (cc)

  pub row_refused : {x : Refusal} → r ≡ Err x → row_at f n at ≡ refuse x
  row_refused {x} q = rw (← e) (go (row_at f m at) R)
    where
      go : (t : Took (List A)) → RowRead t row r → t ≡ refuse x
      go (took xs o) (p, k) = absurd (cc)
      go (refuse y) k = cc
