-- Rows out, module by module: module k's four bytes are stored at 4k, and there the checker reads its rectangle back. Assumes nothing.
use mathlib.Core.Path.{◌≡◌, refl, ◌∙◌}
use mathlib.Core.List.{List, ◌++◌, append_assoc}
use Prim.Native.Nat.{ℕ, zero, suc, ◌+◌, ◌*◌, ◌≤◌, ◌<◌}
use native.Mathlib.Omega.{arith}
use native.Mathlib.Decide.{ℕ_discrete}
use lib.ListN.{length, get_or, drop, length-append, length-drop}
use lib.Seq.{get_or-append-add, sets, sets-eq, take_at, drop-append-add, drop-drop}
use Rattle.rules.specs.Chip.{rectangle}
use Rattle.rules.specs.Placement.{Placement}
use Rattle.rules.specs.Choice.{row_of, rows_out}
use Rattle.rules.specs.Check.{from_rows}

pub length_rows : (m : ℕ) (p : Placement) → length (rows_out m p) ≡ 4 * m
unfolding rows_out
length_rows zero p = refl
length_rows (suc k) p = let e = length_rows k p in simp length-append (omega arith)

-- rows out of the modules' own rectangles
pub rows_same : (m : ℕ) (p q : Placement) → ((k : ℕ) → k < m → p k ≡ q k) → rows_out m p ≡ rows_out m q
unfolding rows_out
rows_same zero p q e = refl
rows_same (suc k) p q e = rw (rows_same k p q (λ i h. e i (omega arith)), e k (omega arith))

-- storing the next module's bytes
pub row_more : (k : ℕ) (p : Placement) (rows : List ℕ) → 4 * k + 4 ≤ length rows
    → sets (rows_out k p ++ drop (4 * k) rows) (4 * k) (row_of (p k)) ≡ rows_out (suc k) p ++ drop (4 * suc k) rows
unfolding rows_out
row_more k p rows h =
    let l = length_rows k p in let e : 4 * suc k ≡ 4 * k + 4 = omega arith in
    let r : drop (4 * k + 4) (rows_out k p ++ drop (4 * k) rows) ≡ drop (4 * suc k) rows = rw (e, ← l, drop-append-add, drop-drop) in
    sets-eq (row_of (p k)) (rows_out k p ++ drop (4 * k) rows) (4 * k) (simp (length-append, length-drop) (omega arith))
    ∙ rw (take_at (rows_out k p) (drop (4 * k) rows) (4 * k) l, r, append_assoc)

-- what stands behind n bytes
behind : (a b : List ℕ) (n i j : ℕ) → length a ≡ n → j ≡ n + i → get_or (a ++ b) j 0 ≡ get_or b i 0
behind a b n i j e q = rw (q, ← e) (get_or-append-add a b i 0)

pub rows_back : (m : ℕ) (p : Placement) (rest : List ℕ) (k : ℕ) → k < m → from_rows (rows_out m p ++ rest) k ≡ p k
unfolding rows_out from_rows
rows_back zero p rest k h = absurd (omega arith)
rows_back (suc n) p rest k h = rw append_assoc (go (ℕ_discrete k n) (rows_back n p))
  where
    next : List ℕ
    next = row_of (p n) ++ rest

    at : (i : ℕ) → get_or (rows_out n p ++ next) (4 * n + i) 0 ≡ get_or next i 0
    at i = behind (rows_out n p) next (4 * n) i (4 * n + i) (length_rows n p) refl

    go : Dec (k ≡ n) → ((rest : List ℕ) (k : ℕ) → k < n → from_rows (rows_out n p ++ rest) k ≡ p k) → from_rows (rows_out n p ++ next) k ≡ p k
    go (yes e) ih =
        let z = behind (rows_out n p) next (4 * n) 0 (4 * n) (length_rows n p) (omega arith) in
        rw e (λ i. rectangle (z i) (at 1 i) (at 2 i) (at 3 i))
    go (no e) ih = ih next k (omega arith)
