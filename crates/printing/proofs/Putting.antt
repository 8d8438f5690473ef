-- The text is put number by number and line by line. A number takes no more bytes than the digits it is allowed, so that every line
-- has a bound. Assumes nothing.
use mathlib.Core.Path.{◌≡◌, refl}
use mathlib.Core.Bool.{Bool, true, false}
use mathlib.Core.List.{List, [], ◌∷◌, ◌++◌}
use Prim.Native.Nat.{ℕ, zero, suc, ◌+◌, ◌-◌, ◌*◌, ◌/◌, ◌%◌, ◌≤◌, ◌<◌}
use native.Mathlib.Omega.{arith}
use native.Mathlib.Numerals.{add-one, sub-one}
use lib.Dec.{ltb}
use lib.ListN.{length, get_or, drop, length-append, drop_of_length-le}
use lib.Seq.{drop-cons}
use borrow.Author.Tests.{lt-ltb, le-ltb}
use Rattle.rules.specs.Choice.{row_of}
use Rattle.rules.specs.Check.{from_rows}
use Rattle.rules.specs.Program.{decimal, figures, module_line, module_lines, plan_line}
use Rattle.putting.specs.Put.{Put}
use Rattle.putting.proofs.Putting.{none_put, both_put}

-- a number of one digit, and of more
pub one_digit : (k n : ℕ) → (k ≡ 0 → ⊥) → n < 10 → decimal k n ≡ (48 + n) ∷ []
unfolding decimal
one_digit zero n some h = absurd (some refl)
one_digit (suc k) n some h = rw (lt-ltb n 10 h, decimal)

pub more_digits : (k n : ℕ) → (k ≡ 0 → ⊥) → 10 ≤ n → decimal k n ≡ decimal (k - 1) (n / 10) ++ ((48 + n % 10) ∷ [])
unfolding decimal
more_digits zero n some h = absurd (some refl)
more_digits (suc k) n some h = rw (le-ltb n 10 h, decimal, sub-one)

-- how long a text can be, and how far it goes
short_decimal : (k n : ℕ) → length (decimal k n) ≤ k
unfolding decimal
short_decimal zero n = omega arith
short_decimal (suc k) n = go (ltb n 10) (short_decimal k (n / 10))
  where
    go : (t : Bool) → length (decimal k (n / 10)) ≤ k
        → length {A = ℕ} (elim t [ true ↦ (48 + n) ∷ [] | false ↦ decimal k (n / 10) ++ ((48 + n % 10) ∷ []) ]) ≤ suc k
    go true h = omega arith
    go false h = simp length-append (omega arith)

short_figures : (ns : List ℕ) → length (figures ns) ≤ 6 * length ns + 1
unfolding figures
short_figures [] = omega arith
short_figures (n ∷ ns) = simp length-append (omega (arith, short_decimal 5 n, short_figures ns))

module _ {before after : List ℕ} {at next : ℕ} where
  pub decimal_end : (k n : ℕ) → Put before at (decimal k n) next after → next ≤ at + k
  decimal_end k n p = omega (arith, short_decimal k n)

  pub figure_end : (n : ℕ) → Put before at (32 ∷ decimal 5 n) next after → next ≤ at + 6
  figure_end n p = omega (arith, short_decimal 5 n)

  pub plan_end : (ns : List ℕ) → Put before at (plan_line ns) next after → next ≤ at + 6 * length ns + 5
  plan_end ns p = omega (arith, short_figures ns)

  pub line_end : (k : ℕ) (rows : List ℕ) → Put before at (module_line k rows) next after → next ≤ at + 30
  unfolding module_line
  line_end k rows p =
      let ns : List ℕ = row_of (from_rows rows k) in
      omega (arith, length-append (decimal 5 k) (figures ns), short_decimal 5 k, short_figures ns)

-- a line's numbers from i on: one number, and those after it; or only the newline
pub figure_put : (ns : List ℕ) (i : ℕ) → i < length ns → {before between after : List ℕ} {at mid next : ℕ}
    → Put before at (32 ∷ decimal 5 (get_or ns i 0)) mid between → Put between mid (figures (drop (i + 1) ns)) next after
    → Put before at (figures (drop i ns)) next after
unfolding figures
figure_put ns i h p q = rw (drop-cons ns i 0 h) (both_put p (rw add-one at q))

pub newline_put : (ns : List ℕ) (i : ℕ) → length ns ≤ i → {before after : List ℕ} {at next : ℕ}
    → Put before at (10 ∷ []) next after → Put before at (figures (drop i ns)) next after
unfolding figures
newline_put ns i h p = rw (drop_of_length-le ns h) p

-- a line for each module, one by one
pub no_line_put : {before : List ℕ} {at : ℕ} (rows : List ℕ) → at ≤ length before → Put before at (module_lines 0 rows) at before
unfolding module_lines
no_line_put rows h = none_put h

pub line_put : (k : ℕ) (rows : List ℕ) {before between after : List ℕ} {at mid next : ℕ}
    → Put before at (module_lines k rows) mid between → Put between mid (module_line k rows) next after
    → Put before at (module_lines (k + 1) rows) next after
unfolding module_lines module_line
line_put k rows p q = rw add-one (both_put p q)
