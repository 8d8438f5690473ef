-- Rows out, a module at a time: the rows of the first k modules stand, and the bytes past them stay. Assumes nothing.
use mathlib.Core.Path.{◌≡◌, refl, ◌∙◌}
use mathlib.Core.List.{List, ◌++◌}
use Prim.Native.Nat.{ℕ, ◌+◌, ◌*◌, ◌≤◌}
use native.Mathlib.Numerals.{add-one}
use lib.ListN.{length, drop}
use lib.Seq.{sets}
use Rattle.rules.specs.Placement.{Placement}
use Rattle.rules.specs.Choice.{row_of, rows_out}
use Rattle.rules.proofs.RowsOut.{row_more}

pub record Out (k : ℕ) (p : Placement) (before after : List ℕ) : Type 0 where
  pub is : after ≡ rows_out k p ++ drop (4 * k) before

module _ {p : Placement} {before : List ℕ} where
  pub none_out : Out 0 p before before
  unfolding rows_out
  none_out = record { is = refl }

  pub one_out : {k : ℕ} {after next : List ℕ} → 4 * k + 4 ≤ length before → Out k p before after → next ≡ sets after (4 * k) (row_of (p k))
      → Out (k + 1) p before next
  one_out {k} h o e = record { is = e ∙ rw (o.is, add-one) (row_more k p before h) }
