-- The row is stored at its place, as the rules' four bytes; on a chip within the limits each fits a byte. Assumes nothing.
use mathlib.Core.Path.{◌≡◌, sym}
use Prim.Native.Nat.{ℕ, ◌+◌, ◌-◌, ◌*◌}
use native.Mathlib.Omega.{arith}
use Rattle.std.proofs.lemmas.List.{append_assoc, drop-drop}
use Rattle.std.proofs.lemmas.List.Edits.{sets-eq}
use Rattle.rules.specs.Choice.{row_of}
use Rattle.rows.proofs.row_out.Goals as goal

pub returns : goal.returns
returns c =
    let a = c.args in let at : ℕ = 4 * a.k in let four : at + 4 - at ≡ 4 = omega arith in
    rw (c.copy_from_slice.ensures.after, four, drop-drop 4 at a.rows.now)
    (sym (rw append_assoc at (sets-eq (row_of a.r) a.rows.now at (omega arith))))
