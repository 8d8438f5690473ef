-- `rows::rectangle_at` meets its contract: the four places of the module's row are the rules' four, and each holds a byte.
-- Assumes nothing.
use mathlib.Core.Path.{◌≡◌, refl, ◌∙◌}
use mathlib.Core.List.{List}
use Prim.Native.Nat.{ℕ, ◌+◌, ◌-◌, ◌*◌, ◌<◌}
use native.Mathlib.Omega.{arith}
use native.Mathlib.Nat.{add-zero}
use lib.ListN.{get_or, take, drop}
use Rattle.std.proofs.lemmas.List.{get_or-take, get_or-drop}
use Rattle.rules.specs.Check.{from_rows}
use Rattle.rows.proofs.rectangle_at.Goals as goal

in_row : (rows : List ℕ) (at i : ℕ) → i < 4 → get_or (take (at + 4 - at) (drop at rows)) i 0 ≡ get_or rows (at + i) 0
in_row rows at i h = get_or-take (at + 4 - at) (drop at rows) i 0 (omega arith) ∙ get_or-drop at rows i 0

pub returns : goal.returns
unfolding from_rows
returns c =
    let at : ℕ = 4 * c.args.k in let row = in_row c.args.rows.now at in
    let byte : (i : ℕ) → get_or c.args.rows.now (at + i) 0 < 256 = λ i. omega (arith, c.type_inv.rows (at + i)) in
    rw (row 0 (omega arith), row 1 (omega arith), row 2 (omega arith), row 3 (omega arith), add-zero)
    (refl, record { x = rw add-zero at (byte 0); y = byte 1; w = byte 2; h = byte 3 })
