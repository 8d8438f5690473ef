-- A rectangle on a chip within the limits fits its row. Assumes nothing.
use native.Mathlib.Omega.{arith}
use Rattle.rules.specs.declared.Rectangle.{Rectangle}
use Rattle.rules.specs.Chip.{OnChip}
use Rattle.rules.specs.Design.{most_columns, most_rows}
use Rattle.rows.specs.Row.{Bytes}

pub fits_row : {r : Rectangle} → OnChip most_columns most_rows r → Bytes r
fits_row on =
    let a = on.columns in let b = on.rows in let c = on.wide in let d = on.high in
    record { x = omega arith; y = omega arith; w = omega arith; h = omega arith }
