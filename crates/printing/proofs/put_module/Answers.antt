-- The module, then the four numbers of its row in a line. Assumes nothing.
use native.Mathlib.Omega.{arith}
use Rattle.rules.specs.Program.{module_line}
use Rattle.putting.proofs.Putting.{same_long, both_put}
use Rattle.printing.proofs.Putting.{decimal_end}
use Rattle.printing.proofs.put_module.Goals as goal

pub put_figures-requires : goal.put_figures-requires
put_figures-requires c =
    let put = c.put_decimal-next.ensures in omega (arith, same_long put, decimal_end _ _ put)

pub returns : goal.returns
unfolding module_line
returns c =
    let e = c.rectangle_at-r.ensures.0 in
    rw (← e) (both_put c.put_decimal-next.ensures c.put_figures.ensures)
