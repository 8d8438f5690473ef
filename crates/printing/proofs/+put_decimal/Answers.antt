-- `put_decimal` goes as the definition does: no digit is left, or the number is one digit, or the digits before the last one are
-- put, and then that. With each call of itself one digit fewer is left.
use Rattle.std.proofs.Common.{arith}
use Rattle.rules.specs.Program.{decimal}
use Rattle.putting.proofs.Putting.{none_put, both_put, same_long}
use Rattle.printing.proofs.Putting.{one_digit, more_digits, decimal_end}
use Rattle.printing.proofs.+put_decimal.Goals as goal

pub returns-then-digits-eq0 : goal.returns-then-digits-eq0
unfolding decimal
returns-then-digits-eq0 t c = rw (c.if-digits-eq0.true, decimal) (none_put (omega arith))

pub returns-then-n-lt10 : goal.returns-then-n-lt10
returns-then-n-lt10 t c = rw (one_digit _ _ c.if-digits-eq0.false c.if-n-lt10.true) c.put_digit.ensures

pub put_digit-requires-2 : goal.put_digit-requires-2
put_digit-requires-2 t c =
    let put = c.put_decimal-next.ensures in (omega (arith, same_long put, decimal_end _ _ put), omega arith)

pub returns : goal.returns
returns t c =
    rw (more_digits _ _ c.if-digits-eq0.false c.if-n-lt10.false) (both_put c.put_decimal-next.ensures c.put_digit-2.ensures)
