-- A space, and the number after it. Assumes nothing.
use Rattle.putting.proofs.Putting.{both_put}
use Rattle.printing.proofs.put_figure.Goals as goal

pub returns : goal.returns
returns c =
    both_put c.put_byte-next.ensures c.put_decimal.ensures
