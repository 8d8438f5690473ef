-- A need's bytes are those of its three numbers, each at most three. Assumes nothing.
use native.Mathlib.Omega.{arith}
use Rattle.writing.proofs.Lengths.{length_need, need_short}
use Rattle.writing.proofs.NeedWritten.size.Goals as goal

pub row_len-requires : goal.row_len-requires
row_len-requires c = let e = length_need c.args.self.now in omega (arith, need_short c.args.self.now)

pub returns : goal.returns
returns c = omega (arith, length_need c.args.self.now)
