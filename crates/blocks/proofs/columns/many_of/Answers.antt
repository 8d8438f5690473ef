-- `blocks::columns::many_of` meets its contract: a CLB for each row, or as many blocks as stand whole. Assumes nothing.
use Rattle.std.proofs.Common.{div-le_self, arith}
use Rattle.blocks.proofs.Standing.{clb_many, block_many}
use Rattle.blocks.proofs.columns.many_of.Goals as goal

pub returns-then-kind-eq0 : goal.returns-then-kind-eq0
returns-then-kind-eq0 c = let w = c.args.grid.within in (clb_many _ _ c.if-kind-eq0.true, omega arith)

pub returns : goal.returns
returns c =
    let w = c.args.grid.within in let a = c.args.grid.chip.now in
    (block_many _ _ c.if-kind-eq0.false, omega (arith, div-le_self a.height.0 a.block.0))
