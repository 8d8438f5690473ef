-- `blocks::columns::Column::block` meets its contract: the block ends on the chip. Assumes nothing.
use Rattle.std.proofs.Common.{refl, arith}
use Rattle.blocks.proofs.Standing.{on_chip, is_block}
use Rattle.blocks.proofs.columns.Column.block.Goals as goal

pub overflow_mul-corner : goal.overflow_mul-corner
overflow_mul-corner c =
    let w = c.args.self.grid.within in
    let s = on_chip _ _ _ c.number.ensures c.high_of-high.ensures w c.requires in omega arith

pub invariant_of-result : goal.invariant_of-result
invariant_of-result c =
    let w = c.args.self.grid.within in
    let s = on_chip _ _ _ c.number.ensures c.high_of-high.ensures w c.requires in let t = c.args.self.there in
    record { bytes = record { x = omega arith; y = omega arith; w = omega arith; h = omega arith } }

pub returns : goal.returns
returns c = is_block _ _ _ _ c.number.ensures c.high_of-high.ensures refl refl refl refl
