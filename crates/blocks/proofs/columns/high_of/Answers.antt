-- `blocks::columns::high_of` meets its contract: of CLBs, one row; of blocks, what the chip says. Assumes nothing.
use Rattle.blocks.proofs.Standing.{clb_high, block_high}
use Rattle.blocks.proofs.columns.high_of.Goals as goal

pub returns-then-kind-eq0 : goal.returns-then-kind-eq0
returns-then-kind-eq0 c = clb_high _ _ c.if-kind-eq0.true

pub returns : goal.returns
returns c = block_high _ _ c.if-kind-eq0.false
