-- `leaves::room::Room::no_columns` meets its contract: where a block stands whole above the row, the last block ends above it.
-- Assumes nothing.
use native.Mathlib.Omega.{arith}
use Rattle.leaves.proofs.Edges.{blocks_end}
use Rattle.leaves.proofs.room.Room.no_columns.Goals as goal

pub edge_above-requires : goal.edge_above-requires
edge_above-requires c h =
    let C = c.args.chip.now in
    omega (arith, blocks_end C.block.0 c.args.y.0 C.height.0 c.requires.block (rw c.blocks_between-blocks.ensures.0 at h))
