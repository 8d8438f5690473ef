-- `blocks::columns::Column::held_by` meets its contract: the loop has counted the blocks before j. Assumes nothing.
use Rattle.std.proofs.Common.{◌≡◌, ◌≤◌}
use Rattle.rules.specs.Chip.{column, bottom, top, covers_block}
use Rattle.rules.specs.Search.{count}
use Rattle.blocks.proofs.columns.Column.held_by.Given as goal

abbrev pub invariant-loop-j : goal.invariant-loop-j
invariant-loop-j l =
    let c = column l.self.grid.chip.now l.self.x in
    (l.held ≤ l.j) × (l.many ≡ c.many) × (l.held ≡ count l.j (covers_block c (bottom l.r.rectangle) (top l.r.rectangle)))
