-- `blocks::columns::Column::many` meets its contract: the column has its own kind. Assumes nothing.
use Rattle.std.proofs.Common.{ℕ, ap, ◌∙◌}
use Rattle.rules.specs.Chip.{column, column_of}
use Rattle.blocks.proofs.columns.Column.many.Goals as goal

pub returns : goal.returns
unfolding column
returns c = (
  c.many_of.ensures.0 ∙ ap (λ (k : ℕ). (column_of c.args.self.grid.chip.now k).many) c.number.ensures,
  c.many_of.ensures.1,
)
