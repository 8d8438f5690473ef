-- `blocks::plan::Floorplan::module` meets its contract: a lawful design's needs are within the limits. Assumes nothing.
use Rattle.std.proofs.Common.{arith}
use Rattle.rules.proofs.Limits.{limits, need_limits}
use Rattle.blocks.proofs.plan.Floorplan.module.Goals as goal

pub invariant_of-result : goal.invariant_of-result
invariant_of-result c = let h = c.requires in record { needs = need_limits _ ((limits _ c.args.self.drawable.lawful).needs _ (omega arith)) }
