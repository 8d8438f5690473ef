-- The bytes are the count and what is left after it, which is cut behind the members, if they have places and are there.
-- Assumes nothing.
use Rattle.std.proofs.Common.{arith}
use Rattle.costs.proofs.Netting.{none_left, none_many, split_or}
use Rattle.costs.proofs.nets.split_net.Goals as goal

pub returns-in_default : goal.returns-in_default
returns-in_default c = none_left _ c.in_default.ensures.cases

pub returns-then-count-gt-MOST_MODULES : goal.returns-then-count-gt-MOST_MODULES
returns-then-count-gt-MOST_MODULES c = rw (c.in-Some.ensures.cases.0) (none_many _ _ c.if-count-gt-MOST_MODULES.true)

pub returns : goal.returns
returns c =
    split_or _ _ _ _ (λ p. p.0.now) (λ p. p.1.now) c.in-Some.ensures.cases.0 (omega arith) c.split_at_checked.ensures.cases
