-- `drawing::judged` keeps what its result says: what the checker has passed can be drawn. Assumes nothing.
use Rattle.drawing.proofs.Passed.{drawable}
use Rattle.drawing.proofs.judged.Goals as goal

pub invariant_of-result-clause-drawable : goal.invariant_of-result-clause-drawable
invariant_of-result-clause-drawable c = drawable _ _ c.check-reply.ensures c.in_default.is
