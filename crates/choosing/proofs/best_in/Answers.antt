-- The invariant: the best is the rules' best of the bytes so far. Assumes nothing.
use Rattle.choosing.specs.Choose.{Storable}
use Rattle.choosing.proofs.Best.{first_best, next_best, better_either}
use Rattle.choosing.proofs.best_in.Goals as goal

pub loop-j-init : goal.loop-j-init
loop-j-init c = (tt, first_best _)

pub loop-j-preserved : goal.loop-j-preserved
loop-j-preserved c =
    let i = c.loop-j.invariant in let s = c.shape_at.ensures in let e = c.better_of-best.ensures in
    (rw e (better_either Storable _ _ i.0 s.1), next_best _ _ i.1 s.0 e)
