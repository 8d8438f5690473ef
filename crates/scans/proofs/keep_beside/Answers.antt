-- `scans::keep_beside` meets its contract: what was looked up is put and then what the walk passes. Assumes nothing.
use Rattle.scans.proofs.Beside.{kept_beside}
use Rattle.scans.proofs.keep_beside.Goals as goal

pub returns : goal.returns
returns c =
    let p = c.requires in let l = c.look_up-looked.ensures in let w = c.walk_on.ensures in
    rw c.or.ensures (kept_beside c.args.right.now c.walk_on.result p.within.1 p.falls l.found l.within c.keep_found.ensures w.walked w.within)
