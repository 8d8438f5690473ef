-- `scans::keep_above` meets its contract: the widest that is no wider is put, and then what the walk passes. Assumes nothing.
use Rattle.scans.proofs.Above.{above_kept}
use Rattle.scans.proofs.keep_above.Goals as goal

pub returns : goal.returns
returns c = above_kept c.requires.within.0 c.requires.falls c.keep_widest-last.ensures c.walk_up.ensures
