-- `scans::keep_found` meets its contract: the one byte is put, or nothing is. Assumes nothing.
use Rattle.scans.proofs.Runs.{found_put}
use Rattle.scans.proofs.keep_found.Goals as goal

pub returns-in-Some : goal.returns-in-Some
returns-in-Some c = rw c.in-Some.is (found_put _ (rw c.in-Some.is at c.requires))
