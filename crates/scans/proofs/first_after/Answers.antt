-- `scans::first_after` meets its contract: what is first among the bytes left is first after the others. Assumes nothing.
use Rattle.std.proofs.lemmas.List.{take_rest}
use Rattle.scans.proofs.Runs.{first_dropped}
use Rattle.scans.proofs.first_after.Goals as goal

pub returns : goal.returns
returns c = let a = c.args in first_dropped a.slot.now c.requires (rw (take_rest a.slot.now a.a) at c.first.ensures)
