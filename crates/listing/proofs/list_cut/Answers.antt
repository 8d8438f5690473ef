-- `listing::list_cut` meets its contract: both ways leave the slots of the children's pairings, and the scan is taken only where it may be. Assumes
-- nothing.
use Rattle.listing.proofs.list_cut.Goals as goal

pub scan_node-requires : goal.scan_node-requires
scan_node-requires c = c.requires.scannable c.in-Scan.is
