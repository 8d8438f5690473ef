-- `scoring::after_term` meets its contract: of each kind of term its own amount is added.
-- Assumes nothing.
use Rattle.scoring.proofs.after_term.Goals as goal

pub returns-in-Area : goal.returns-in-Area
returns-in-Area c = rw c.in-Area.is c.with_amount.ensures

pub returns-in-Ratio : goal.returns-in-Ratio
returns-in-Ratio c = rw c.in-Ratio.is c.with_amount-in-Ratio.ensures

pub returns-in-Wire : goal.returns-in-Wire
returns-in-Wire c = rw c.in-Wire.is c.with_amount-in-Wire.ensures
