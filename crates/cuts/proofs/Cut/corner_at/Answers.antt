-- `cuts::Cut::corner_at` meets its contract: in each direction the definition names the same two numbers. Assumes nothing.
use Rattle.cuts.proofs.Cut.corner_at.Goals as goal

pub returns-in-Vertical : goal.returns-in-Vertical
returns-in-Vertical c = rw c.in-Vertical.is

pub returns-in-Horizontal : goal.returns-in-Horizontal
returns-in-Horizontal c = rw c.in-Horizontal.is
