-- `cellweaver_c::say_refused` meets its contract: the refusal's number and value, and it has no box. Assumes nothing.
use Rattle.cellweaver_c.proofs.Asking.{said_refused}
use Rattle.cellweaver_c.proofs.say_refused.Goals as goal

pub returns : goal.returns
returns c = said_refused c.args.e c.number_of-said.ensures
