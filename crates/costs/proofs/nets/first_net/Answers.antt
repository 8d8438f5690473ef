-- A net that is there has its members, and where there is none the net is empty and nothing is left. Assumes nothing.
use Rattle.std.proofs.Common.{sym, ◌∙◌}
use Rattle.costs.proofs.Netting.{first_there, first_none, past_nothing}
use Rattle.costs.proofs.nets.first_net.Goals as goal

pub returns-in-Some-clause-net : goal.returns-in-Some-clause-net
returns-in-Some-clause-net c = let z = c.in-Some.ensures in rw (first_there _ z.is_there ∙ z.net) c.net_with.ensures

pub returns-in-None-clause-net : goal.returns-in-None-clause-net
returns-in-None-clause-net c = rw (first_none _ c.in-None.ensures) c.net_with-in-None.ensures

pub returns-in-None-clause-past : goal.returns-in-None-clause-past
returns-in-None-clause-past c = sym (past_nothing _ c.in-None.ensures)
