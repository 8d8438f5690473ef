-- `editing::changed_node` meets its contract: a module's leaf is where its token first stands. Assumes nothing.
use Rattle.rules.specs.Edit.{changed_node}
use Rattle.editing.proofs.Naming.{changed_module}
use Rattle.editing.proofs.changed_node.Goals as goal

pub position_of-requires : goal.position_of-requires
position_of-requires c = let p = c.requires in (p.0, (changed_module _ p.0 p.1 c.in-Change.is).1)

pub returns-in-Change : goal.returns-in-Change
unfolding changed_node
returns-in-Change c = rw (c.in-Change.is, changed_node) c.position_of.ensures

pub returns-in-Turn : goal.returns-in-Turn
unfolding changed_node
returns-in-Turn c = rw (c.in-Turn.is, changed_node)
