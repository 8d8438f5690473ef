-- While the loop goes on, the stack mirrors what stands after the tokens read so far. A refused step settles the reply, since what is
-- refused stays refused; once the tokens are used up, the count of things standing does. Assumes nothing.
use Rattle.rules.specs.Design.{token_at}
use Rattle.lawful.proofs.Mirroring.{Stands}
use Rattle.lawful.proofs.tree_test.Given as goal

abbrev pub invariant-loop-token : goal.invariant-loop-token
invariant-loop-token l = Stands l.m (token_at l.fn.d) l.token-index l.stack
