-- The invariant: going down the nodes that are left ends where going down all of them does. For a lawful design that is going down its
-- tree. Assumes nothing.
use Rattle.slots.specs.Lent.{slots_on}
use Rattle.choosing.proofs.Layouts.{Remains}
use Rattle.choosing.proofs.lay_out.Given as goal

abbrev pub invariant-loop-t : goal.invariant-loop-t
invariant-loop-t l =
    Remains l.lists.board (slots_on l.lists.board l.lists.work.now) l.tokens l.lefts l.lists.nodes l.initial.descent l.t l.descent
