-- The bytes so far stand. Assumes nothing.
use Rattle.std.specs.List.{flat_map}
use lib.ListN.{take}
use Rattle.putting.specs.Put.{Put}
use Rattle.writing.proofs.put_row.Given as goal

abbrev pub invariant-loop-x : goal.invariant-loop-x
invariant-loop-x g l = Put l.initial.out l.at (flat_map g.T.Written.bytes (take l.x-index l.row)) l.next l.out
