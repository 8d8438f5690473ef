-- The lines of the first k modules are put, and there are bytes for the others, 30 bytes each. Assumes nothing.
use Prim.Native.Nat.{◌+◌, ◌-◌, ◌*◌, ◌≤◌}
use lib.ListN.{length}
use Rattle.rules.specs.Program.{module_lines}
use Rattle.putting.specs.Put.{Put}
use Rattle.printing.proofs.put_modules.Given as goal

abbrev pub invariant-loop-k : goal.invariant-loop-k
invariant-loop-k l =
    Put l.initial.out l.at (module_lines l.k l.rows) l.next l.out × (l.k ≤ l.modules) × (l.next + 30 * (l.modules - l.k) ≤ length l.out)
