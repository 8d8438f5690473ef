-- At each turn, whoever puts the line's rest from here has put the whole line: one number more is part of the rest, and the
-- newline is all of it in the end. Assumes nothing.
use mathlib.Core.Path.{◌≡◌}
use mathlib.Core.List.{List}
use Prim.Native.Nat.{ℕ, ◌+◌, ◌-◌, ◌*◌, ◌≤◌}
use lib.ListN.{length, drop}
use Rattle.rules.specs.Program.{figures}
use Rattle.putting.specs.Put.{Put}
use Rattle.printing.proofs.put_figures.Given as goal

abbrev pub invariant-loop-n : goal.invariant-loop-n
invariant-loop-n l =
    (l.n-index ≤ length l.numbers) × (length l.out ≡ length l.initial.out) × (l.next + 6 * (length l.numbers - l.n-index) + 1 ≤ length l.out)
    × ((r : ℕ) (after : List ℕ) → Put l.out l.next (figures (drop l.n-index l.numbers)) r after → Put l.initial.out l.at (figures l.numbers) r after)
