-- The lines of the first k modules are put, and there are bytes for the others, 30 bytes each. Assumes nothing.
use mathlib.Core.Path.{◌≡◌}
use native.Mathlib.Omega.{arith}
use borrow.Author.Rules.{rules}
use Rattle.putting.proofs.Putting.{same_long}
use Rattle.printing.proofs.Putting.{line_end, no_line_put, line_put}
use Rattle.printing.proofs.put_modules.Goals as goal

pub loop-k-init : goal.loop-k-init
loop-k-init c = (no_line_put _ (omega arith), search rules, search rules)

pub put_module-next-requires : goal.put_module-next-requires
put_module-next-requires c = (search rules, search rules)

pub loop-k-preserved : goal.loop-k-preserved
loop-k-preserved c =
    let now = c.loop-k in let put = c.put_module-next.ensures in (
      line_put _ _ now.invariant.0 put,
      search rules,
      omega (arith, same_long put, line_end _ _ put),
    )

pub returns : goal.returns
returns c =
    let e : c.loop-k.k ≡ c.args.modules = omega arith in
    rw e at c.loop-k.invariant.0
