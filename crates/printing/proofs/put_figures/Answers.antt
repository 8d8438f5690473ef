-- At each turn, whoever puts the line's rest from here has put the whole line: one number more is part of the rest, and the
-- newline is all of it in the end. Assumes nothing.
use mathlib.Core.Path.{refl, ◌∙◌}
use native.Mathlib.Omega.{arith}
use borrow.Author.Rules.{rules}
use Rattle.putting.proofs.Putting.{same_long}
use Rattle.printing.proofs.Putting.{figure_end, figure_put, newline_put}
use Rattle.printing.proofs.put_figures.Goals as goal

pub loop-n-init : goal.loop-n-init
loop-n-init c = (search rules, refl, search rules, λ r after p. p)

pub loop-n-preserved : goal.loop-n-preserved
loop-n-preserved c =
    let put = c.put_figure-next.ensures in
    let turn = c in let now = turn.loop-n in (
      search rules,
      same_long put ∙ now.invariant.1,
      omega (arith, same_long put, figure_end _ put),
      λ r after p. now.invariant.3 r after (figure_put _ now.n-index turn.loop-n-test.true put p),
    )

pub returns : goal.returns
returns c =
    let left = c in
    left.loop-n.invariant.3 _ _ (newline_put _ _ left.loop-n-test.false c.put_byte.ensures)
