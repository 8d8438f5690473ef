-- `cuts::cut_node` meets its contract. The loop's invariant: the lines so far have their slots, and all other bytes
-- stand. Assumes nothing.
use mathlib.Core.Path.{◌≡◌}
use native.Mathlib.Omega.{arith}
use borrow.Author.Rules.{rules}
use Rattle.slots.proofs.Lending.{lent_same}
use Rattle.cuts.specs.Cut.{lines}
use Rattle.cuts.proofs.Cutting.{fresh_line}
use Rattle.cuts.proofs.Nodes.{no_line, line_done, lines_done}
use Rattle.cuts.proofs.cut_node.Goals as goal

pub loop-n-init : goal.loop-n-init
loop-n-init c =
    let a = c.args in
    (search rules, c.lines-lines.ensures, fresh_line a.cut.board, no_line a.cut a.work.now c.requires.lent.chip)

pub cut_line-requires : goal.cut_line-requires
cut_line-requires c =
    let p = c.requires in let l = c.loop-n in
    (record { lent = lent_same p.lent l.invariant.3.long; first = p.first; second = p.second }, record { on = omega (arith, l.invariant.1); tails = l.invariant.2 })

pub loop-n-preserved : goal.loop-n-preserved
loop-n-preserved c =
    let a = c.args in let p = c.requires in
    let l = c.loop-n in
    let e = c.cut_line.ensures in
    (omega arith, l.invariant.1, e.tails, line_done a.cut a.work.now p.lent.chip l.n p.lent.every p.first p.second l.invariant.3 e.written)

pub returns : goal.returns
returns c =
    let a = c.args in let l = c.loop-n in
    let e : l.n ≡ lines a.cut.direction a.cut.board = omega (arith, l.invariant.1, c.loop-n-test.false) in
    lines_done a.cut a.work.now c.requires.lent.chip (rw e at l.invariant.3)
