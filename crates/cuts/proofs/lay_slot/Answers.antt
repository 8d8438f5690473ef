-- `cuts::lay_slot` meets its contract. The loop's invariant: top sides are laid up to the end of a chunk. Assumes nothing.
use native.Mathlib.Omega.{arith}
use borrow.Author.Rules.{rules}
use Rattle.slots.proofs.Filling.{none_filled}
use Rattle.cuts.proofs.Filling.{chunk_laid, filled_laid}
use Rattle.cuts.proofs.lay_slot.Goals as goal

pub loop-k-init : goal.loop-k-init
loop-k-init c = (search rules, none_filled)

pub loop-k-preserved : goal.loop-k-preserved
loop-k-preserved c = let a = c.args in (omega arith, chunk_laid a.top a.from a.line.now c.loop-k.invariant.1 c.lay_chunk.ensures)

pub returns : goal.returns
returns c = let l = c.loop-k.invariant in filled_laid _ l.1 (omega arith) l.0 (omega arith)

pub returns-2 : goal.returns-2
returns-2 c = let a = c.args in let p = c.requires in let l = c.loop-k.invariant in
    filled_laid _ (chunk_laid a.top a.from a.line.now l.1 c.lay_chunk.ensures) (omega arith) (omega arith) (omega arith)
