-- `scans::scan_node` meets its contract. The loop's invariant: the rows below row y have their slots, and nothing else has changed. Assumes nothing.
use mathlib.Core.Path.{◌≡◌, refl}
use native.Mathlib.Omega.{arith}
use borrow.Author.Rules.{rules}
use Rattle.slots.proofs.Covering.{none_below, one_row_more, all_rows}
use Rattle.scans.proofs.Nodes.{still_scannable, same_slots, part_as}
use Rattle.scans.proofs.scan_node.Goals as goal

pub loop-y-init : goal.loop-y-init
loop-y-init c = (search rules, refl, none_below _)

pub scan_row-requires : goal.scan_row-requires
scan_row-requires c = (still_scannable c.requires c.loop-y.invariant.2, search rules)

pub loop-y-preserved : goal.loop-y-preserved
loop-y-preserved c =
    let p = c.requires in let z = c.loop-y.invariant in
    (omega arith, refl, one_row_more c.loop-y.y _ _ _ z.2 (part_as (same_slots p z.2) c.scan_row.ensures))

pub returns : goal.returns
returns c =
    let l = c.loop-y in let e : l.y ≡ c.args.cut.board.listed.0 = omega arith in
    all_rows _ _ (rw e at l.invariant.2)
