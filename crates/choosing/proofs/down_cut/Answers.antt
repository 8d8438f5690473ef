-- A cut whose children cannot stand where they should, or that has no pair, ends it; else the children get the pair's shapes. The
-- corner beside the left one is a corner of the chip, since the pair was taken. Assumes nothing.
use mathlib.Core.Path.{sym, ◌∙◌}
use Prim.Native.Nat.{◌-◌}
use lib.ListN.{get_or}
use Rattle.slots.specs.Lent.{slots_on}
use Rattle.choosing.specs.Descend.{nowhere}
use Rattle.choosing.proofs.Pairs.{taken_near}
use Rattle.choosing.proofs.Steps.{cut_stops, cut_without, cut_with}
use Rattle.choosing.proofs.down_cut.Goals as goal

pub returns-then-t-left : goal.returns-then-t-left
returns-then-t-left c = cut_stops _ _ _ _ _ _ c.if-t-left.true

pub returns-in_err-pair : goal.returns-in_err-pair
returns-in_err-pair c = c.from_residual.ensures ∙ cut_without _ _ _ _ _ _ c.if-t-left.false c.in_err-pair.ensures

pub beside_of-corner-requires : goal.beside_of-corner-requires
beside_of-corner-requires c =
    let a = c.args in let r = get_or a.descent.rooms a.t nowhere in
    taken_near (slots_on a.lists.board a.lists.work.now) a.direction a.left (a.t - 1) r.corner r.shape a.lists.lent (sym c.in_ok-pair.ensures)

pub returns : goal.returns
returns c = cut_with _ _ _ _ _ _ c.if-t-left.false c.in_ok-pair.ensures c.beside_of-corner.ensures c.given.ensures
