-- Without a left shape, or a corner of the chip beside it, there is no pair; else the search in the slot there decides. Assumes nothing.
use mathlib.Core.Path.{ap}
use native.Mathlib.Omega.{arith}
use Rattle.rules.proofs.Searching.{test-iffs}
use Rattle.choosing.proofs.Pairs.{no_pair, pair_there, near_beside}
use Rattle.choosing.proofs.pair_with.Goals as goal
use Rattle.choosing.proofs.pair_with.Goals.{then-lists-corner-via-then-lists-corner, then-lists-corner-via-else-lists-corner+then-lists-corner-2}

pub returns-then-left-eq0 : goal.returns-then-left-eq0
returns-then-left-eq0 c = no_pair _ _ _ _ _ _ _ (λ t. let z = simp test-iffs at t in let e = c.if-left-eq0.true in omega arith)

pub beside_of-corner-requires : goal.beside_of-corner-requires
beside_of-corner-requires c = let p = c.requires in near_beside c.args.direction c.args.lists.lent p.1 p.2

pub returns-then-lists-corner : goal.returns-then-lists-corner
returns-then-lists-corner c =
    no_pair _ _ _ _ _ _ _ (λ t.
    let z = simp test-iffs at t in let x = ap (λ b. b.x.0) c.beside_of-corner.ensures in let y = ap (λ b. b.y.0) c.beside_of-corner.ensures in
    elim c.then-lists-corner.branch [
      | then-lists-corner-via-then-lists-corner w ↦ let e = w.if-lists-corner.true in omega arith
      | then-lists-corner-via-else-lists-corner+then-lists-corner-2 w ↦ let e = w.if-lists-corner-2.true in omega arith
    ])

pub returns : goal.returns
returns c =
    let a = c.args in
    let n = c.if-left-eq0.false in
    pair_there a.lists.board a.direction _ a.room.corner a.room.shape a.left c.beside_of-corner.ensures (omega arith)
    (record { column = c.if-lists-corner.false; row = c.if-lists-corner-2.false }) c.slot.ensures c.right_in.ensures
