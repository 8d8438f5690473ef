-- The root's slot stores no shape, or one goes down from the shape to choose, or not: each way out gives that outcome's answer.
-- Assumes nothing.
use mathlib.Core.Path.{◌≡◌, ap}
use Prim.Native.Nat.{◌-◌}
use lib.ListN.{length, take}
use borrow.Author.Rules.{rules}
use Rattle.placing.proofs.Answering.{none_chosen, this_chosen, answer_none, answer_lost, answer_done}
use Rattle.placing.proofs.place_lists.Goals as goal

pub returns-in_default : goal.returns-in_default
returns-in_default c =
    let p = c.requires.0 in let e = c.lists_of-lists.ensures.of in
    answer_none p (none_chosen p e.0 e.2 (ap (λ n. n - 1) e.1) c.in_default.ensures)

pub go_down-requires : goal.go_down-requires
go_down-requires c =
    let p = c.requires in let e = c.lists_of-lists.ensures.of in
    let ch = this_chosen p.0 e.0 e.2 (ap (λ n. n - 1) e.1) c.in-Some.ensures in
    record { lawful = p.0.lawful; bytes = p.0.bytes; stairs = p.1; stored = ch.stored }

pub returns-in_default-go_down : goal.returns-in_default-go_down
returns-in_default-go_down c =
    let p = c.requires.0 in let e = c.lists_of-lists.ensures.of in
    let ch = this_chosen p e.0 e.2 (ap (λ n. n - 1) e.1) c.in-Some.ensures in answer_lost p ch c.in_default-go_down.ensures

pub returns : goal.returns
returns c =
    let p = c.requires.0 in let e = c.lists_of-lists.ensures.of in
    let ch = this_chosen p e.0 e.2 (ap (λ n. n - 1) e.1) c.in-Some.ensures in
    let n : length (take c.args.design.modules c.in-Some-go_down.places) ≡ c.args.design.modules = search rules in
    answer_done p ch c.in-Some-go_down.ensures n c.rows_out.ensures
