-- `editing::names_place` meets its contract: each arm is one case of the test. Assumes nothing.
use mathlib.Core.Path.{◌∙◌, ap}
use native.Mathlib.Omega.{arith}
use borrow.Author.Tests.{lt-ltb, le-ltb}
use Rattle.rules.specs.Tree.{is_cut}
use Rattle.rules.specs.Design.{nodes}
use Rattle.rules.proofs.Limits.{limits}
use Rattle.editing.proofs.Naming.{change_is, turn_is}
use Rattle.editing.proofs.names_place.Goals as goal

pub overflow_mul-design : goal.overflow_mul-design
overflow_mul-design c = let l = limits _ c.requires in omega arith

pub overflow_sub-design : goal.overflow_sub-design
overflow_sub-design c = let l = limits _ c.requires in omega arith

pub bounds-design-position : goal.bounds-design-position
bounds-design-position c = let l = limits _ c.requires in omega arith

pub returns-then-module-design : goal.returns-then-module-design
returns-then-module-design c =
    let k = c in let d = k.args.design in
    rw (change_is _ k.in-Change.is, lt-ltb k.in-Change.module d.modules (omega arith)) c.lawful_need.ensures

pub returns-else-module-design : goal.returns-else-module-design
returns-else-module-design c =
    let k = c in let d = k.args.design in
    rw (change_is _ k.in-Change.is, le-ltb k.in-Change.module d.modules (omega arith))

pub returns-then-position-design : goal.returns-then-position-design
returns-then-position-design c =
    let k = c in let d = k.args.design in
    rw (turn_is _ k.in-Turn.is, lt-ltb k.in-Turn.position (nodes d) (omega arith))
    (c.is_cut.ensures ∙ ap is_cut c.token_of.ensures)

pub returns-else-position-design : goal.returns-else-position-design
returns-else-position-design c =
    let k = c in let d = k.args.design in
    rw (turn_is _ k.in-Turn.is, le-ltb k.in-Turn.position (nodes d) (omega arith))
