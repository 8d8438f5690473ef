-- `editing::with_change` meets its contract: one need is set, or one cut's token. An edit that turns something names a cut, so the
-- token is one. Assumes nothing.
use mathlib.Core.Path.{sym, ◌∙◌}
use native.Mathlib.Omega.{arith}
use Rattle.rules.specs.Edit.{changed}
use Rattle.editing.proofs.Naming.{changed_module, turned_cut}
use Rattle.editing.proofs.with_change.Goals as goal

pub offset_bounds-next-module : goal.offset_bounds-next-module
offset_bounds-next-module c = let p = c.requires in omega (arith, (changed_module _ p.0 p.1 c.in-Change.is).0)

pub bounds-next-module : goal.bounds-next-module
bounds-next-module c = let p = c.requires in (changed_module _ p.0 p.1 c.in-Change.is).0

pub bounds-next-position : goal.bounds-next-position
bounds-next-position c = let p = c.requires in (turned_cut _ p.0 p.1 c.in-Turn.is).0

pub returns-in_default : goal.returns-in_default
returns-in_default c =
    let p = c.requires in let (_, (d, x)) = turned_cut _ p.0 p.1 c.in-Turn.is in
    absurd (c.in_default.not-Cut d (c.token_of-token.ensures ∙ x))

pub bounds-next-position-in-Turn : goal.bounds-next-position-in-Turn
bounds-next-position-in-Turn c =
    let e = c in let p = e.requires in
    (turned_cut _ p.0 p.1 e.in-Turn.is).0

pub returns-in-Change : goal.returns-in-Change
unfolding changed
returns-in-Change c = rw (c.in-Change.is, changed)

pub returns-in-Cut : goal.returns-in-Cut
unfolding changed
returns-in-Cut c =
    let k = c in let f = k in
    let x = sym f.token_of-token.ensures ∙ k.in-Cut.is in
    rw (f.in-Turn.is, changed, x, c.byte_of_cut.ensures, c.other.ensures)
