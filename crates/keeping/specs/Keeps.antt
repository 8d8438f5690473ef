-- What is held, and what a request leaves of it.
use Rattle.std.specs.Prelude.{◌≡◌}
use Rattle.keeping.specs.declared.Held.{Held}
use Rattle.keeping.specs.declared.Desk.{Desk}
use Rattle.keeping.specs.declared.requests.Request.{Request}
use Rattle.keeping.specs.declared.requests.Request.TheVariants as request

-- what is held on a desk
abbrev pub held_on : Desk → Held
held_on desk = record { design = desk.design; work = desk.work.count; rows = desk.rows.count }

-- as many bytes are lent as before
pub record Keeps (before after : Held) : Type 0 where
  pub work_same : after.work ≡ before.work
  pub rows_same : after.rows ≡ before.rows

-- what a request leaves: all but the one thing that it is for
abbrev pub Granted : Request → Held → Held → Type 0
Granted request.Design before after = Keeps before after
Granted request.Work before after = (after.design ≡ before.design) × (after.rows ≡ before.rows)
Granted request.Rows before after = (after.design ≡ before.design) × (after.work ≡ before.work)
Granted request.Nothing before after = after ≡ before
Granted request.Poke before after = after ≡ before
Granted request.Row before after = after ≡ before
