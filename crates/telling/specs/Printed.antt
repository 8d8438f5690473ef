-- What printing into a text's bytes does.
use Rattle.std.specs.Prelude.{List, ℕ, ◌≡◌, ◌++◌, length, take}
use Rattle.telling.specs.declared.printing.Line.{Line}

-- the same bytes then say more, as far as there is room
pub record Printed (before : Line) (s : List ℕ) (after : Line) : Type 0 where
  pub lent : after.bytes.ghost_name ≡ before.bytes.ghost_name
  pub room : length after.bytes.now ≡ length before.bytes.now
  pub text : take after.len after.bytes.now ≡ take (length before.bytes.now) (take before.len before.bytes.now ++ s)
