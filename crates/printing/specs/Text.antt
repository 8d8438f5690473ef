-- What the plan program's text asks.
use Rattle.std.specs.Prelude.{List, ℕ, ◌*◌, ◌≤◌, length}
use Rattle.rules.specs.Design.{most_modules}

-- the code's TEXT_SIZE
abbrev pub text_size : ℕ
text_size = 2048

-- what the text of an answer asks: no more modules than there can be, a row for each of them, and bytes lent
pub record TextLent (modules : ℕ) (rows out : List ℕ) : Type 0 where
  pub few : modules ≤ most_modules
  pub given : 4 * modules ≤ length rows
  pub lent : text_size ≤ length out
