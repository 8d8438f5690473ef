-- What is put into a text, and what it then says.
use Rattle.std.specs.Prelude.{List, ℕ, ◌++◌, take}

-- what a text says so far, and how many bytes it has room for
pub record Said : Type 0 where
  pub text : List ℕ
  pub room : ℕ

-- bytes more behind them; what has no room is left out
abbrev pub with_bytes : Said → List ℕ → Said
with_bytes s bytes = record { text = take s.room (s.text ++ bytes); room = s.room }
