-- Bytes that are put into lent ones.
use Rattle.std.specs.Prelude.{◌≡◌, List, ℕ, ◌+◌, ◌≤◌, length}
use Rattle.std.proofs.lemmas.List.Edits.{sets}

-- these bytes stand at `at`, inside the lent ones; all others stay, and `next` is the position after them
pub record Put (before : List ℕ) (at : ℕ) (bytes : List ℕ) (next : ℕ) (after : List ℕ) : Type 0 where
  pub counted : next ≡ at + length bytes
  pub inside : next ≤ length before
  pub stand : after ≡ sets before at bytes
