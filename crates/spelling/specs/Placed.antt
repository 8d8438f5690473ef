-- How many places there are for a score's words.
use Rattle.std.specs.Prelude.{ℕ, ◌+◌, ◌*◌}
use Rattle.rules.specs.Design.{most_modules}
use Rattle.rules.specs.Score.{most_terms, most_nets}

-- the places: one more than there may be, of terms, of nets, and of members in each
abbrev pub term_places : ℕ
term_places = most_terms + 1

abbrev pub net_places : ℕ
net_places = (most_nets + 1) * (most_modules + 2)
