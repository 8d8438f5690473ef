-- The tests of lent bytes that the services share.
use Rattle.std.specs.Prelude.{Bool, ◌&&◌, List, ℕ, leb, length}
use Rattle.rules.specs.declared.Design.{Design}
use Rattle.rules.specs.Service.{work_of, rows_of}

-- the lent bytes are enough for a design's lists and for its rows
abbrev pub enough_lent : Design → List ℕ → List ℕ → Bool
enough_lent d work rows = leb (work_of d) (length work) && leb (rows_of d) (length rows)
