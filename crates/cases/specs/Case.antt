-- The first of the cases in some bytes, and the bytes after it.
use Rattle.std.specs.Prelude.{ℕ, ◌+◌, ◌*◌, List, ◌∷◌, take, drop, Option, Some, None}

-- Two bytes have its length, the low one first. Its bytes follow: so many, or all that are left.
abbrev pub first_case : List ℕ → Option (List ℕ × List ℕ)
first_case (low ∷ high ∷ rest) = Some (take (low + 256 * high) rest, drop (low + 256 * high) rest)
first_case _ = None
