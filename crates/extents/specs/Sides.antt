-- Extents by their sides.
use Rattle.std.specs.Prelude.{ℕ, min, max}
use Rattle.rules.specs.declared.Rectangle.{Rectangle}
use Rattle.rules.specs.Chip.{corner, left, right, bottom, top}
use Rattle.extents.specs.declared.Extent.{Extent}

-- an extent by its four sides; a rectangle's; that of two things together
abbrev pub extent : ℕ → ℕ → ℕ → ℕ → Extent
extent a c b d = record { low = corner a c; far = corner b d }

abbrev pub extent_of : Rectangle → Extent
extent_of r = extent (left r) (bottom r) (right r) (top r)

abbrev pub together : Extent → Extent → Extent
together l r =
    extent (min l.low.x.0 r.low.x.0) (min l.low.y.0 r.low.y.0)
    (max l.far.x.0 r.far.x.0) (max l.far.y.0 r.far.y.0)
