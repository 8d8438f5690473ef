-- What a row can hold.
use Rattle.std.specs.Prelude.{◌<◌}
use Rattle.rules.specs.declared.Rectangle.{Rectangle}

-- a rectangle from four bytes
pub record Bytes (r : Rectangle) : Type 0 where
  pub x : r.corner.x.0 < 256
  pub y : r.corner.y.0 < 256
  pub w : r.shape.w.0 < 256
  pub h : r.shape.h.0 < 256
