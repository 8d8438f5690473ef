-- What keeps places on the sheet small enough to count with.
use Rattle.std.specs.Prelude.{◌≤◌}
use Rattle.rendering.specs.declared.places.Area.{Area}

pub record OnSheet (a : Area) : Type 0 where
  pub x : a.x ≤ 8200
  pub y : a.y ≤ 8200
  pub w : a.w ≤ 8200
  pub h : a.h ≤ 8200
