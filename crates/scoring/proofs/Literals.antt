-- The numbers that the code writes out are those of the rules: both compute to the same value. So its test of a weight is the rules'.
-- Assumes nothing.
use mathlib.Core.Path.{◌≡◌, refl}
use mathlib.Core.Bool.{true, false}
use lib.Ieee.{Float, binary64, of_bits, of_int, le}
use Rattle.rules.specs.Score.{exact, most_weight, lawful_weight}
use Rattle.rules.proofs.Floats.{zero_is}

most_weight_is : of_bits binary64 4696837146684686336 ≡ exact most_weight
unfolding of_bits of_int
most_weight_is = refl

pub weight_from_0 : (w : Float) → le (of_bits binary64 0) w ≡ true
    → le w (of_bits binary64 4696837146684686336) ≡ lawful_weight w
unfolding lawful_weight
weight_from_0 w t = rw (← zero_is, ← most_weight_is, t)

pub weight_below_0 : (w : Float) → le (of_bits binary64 0) w ≡ false → false ≡ lawful_weight w
unfolding lawful_weight
weight_below_0 w t = rw (← zero_is, t)
