-- What the tests of a design handed over as a value tell: 01's reply, and that the design has its places.
use Rattle.std.specs.Prelude.{◌≡◌}
use Rattle.rules.specs.declared.Design.{Design}
use Rattle.rules.specs.Answers.{Reply}
use Rattle.rules.specs.Design.{Sized, value_test}

pub record Tested (d : Design) (r : Reply) : Type 0 where
  pub is : r ≡ value_test d
  pub sized : Sized d
