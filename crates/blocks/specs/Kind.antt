-- The kinds of columns, by their numbers.
use Rattle.std.specs.Prelude.{ℕ, zero, suc}
use Rattle.blocks.specs.declared.kind.Kind.{Kind}
use Rattle.blocks.specs.declared.kind.Kind.TheVariants.{Clb, Ram, Multiplier}

-- rule 2 of docs/RULES.md: 0 CLB, 1 RAM, 2 multiplier
abbrev pub kind_of : ℕ → Kind
kind_of zero = Clb
kind_of (suc zero) = Ram
kind_of (suc (suc n)) = Multiplier
