-- What the checker has passed can be drawn: the design is lawful, and there is a row for each module. Assumes nothing.
use Rattle.std.specs.Prelude.{Ok}
use mathlib.Core.Path.{◌≡◌, sym, ◌∙◌}
use mathlib.Core.List.{List}
use Prim.Native.Nat.{ℕ}
use Rattle.rules.specs.declared.Design.{Design}
use Rattle.rules.specs.Answers.{Reply}
use Rattle.rules.specs.Check.{verdict}
use Rattle.rules.specs.Service.{Checks}
use Rattle.rules.proofs.Limits.{limits}
use Rattle.rules.proofs.Checking.{passed_is_lawful, passes_iff}
use Rattle.blocks.specs.Drawable.{Drawable}

pub drawable : (d : Design) (rows : List ℕ) {r : Reply} → Checks d rows r → r ≡ (Ok tt) → Drawable d rows
drawable d rows c e =
    let v : verdict d rows ≡ (Ok tt) = sym c.judged ∙ e in let l = passed_is_lawful d rows v in let m = limits d l in record {
      lawful = l;
      chip = record { width = m.chip.width; height = m.chip.height; some_rows = m.chip.some_rows; block = m.chip.block };
      modules = m.modules;
      places = ((passes_iff d l rows).0 v).0;
    }
