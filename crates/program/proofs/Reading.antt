-- What was read has no more modules than there can be. Assumes nothing.
use mathlib.Core.Path.{◌≡◌, refl}
use mathlib.Core.List.{List}
use Prim.Native.Nat.{ℕ, ◌≤◌}
use native.Mathlib.Omega.{arith}
use Rattle.rules.specs.declared.Design.{Design}
use Rattle.rules.specs.declared.Handed.{Handed}
use Rattle.rules.specs.Design.{most_modules}
use Rattle.rules.specs.Bytes.{Took, took, refuse, design_at}
use Rattle.rules.specs.Service.{Reads, handed, zeros}
use Rattle.rules.proofs.Limits.{limits}
use Rattle.rules.proofs.Reading.{read_lawful}

-- a lawful design by its limits, and the zeros of a refused reading
pub few_read : (s : List ℕ) {h : Handed} → Reads s h → h.design.modules ≤ most_modules
unfolding zeros
few_read s {h} e = rw e (go (design_at s) refl)
  where
    go : (t : Took Design) → design_at s ≡ t → (handed t).design.modules ≤ most_modules
    go (took d n) q = (limits d (read_lawful s d n q).0).modules
    go (refuse e) q = omega arith
