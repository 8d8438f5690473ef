-- A design that was read is lawful. Assumes nothing.
use Rattle.std.specs.Prelude.{Ok}
use mathlib.Core.Path.{◌≡◌, refl}
use mathlib.Core.List.{List}
use Prim.Native.Nat.{ℕ}
use native.Mathlib.Omega.{arith}
use Rattle.rules.specs.declared.Design.{Design}
use Rattle.rules.specs.declared.Handed.{Handed}
use Rattle.rules.specs.Design.{LawfulDesign}
use Rattle.rules.specs.Bytes.{Took, took, refuse, design_at}
use Rattle.rules.specs.Service.{handed, Reads}
use Rattle.rules.proofs.Reading.{read_lawful}

pub lawful_read : (s : List ℕ) {h : Handed} → Reads s h → h.reply ≡ (Ok tt) → LawfulDesign h.design
lawful_read s {h} e d = go (design_at s) refl e
  where
    go : (t : Took Design) → design_at s ≡ t → h ≡ handed t → LawfulDesign h.design
    go (took a n) q p = rw p (read_lawful s a n q).0
    go (refuse x) q p = let z : ◌≡◌ {A = ℕ} 0 1 = cc in absurd (omega arith)
