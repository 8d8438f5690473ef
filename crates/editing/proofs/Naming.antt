-- The test of an edit, case by case: what it asks of a changed module and of a turned cut, and what it then gives. Assumes nothing.
use mathlib.Core.Path.{◌≡◌, refl, sym, ◌∙◌}
use mathlib.Core.Bool.{So, ◌&&◌}
use Prim.Native.Nat.{ℕ, ◌<◌}
use native.Mathlib.Omega.{arith}
use lib.Dec.{ltb}
use Rattle.rules.specs.declared.Direction.{Direction}
use Rattle.rules.specs.declared.Token.TheVariants.{Cut}
use Rattle.rules.specs.declared.Need.{Need}
use Rattle.rules.specs.declared.Design.{Design}
use Rattle.rules.specs.declared.Edit.{Edit}
use Rattle.rules.specs.declared.Edit.TheVariants.{Change, Turn}
use Rattle.rules.specs.Design.{most_modules, most_tokens, token_at, nodes, lawful_need, LawfulDesign}
use Rattle.rules.specs.Tree.{is_cut}
use Rattle.rules.specs.Edit.{names_place}
use Rattle.rules.proofs.Searching.{test-iffs}
use Rattle.rules.proofs.Tokens.{cut_iff}
use Rattle.rules.proofs.Limits.{limits}

module _ (d : Design) {e : Edit} where
  pub change_is : {k : ℕ} {n : Need} → e ≡ Change k n → names_place d e ≡ (ltb k d.modules && lawful_need n)
  unfolding names_place
  change_is q = rw (q, names_place) refl

  pub turn_is : {t : ℕ} → e ≡ Turn t → names_place d e ≡ (ltb t (nodes d) && is_cut (token_at d t))
  unfolding names_place
  turn_is q = rw (q, names_place) refl

  -- an edit that names a place names one of the design's modules or cuts
  module _ (lawful : LawfulDesign d) (names : So (names_place d e)) where
    pub changed_module : {k : ℕ} {n : Need} → e ≡ Change k n → (k < most_modules) × (k < d.modules)
    changed_module q = let h = simp test-iffs at (sym (change_is q) ∙ names) in let l = limits d lawful in (omega arith, h.0)

    pub turned_cut : {t : ℕ} → e ≡ Turn t → (t < most_tokens) × ((c : Direction) × (token_at d t ≡ Cut c))
    turned_cut q =
        let h = simp test-iffs at (sym (turn_is q) ∙ names) in let l = limits d lawful in (omega arith, (cut_iff _).0 h.1)
