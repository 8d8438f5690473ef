-- `checker::judge_module` meets its contract: the tests of the rectangle that was read are the tests of the module.
-- Assumes nothing.
use Rattle.std.specs.Prelude.{Err}
use mathlib.Core.Path.{◌≡◌, sym, ◌∙◌}
use mathlib.Core.Bool.{Bool, true, false}
use Prim.Native.Nat.{ℕ}
use native.Mathlib.Omega.{arith}
use Rattle.rules.specs.declared.Refusal.TheVariants.{OffTheChip}
use Rattle.rules.specs.declared.Rectangle.{Rectangle}
use Rattle.rules.specs.declared.Design.{Design}
use Rattle.rules.specs.Placement.{Placement}
use Rattle.rules.specs.Check.{is_on, is_suited}
use Rattle.rules.proofs.Limits.{limits}
use Rattle.rules.proofs.Checking.{on_chip_iff}
use Rattle.checker.specs.Modules.{module_reply, judged_module}
use Rattle.checker.proofs.judge_module.Goals as goal

-- the reply by the tests of the rectangle that was read
module _ (d : Design) (p : Placement) (k : ℕ) {r : Rectangle} (e : r ≡ p k) {on : Bool} (q : on ≡ is_on d r) where
  off : on ≡ false → Err (OffTheChip k) ≡ judged_module d p k
  unfolding judged_module
  off a = let x : is_on d (p k) ≡ false = rw (← e, ← q) a in rw x

  ruled : {suited b : Bool} → on ≡ true → suited ≡ is_suited d k r → suited ≡ b → module_reply k true b ≡ judged_module d p k
  unfolding judged_module
  ruled {b = b} a s t =
      let x : is_on d (p k) ≡ true = rw (← e, ← q) a in
      let y : is_suited d k (p k) ≡ b = rw (← e, ← s) t in rw (x, y)

pub rectangle_at-r-requires : goal.rectangle_at-r-requires
rectangle_at-r-requires c = omega (arith, limits _ c.requires.0)

pub returns-then-not-is_on_chip : goal.returns-then-not-is_on_chip
returns-then-not-is_on_chip c = off _ _ _ c.rectangle_at-r.ensures.0 c.is_on_chip.ensures c.if-not-is_on_chip.true

pub suits-requires : goal.suits-requires
suits-requires c =
    let p = c.requires in
    let on = sym c.is_on_chip.ensures ∙ c.if-not-is_on_chip.false in (p.0, p.1, (on_chip_iff _ _ _).0 on)

pub returns-then-not-suits : goal.returns-then-not-suits
returns-then-not-suits c =
    let on = c in let o = on.if-not-is_on_chip.false in let q = on.is_on_chip.ensures in
    let e = on.rectangle_at-r.ensures.0 in
    ruled _ _ _ e q o c.suits.ensures c.if-not-suits.true

pub returns : goal.returns
returns c =
    let on = c in let o = on.if-not-is_on_chip.false in let q = on.is_on_chip.ensures in
    let e = on.rectangle_at-r.ensures.0 in
    ruled _ _ _ e q o c.suits.ensures c.if-not-suits.false
