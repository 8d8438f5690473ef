-- `describing::amounts::product` meets its contract: factors that are small enough have a small product. Assumes nothing.
use mathlib.Core.Path.{refl}
use Prim.Native.Nat.{ℕ, ◌*◌, ◌≤◌, ◌<◌}
use native.Mathlib.Omega.{arith}
use native.Mathlib.Nat.{mul-le-mul_left}
use Rattle.describing.proofs.amounts.product.Goals as goal

small : (a b : ℕ) → a < 256 → b < 262144 → a * b ≤ 67108864
small a b p q = let h : b ≤ 262144 = omega arith in let m = mul-le-mul_left a h in omega arith

pub overflow_mul-result : goal.overflow_mul-result
overflow_mul-result c = let s = small _ _ c.requires.0 c.requires.1 in omega arith

pub returns : goal.returns
returns c = let s = small _ _ c.requires.0 c.requires.1 in (refl, omega arith)
