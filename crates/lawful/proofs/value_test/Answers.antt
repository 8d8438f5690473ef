-- The limits first, then the tree rules, as 01 says. That the design has its places is what owning its arrays tells. Assumes nothing.
use mathlib.Core.Path.{◌≡◌, sym, ◌∙◌}
use mathlib.Core.List.{List, map}
use Prim.Native.Nat.{ℕ}
use native.Mathlib.Omega.{arith}
use lib.ListN.{length, length-map}
use borrow.Author.Rules.{rules}
use Rattle.rules.specs.Design.{value_test}
use Rattle.lawful.proofs.value_test.Goals as goal

-- an array of needs is as long as what stands for it in memory
length-mapped : {A B : Type 0} (f : A → B) (l : List A) (n : ℕ) → length (map f l) ≡ n → length l ≡ n
length-mapped f l n h = sym (length-map l f) ∙ h

pub returns-then-not-within_limits : goal.returns-then-not-within_limits
unfolding value_test
returns-then-not-within_limits c = record { is = grind arith; sized = search (rules, length-mapped) }

pub returns : goal.returns
unfolding value_test
returns c = record { is = grind arith; sized = search (rules, length-mapped) }
