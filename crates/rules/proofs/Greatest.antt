-- The greatest and the least of some numbers: each is among them, and lies within any bounds that they have. So a box round all of a lawful
-- design's rectangles, over the tree, is the box over its modules. Assumes nothing.
use mathlib.Core.Path.{◌≡◌}
use Prim.Native.Nat.{ℕ, zero, suc, ◌-◌, ◌≤◌, min, max}
use native.Mathlib.Omega.{arith}
use native.Mathlib.Nat.{le_refl, le_antisymm, max-le}
use native.Mathlib.Decide.{ℕ_discrete}
use Rattle.rules.specs.declared.Rectangle.{Rectangle}
use Rattle.rules.specs.declared.Design.{Design}
use Rattle.rules.specs.Placement.{Placement, furthest}
use Rattle.rules.specs.Design.{root, LawfulDesign}
use Rattle.rules.specs.Score.{greatest_to, least_to}
use Rattle.rules.proofs.Placing.{furthest_within, furthest_reaches}
use Rattle.rules.proofs.Nodes.{lawful_tree, modules_within}

-- within bounds
pub greatest_most : (n : ℕ) (g : ℕ → ℕ) (b : ℕ) → ((i : ℕ) → i ≤ n → g i ≤ b) → greatest_to n g ≤ b
unfolding greatest_to
greatest_most zero g b h = h 0 (le_refl 0)
greatest_most (suc n) g b h = max-le (greatest_most n g b (λ i k. h i (omega arith))) (h (suc n) (le_refl (suc n)))

pub least_most : (n : ℕ) (g : ℕ → ℕ) (b : ℕ) → ((i : ℕ) → i ≤ n → b ≤ g i) → b ≤ least_to n g
unfolding least_to
least_most zero g b h = h 0 (le_refl 0)
least_most (suc n) g b h =
    let a = least_most n g b (λ i k. h i (omega arith)) in let c = h (suc n) (le_refl (suc n)) in omega arith

-- among them
pub greatest_in : (n : ℕ) (g : ℕ → ℕ) (i : ℕ) → i ≤ n → g i ≤ greatest_to n g
unfolding greatest_to
greatest_in zero g i h = let e : i ≡ 0 = omega arith in rw e (le_refl (g 0))
greatest_in (suc n) g i h = go (ℕ_discrete i (suc n)) (greatest_in n g i)
  where
    go : Dec (i ≡ suc n) → (i ≤ n → g i ≤ greatest_to n g) → g i ≤ max (greatest_to n g) (g (suc n))
    go (yes e) ih = rw e (omega arith)
    go (no e) ih = let k = ih (omega arith) in omega arith

pub least_in : (n : ℕ) (g : ℕ → ℕ) (i : ℕ) → i ≤ n → least_to n g ≤ g i
unfolding least_to
least_in zero g i h = let e : i ≡ 0 = omega arith in rw e (le_refl (g 0))
least_in (suc n) g i h = go (ℕ_discrete i (suc n)) (least_in n g i)
  where
    go : Dec (i ≡ suc n) → (i ≤ n → least_to n g ≤ g i) → min (least_to n g) (g (suc n)) ≤ g i
    go (yes e) ih = rw e (omega arith)
    go (no e) ih = let k = ih (omega arith) in omega arith

-- the furthest side over a lawful design's tree is the greatest over its modules
pub furthest_is : (d : Design) → LawfulDesign d → (side : Rectangle → ℕ) (p : Placement)
    → furthest side (root d) p ≡ greatest_to (d.modules - 1) (λ k. side (p k))
furthest_is d l side p =
    let t = lawful_tree d l in let m = modules_within d t.limits in let last = d.modules - 1 in
    le_antisymm
    (furthest_within side (root d) p _ (λ k i. let h = (t.modules k).0 i in greatest_in last (λ j. side (p j)) k (omega arith)))
    (greatest_most last (λ j. side (p j)) _ (λ k h. furthest_reaches side (root d) p k ((t.modules k).1 (omega arith))))
