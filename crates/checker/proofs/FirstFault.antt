-- A loop that looks for the first number that passes a test: what is left to look at gives the same answer as the whole.
-- The checker's loops look for the first module at fault and the first cut that is not kept. Assumes nothing.
use Rattle.std.specs.Prelude.{Ok, Err}
use mathlib.Core.Path.{◌≡◌, refl, sym, ap}
use mathlib.Core.Bool.{Bool, true, false, not, ◌&&◌}
use Prim.Native.Nat.{ℕ, suc, ◌+◌, ◌-◌, ◌≤◌, ◌<◌}
use native.Mathlib.Omega.{arith}
use native.Mathlib.Numerals.{add-one}
use native.Mathlib.Nat.{sub-zero}
use borrow.Author.Tests.{lt-ltb, le-ltb}
use Rattle.rules.specs.declared.Design.{Design}
use Rattle.rules.specs.declared.Refusal.{Refusal}
use Rattle.rules.specs.declared.Refusal.TheVariants.{CutNotKept}
use Rattle.rules.specs.Search.{least}
use Rattle.rules.specs.Placement.{Placement}
use Rattle.rules.specs.Design.{nodes, node_at}
use Rattle.rules.specs.Check.{kept_at, is_on, is_suited, judged_cuts, judged_rows}
use Rattle.checker.specs.Modules.{module_reply, judged_module}

-- the numbers below i have been looked at, of n, and none passes
pub record Searched (f : ℕ → Bool) (n i : ℕ) : Type 0 where
  pub within : i ≤ n
  pub left : least f (n - i) i ≡ least f n 0

module _ {f : ℕ → Bool} {n : ℕ} where
  pub none_searched : Searched f n 0
  none_searched = record { within = omega arith; left = rw sub-zero }

  pub one_searched : {i : ℕ} → i < n → f i ≡ false → Searched f n i → Searched f n (i + 1)
  unfolding least
  one_searched {i} h e s =
      let k : n - i ≡ suc (n - suc i) = omega arith in
      rw add-one (record { within = h; left = rw (k, least, e) at s.left })

  pub found : {i : ℕ} → i < n → f i ≡ true → Searched f n i → least f n 0 ≡ i
  unfolding least
  found {i} h e s = let k : n - i ≡ suc (n - suc i) = omega arith in sym (rw (k, least, e) at s.left)

  pub none_found : {i : ℕ} → n ≤ i → Searched f n i → least f n 0 ≡ n
  unfolding least
  none_found {i} h s = let w = s.within in let k : n - i ≡ 0 = omega arith in let q : i ≡ n = omega arith in sym (rw (k, q) at s.left)

-- module k is at fault; the cut at node t is not kept
unfoldable pub at_fault : Design → Placement → ℕ → Bool
at_fault d p k = not (is_on d (p k) && is_suited d k (p k))

unfoldable pub not_kept : Design → Placement → ℕ → Bool
not_kept d p t = not (kept_at d.modules p (node_at d t))

module _ (d : Design) (p : Placement) where
  pub module_fine : {k : ℕ} → k < d.modules → judged_module d p k ≡ (Ok tt) → Searched (at_fault d p) d.modules k
      → Searched (at_fault d p) d.modules (k + 1)
  unfolding at_fault judged_module
  module_fine {k} h q s = one_searched h (go (is_on d (p k)) (is_suited d k (p k)) q) s
    where
      go : (a b : Bool) → module_reply k a b ≡ (Ok tt) → not (a && b) ≡ false
      go true true q = refl
      go true false q = let z : ◌≡◌ {A = ℕ} 0 1 = cc in absurd (omega arith)
      go false b q = let z : ◌≡◌ {A = ℕ} 0 1 = cc in absurd (omega arith)

  pub module_refused : {k : ℕ} {e : Refusal} → k < d.modules → judged_module d p k ≡ Err e → Searched (at_fault d p) d.modules k
      → judged_rows d p ≡ Err e
  unfolding at_fault judged_rows judged_module
  module_refused {k} {e} h q s = go (is_on d (p k)) (is_suited d k (p k)) refl refl q
    where
      go : (a b : Bool) → is_on d (p k) ≡ a → is_suited d k (p k) ≡ b → module_reply k a b ≡ Err e → judged_rows d p ≡ Err e
      go true true x y q = let z : ◌≡◌ {A = ℕ} 0 1 = cc in absurd (omega arith)
      go true false x y q = let w = found h (rw (x, y)) s in rw (judged_rows, w, lt-ltb k d.modules h, w, x, w) q
      go false b x y q = let w = found h (rw x) s in rw (judged_rows, w, lt-ltb k d.modules h, w, x, w) q

  pub modules_fine : {k : ℕ} → d.modules ≤ k → Searched (at_fault d p) d.modules k → judged_rows d p ≡ judged_cuts d p
  unfolding at_fault judged_rows
  modules_fine h s = rw (judged_rows, none_found h s, le-ltb d.modules d.modules (omega arith))

  pub cut_kept : {t : ℕ} → t < nodes d → kept_at d.modules p (node_at d t) ≡ true → Searched (not_kept d p) (nodes d) t
      → Searched (not_kept d p) (nodes d) (t + 1)
  unfolding not_kept
  cut_kept h q s = one_searched h (ap not q) s

  pub cut_refused : {t : ℕ} → t < nodes d → kept_at d.modules p (node_at d t) ≡ false → Searched (not_kept d p) (nodes d) t
      → judged_cuts d p ≡ Err (CutNotKept t)
  unfolding not_kept judged_cuts
  cut_refused {t} h q s = let w = found h (ap not q) s in rw (judged_cuts, w, lt-ltb t (nodes d) h, w)

  pub cuts_kept : {t : ℕ} → nodes d ≤ t → Searched (not_kept d p) (nodes d) t → judged_cuts d p ≡ (Ok tt)
  unfolding not_kept judged_cuts
  cuts_kept h s = rw (judged_cuts, none_found h s, le-ltb (nodes d) (nodes d) (omega arith))
