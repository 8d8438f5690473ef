-- Bytes put behind bytes: putting one part and then another at the position after it is putting both. Assumes nothing.
use mathlib.Core.Path.{◌≡◌, refl, ◌∙◌, ap}
use mathlib.Core.List.{List, [], ◌∷◌, ◌++◌}
use Prim.Native.Nat.{ℕ, suc, ◌+◌, ◌≤◌}
use native.Mathlib.Omega.{arith}
use native.Mathlib.Nat.{zero-add, add-zero}
use lib.ListN.{length, set, drop, length-append}
use lib.Seq.{sets, length-sets, sets-eq}
use Rattle.putting.specs.Put.{Put}

sets_append : (a b l : List ℕ) (i : ℕ) → sets (sets l i a) (i + length a) b ≡ sets l i (a ++ b)
sets_append [] b l i = rw add-zero
sets_append (x ∷ a) b l i =
    let e : i + suc (length a) ≡ suc i + length a = omega arith in rw e (sets_append a b (set l i x) (suc i))

module _ {before after : List ℕ} {at next : ℕ} {bytes : List ℕ} (p : Put before at bytes next after) where
  -- the lent bytes keep their number, and the position after what was put is inside them
  pub same_long : length after ≡ length before
  same_long = ap length p.stand ∙ length-sets before at bytes

  pub ends_inside : next ≤ length after
  ends_inside = let e = same_long in let i = p.inside in omega arith

-- nothing put, some bytes stored, and one part put behind another
pub none_put : {before : List ℕ} {at : ℕ} → at ≤ length before → Put before at [] at before
none_put h = record { counted = omega arith; inside = h; stand = refl }

pub stored : (bytes : List ℕ) {before : List ℕ} {at : ℕ} → at + length bytes ≤ length before
    → Put before at bytes (at + length bytes) (sets before at bytes)
stored bytes h = record { counted = refl; inside = h; stand = refl }

pub both_put : {u v w : List ℕ} {at n m : ℕ} {a b : List ℕ} → Put u at a n v → Put v n b m w → Put u at (a ++ b) m w
both_put {u} {v} {w} {at} {n} {m} {a} {b} p q = record {
  counted = let e = p.counted in let f = q.counted in rw length-append (omega arith);
  inside = let e = same_long p in let f = q.inside in omega arith;
  stand = q.stand ∙ rw (p.stand, p.counted) (sets_append a b u at);
}

-- bytes put in front: they come first, and what stood past them stays
pub put_in_front : {u v : List ℕ} {n : ℕ} {b : List ℕ} → Put u 0 b n v → v ≡ b ++ drop (length b) u
put_in_front {u} {v} {n} {b} p =
    let c = p.counted in let i = p.inside in p.stand ∙ (rw zero-add at (sets-eq b u 0 (omega arith)))
