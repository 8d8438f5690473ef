-- A slot of the work bytes that is written as a slice, and the corners of a node: each that has a slot is ready. Assumes nothing.
use mathlib.Core.Path.{◌≡◌, ◌∙◌}
use mathlib.Core.Logic.{◌⊎◌, inl, inr}
use mathlib.Core.List.{List}
use Prim.Native.Nat.{ℕ, suc, ◌+◌, ◌-◌, ◌≤◌, ◌<◌}
use native.Mathlib.Omega.{arith}
use borrow.Rule.Slice.PartMut.{put_mid}
use lib.ListN.{length, get_or, take, drop, length-append, length-take, length-drop}
use Rattle.std.proofs.lemmas.List.{length-take-le, get_or_append_left, get_or-append_right, get_or-take, get_or-drop}
use Rattle.rules.specs.declared.Corner.{Corner}
use Rattle.rules.specs.Chip.{corner}
use Rattle.rules.specs.Slot.{slot}
use Rattle.slots.specs.declared.Board.{Board}
use Rattle.slots.specs.Lent.{ListedOn, start_on, Lent, SlotOn}
use Rattle.slots.proofs.Lending.{on_board, addressed, slot_lent}
use Rattle.leaves.specs.Leaf.{SlotReady}

-- a slice written: as many bytes as there were, its own where it stands, and all others as they were
module _ (a k : ℕ) (xs ys : List ℕ) (h : a + k ≤ length xs) (e : length ys ≡ k) where
  put_long : length (put_mid a k xs ys) ≡ length xs
  put_long = simp (length-append, length-take, length-drop) (omega arith)

  front : length (take a xs) ≡ a
  front = length-take-le a xs (omega arith)

  put_in : (j : ℕ) → j < k → get_or (put_mid a k xs ys) (a + j) 0 ≡ get_or ys j 0
  put_in j l =
      let q : a + j - a ≡ j = omega arith in
      get_or-append_right (take a xs) _ a (a + j) 0 front (omega arith) ∙ rw q (get_or_append_left ys _ 0 j (omega arith))

  put_out : (i : ℕ) → (i < a) ⊎ (a + k ≤ i) → get_or (put_mid a k xs ys) i 0 ≡ get_or xs i 0
  put_out i (inl l) = get_or_append_left (take a xs) _ 0 i (omega (arith, front)) ∙ get_or-take a xs i 0 l
  put_out i (inr l) =
      let q : a + (k + (i - a - k)) ≡ i = omega arith in
      get_or-append_right (take a xs) _ a i 0 front (omega arith) ∙ get_or-append_right ys _ k (i - a) 0 e (omega arith)
      ∙ get_or-drop k (drop a xs) (i - a - k) 0 ∙ get_or-drop a xs (k + (i - a - k)) 0 ∙ rw q

-- the slot's slice written is the slot written
pub slot_put : (b : Board) (t : ℕ) (c : Corner) {f : ℕ → ℕ} (work slice : List ℕ) {start k : ℕ} → start ≡ start_on b t c → k ≡ b.width.0
    → start_on b t c + b.width.0 ≤ length work → length slice ≡ b.width.0 → ((j : ℕ) → j < b.width.0 → get_or slice j 0 ≡ f j)
    → SlotOn b t c f work (put_mid start k work slice)
unfolding slot
slot_put b t c work slice es ek h e is = rw (es, ek) (record {
  long = put_long (start_on b t c) b.width.0 work slice h e;
  inside = λ j l. put_in (start_on b t c) b.width.0 work slice h e j l ∙ is j l;
  outside = λ i o. put_out (start_on b t c) b.width.0 work slice h e i o;
})

-- each corner that has a slot is ready
pub corner_ready : {b : Board} {t : ℕ} {work : List ℕ} (x y : ℕ) → x < b.width.0 → y < b.listed.0 → Lent b (suc t) work
    → SlotReady b t (corner x y) work
corner_ready {b} {t} x y hx hy lent =
    let on : ListedOn b (corner x y) = record { column = hx; row = hy } in
    record { corner = on_board lent on; address = addressed lent t (omega arith) on; slot = slot_lent lent t (omega arith) on }
