-- Slots at corners: a child's slots stand in the bytes before its cut's. Assumes nothing.
use mathlib.Core.Path.{◌≡◌, ◌∙◌}
use mathlib.Core.List.{List}
use Prim.Native.Nat.{ℕ, suc, ◌+◌, ◌-◌, ◌≤◌, ◌<◌}
use native.Mathlib.Omega.{arith}
use lib.ListN.{length, take}
use Rattle.rules.specs.declared.Corner.{Corner}
use Rattle.rules.specs.Chip.{corner}
use Rattle.slots.specs.declared.Board.{Board}
use Rattle.slots.specs.Lent.{OnBoard, slots_on, Lent, SlotPart}
use Rattle.slots.proofs.Lending.{fewer_lent}
use Rattle.cuts.specs.declared.Cut.{Cut}
use Rattle.scans.specs.Run.{bytes, UpToLast, stop_at, FirstAfter, Falls, BesideKept, AboveKept}
use Rattle.scans.specs.Scan.{Reads, ScannedBeside, ScannedAbove}
use Rattle.scans.proofs.Runs.{up_same, stop_same, first_same, up_taken, stop_taken}
use Rattle.scans.proofs.Beside.{beside_same}
use Rattle.scans.proofs.Above.{above_same}

-- what the loops find there they find in the child's slot
module _ {B : Board} {child n : ℕ} {c : Corner} {children part : List ℕ} (p : SlotPart B child c n children part) where
  pub part_up : {r : ℕ} → UpToLast (bytes part) (length part) r → UpToLast (slots_on B children child c) n r
  part_up u = up_same p.at (rw p.long at u)

  pub part_first : {a r : ℕ} → FirstAfter (bytes part) a (length part) r → FirstAfter (slots_on B children child c) a n r
  part_first u = first_same p.at (rw p.long at u)

  module _ (m : ℕ) (h : m ≤ n) where
    pub taken_up : {r : ℕ} → UpToLast (bytes (take m part)) (length (take m part)) r → UpToLast (slots_on B children child c) m r
    taken_up u = up_same (λ k q. p.at k (omega arith)) (up_taken part (omega (arith, p.long)) u)

    pub taken_stop : stop_at (bytes (take m part)) (length (take m part)) ≡ stop_at (slots_on B children child c) m
    taken_stop = stop_taken part (omega (arith, p.long)) ∙ stop_same (λ k q. p.at k (omega arith))

module _ {B : Board} {t child : ℕ} {c : Corner} {children : List ℕ} (r : Reads B t child c children) where
  -- the child's slots are among these bytes
  pub child_lent : Lent B (suc child) children
  child_lent = fewer_lent r.lent (suc child) r.before

  -- and fall
  pub child_falls : {c' : Corner} {n : ℕ} {part : List ℕ} → OnBoard B c' → SlotPart B child c' n children part → n ≤ B.width.0 → Falls (bytes part) (length part)
  child_falls on p h i j k q u v = let l = p.long in let a = p.at i (omega arith) in let b = p.at j (omega arith) in
      omega (arith, (r.stairs _ on).fall i j k (omega arith) (omega arith) (omega arith))

-- what is kept at the corner beside a left shape
pub kept_in_slot : {cut : Cut} {c : Corner} {wide last height stop r : ℕ} {children part before after : List ℕ} (k : ℕ) → c.x.0 + wide < cut.board.width.0
    → SlotPart cut.board cut.right (corner (c.x.0 + wide) c.y.0) (last - 1 - wide) children part
    → wide < r → k ≡ r - 1 - wide → BesideKept (bytes part) (length part) height stop wide before after k → ScannedBeside cut c wide height stop last children before after r
kept_in_slot k inside p w e z = record { off = λ h. absurd (omega arith); on = λ _. (w, beside_same p.at (rw (p.long, e) at z)) }

-- and at the corner above one
pub kept_up_slot : {cut : Cut} {c : Corner} {i next height low r : ℕ} {children part before after : List ℕ} → i < next → c.y.0 + height < cut.board.height.0
    → SlotPart cut.board cut.right (corner c.x.0 (c.y.0 + height)) next children part
    → AboveKept (bytes part) i (length part) height low before after r → ScannedAbove cut c i next height low children before after r
kept_up_slot w inside p z = record { off = λ h. absurd (omega arith); on = λ _. above_same w p.at (rw p.long at z) }
