-- How bytes are written: a run of them, a slot, and all slots of a node. R rows have slots.
use Rattle.std.specs.Prelude.{◌≡◌, ◌⊎◌, Bool, List, ℕ, zero, suc, ◌+◌, ◌≤◌, ◌<◌, length, get_or, set}
use Rattle.std.proofs.Math.Bool.{So}
use Rattle.rules.specs.declared.Corner.{Corner}
use Rattle.rules.specs.Slot.{slot_start, work_needed, slot, CornerOn}

-- the n bytes from a on become f 0, f 1, ..; all others stay
unfoldable pub over : List ℕ → ℕ → ℕ → (ℕ → ℕ) → List ℕ
over w a zero f = w
over w a (suc n) f = set (over w a n f) (a + n) (f n)

-- no shape: what a slot is cleared to
abbrev pub none : ℕ → ℕ
none j = 0

-- `after` is `before` with that run written: what a loop that stores one byte after the other has done
pub record Filled (before : List ℕ) (a n : ℕ) (f : ℕ → ℕ) (after : List ℕ) : Type 0 where
  pub is : after ≡ over before a n f

-- the slot of node t at a corner becomes f, and all other bytes stay
pub record SlotIs (W R t : ℕ) (c : Corner) (f : ℕ → ℕ) (before after : List ℕ) : Type 0 where
  pub long : length after ≡ length before
  pub inside : (j : ℕ) → j < W → slot W R after t c j ≡ f j
  pub outside : (i : ℕ) → (i < slot_start W R t c) ⊎ (slot_start W R t c + W ≤ i) → get_or after i 0 ≡ get_or before i 0

-- the slots of node t at those corners that are done become f, and all other bytes stay: what a loop over corners has done
pub record PartIs (W R t : ℕ) (f : Corner → ℕ → ℕ) (done : Corner → Bool) (before after : List ℕ) : Type 0 where
  pub long : length after ≡ length before
  pub inside : (c : Corner) → CornerOn W R c → So (done c) → (j : ℕ) → j < W → slot W R after t c j ≡ f c j
  pub outside : (i : ℕ)
      → ((c : Corner) → CornerOn W R c → So (done c) → (j : ℕ) → j < W → slot_start W R t c + j ≡ i → ⊥)
      → get_or after i 0 ≡ get_or before i 0

-- all slots of node t become f, and all other bytes stay
pub record NodeIs (W R t : ℕ) (f : Corner → ℕ → ℕ) (before after : List ℕ) : Type 0 where
  pub long : length after ≡ length before
  pub inside : (c : Corner) → CornerOn W R c → (j : ℕ) → j < W → slot W R after t c j ≡ f c j
  pub outside : (i : ℕ) → (i < work_needed W R t) ⊎ (work_needed W R (suc t) ≤ i) → get_or after i 0 ≡ get_or before i 0
