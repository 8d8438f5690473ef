-- A node's slots written one after the other: bytes of different slots stand apart, so each slot keeps what was put there.
-- Assumes nothing.
use mathlib.Core.Path.{◌≡◌, refl, ◌∙◌}
use mathlib.Core.Logic.{◌⊎◌, inl, inr, ⊎_elim}
use mathlib.Core.Bool.{Bool, false, So}
use mathlib.Core.List.{List}
use Prim.Native.Nat.{ℕ, suc, ◌+◌, ◌-◌, ◌*◌, ◌≤◌, ◌<◌}
use native.Mathlib.Omega.{arith}
use native.Mathlib.Nat.{le_refl, mul-le-mul_right}
use native.Mathlib.Decide.{dec_le, dec_lt, ℕ_discrete}
use lib.ListN.{get_or}
use Rattle.rules.specs.declared.Corner.{Corner}
use Rattle.rules.specs.Slot.{slot, slot_start, work_needed, CornerOn}
use Rattle.rules.proofs.Searching.{absurd_so, know}
use Rattle.rules.proofs.Working.{slots_apart, slot_within, work_rises}
use Rattle.slots.specs.Written.{SlotIs, PartIs, NodeIs}

-- the same corner
pub record SameCorner (c c' : Corner) : Type 0 where
  pub column : c.x.0 ≡ c'.x.0
  pub row : c.y.0 ≡ c'.y.0

pub same_corner : {c c' : Corner} → SameCorner c c' → c ≡ c'
same_corner e = λ i. record { x = record { 0 = e.column i }; y = record { 0 = e.row i } }

pub corner_or_not : (c c' : Corner) → SameCorner c c' ⊎ (SameCorner c c' → ⊥)
corner_or_not c c' = go (ℕ_discrete c.x.0 c'.x.0) (ℕ_discrete c.y.0 c'.y.0)
  where
    go : Dec (c.x.0 ≡ c'.x.0) → Dec (c.y.0 ≡ c'.y.0) → SameCorner c c' ⊎ (SameCorner c c' → ⊥)
    go (yes p) (yes q) = inl (record { column = p; row = q })
    go (no p) q = inr (λ e. p e.column)
    go (yes p) (no q) = inr (λ e. q e.row)

-- a byte of the slot, or not
in_slot_or_not : (a W i : ℕ) → ((j : ℕ) × (j < W) × (a + j ≡ i)) ⊎ ((i < a) ⊎ (a + W ≤ i))
in_slot_or_not a W i = go (dec_le a i) (dec_lt i (a + W))
  where
    go : Dec (a ≤ i) → Dec (i < a + W) → ((j : ℕ) × (j < W) × (a + j ≡ i)) ⊎ ((i < a) ⊎ (a + W ≤ i))
    go (no p) q = inr (inl (omega arith))
    go (yes p) (no q) = inr (inr (omega arith))
    go (yes p) (yes q) = inl (i - a, omega arith, omega arith)

-- the slot of another node, or at another corner, keeps its bytes
pub other_slot : (W R t t' : ℕ) (c c' : Corner) (f : ℕ → ℕ) (before after : List ℕ) → SlotIs W R t c f before after
    → CornerOn W R c → CornerOn W R c' → ((t ≡ t') × SameCorner c c' → ⊥) → (j : ℕ) → j < W → slot W R after t' c' j ≡ slot W R before t' c' j
unfolding slot
other_slot W R t t' c c' f before after z on on' o j h = ⊎_elim
    (λ (k, l, e). let (a, x, y, _) = slots_apart W R t t' k j c c' on on' l h e in absurd (o (a, record { column = x; row = y })))
    (z.outside (slot_start W R t' c' + j)) (in_slot_or_not (slot_start W R t c) W (slot_start W R t' c' + j))

-- the addresses of a node's bytes
pub node_from : (W R t j : ℕ) (c : Corner) → work_needed W R t ≤ slot_start W R t c + j
node_from W R t j c =
    let a : t * R * W ≤ (t * R + c.y.0) * W = mul-le-mul_right W (omega arith) in
    let b : work_needed W R t ≤ ((t * R + c.y.0) * W + c.x.0) * W = mul-le-mul_right W (omega arith) in omega arith

module _ (W R t : ℕ) (f : Corner → ℕ → ℕ) where
  pub none_done : (before : List ℕ) → PartIs W R t f (λ _. false) before before
  none_done before = record { long = refl; inside = λ c on s. absurd_so s; outside = λ i h. refl }

  -- one corner more
  pub one_done : (done done' : Corner → Bool) (before mid after : List ℕ) (c : Corner) → CornerOn W R c
      → ((c' : Corner) → CornerOn W R c' → So (done' c') → So (done c') ⊎ SameCorner c c')
      → ((c' : Corner) → CornerOn W R c' → So (done c') → So (done' c')) → So (done' c)
      → PartIs W R t f done before mid → SlotIs W R t c (f c) mid after → PartIs W R t f done' before after
  unfolding slot
  one_done done done' before mid after c on out in' here p z = record {
    long = z.long ∙ p.long;
    inside = λ c' on' s j h. ⊎_elim (λ e. let q : c ≡ c' = same_corner e in rw (← q) (z.inside j h)) (λ o.
        other_slot W R t t c c' (f c) mid after z on on' (λ e. o e.1) j h
        ∙ ⊎_elim (λ d. p.inside c' on' d j h) (λ e. absurd (o e)) (out c' on' s)) (corner_or_not c c');
    outside = λ i h. ⊎_elim (λ (j, k, e). absurd (h c on here j k e))
        (λ a. z.outside i a ∙ p.outside i (λ c' on' d j k e. h c' on' (in' c' on' d) j k e)) (in_slot_or_not (slot_start W R t c) W i);
  }

  -- some corners, and then others
  pub both_done : (done more all : Corner → Bool) (before mid after : List ℕ)
      → ((c : Corner) → CornerOn W R c → So (all c) → So (done c) ⊎ So (more c))
      → ((c : Corner) → CornerOn W R c → So (done c) → So (all c)) → ((c : Corner) → CornerOn W R c → So (more c) → So (all c))
      → PartIs W R t f done before mid → PartIs W R t f more mid after → PartIs W R t f all before after
  unfolding slot
  both_done done more all before mid after out in-done in-more p q = record {
    long = q.long ∙ p.long;
    inside = λ c on s j h. ⊎_elim (λ m. q.inside c on m j h) (λ o.
        q.outside (slot_start W R t c + j) (λ c' on' m k l e.
        let (_, x, y, _) = slots_apart W R t t k j c' c on' on l h e in o (rw (same_corner (record { column = x; row = y })) at m))
        ∙ ⊎_elim (λ d. p.inside c on d j h) (λ m. absurd (o m)) (out c on s)) (know (more c));
    outside = λ i h. q.outside i (λ c on m. h c on (in-more c on m)) ∙ p.outside i (λ c on d. h c on (in-done c on d));
  }

  -- all corners done: the node is written
  pub all_done : (done : Corner → Bool) (before after : List ℕ) → ((c : Corner) → CornerOn W R c → So (done c)) → PartIs W R t f done before after → NodeIs W R t f before after
  all_done done before after every p = record {
    long = p.long;
    inside = λ c on. p.inside c on (every c on);
    outside = λ i h. p.outside i (λ c on d j k e. ⊎_elim (λ u. below c on j k e u) (λ u. above c on j k e u) h);
  }
    where
      below : {i : ℕ} (c : Corner) → CornerOn W R c → (j : ℕ) → j < W → slot_start W R t c + j ≡ i → i < work_needed W R t → ⊥
      below c on j k e u = let b = node_from W R t j c in omega arith

      above : {i : ℕ} (c : Corner) → CornerOn W R c → (j : ℕ) → j < W → slot_start W R t c + j ≡ i → work_needed W R (suc t) ≤ i → ⊥
      above c on j k e u = let h = slot_within W R (suc t) t j c (omega arith) on k in omega arith

nodes_rise : (W R t t' : ℕ) → t ≤ t' → work_needed W R t ≤ work_needed W R t'
nodes_rise W R t t' h = work_rises h (le_refl R) (le_refl W)

-- another node keeps its slots, and the bytes past all nodes stay
pub node_other : (W R t t' : ℕ) (f : Corner → ℕ → ℕ) (before after : List ℕ) → NodeIs W R t f before after → (t ≡ t' → ⊥)
    → (c : Corner) → CornerOn W R c → (j : ℕ) → j < W → slot W R after t' c j ≡ slot W R before t' c j
unfolding slot
node_other W R t t' f before after z o c on j h = z.outside (slot_start W R t' c + j) (go (dec_lt t' t))
  where
    go : Dec (t' < t) → (slot_start W R t' c + j < work_needed W R t) ⊎ (work_needed W R (suc t) ≤ slot_start W R t' c + j)
    go (yes p) = inl (let a = slot_within W R (suc t') t' j c (omega arith) on h in let b = nodes_rise W R (suc t') t p in omega arith)
    go (no p) = inr (let a = node_from W R t' j c in let b = nodes_rise W R (suc t) t' (omega arith) in omega arith)

pub past_nodes : (W R t n : ℕ) (f : Corner → ℕ → ℕ) (before after : List ℕ) → NodeIs W R t f before after → t < n
    → (i : ℕ) → work_needed W R n ≤ i → get_or after i 0 ≡ get_or before i 0
past_nodes W R t n f before after z h i k = let b = nodes_rise W R (suc t) n h in z.outside i (inr (omega arith))
