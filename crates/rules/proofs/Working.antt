-- The work bytes. Every byte that work needs is one byte of one slot, so what is said of each slot and of the bytes past them fixes
-- the whole: two listings, or two relistings of the same bytes, leave the same bytes. Assumes nothing.
use mathlib.Core.Path.{◌≡◌, refl, sym, ◌∙◌}
use mathlib.Core.Logic.{⊎_elim, ◌↔◌}
use mathlib.Core.List.{List}
use mathlib.Core.Bool.{So}
use Prim.Native.Nat.{ℕ, zero, suc, ◌+◌, ◌*◌, ◌/◌, ◌%◌, ◌≤◌, ◌<◌}
use native.Mathlib.Omega.{arith}
use native.Mathlib.Nat.{mul-le-mul, mul-le-mul_right, div-add-mod', mod-lt, div-lt_iff_lt-mul}
use native.Mathlib.Decide.{dec_lt}
use lib.ListN.{length, get_or, take}
use lib.Seq.{ext_get_or, length-take-le, get_or-take}
use Rattle.rules.specs.declared.Corner.{Corner}
use Rattle.rules.specs.declared.Shape.{Shape}
use Rattle.rules.specs.declared.Rectangle.{Rectangle}
use Rattle.rules.specs.Chip.{corner}
use Rattle.rules.specs.Tree.{Tree, leaf, cut, spans, position}
use Rattle.rules.specs.Slot.{slot, slot_start, work_needed, CornerOn, FullLists, PastKept}
use Rattle.rules.specs.Edit.{Relists, Relisted}
use Rattle.rules.proofs.Searching.{know}
use Rattle.rules.proofs.Standing.{Part}
use Rattle.rules.proofs.Listing.{list_unique, same_list}
use Rattle.rules.proofs.Agreeing.{Agree, on_more_rows, agree_on, agree_back, paired_agree}
use Rattle.rules.proofs.Relisting.{part_left, part_right}

-- two places of a number in base W are its only ones
pub same_digits : (W a j a' j' : ℕ) → j < W → j' < W → a * W + j ≡ a' * W + j' → (a ≡ a') × (j ≡ j')
same_digits W a j a' j' h h' e = go (dec_lt a a') (dec_lt a' a)
  where
    go : Dec (a < a') → Dec (a' < a) → (a ≡ a') × (j ≡ j')
    go (yes p) _ = absurd (let z : suc a * W ≤ a' * W = mul-le-mul_right W p in omega arith)
    go (no p) (yes q) = absurd (let z : suc a' * W ≤ a * W = mul-le-mul_right W q in omega arith)
    go (no p) (no q) = let x : a ≡ a' = omega arith in let y : a' * W + j ≡ a' * W + j' = rw x at e in (x, omega arith)

pub digits_below : (W a j A : ℕ) → j < W → a < A → a * W + j < A * W
digits_below W a j A h p = let z : suc a * W ≤ A * W = mul-le-mul_right W p in omega arith

-- and every number below A * W has them
digits : (W i A : ℕ) → i < A * W → (a : ℕ) × (j : ℕ) × (a < A) × (j < W) × (a * W + j ≡ i)
digits W i A h = (i / W, i % W, (div-lt_iff_lt-mul (pos W h)).1 h, mod-lt i (pos W h), div-add-mod' i W)
  where
    pos : (W : ℕ) → i < A * W → 0 < W
    pos zero h = absurd (omega arith)
    pos (suc W) h = omega arith

-- bytes of different slots stand at different places
pub slots_apart : (W R t t' j j' : ℕ) (c c' : Corner) → CornerOn W R c → CornerOn W R c' → j < W → j' < W → slot_start W R t c + j ≡ slot_start W R t' c' + j'
    → (t ≡ t') × (c.x.0 ≡ c'.x.0) × (c.y.0 ≡ c'.y.0) × (j ≡ j')
slots_apart W R t t' j j' c c' on on' h h' e =
    let (e1, ej) = same_digits W ((t * R + c.y.0) * W + c.x.0) j ((t' * R + c'.y.0) * W + c'.x.0) j' h h' e in
    let (e2, ex) = same_digits W (t * R + c.y.0) c.x.0 (t' * R + c'.y.0) c'.x.0 on.column on'.column e1 in
    let (et, ey) = same_digits R t c.y.0 t' c'.y.0 on.row on'.row e2 in (et, ex, ey, ej)

pub slot_within : (W R n t j : ℕ) (c : Corner) → t < n → CornerOn W R c → j < W → slot_start W R t c + j < work_needed W R n
slot_within W R n t j c h on k =
    digits_below W ((t * R + c.y.0) * W + c.x.0) j (n * R * W) k
    (digits_below W (t * R + c.y.0) c.x.0 (n * R) on.column (digits_below R t c.y.0 n on.row h))

-- fewer nodes, rows and columns need fewer bytes
pub work_rises : {n n' R R' W W' : ℕ} → n ≤ n' → R ≤ R' → W ≤ W' → work_needed W R n ≤ work_needed W' R' n'
work_rises h k l = mul-le-mul (mul-le-mul (mul-le-mul h k) l) l

-- every byte that work needs is a byte of a slot
pub in_some_slot : (W R n i : ℕ) → i < work_needed W R n → (t : ℕ) × (c : Corner) × (j : ℕ) × (t < n) × CornerOn W R c × (j < W) × (slot_start W R t c + j ≡ i)
in_some_slot W R n i h =
    let (a, j, ha, hj, ea) = digits W i (n * R * W) h in
    let (b, x, hb, hx, eb) = digits W a (n * R) ha in
    let (t, y, ht, hy, et) = digits R b n hb in
    (t, corner x y, j, ht, record { column = hx; row = hy }, hj, put t y x j a b et eb ea)
  where
    put : (t y x j a b : ℕ) → t * R + y ≡ b → b * W + x ≡ a → a * W + j ≡ i → ((t * R + y) * W + x) * W + j ≡ i
    put t y x j a b p q r = rw (p, q) r

-- bytes that agree in every slot and stand past them as before are the same
pub same_work : (W R n : ℕ) (before after after' : List ℕ) → PastKept (work_needed W R n) before after → PastKept (work_needed W R n) before after'
    → ((t : ℕ) (c : Corner) → t < n → CornerOn W R c → (j : ℕ) → j < W → slot W R after t c j ≡ slot W R after' t c j) → after ≡ after'
unfolding slot
same_work W R n before after after' k k' e = ext_get_or 0 after after' (k.length ∙ sym k'.length) (λ i h. at i (dec_lt i (work_needed W R n)))
  where
    at : (i : ℕ) → Dec (i < work_needed W R n) → get_or after i 0 ≡ get_or after' i 0
    at i (yes h) = let (t, c, j, ht, on, hj, q) = in_some_slot W R n i h in rw q at (e t c ht on j hj)
    at i (no h) = k.past i (omega arith) ∙ sym (k'.past i (omega arith))

-- two listings of the same nodes leave the same bytes
pub listed_once : (W H R : ℕ) (S : ℕ → Rectangle → Type 0) (node : ℕ → Tree) (n : ℕ) (before after after' : List ℕ)
    → PastKept (work_needed W R n) before after → PastKept (work_needed W R n) before after'
    → FullLists W H R S node n (slot W R after) → FullLists W H R S node n (slot W R after') → after ≡ after'
listed_once W H R S node n before after after' k k' l l' =
    same_work W R n before after after' k k' (λ t c h on. list_unique W (slot W R after t c) (slot W R after' t c) (l t h c on) (l' t h c on))

-- full lists are the same bytes, wherever they stand
pub same_lists : (W H R : ℕ) (S : ℕ → Rectangle → Type 0) (node : ℕ → Tree) (n : ℕ) (a b : List ℕ) → work_needed W R n ≤ length a → work_needed W R n ≤ length b
    → FullLists W H R S node n (slot W R a) → FullLists W H R S node n (slot W R b) → take (work_needed W R n) a ≡ take (work_needed W R n) b
unfolding slot
same_lists W H R S node n a b h k l m =
    let e = length-take-le (work_needed W R n) a h in
    ext_get_or 0 (take (work_needed W R n) a) (take (work_needed W R n) b) (e ∙ sym (length-take-le (work_needed W R n) b k)) (λ i g. at i (omega arith))
  where
    at : (i : ℕ) → i < work_needed W R n → get_or (take (work_needed W R n) a) i 0 ≡ get_or (take (work_needed W R n) b) i 0
    at i g =
        let (t, c, j, ht, on, hj, q) = in_some_slot W R n i g in
        get_or-take (work_needed W R n) a i 0 g ∙ rw q at (list_unique W (slot W R a t c) (slot W R b t c) (l t ht c on) (m t ht c on) j hj) ∙ sym (get_or-take (work_needed W R n) b i 0 g)

module _ (W H R : ℕ) (every : H ≤ R) (chip : R ≤ H) (S : ℕ → Rectangle → Type 0) (node : ℕ → Tree) (n p : ℕ) (tree : Tree)
    (parts : (u : Tree) → Part u tree → (position u < n) × (u ≡ node (position u))) (before after after' : List ℕ)
    (rel : Relisted W H R S node n p before after) (rel' : Relisted W H R S node n p before after') where
  abbrev SameSlots : Tree → Type 0
  SameSlots u = Agree W R (slot W R after (position u)) (slot W R after' (position u))

  off_slots : (u : Tree) → Part u tree → (So (spans u p) → ⊥) → SameSlots u
  off_slots u q o = record {
    at = λ c on j h.
        let (b, e) = parts u q in let o' : So (spans (node (position u)) p) → ⊥ = rw e at o in
        rel.off (position u) c b on o' j h ∙ sym (rel'.off (position u) c b on o' j h);
  }

  way_slots : (u : Tree) → Part u tree → So (spans u p) → ((c : Corner) → CornerOn W R c → (s : Shape) → Relists W H R S after u c s ↔ Relists W H R S after' u c s) → SameSlots u
  way_slots u q i f = record {
    at = λ c on.
        let (b, e) = parts u q in let l = rw (← e) at (rel.way (position u) c b on (rw e at i)) in let l' = rw (← e) at (rel'.way (position u) c b on (rw e at i)) in
        list_unique W (slot W R after (position u) c) (slot W R after' (position u) c) (same_list W _ (slot W R after (position u) c) (λ j h. refl) (f c on) l) l';
  }

  same_slots : (u : Tree) → Part u tree → SameSlots u
  same_slots (leaf t k) q = ⊎_elim (λ i. way_slots (leaf t k) q i (λ c on s. (λ z. z, λ z. z))) (off_slots (leaf t k) q) (know (spans (leaf t k) p))
  same_slots (cut t d l r) q =
      let x = agree_on every (same_slots l (part_left q)) in let y = agree_on every (same_slots r (part_right q)) in
      ⊎_elim
      (λ i. way_slots (cut t d l r) q i (λ c on s. let o = on_more_rows chip on in (
        paired_agree W H d x y c o s,
        paired_agree W H d (agree_back x) (agree_back y) c o s,
      ))) (off_slots (cut t d l r) q) (know (spans (cut t d l r) p))

  -- two relistings of the same bytes leave the same bytes, whoever wrote them
  pub relisted_once : ((t : ℕ) → t < n → Part (node t) tree × (position (node t) ≡ t)) → after ≡ after'
  relisted_once nodes =
      same_work W R n before after after' rel.past rel'.past
      (λ t c h on j k. let (q, e) = nodes t h in rw e at ((same_slots (node t) q).at c on j k))
