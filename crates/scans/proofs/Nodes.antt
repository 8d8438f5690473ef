-- The corners of a cut node: over children that grow, what the scan leaves at each is what all pairs leave, and writing one corner leaves the children
-- as they are. Assumes nothing.
use mathlib.Core.Path.{◌≡◌, sym, ◌∙◌, ap}
use mathlib.Core.Logic.{◌↔◌, ◌⊎◌, inl, inr}
use mathlib.Core.Bool.{Bool}
use mathlib.Core.List.{List, ◌++◌}
use Prim.Native.Nat.{ℕ, ◌+◌, ◌-◌, ◌≤◌, ◌<◌}
use native.Mathlib.Omega.{arith}
use lib.ListN.{length, get_or, take, drop}
use Rattle.std.proofs.lemmas.List.{get_or_append_left, get_or-append-add, get_or-take, get_or-drop, length-append, length-drop, length-take-le}
use Rattle.rules.specs.declared.Corner.{Corner}
use Rattle.rules.specs.declared.Shape.{Shape}
use Rattle.rules.specs.declared.Direction.{Direction}
use Rattle.rules.specs.Slot.{slot, CornerOn, IsListOf}
use Rattle.rules.specs.Edit.{Paired}
use Rattle.rules.proofs.Agreeing.{Agree, agree_on, agree_back, paired_agree}
use Rattle.rules.proofs.Listing.{list_unique, same_undominated}
use Rattle.rules.proofs.Pairing.{pairings_bytes}
use Rattle.rules.proofs.Scanning.{grows_same, grows_stairs, scan_is_all_pairs}
use Rattle.slots.specs.declared.Board.{Board}
use Rattle.slots.specs.Written.{none, Filled, SlotIs, PartIs}
use Rattle.slots.specs.Lent.{OnBoard, ListedOn, start_on, slots_on, Lent, PartOn}
use Rattle.cuts.specs.declared.Cut.{Cut}
use Rattle.slots.proofs.Filling.{same_length, filled_at, filled_out}
use Rattle.slots.proofs.Lending.{lent_same, on_board, on_listed, slot_lent, last_lent}
use Rattle.slots.proofs.Writing.{node_from}
use Rattle.cuts.specs.Cut.{paired_slot}
use Rattle.cuts.proofs.Nodes.{node_kept, paired_same}
use Rattle.scans.specs.Run.{bytes}
use Rattle.scans.specs.Scan.{GrowsOn, Reads, ScanReady, CornerScanned, Scannable, CornerPaired}

module _ {cut : Cut} {start : List ℕ} (s : Scannable cut start) where
  abbrev B : Board
  B = cut.board

  abbrev W : ℕ
  W = B.width.0

  abbrev H : ℕ
  H = B.height.0

  abbrev d : Direction
  d = cut.direction

  abbrev t : ℕ
  t = cut.t

  abbrev left : ℕ
  left = cut.left

  abbrev right : ℕ
  right = cut.right

  -- the slot at a corner is cleared, and the bytes before it lie apart
  module _ {c : Corner} (on : OnBoard B c) {to : ℕ} (e : to ≡ start_on B t c) {work : List ℕ} (children rest : List ℕ) (f : Filled start to W none work) (q : work ≡ children ++ rest) (l : length children ≡ to) where
    before : (i : ℕ) → i < to → get_or children i 0 ≡ get_or start i 0
    before i h = sym (get_or_append_left children rest 0 i (omega arith)) ∙ ap (λ w. get_or w i 0) (sym q) ∙ filled_out f i (inl h)

    behind : (i : ℕ) → get_or rest i 0 ≡ get_or work (to + i) 0
    behind i = sym (get_or-append-add children rest i 0) ∙ rw (q, l)

    -- the children's slots are there
    lent : Lent B t children
    lent = let a = s.cuttable.lent in let few = a.few in record {
      wide = a.wide;
      columns = a.columns;
      high = a.high;
      rows = a.rows;
      chip = a.chip;
      every = a.every;
      few = omega arith;
      bytes = omega (arith, node_from W B.listed.0 t 0 c);
    }

    same : (child : ℕ) → child < t → Agree W H (slots_on B start child) (slots_on B children child)
    unfolding slot
    same child h = record { at = λ c o j k. sym (before (start_on B child c + j) (omega (arith, slot_lent lent child h (on_listed lent o)))) }

    reads : (child : ℕ) → child < t → GrowsOn B start child → Reads B t child c children
    reads child h g = record { lent = lent; before = h; corner = on; stairs = grows_stairs (grows_same (λ c o. (same child h).at c o) g) }

    long : to + W ≤ length work
    long = omega (arith, same_length f, e, last_lent s.cuttable.lent on)

    rest_long : length rest + to ≡ length work
    rest_long = omega (arith, ap length q, length-append children rest)

    pub cleared_ready : ScanReady cut c children (take W rest)
    cleared_ready = record {
      lefts = reads left s.cuttable.first s.lefts;
      rights = reads right s.cuttable.second s.rights;
      long = length-take-le W rest (omega (arith, long, rest_long));
      cleared = λ j h. get_or-take W rest j 0 h ∙ behind j ∙ filled_at f (omega (arith, long, same_length f)) j h;
    }

    -- what the scan leaves there is the slot of all pairs
    module _ (slot' : List ℕ) (long' : length slot' ≡ length (take W rest)) where
      abbrev after : List ℕ
      after = children ++ (slot' ++ drop W rest)

      fits : W ≤ length rest
      fits = omega (arith, long, rest_long)

      slot_long : length slot' ≡ W
      slot_long = long' ∙ length-take-le W rest fits

      after_long : length after ≡ length start
      after_long = omega (arith, length-append children (slot' ++ drop W rest), length-append slot' (drop W rest), length-drop W rest, slot_long, fits, rest_long, same_length f)

      inside : (j : ℕ) → j < W → get_or after (to + j) 0 ≡ bytes slot' j
      inside j h =
          let a : get_or after (to + j) 0 ≡ get_or (slot' ++ drop W rest) j 0 = rw (← l) (get_or-append-add children (slot' ++ drop W rest) j 0) in
          a ∙ get_or_append_left slot' (drop W rest) 0 j (omega (arith, slot_long))

      beyond : (u : ℕ) → get_or after (to + (W + u)) 0 ≡ get_or start (to + (W + u)) 0
      beyond u =
          let a : get_or after (to + (W + u)) 0 ≡ get_or (slot' ++ drop W rest) (W + u) 0 = rw (← l) (get_or-append-add children (slot' ++ drop W rest) (W + u) 0) in
          let b : get_or (slot' ++ drop W rest) (W + u) 0 ≡ get_or (drop W rest) u 0 = rw slot_long at (get_or-append-add slot' (drop W rest) u 0) in
          a ∙ b ∙ get_or-drop W rest u 0 ∙ behind (W + u) ∙ filled_out f (to + (W + u)) (inr (omega arith))

      outside : (i : ℕ) → (i < to) ⊎ (to + W ≤ i) → get_or after i 0 ≡ get_or start i 0
      outside i (inl h) = get_or_append_left children (slot' ++ drop W rest) 0 i (omega arith) ∙ before i h
      outside i (inr h) = let p : to + (W + (i - (to + W))) ≡ i = omega arith in rw p at (beyond (i - (to + W)))

      corner_cut : CornerScanned d cut c children slot' → CornerPaired cut c start after
      unfolding paired_slot slot
      corner_cut z = record {
        long = after_long;
        inside = λ j h. rw (← e) (inside j h) ∙ list_unique W (bytes slot') (paired_slot cut start c) listed (pairings_bytes W H d (slots_on B start left) (slots_on B start right) c) j h;
        outside = λ i h. outside i (rw (← e) at h);
      }
        where
          lefts : Agree W H (slots_on B start left) (slots_on B children left)
          lefts = same left s.cuttable.first

          rights : Agree W H (slots_on B start right) (slots_on B children right)
          rights = same right s.cuttable.second

          listed : IsListOf W (bytes slot') (Paired W H d (slots_on B start left) (slots_on B start right) c)
          listed q =
              let l = z q in
              let p = scan_is_all_pairs d (grows_same (λ c o. lefts.at c o) s.lefts) (grows_same (λ c o. rights.at c o) s.rights) on q in
              let a : (q : Shape) → Paired W H d (slots_on B children left) (slots_on B children right) c q ↔ Paired W H d (slots_on B start left) (slots_on B start right) c q
              = λ q. (paired_agree W H d (agree_back lefts) (agree_back rights) c on q, paired_agree W H d lefts rights c on q) in
              (λ y. same_undominated a q (p.0 (l.0 y)), λ u. l.1 (p.1 (same_undominated (λ o. ((a o).1, (a o).0)) q u)))

      pub corner_paired : {k : Direction} → cut.direction ≡ k → CornerScanned k cut c children slot' → CornerPaired cut c start after
      corner_paired q z = corner_cut (rw (← q) at z)

  -- some corners are written: the children stand, so the others are scanned as well, and get the slots that the bytes at the start ask for
  module _ {mid : List ℕ} {f : Corner → ℕ → ℕ} {done : Corner → Bool} (p : PartOn B t f done start mid) where
    left_kept : Agree B.width.0 B.listed.0 (slots_on B mid left) (slots_on B start left)
    left_kept = let h = s.cuttable.first in node_kept p left (λ e. omega arith)

    right_kept : Agree B.width.0 B.listed.0 (slots_on B mid right) (slots_on B start right)
    right_kept = let h = s.cuttable.second in node_kept p right (λ e. omega arith)

    pub still_scannable : Scannable cut mid
    still_scannable = let lent = s.cuttable.lent in record {
      cuttable = record { lent = lent_same lent p.long; first = s.cuttable.first; second = s.cuttable.second };
      lefts = grows_same (λ c o. (agree_back (agree_on lent.every left_kept)).at c o) s.lefts;
      rights = grows_same (λ c o. (agree_back (agree_on lent.every right_kept)).at c o) s.rights;
    }

    pub same_slots : (c : Corner) → ListedOn B c → (j : ℕ) → j < B.width.0 → paired_slot cut mid c j ≡ paired_slot cut start c j
    same_slots c o = let lent = s.cuttable.lent in paired_same cut lent.every mid start left_kept right_kept c (on_board lent o)

-- a slot, and some corners, in other words
pub slot_as : {W R t : ℕ} {c : Corner} {f g : ℕ → ℕ} {before after : List ℕ} → ((j : ℕ) → j < W → f j ≡ g j) → SlotIs W R t c f before after → SlotIs W R t c g before after
slot_as e z = record { long = z.long; inside = λ j h. z.inside j h ∙ e j h; outside = z.outside }

pub part_as : {W R t : ℕ} {f g : Corner → ℕ → ℕ} {done : Corner → Bool} {before after : List ℕ} → ((c : Corner) → CornerOn W R c → (j : ℕ) → j < W → f c j ≡ g c j)
    → PartIs W R t f done before after → PartIs W R t g done before after
part_as e z = record { long = z.long; inside = λ c on s j h. z.inside c on s j h ∙ e c on j h; outside = z.outside }
