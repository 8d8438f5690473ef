-- Wrong scans of a cut's children. A stranger's stairs on which the scan of order 3 finds less than all pairs, so that no edit may go by it; and
-- scans with one thing wrong that demand 2 rejects, since what each would keep in a cut's slot is not the list there. Assumes nothing.
use mathlib.Core.Path.{◌≡◌, refl, sym, ◌∙◌, ap}
use mathlib.Core.Logic.{⊎_elim, ◌↔◌}
use mathlib.Core.Bool.{So}
use mathlib.Core.List.{List, [], ◌∷◌, ◌++◌}
use Prim.Native.Nat.{ℕ, zero, suc, ◌+◌, ◌-◌, ◌≤◌, ◌<◌}
use native.Mathlib.Omega.{arith}
use native.Mathlib.Decide.{dec_le}
use lib.ListN.{length, replicate}
use Rattle.rules.specs.declared.Corner.{Corner}
use Rattle.rules.specs.declared.Shape.{Shape}
use Rattle.rules.specs.declared.Direction.{Direction}
use Rattle.rules.specs.declared.Direction.TheVariants.{Vertical, Horizontal}
use Rattle.rules.specs.declared.Token.TheVariants.{Cut}
use Rattle.rules.specs.declared.Design.{Design}
use Rattle.rules.specs.declared.Edit.TheVariants.{Turn}
use Rattle.rules.specs.Answers.{Reply}
use Rattle.rules.specs.declared.Handed.{Handed}
use Rattle.rules.specs.Search.{any, all, count, total}
use Rattle.rules.specs.Chip.{corner, shape, rectangle, column, column_of, covers_block, held_between}
use Rattle.rules.specs.Tree.{leaf, cut, number_of, stands, has, joined, added, standing, spans}
use Rattle.rules.specs.Shape.{Undominated}
use Rattle.rules.specs.Slot.{slot, Stores, CornerOn, IsListOf, ListsAt, Stairs}
use Rattle.rules.specs.Choice.{beside}
use Rattle.rules.specs.Edit.{Paired, names_place, changed, changed_node}
use Rattle.rules.specs.Scan.{level, along, LooksAt, BoxOf, Scanned, Keeps}
use Rattle.rules.specs.Walk.{stepped_down, rows_after, walked}
use Rattle.rules.specs.Design.{slots_of, slot_rows, most_modules, nodes, node_at, ListsOf, width_of, height_of}
use Rattle.rules.specs.Design.{LawfulDesign, value_test, within_limits, lawful_chip, in_range, lawful_need}
use Rattle.rules.specs.Bytes.{padded}
use Rattle.rules.specs.Bench.{need, design, D}
use Rattle.rules.proofs.Test.{suits_room, leaf_test, parted, fits, is_stair, are_stairs}
use Rattle.rules.proofs.Searching.{absurd_so}
use Rattle.rules.proofs.Fitting.{realizes_fits}
use Rattle.rules.proofs.Suiting.{design_decides}
use Rattle.rules.proofs.Stairs.{stairs_iff}
use Rattle.rules.proofs.Listing.{same_shape, list_unique}
use Rattle.rules.proofs.Walking.{rooms_at, walk_is_the_list}
use Rattle.rules.proofs.Scanning.{kept_is_undominated, own_grows, grows_stairs, scan_lists_the_cut}
use Rattle.promises.specs.Services.{Services, Keeping}
use Rattle.promises.specs.Demand2.{GoodLists, Demand2}
use Rattle.promises.proofs.Inputs.{grown}
use Rattle.promises.proofs.RefutePlans.{good_bytes, listing_loses_the_full_width}

-- The bytes of a slot of three columns. A shape that is stored there has one of the three widths, and that byte for its height.
abbrev Holds : (ℕ → ℕ) → ℕ → ℕ → ℕ → Type 0
Holds g a b c = (g 0 ≡ a) × (g 1 ≡ b) × (g 2 ≡ c)

first_three : {g f : ℕ → ℕ} → ((j : ℕ) → j < 3 → g j ≡ f j) → Holds g (f 0) (f 1) (f 2)
first_three e = (e 0 (omega arith), e 1 (omega arith), e 2 (omega arith))

by_width : {g : ℕ → ℕ} {s : Shape} {a b c : ℕ} {A : Type 0} → Holds g a b c → Stores 3 g s
    → (s.w.0 ≡ 1 → s.h.0 ≡ a → A) → (s.w.0 ≡ 2 → s.h.0 ≡ b → A) → (s.w.0 ≡ 3 → s.h.0 ≡ c → A) → A
by_width {g} {s} {A = A} z y one two three = go s.w.0 refl y.wide y.within y.byte
  where
    go : (w : ℕ) → s.w.0 ≡ w → 1 ≤ w → w ≤ 3 → g (w - 1) ≡ s.h.0 → A
    go zero e p q f = absurd (omega arith)
    go (suc zero) e p q f = one e (sym f ∙ z.0)
    go (suc (suc zero)) e p q f = two e (sym f ∙ z.1)
    go (suc (suc (suc zero))) e p q f = three e (sym f ∙ z.2)
    go (suc (suc (suc (suc n)))) e p q f = absurd (omega arith)

-- The stranger's slots: "left (1,2), (2,1), right nothing at column 1 and (1,2) at column 2".
record Strange (L R : Corner → ℕ → ℕ) : Type 0 where
  left : Holds (L (corner 0 0)) 2 1 0
  none : Holds (R (corner 1 0)) 0 0 0
  right : Holds (R (corner 2 0)) 2 0 0

module _ {L R : Corner → ℕ → ℕ} (z : Strange L R) where
  none_beside : {o : Shape} → Stores 3 (R (corner 1 0)) o → ⊥
  none_beside y = by_width z.none y (λ e f. omega arith) (λ e f. omega arith) (λ e f. omega arith)

  one_beside : {o : Shape} → Stores 3 (R (corner 2 0)) o → (o.w.0 ≡ 1) × (o.h.0 ≡ 2)
  one_beside y = by_width z.right y (λ e f. (e, f)) (λ e f. omega arith) (λ e f. omega arith)

  -- "the scan nothing": what stands beside (2,1) is as high as the stop, (1,2), and beside that one nothing is stored
  scan_gives_nothing : (q : Shape) → Scanned 3 2 Vertical L R (corner 0 0) q → ⊥
  scan_gives_nothing q b =
      by_width z.left b.looks.left (λ e f. none_beside (rw e at b.looks.right))
      (λ e f. let k = b.looks.stop (shape 1 2) (omega (arith, z.left.0)) (omega arith) in
      let o = one_beside (rw e at b.looks.right) in omega arith)
      (λ e f. omega arith)

  -- "all pairs give (3,2)": it is the box of (2,1) and (1,2), and there is no other pair
  pairs_give_one : Undominated (Paired 3 2 Vertical L R (corner 0 0)) (shape 3 2)
  pairs_give_one = record {
    is = record {
      s = shape 2 1;
      o = shape 1 2;
      pair = record { left = omega (arith, z.left.1); corner = omega arith; right = omega (arith, z.right.0); box = refl };
      fits = omega arith;
    };
    alone = λ q b _. by_width z.left b.pair.left (λ e f. absurd (none_beside (rw e at b.pair.right)))
        (λ e f. let o = one_beside (rw e at b.pair.right) in let x = ap (λ n. n.w.0) b.pair.box in
        let y = ap (λ n. n.h.0) b.pair.box in same_shape q (shape 3 2) (omega arith) (omega arith))
        (λ e f. absurd (omega (arith, b.pair.left.high)));
  }

-- "Refute it for strangers, by a theorem: W 3, H 2, vertical": these slots stand in 54 work bytes in which all slots of three nodes are stairs.
unfoldable pub strangers : List ℕ
strangers = (2 ∷ 1 ∷ replicate 22 0) ++ (2 ∷ replicate 29 0)

strange : Strange (slot 3 2 strangers 0) (slot 3 2 strangers 1)
unfolding strangers slot
strange = record { left = (refl, refl, refl); none = (refl, refl, refl); right = (refl, refl, refl) }

pub scan_fails_strangers : Stairs 3 2 2 3 (slot 3 2 strangers)
    × Undominated (Paired 3 2 Vertical (slot 3 2 strangers 0) (slot 3 2 strangers 1) (corner 0 0)) (shape 3 2)
    × ((q : Shape) → Scanned 3 2 Vertical (slot 3 2 strangers 0) (slot 3 2 strangers 1) (corner 0 0) q → ⊥)
unfolding strangers slot all is_stair are_stairs
scan_fails_strangers = ((stairs_iff 3 2 2 3 (slot 3 2 strangers)).0 refl, pairs_give_one strange, scan_gives_nothing strange)

-- "three CLB columns, H 2, needs (2,0,0) twice, `2 3 0`", or `2 3 1`
unfoldable pub twos : Direction → Design
twos d = design (0 ∷ 0 ∷ 0 ∷ []) 2 1 (need 2 0 0 ∷ need 2 0 0 ∷ []) (2 ∷ 3 ∷ number_of most_modules (Cut d) ∷ [])

-- "So edits go on pairing all stored shapes": over those bytes the horizontal cut is turned, and (3,2) has to be stored.
module _ (S : Services) (keeps : Keeping S) (after : List ℕ) (r : Handed) (x : S.edit (twos Horizontal) (Turn 2) strangers r after) where
  edited : Strange (slot 3 2 after 0) (slot 3 2 after 1)
      × IsListOf 3 (slot 3 2 after 2 (corner 0 0)) (Paired 3 2 Vertical (slot 3 2 after 0) (slot 3 2 after 1) (corner 0 0))
  unfolding twos strangers slot_rows padded all stands has joined added standing spans value_test
      within_limits lawful_chip in_range lawful_need names_place changed changed_node slot
  edited =
      let (_, z) = (keeps.edit (twos Horizontal) (Turn 2) strangers after r x).done refl refl (omega arith) scan_fails_strangers.0 in (
        record {
          left = first_three (z.off 0 (corner 0 0) (omega arith) (omega arith) absurd_so);
          none = first_three (z.off 1 (corner 1 0) (omega arith) (omega arith) absurd_so);
          right = first_three (z.off 1 (corner 2 0) (omega arith) (omega arith) absurd_so);
        },
        z.way 2 (corner 0 0) (omega arith) (omega arith) refl,
      )

  -- all pairs of what the leaves store: the leaves are off the way and keep their bytes
  pub edit_pairs_strangers : Stores 3 (slot 3 2 after 2 (corner 0 0)) (shape 3 2)
  edit_pairs_strangers = (edited.1 (shape 3 2)).1 (pairs_give_one edited.0)

  -- "an edit that goes by the scan"
  pub edit_goes_by_the_scan : IsListOf 3 (slot 3 2 after 2 (corner 0 0)) (Scanned 3 2 Vertical (slot 3 2 after 0) (slot 3 2 after 1) (corner 0 0)) → ⊥
  edit_goes_by_the_scan l = scan_gives_nothing edited.0 (shape 3 2) ((l (shape 3 2)).0 edit_pairs_strangers).is

-- The scan with its parts left open: the height that it goes by; where the right list is taken; and how a right shape's height stands to the left
-- one's where it is looked up, and to the stop. The scan of the rules is one of these.
pub record LooksBy (height : Shape → ℕ) (place : Shape → Corner) (Under Before : ℕ → ℕ → Type 0) (W H : ℕ)
    (lefts rights : Corner → ℕ → ℕ) (c : Corner) (s o : Shape) : Type 0 where
  pub left : Stores W (lefts c) s
  pub corner : CornerOn W H (place s)
  pub right : Stores W (rights (place s)) o
  pub from : (o' : Shape) → Stores W (rights (place s)) o' → Under (height o') (height s) → height o' ≤ height o
  pub stop : (s' : Shape) → Stores W (lefts c) s' → height s < height s' → Before (height o) (height s')

abbrev pub Looking : Type 1
Looking = ℕ → ℕ → Direction → (Corner → ℕ → ℕ) → (Corner → ℕ → ℕ) → Corner → Shape → Shape → Type 0

abbrev pub rightly : Looking
rightly W H d L R c = LooksBy (level d) (beside d c) ◌≤◌ ◌<◌ W H L R c

pub scan_looks_rightly : (W H : ℕ) (d : Direction) (L R : Corner → ℕ → ℕ) (c : Corner) (s o : Shape)
    → LooksAt W H d L R c s o ↔ rightly W H d L R c s o
scan_looks_rightly W H d L R c s o = (
  λ z. record { left = z.left; corner = z.corner; right = z.right; from = z.from; stop = z.stop },
  λ z. record { left = z.left; corner = z.corner; right = z.right; from = z.from; stop = z.stop },
)

-- The scans with one thing wrong: "the stop included"; "the look-up strictly lower"; "the right list at the cut's corner"; "widths and heights
-- exchanged", under a direction. "Width W left out" is the right scan with the boxes bounded by W-1.
abbrev pub stop_included : Looking
stop_included W H d L R c = LooksBy (level d) (beside d c) ◌≤◌ ◌≤◌ W H L R c

abbrev pub strictly_lower : Looking
strictly_lower W H d L R c = LooksBy (level d) (beside d c) ◌<◌ ◌<◌ W H L R c

abbrev pub at_the_cuts_corner : Looking
at_the_cuts_corner W H d L R c = LooksBy (level d) (λ s. c) ◌≤◌ ◌<◌ W H L R c

abbrev pub exchanged : Looking
exchanged W H d L R c = LooksBy (along d) (beside d c) ◌≤◌ ◌<◌ W H L R c

-- A scan of a design's two leaves, at (0, 0) of the cut of them, with the boxes bounded by some column. What it keeps fills the cut's slot; or
-- nothing is in the slot but boxes of it, whichever of them are kept.
abbrev pub Fills : Looking → ℕ → Direction → Design → List ℕ → Type 0
Fills looks columns d on work =
    (s : Shape) → Stores (width_of on) (slots_of on work 2 (corner 0 0)) s
    ↔ Keeps columns (height_of on) d (corner 0 0) (looks (width_of on) (height_of on) d (slots_of on work 0) (slots_of on work 1) (corner 0 0)) s

abbrev pub Boxes : Looking → ℕ → Direction → Design → List ℕ → Type 0
Boxes looks columns d on work =
    (s : Shape) → Stores (width_of on) (slots_of on work 2 (corner 0 0)) s
    → BoxOf columns (height_of on) d (corner 0 0) (looks (width_of on) (height_of on) d (slots_of on work 0) (slots_of on work 1) (corner 0 0)) s

-- good lists are lists of the nodes; so the scan of the rules fills the slot of a cut
good_lists_at : (d : Design) (work : List ℕ) → GoodLists d work → (t : ℕ) → t < nodes d
    → ListsAt (width_of d) (height_of d) (height_of d) (ListsOf d) (slots_of d work t) (node_at d t)
good_lists_at d work g t h c on = good_bytes d t c _ (g t c h on)

pub scan_fills : (d : Design) (k : Direction) (work : List ℕ) → 2 < nodes d → CornerOn (width_of d) (height_of d) (corner 0 0)
    → node_at d 2 ≡ cut 2 k (node_at d 0) (node_at d 1) → GoodLists d work → Fills LooksAt (width_of d) k d work
scan_fills d k work h on e g s =
    let dec = design_decides d in let x = good_lists_at d work g 0 (omega arith) in let y = good_lists_at d work g 1 (omega arith) in
    let u = rw e at (good_lists_at d work g 2 h (corner 0 0) on s) in
    let v = scan_lists_the_cut dec 2 k (node_at d 0) (node_at d 1) _ _ x y (corner 0 0) on s in
    let w = kept_is_undominated {d = k} on (grows_stairs (own_grows dec (node_at d 0) _ x)) (grows_stairs (own_grows dec (node_at d 1) _ y)) s in
    (λ z. w.1 (v.1 (u.0 z)), λ z. u.1 (v.0 (w.0 z)))

-- What a good listing has in a leaf's slot is what the walk leaves, which computes; and in the root's slot it has a shape wherever one fits.
leaf_walked : (d : Design) (t k : ℕ) (c : Corner) (work : List ℕ) → t < nodes d → node_at d t ≡ leaf t k → CornerOn (width_of d) (height_of d) c
    → GoodLists d work → (j : ℕ) → j < width_of d
    → slots_of d work t c j ≡ walked (rooms_at (leaf_test d k) c.x.0 c.y.0) (width_of d - c.x.0) (height_of d - c.y.0) j
leaf_walked d t k c work h e on g =
    list_unique (width_of d) _ _ (rw e at (good_lists_at d work g t h c on)) (walk_is_the_list (design_decides d) t k c on)

root_stores : (d : Design) (w h : ℕ) (work : List ℕ) → 2 < nodes d → CornerOn (width_of d) (height_of d) (corner 0 0)
    → So (fits (leaf_test d) (node_at d 2) 0 0 (0 + w) (0 + h)) → GoodLists d work → (o : Shape) × Stores (width_of d) (slots_of d work 2 (corner 0 0)) o
root_stores d w h work k on t g =
    let (o, z, _) = (g 2 (corner 0 0) k on).complete (shape w h) ((realizes_fits (design_decides d) (node_at d 2) (rectangle 0 0 w h)).1 t) in (o, z)

-- The first two wrong scans keep (3,2) in the slot of `2 3 0`, where (2,2) is a shape.
module _ (work : List ℕ) (g : GoodLists (twos Vertical) work) where
  abbrev lefts : Corner → ℕ → ℕ
  lefts = slots_of (twos Vertical) work 0

  abbrev rights : Corner → ℕ → ℕ
  rights = slots_of (twos Vertical) work 1

  leaf_bytes_lem : Holds (lefts (corner 0 0)) 2 1 0 × (rights (corner 1 0) 1 ≡ 1) × Holds (rights (corner 2 0)) 2 0 0
  unfolding twos slot_rows padded stands has joined added standing column_of covers_block held_between column count total
      suits_room stepped_down rows_after walked
  leaf_bytes_lem = (
    first_three (leaf_walked (twos Vertical) 0 0 (corner 0 0) work (omega arith) refl (omega arith) g),
    leaf_walked (twos Vertical) 1 1 (corner 1 0) work (omega arith) refl (omega arith) g 1 (omega arith),
    first_three (leaf_walked (twos Vertical) 1 1 (corner 2 0) work (omega arith) refl (omega arith) g),
  )

  -- beside (2,1) stands nothing lower than (1,2)
  none_lower : {o : Shape} → Stores 3 (rights (corner 2 0)) o → o.h.0 < 2 → ⊥
  none_lower y k = by_width leaf_bytes_lem.2 y (λ e f. omega arith) (λ e f. omega arith) (λ e f. omega arith)

  never_wide : Stores 3 (slots_of (twos Vertical) work 2 (corner 0 0)) (shape 3 2) → ⊥
  unfolding twos slot_rows padded stands has joined added standing column_of covers_block held_between column count total suits_room any parted fits
  never_wide z =
      let s = (realizes_fits (design_decides (twos Vertical)) (node_at (twos Vertical) 2) (rectangle 0 0 2 2)).1 refl in
      let e = ap (λ s. s.w.0) ((g 2 (corner 0 0) (omega arith) (omega arith)).undominated (shape 3 2) (shape 2 2) z s (omega arith)) in omega arith

  -- the box of (2,1) and (1,2), before that of (1,2) and (1,2)
  stop_included_keeps : Keeps 3 2 Vertical (corner 0 0) (stop_included 3 2 Vertical lefts rights (corner 0 0)) (shape 3 2)
  stop_included_keeps = record {
    box = record {
      s = shape 2 1;
      o = shape 1 2;
      looks = record {
        left = omega (arith, leaf_bytes_lem.0.1);
        corner = omega arith;
        right = omega (arith, leaf_bytes_lem.2.0);
        from = λ o' x k. omega arith;
        stop = λ s' x k. k;
      };
      box = refl;
      fits = omega arith;
    };
    narrower = λ q b. ⊎_elim (λ k. absurd (omega (arith, b.looks.left.high)))
        (λ (e, k). let w = ap (λ n. n.w.0) e in absurd (none_lower (rw w at b.looks.right) k));
  }

  -- the box of (1,2) and (2,1), before that of (1,2) and (1,2)
  strictly_lower_keeps : Keeps 3 2 Vertical (corner 0 0) (strictly_lower 3 2 Vertical lefts rights (corner 0 0)) (shape 3 2)
  strictly_lower_keeps = record {
    box = record {
      s = shape 1 2;
      o = shape 2 1;
      looks = record {
        left = first;
        corner = omega arith;
        right = omega (arith, leaf_bytes_lem.1);
        from = λ o' x k. omega arith;
        stop = λ s' x k. omega arith;
      };
      box = refl;
      fits = omega arith;
    };
    narrower = λ q b. ⊎_elim (λ k. absurd (by_width leaf_bytes_lem.0 b.looks.left (λ e f. omega arith)
        (λ e f. none_lower (rw e at b.looks.right) (b.looks.stop (shape 1 2) first (omega arith)))
        (λ e f. omega (arith, b.looks.left.high))))
        (λ (e, k). absurd (omega (arith, b.looks.right.high)));
  }
    where
      first : Stores 3 (lefts (corner 0 0)) (shape 1 2)
      first = omega (arith, leaf_bytes_lem.0.0)

-- A CLB column and a RAM column, and a module for each. The slot has a shape; but at the cut's own corner the RAM's shape is (2,1), and no box with
-- it fits.
unfoldable pub each : Design
each = design (0 ∷ 1 ∷ []) 1 1 (need 1 0 0 ∷ need 0 1 0 ∷ []) (2 ∷ 3 ∷ 0 ∷ [])

each_bytes : (work : List ℕ) → GoodLists each work → slots_of each work 1 (corner 0 0) 0 ≡ 0
unfolding each slot_rows padded stands has joined added standing column_of covers_block held_between column count total
    suits_room stepped_down rows_after walked
each_bytes work g = leaf_walked each 1 1 (corner 0 0) work (omega arith) refl (omega arith) g 0 (omega arith)

corner_has_no_box : (work : List ℕ) → GoodLists each work → (q : Shape)
    → BoxOf 2 1 Vertical (corner 0 0) (at_the_cuts_corner 2 1 Vertical (slots_of each work 0) (slots_of each work 1) (corner 0 0)) q → ⊥
corner_has_no_box work g q b = go (dec_le b.o.w.0 1)
  where
    go : Dec (b.o.w.0 ≤ 1) → ⊥
    go (yes k) =
        let y = b.looks.right in let e : b.o.w.0 - 1 ≡ 0 = omega (arith, y.wide) in
        omega (arith, each_bytes work g, rw e at y.byte, y.high)
    go (no k) = omega (arith, ap (λ n. n.w.0) b.box, b.looks.left.wide, b.fits.columns)

-- Three CLB columns, H 3, needs (2,0,0) and (4,0,0), under either cut. The slot has a shape; but with widths and heights exchanged, of the left
-- shapes (1,2) and (2,1) one has only (2,2) beside it, which reaches the stop, the other one; and beside that one nothing stands.
unfoldable pub uneven : Direction → Design
uneven d = design (0 ∷ 0 ∷ 0 ∷ []) 3 1 (need 2 0 0 ∷ need 4 0 0 ∷ []) (2 ∷ 3 ∷ number_of most_modules (Cut d) ∷ [])

abbrev away : Direction → ℕ → Corner
away Vertical n = corner n 0
away Horizontal n = corner 0 n

uneven_bytes : (d : Direction) (work : List ℕ) → GoodLists (uneven d) work
    → Holds (slots_of (uneven d) work 0 (corner 0 0)) 2 1 0 × Holds (slots_of (uneven d) work 1 (away d 1)) 0 2 0
    × Holds (slots_of (uneven d) work 1 (away d 2)) 0 0 0
unfolding uneven slot_rows padded stands has joined added standing column_of covers_block held_between column count total
    suits_room stepped_down rows_after walked
uneven_bytes Vertical work g = (
  first_three (leaf_walked (uneven Vertical) 0 0 (corner 0 0) work (omega arith) refl (omega arith) g),
  first_three (leaf_walked (uneven Vertical) 1 1 (corner 1 0) work (omega arith) refl (omega arith) g),
  first_three (leaf_walked (uneven Vertical) 1 1 (corner 2 0) work (omega arith) refl (omega arith) g),
)
uneven_bytes Horizontal work g = (
  first_three (leaf_walked (uneven Horizontal) 0 0 (corner 0 0) work (omega arith) refl (omega arith) g),
  first_three (leaf_walked (uneven Horizontal) 1 1 (corner 0 1) work (omega arith) refl (omega arith) g),
  first_three (leaf_walked (uneven Horizontal) 1 1 (corner 0 2) work (omega arith) refl (omega arith) g),
)

uneven_root : (d : Direction) (work : List ℕ) → GoodLists (uneven d) work → (o : Shape) × Stores 3 (slots_of (uneven d) work 2 (corner 0 0)) o
unfolding uneven slot_rows padded stands has joined added standing column_of covers_block held_between column count total suits_room any parted fits
uneven_root Vertical work g = root_stores (uneven Vertical) 3 2 work (omega arith) (omega arith) refl g
uneven_root Horizontal work g = root_stores (uneven Horizontal) 2 3 work (omega arith) (omega arith) refl g

exchanged_has_no_box : (d : Direction) (L R : Corner → ℕ → ℕ) → Holds (L (corner 0 0)) 2 1 0 × Holds (R (away d 1)) 0 2 0 × Holds (R (away d 2)) 0 0 0
    → (q : Shape) → BoxOf 3 3 d (corner 0 0) (exchanged 3 3 d L R (corner 0 0)) q → ⊥
exchanged_has_no_box Vertical L R (l, one, two) q b =
    by_width l b.looks.left
    (λ e f. let k = b.looks.stop (shape 2 1) (omega arith) (omega arith) in let y : Stores 3 (R (corner 1 0)) b.o = rw e at b.looks.right in
    by_width one y (λ e f. omega arith) (λ e f. omega arith) (λ e f. omega arith))
    (λ e f. let y : Stores 3 (R (corner 2 0)) b.o = rw e at b.looks.right in
    by_width two y (λ e f. omega arith) (λ e f. omega arith) (λ e f. omega arith))
    (λ e f. omega (arith, b.looks.left.high))
exchanged_has_no_box Horizontal L R (l, one, two) q b =
    by_width l b.looks.left
    (λ e f. let y : Stores 3 (R (corner 0 2)) b.o = rw f at b.looks.right in
    by_width two y (λ e f. omega arith) (λ e f. omega arith) (λ e f. omega arith))
    (λ e f. let k = b.looks.stop (shape 1 2) (omega arith) (omega arith) in let y : Stores 3 (R (corner 0 1)) b.o = rw f at b.looks.right in
    by_width one y (λ e f. omega arith) (λ e f. omega arith) (λ e f. omega arith))
    (λ e f. omega (arith, b.looks.left.high))

lawful : LawfulDesign (twos Vertical) × LawfulDesign each × LawfulDesign (uneven Vertical) × LawfulDesign (uneven Horizontal)
unfolding twos each uneven slot_rows padded all stands has joined added standing value_test within_limits lawful_chip in_range lawful_need
lawful = (refl, refl, refl, refl)

module _ (S : Services) (demand : Demand2 S) (before after : List ℕ) (r : Reply) where
  module _ (x : S.list (twos Vertical) before r after) (h : 54 ≤ length before) where
    good : GoodLists (twos Vertical) after
    unfolding twos slot_rows
    good = (demand.listed (twos Vertical) before after r x lawful.0 h).1

    -- "the stop included (three CLB columns, H 2, needs (2,0,0) twice, `2 3 0` would list (3,2) too)"
    pub scanner_includes_the_stop : Fills stop_included 3 Vertical (twos Vertical) after → ⊥
    unfolding twos slot_rows
    scanner_includes_the_stop f = never_wide after good ((f (shape 3 2)).1 (stop_included_keeps after good))

    -- "the look-up strictly lower"
    pub scanner_looks_up_strictly_lower : Fills strictly_lower 3 Vertical (twos Vertical) after → ⊥
    unfolding twos slot_rows
    scanner_looks_up_strictly_lower f = never_wide after good ((f (shape 3 2)).1 (strictly_lower_keeps after good))

  -- "width W left out (P9)"
  pub scanner_leaves_width_W_out : S.list grown before r after → 450 ≤ length before → Boxes LooksAt 4 Vertical grown after → ⊥
  unfolding D slot_rows changed
  scanner_leaves_width_W_out x h f =
      let e = listing_loses_the_full_width S demand before after r x h 4 (omega arith) in omega (arith, (f (shape 5 3) (omega arith)).fits.columns)

  -- "the right list at the cut's corner"
  pub scanner_stays_at_the_corner : S.list each before r after → 12 ≤ length before → Boxes at_the_cuts_corner 2 Vertical each after → ⊥
  unfolding each slot_rows padded stands has joined added standing column_of covers_block held_between column count total suits_room any parted fits
  scanner_stays_at_the_corner x h f =
      let g = (demand.listed each before after r x lawful.1 h).1 in
      let (o, z) = root_stores each 2 1 after (omega arith) (omega arith) refl g in corner_has_no_box after g o (f o z)

  -- "widths and heights exchanged under one direction", either of them
  pub scanner_exchanges_widths_and_heights : (d : Direction) → S.list (uneven d) before r after → 81 ≤ length before
      → Boxes exchanged 3 d (uneven d) after → ⊥
  unfolding uneven slot_rows
  scanner_exchanges_widths_and_heights d x h f =
      let g = (demand.listed (uneven d) before after r x (elim d as (λ k. LawfulDesign (uneven k)) [ Vertical ↦ lawful.2 | Horizontal ↦ lawful.3 ]) h).1 in
      let (o, z) = uneven_root d after g in exchanged_has_no_box d _ _ (uneven_bytes d after g) o (f o z)
