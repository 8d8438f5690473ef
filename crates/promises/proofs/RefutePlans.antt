-- Wrong services that demand 2 rejects, each by an input, from the demand's statement alone: each clause of it is the one that rejects some of
-- them. What is right of the inputs stands in the bench table or is computed from the rules. Assumes nothing.
use Rattle.std.specs.Prelude.{Ok, Err}
use mathlib.Core.Path.{◌≡◌, refl, sym, ◌∙◌, ap}
use mathlib.Core.Bool.{So}
use mathlib.Core.List.{List, [], ◌∷◌, ◌++◌}
use Prim.Native.Nat.{ℕ, zero, suc, ◌-◌, ◌≤◌, ◌<◌}
use native.Mathlib.Omega.{arith}
use native.Mathlib.Decide.{dec_lt}
use lib.Dec.{ltb}
use lib.ListN.{length, get_or, take, drop, replicate, get_or-eq_default}
use Rattle.rules.specs.declared.Corner.{Corner}
use Rattle.rules.specs.declared.Design.{Design}
use Rattle.rules.specs.declared.Refusal.TheVariants.{Unfinished, NoPlacement}
use Rattle.rules.specs.Answers.{Reply, Written, Planned}
use Rattle.rules.specs.declared.Handed.{Handed}
use Rattle.rules.specs.Search.{all, count, total, least}
use Rattle.rules.specs.Chip.{corner, shape, rectangle, column, column_of, covers_block, held_between, holds}
use Rattle.rules.specs.Tree.{has, stands, joined, added, standing}
use Rattle.rules.specs.Placement.{Follows, furthest, area, Placement}
use Rattle.rules.specs.Shape.{ShapeAt}
use Rattle.rules.specs.Slot.{slot, Stores, IsListOf}
use Rattle.rules.specs.Design.{need_at, ListsOf, node_at, slots_of, OwnLists, slot_rows, LawfulDesign, LawfulPlacement, value_test, within_limits, lawful_chip, in_range, lawful_need, width_of, height_of}
use Rattle.rules.specs.Choice.{rows_out}
use Rattle.rules.specs.Edit.{changed}
use Rattle.rules.specs.Bytes.{AreBytes, padded, number_bytes, need_bytes, row_bytes, design_bytes}
use Rattle.rules.specs.Check.{from_rows, is_on_chip, is_at_most, is_kept, judged_cuts, judged_rows, verdict}
use Rattle.rules.specs.Reply.{plainly, answer, written_answer, planned_answer}
use Rattle.rules.specs.Service.{Enough}
use Rattle.rules.specs.Bench.{D, need, bytes_ending, Says, four, design}
use Rattle.rules.specs.Program.{decimal, figures, module_line, module_lines, plan_text}
use Rattle.rules.proofs.Test.{suits_room, fits}
use Rattle.rules.proofs.Searching.{absurd_so, all_iff, ltb_iff}
use Rattle.rules.proofs.Fitting.{realizes_fits}
use Rattle.rules.proofs.Suiting.{design_decides}
use Rattle.rules.proofs.Listing.{list_unique}
use Rattle.rules.proofs.Changing.{edit_lawful}
use Rattle.rules.proofs.Checking.{passes_iff}
use Rattle.promises.specs.Services.{Services, Keeping}
use Rattle.promises.specs.Demand2.{GoodList, GoodLists, GoodPlan, Demand2}
use Rattle.promises.proofs.Inputs.{D_lawful, D_plan, D_enough, D_slot, grown_slot, four_plan, edited_enough, turned, grown, starved, names_turned, names_grown, names_starved, starved_none, printed, printed_lawful, half_block, over_the_side, exchanged, one_cell_shared}
use Rattle.promises.proofs.RefuteAnswers.{half_not_suited}

-- module 0 of D at (0, 0): the node's shapes there have (2, 3) among them, and not (1, 1), by the leaf's test
leaf_shape : ShapeAt 5 6 (ListsOf D) (node_at D 0) (corner 0 0) (shape 2 3)
unfolding D padded stands has joined added standing column_of covers_block held_between column count total suits_room fits
leaf_shape = (realizes_fits (design_decides D) (node_at D 0) (rectangle 0 0 2 3)).1 refl

no_leaf_shape : ShapeAt 5 6 (ListsOf D) (node_at D 0) (corner 0 0) (shape 1 1) → ⊥
unfolding D padded stands has joined added standing column_of covers_block held_between column count total suits_room fits
no_leaf_shape z = absurd_so ((realizes_fits (design_decides D) (node_at D 0) (rectangle 0 0 1 1)).0 z)

-- the slot of module 0's leaf at (0, 0), after a good listing of D
abbrev leaf_slot : List ℕ → ℕ → ℕ
leaf_slot work = slots_of D work 0 (corner 0 0)

leaf_list : (work : List ℕ) → GoodLists D work → GoodList D 0 (corner 0 0) (leaf_slot work)
unfolding D slot_rows
leaf_list work g = g 0 (corner 0 0) (omega arith) (record { column = omega arith; row = omega arith })

-- module 1 of D at (0, 0): columns 0 and 1 hold no multiplier, so (2, 3) is no shape of it there
no_multiplier : ShapeAt 5 6 (ListsOf D) (node_at D 1) (corner 0 0) (shape 2 3) → ⊥
unfolding D padded stands has joined added standing column_of covers_block held_between column count total suits_room fits
no_multiplier z = absurd_so ((realizes_fits (design_decides D) (node_at D 1) (rectangle 0 0 2 3)).0 z)

-- a good list is the list of the node's shapes, so the root's bytes are those of the bench table
pub good_bytes : (d : Design) (t : ℕ) (c : Corner) (bytes : ℕ → ℕ) → GoodList d t c bytes
    → IsListOf (width_of d) bytes (ShapeAt (width_of d) (height_of d) (ListsOf d) (node_at d t) c)
good_bytes d t c bytes g s = (
  λ z. record { is = g.shapes s z; alone = λ o y e. g.undominated s o z y e },
  λ u. let (o, z, e) = g.complete s u.is in rw (u.alone o (g.shapes o z) e) at z,
)

D_root_bytes : (work : List ℕ) → GoodLists D work → (j : ℕ) → j < 5
    → slots_of D work 2 (corner 0 0) j ≡ get_or (0 ∷ 0 ∷ 0 ∷ 3 ∷ 0 ∷ []) j 0
unfolding D slot_rows Says
D_root_bytes work g =
    list_unique 5 (slots_of D work 2 (corner 0 0)) (λ j. get_or (0 ∷ 0 ∷ 0 ∷ 3 ∷ 0 ∷ []) j 0)
    (good_bytes D 2 (corner 0 0) _ (g 2 (corner 0 0) (omega arith) (record { column = omega arith; row = omega arith }))) D_slot.1

pub grown_root_bytes : (work : List ℕ) → GoodLists grown work → (j : ℕ) → j < 5
    → slots_of grown work 2 (corner 0 0) j ≡ get_or (0 ∷ 0 ∷ 0 ∷ 4 ∷ 3 ∷ []) j 0
unfolding D slot_rows changed Says
grown_root_bytes work g =
    list_unique 5 (slots_of grown work 2 (corner 0 0)) (λ j. get_or (0 ∷ 0 ∷ 0 ∷ 4 ∷ 3 ∷ []) j 0)
    (good_bytes grown 2 (corner 0 0) _ (g 2 (corner 0 0) (omega arith) (record { column = omega arith; row = omega arith }))) grown_slot.1

-- what no good list of it is: empty, with a shape that is none, not falling, with a dominated shape
all_zeros : (n i : ℕ) → ◌≡◌ {A = ℕ} (get_or (replicate n 0) i 0) 0
all_zeros zero i = refl
all_zeros (suc n) zero = refl
all_zeros (suc n) (suc i) = all_zeros n i

pub never_empty : (n : ℕ) → GoodLists D (replicate n 0) → ⊥
unfolding D slot_rows slot
never_empty n g =
    let (o, z, _) = (leaf_list (replicate n 0) g).complete (shape 2 3) leaf_shape in
    let e : 0 ≡ o.h.0 = rw all_zeros at z.byte in let h = z.high in omega arith

never_a_stray_shape : (work : List ℕ) → GoodLists D work → Stores 5 (leaf_slot work) (shape 1 1) → ⊥
unfolding D slot_rows
never_a_stray_shape work g z = no_leaf_shape ((leaf_list work g).shapes (shape 1 1) z)

never_level : (work : List ℕ) → GoodLists D work → (w v h : ℕ) → w < v → Stores 5 (leaf_slot work) (shape w h) → Stores 5 (leaf_slot work) (shape v h) → ⊥
unfolding D slot_rows
never_level work g w v h l y z = let e = (leaf_list work g).sorted (shape w h) (shape v h) y z l in omega arith

never_dominated : (work : List ℕ) → GoodLists D work → Stores 5 (leaf_slot work) (shape 3 3) → ⊥
unfolding D slot_rows
never_dominated work g z =
    let e = (leaf_list work g).undominated (shape 3 3) (shape 2 3) z leaf_shape (record { wide = omega arith; high = omega arith }) in
    let q = ap (λ s. s.w.0) e in omega arith

-- where (2, 3) is a shape, one of the first two bytes is not 0: module 0's leaf at (0, 0), and module 1's at (2, 0)
first_two : (t : ℕ) (c : Corner) (bytes : ℕ → ℕ) → GoodList D t c bytes
    → ShapeAt 5 6 (ListsOf D) (node_at D t) c (shape 2 3) → bytes 0 ≡ 0 → bytes 1 ≡ 0 → ⊥
unfolding D slot_rows
first_two t c bytes g is a b = let (o, z, d) = g.complete (shape 2 3) is in go o.w.0 o.h.0 z.wide d.wide z.byte z.high
  where
    go : (w h : ℕ) → 1 ≤ w → w ≤ 2 → bytes (w - 1) ≡ h → 1 ≤ h → ⊥
    go zero h p q e k = omega arith
    go (suc zero) h p q e k = omega arith
    go (suc (suc zero)) h p q e k = omega arith
    go (suc (suc (suc n))) h p q e k = omega arith

other_leaf_shape : ShapeAt 5 6 (ListsOf D) (node_at D 1) (corner 2 0) (shape 2 3)
unfolding D padded stands has joined added standing column_of covers_block held_between column count total suits_room fits
other_leaf_shape = (realizes_fits (design_decides D) (node_at D 1) (rectangle 2 0 2 3)).1 refl

-- D's bytes, and those of D with 200 CLBs needed in module 0, which has a number of two bytes: they are bytes
bytes_below : (s : List ℕ) → So (all (length s) (λ i. ltb (get_or s i 0) 256)) → AreBytes s
bytes_below s t i = go (dec_lt i (length s))
  where
    go : Dec (i < length s) → get_or s i 0 < 256
    go (yes h) = (ltb_iff (get_or s i 0) 256).0 ((all_iff (length s) (λ i. ltb (get_or s i 0) 256)).0 t i h)
    go (no h) = let e = get_or-eq_default s 0 {n = i} (omega arith) in omega arith

abbrev D_bytes : List ℕ
D_bytes = bytes_ending (2 ∷ 3 ∷ 0 ∷ [])

abbrev large_bytes : List ℕ
large_bytes = 1 ∷ 5 ∷ 6 ∷ 3 ∷ 0 ∷ 1 ∷ 2 ∷ 0 ∷ 0 ∷ 2 ∷ 200 ∷ 1 ∷ 1 ∷ 0 ∷ 3 ∷ 0 ∷ 1 ∷ 2 ∷ 3 ∷ 0 ∷ []

abbrev larger_bytes : List ℕ
larger_bytes = 1 ∷ 5 ∷ 6 ∷ 3 ∷ 0 ∷ 1 ∷ 2 ∷ 0 ∷ 0 ∷ 2 ∷ 192 ∷ 184 ∷ 2 ∷ 1 ∷ 0 ∷ 3 ∷ 0 ∷ 1 ∷ 2 ∷ 3 ∷ 0 ∷ []

are_bytes : AreBytes D_bytes × AreBytes large_bytes × AreBytes larger_bytes
unfolding all
are_bytes = (bytes_below D_bytes refl, bytes_below large_bytes refl, bytes_below larger_bytes refl)

-- rows for D and for D with need 1 as (4,0,1): module 1 up to the chip's last column; for D: the modules one above the other
abbrev pub up_to_the_side : List ℕ
up_to_the_side = 0 ∷ 0 ∷ 2 ∷ 3 ∷ 2 ∷ 0 ∷ 3 ∷ 3 ∷ []

abbrev pub stacked : List ℕ
stacked = 0 ∷ 0 ∷ 2 ∷ 3 ∷ 0 ∷ 3 ∷ 3 ∷ 3 ∷ []

-- two columns and one row, and a module of one cell in each; one cell and one module
unfoldable pub flat : Design
flat = design (0 ∷ 0 ∷ []) 1 1 (need 1 0 0 ∷ need 1 0 0 ∷ []) (2 ∷ 3 ∷ 0 ∷ [])

unfoldable pub cell : Design
cell = design (0 ∷ []) 1 1 (need 1 0 0 ∷ []) (2 ∷ [])

grown_lawful : LawfulDesign grown
grown_lawful = edit_lawful D D_lawful _ names_grown

small_lawful : LawfulDesign flat × LawfulDesign cell
unfolding flat cell slot_rows padded all stands has joined added standing value_test within_limits lawful_chip in_range
    lawful_need
small_lawful = (refl, refl)

flat_rows : List ℕ
flat_rows = 0 ∷ 0 ∷ 1 ∷ 1 ∷ 1 ∷ 0 ∷ 1 ∷ 1 ∷ []

passing : (verdict D up_to_the_side ≡ (Ok tt)) × (verdict grown up_to_the_side ≡ (Ok tt)) × (verdict flat flat_rows ≡ (Ok tt))
    × (verdict cell flat_rows ≡ (Ok tt))
unfolding D flat cell flat_rows changed slot_rows padded all least count total stands has joined added standing value_test
    within_limits lawful_chip in_range lawful_need column_of covers_block held_between holds column from_rows is_on_chip is_at_most is_kept judged_cuts judged_rows verdict
passing = (refl, refl, refl, refl)

grown_fits : LawfulPlacement grown (from_rows up_to_the_side)
grown_fits = ((passes_iff grown grown_lawful up_to_the_side).0 passing.1).1

module _ (S : Services) (demand : Demand2 S) where
  -- "a listing that writes nothing", or lists what is no shape, or two of one height, or a dominated one; or refuses
  module _ (before after : List ℕ) (r : Reply) (x : S.list D before r after) (h : 450 ≤ length before) where
    listed : ((answer r).number ≡ 0) × GoodLists D after
    unfolding D slot_rows
    listed = demand.listed D before after r x D_lawful h

    pub listing_refuses_all : (answer r).number ≡ 0
    listing_refuses_all = listed.0

    pub listing_writes_nothing : (n : ℕ) → after ≡ replicate n 0 → ⊥
    listing_writes_nothing n e = never_empty n (rw e at listed.1)

    pub listing_adds_a_shape : Stores 5 (leaf_slot after) (shape 1 1) → ⊥
    listing_adds_a_shape = never_a_stray_shape after listed.1

    pub listing_keeps_a_height : (w v h : ℕ) → w < v → Stores 5 (leaf_slot after) (shape w h) → Stores 5 (leaf_slot after) (shape v h) → ⊥
    listing_keeps_a_height = never_level after listed.1

    pub listing_keeps_a_dominated_shape : Stores 5 (leaf_slot after) (shape 3 3) → ⊥
    listing_keeps_a_dominated_shape = never_dominated after listed.1

    -- module 0's first column not counted; a RAM column counted for a multiplier in module 1
    pub listing_loses_a_column : leaf_slot after 0 ≡ 0 → leaf_slot after 1 ≡ 0 → ⊥
    listing_loses_a_column = first_two 0 (corner 0 0) (leaf_slot after) (leaf_list after listed.1) leaf_shape

    -- the slots of one column together, instead of those of one row: at 160, where (2, 0)'s slot of node 1 starts, (0, 2)'s would, with (3, 4)
    pub listing_lays_columns_together : get_or after 160 0 ≡ 0 → get_or after 161 0 ≡ 0 → ⊥
    unfolding D slot_rows slot
    listing_lays_columns_together =
        first_two 1 (corner 2 0) (slots_of D after 1 (corner 2 0))
        (listed.1 1 (corner 2 0) (omega arith) (record { column = omega arith; row = omega arith })) other_leaf_shape

    pub listing_takes_a_ram_for_a_multiplier : Stores 5 (slots_of D after 1 (corner 0 0)) (shape 2 3) → ⊥
    unfolding D slot_rows
    listing_takes_a_ram_for_a_multiplier z =
        no_multiplier ((listed.1 1 (corner 0 0) (omega arith) (record { column = omega arith; row = omega arith })).shapes (shape 2 3) z)

    -- the root listed from the right list at its own corner, or with its children exchanged, or with boxes as high as both shapes together, or
    -- with every byte at the slot's start, or not at all (P7)
    pub listing_pairs_wrongly : (j : ℕ) → j < 5 → slots_of D after 2 (corner 0 0) j ≡ get_or (0 ∷ 0 ∷ 0 ∷ 3 ∷ 0 ∷ []) j 0
    listing_pairs_wrongly = D_root_bytes after listed.1

  -- boxes up to the chip's last column left out (P9)
  pub listing_loses_the_full_width : (before after : List ℕ) (r : Reply) → S.list grown before r after
      → 450 ≤ length before
      → (j : ℕ) → j < 5 → slots_of grown after 2 (corner 0 0) j ≡ get_or (0 ∷ 0 ∷ 0 ∷ 4 ∷ 3 ∷ []) j 0
  unfolding D slot_rows changed
  listing_loses_the_full_width before after r x h = grown_root_bytes after (demand.listed grown before after r x grown_lawful h).1

  module _ (before rows after rows' : List ℕ) (r : Planned) (x : S.plan D before rows r after rows') (h : 450 ≤ length before) (k : 8 ≤ length rows) where
    -- a planner that leaves no lists
    pub planner_lists_nothing : (n : ℕ) → after ≡ replicate n 0 → ⊥
    planner_lists_nothing n e = never_empty n (rw e at (demand.plan_listed D before rows after rows' r x (D_enough before rows h k)))

    -- "a planner that says 10 to everything", or any other refusal
    pub planner_says_none : (planned_answer r).number ≡ 10 → ⊥
    planner_says_none e = (demand.planned D before rows after rows' r x (D_enough before rows h k)).none.0 e (from_rows printed) printed_lawful

    planned : ((planned_answer r).number ≡ 0) × GoodPlan D (planned_answer r).box rows'
    planned = (demand.planned D before rows after rows' r x (D_enough before rows h k)).otherwise planner_says_none

    pub planner_gives_up : (planned_answer r).number ≡ 0
    planner_gives_up = planned.0

    -- the modules exchanged; one over the chip's side; the RAM block of the incident, covered in part; two that share a cell
    pub planner_exchanges_modules : rows' ≡ exchanged → ⊥
    unfolding D slot_rows padded Follows from_rows stands has joined added standing
    planner_exchanges_modules e = let f = (rw e at planned.1).follow in let c = f.2 0 1 refl refl in omega arith

    pub planner_leaves_the_chip : rows' ≡ over_the_side → ⊥
    unfolding D slot_rows from_rows
    planner_leaves_the_chip e = let c = ((rw e at planned.1).on_chip 1 (omega arith)).columns in omega arith

    pub planner_counts_half : rows' ≡ half_block → ⊥
    unfolding D slot_rows
    planner_counts_half e = half_not_suited ((rw e at planned.1).meet 0 (omega arith))

    pub planner_shares_a_cell : rows' ≡ one_cell_shared → ⊥
    unfolding D slot_rows from_rows
    planner_shares_a_cell e =
        let c = (rw e at planned.1).apart 0 1 1 2 (omega arith) (omega arith)
        (record { column = (omega arith, omega arith); row = (omega arith, omega arith) }) (record { column = (omega arith, omega arith); row = (omega arith, omega arith) }) in omega arith

    -- a box larger than the least, and one that is not the rows'
    pub planner_takes_the_whole_width : (planned_answer r).box ≡ shape 5 3 → ⊥
    unfolding D slot_rows padded furthest from_rows stands has joined added standing
    planner_takes_the_whole_width e = let a = planned.1.smallest (from_rows printed) printed_lawful in let q = ap area e in omega arith

    pub planner_invents_the_box : rows' ≡ printed → (planned_answer r).box ≡ shape 0 0 → ⊥
    unfolding D slot_rows padded furthest from_rows stands has joined added standing
    planner_invents_the_box e b = let q = (rw e at planned.1).boxed in let z = ap (λ s. s.w.0) (sym b ∙ q) in omega arith

    -- both modules at the cut's own corner
    pub planner_starts_both_at_one_corner : rows' ≡ 0 ∷ 0 ∷ 2 ∷ 3 ∷ 0 ∷ 0 ∷ 2 ∷ 3 ∷ [] → ⊥
    unfolding D slot_rows padded Follows from_rows stands has joined added standing
    planner_starts_both_at_one_corner e = let f = (rw e at planned.1).follow in let c = f.2 0 1 refl refl in omega arith

  -- where there is a floorplan, one is found: on a chip of more columns than rows, and in one column
  found : (d : Design) (before rows after rows' : List ℕ) (r : Planned) → S.plan d before rows r after rows'
      → Enough d before rows
      → (q : Placement) → LawfulPlacement d q → ((planned_answer r).number ≡ 0) × GoodPlan d (planned_answer r).box rows'
  found d before rows after rows' r x h q l = let w = demand.planned d before rows after rows' r x h in w.otherwise (λ e. w.none.0 e q l)

  pub planner_takes_rows_for_columns : (before rows after rows' : List ℕ) (r : Planned) → 12 ≤ length before
      → 8 ≤ length rows
      → S.plan flat before rows r after rows' → (planned_answer r).number ≡ 0
  unfolding flat slot_rows
  planner_takes_rows_for_columns before rows after rows' r h k x =
      (found flat before rows after rows' r x (record { lawful = small_lawful.0; bytes = h; places = k })
      (from_rows flat_rows) ((passes_iff flat small_lawful.0 flat_rows).0 passing.2).1).0

  pub planner_refuses_one_column : (before rows after rows' : List ℕ) (r : Planned) → 1 ≤ length before
      → 4 ≤ length rows
      → S.plan cell before rows r after rows' → (planned_answer r).number ≡ 0
  unfolding cell slot_rows
  planner_refuses_one_column before rows after rows' r h k x =
      (found cell before rows after rows' r x (record { lawful = small_lawful.1; bytes = h; places = k })
      (from_rows flat_rows) ((passes_iff cell small_lawful.1 flat_rows).0 passing.3).1).0

  -- of two shapes the larger; the left child's shape for both (P9)
  module _ (before rows after rows' : List ℕ) (r : Planned) (x : S.plan grown before rows r after rows')
      (h : 450 ≤ length before) (k : 8 ≤ length rows) where
    grown_planned : GoodPlan grown (planned_answer r).box rows'
    grown_planned = (found grown before rows after rows' r x (edited_enough _ names_grown before rows h k) (from_rows up_to_the_side) grown_fits).1

    pub planner_takes_the_largest : (planned_answer r).box ≡ shape 4 4 → ⊥
    unfolding D changed slot_rows padded furthest from_rows stands has joined added standing
    planner_takes_the_largest e = let a = grown_planned.smallest (from_rows up_to_the_side) grown_fits in let q = ap area e in omega arith

    pub planner_gives_the_left_shape : rows' ≡ printed → ⊥
    unfolding D changed slot_rows from_rows column_of covers_block held_between holds column count total padded
    planner_gives_the_left_shape e = let c = ((rw e at grown_planned).meet 1 (omega arith)).clbs in omega arith

  -- a planner that finds a floorplan for everything
  pub planner_always_finds : (before rows after rows' : List ℕ) (r : Planned) → 450 ≤ length before → 8 ≤ length rows
      → S.plan starved before rows r after rows' → (planned_answer r).number ≡ 0 → ⊥
  planner_always_finds before rows after rows' r h k x e =
      let n = (demand.planned starved before rows after rows' r x (edited_enough _ names_starved before rows h k)).none.1 starved_none in omega arith

  -- "or one fixed floorplan": the one that 01 prints for D, where D's cut is turned
  pub planner_fixed : (before rows after : List ℕ) (r : Planned) → 450 ≤ length before → 8 ≤ length rows
      → S.plan turned before rows r after printed → (planned_answer r).number ≡ 0 → ⊥
  unfolding D slot_rows changed padded Follows from_rows stands has joined added standing
  planner_fixed before rows after r h k x e =
      let (_, g) = (demand.planned turned before rows after printed r x (edited_enough _ names_turned before rows h k)).otherwise (λ n. omega arith) in
      let c = g.follow.2 0 1 refl refl in omega arith

  -- a placer that refuses all: over D's own lists there is a floorplan
  pub placer_refuses_all : (work rows rows' : List ℕ) (r : Planned) → 450 ≤ length work → 8 ≤ length rows → OwnLists D (slots_of D work)
      → S.place D work rows r rows' → (planned_answer r).number ≡ 0
  placer_refuses_all work rows rows' r h k own x =
      let w = demand.placed D work rows rows' r x (D_enough work rows h k) own in (w.otherwise (λ e. w.none.0 e (from_rows printed) printed_lawful)).0

  -- a checker that refuses all, and one that counts a block covered in part
  pub checker_refuses_all : (r : Reply) → S.check D printed r → (answer r).number ≡ 0
  unfolding D slot_rows
  checker_refuses_all r x = (demand.checked D printed r x D_lawful (omega arith)).1 printed_lawful

  pub checker_refuses_the_full_width : (r : Reply) → S.check D up_to_the_side r → (answer r).number ≡ 0
  unfolding D slot_rows
  checker_refuses_the_full_width r x =
      (demand.checked D up_to_the_side r x D_lawful (omega arith)).1 ((passes_iff D D_lawful up_to_the_side).0 passing.0).1

  pub checker_passes_every_cut : (r : Reply) → S.check D stacked r → (answer r).number ≡ 0 → ⊥
  unfolding D slot_rows padded Follows from_rows stands has joined added standing
  checker_passes_every_cut r x e = let c = ((demand.checked D stacked r x D_lawful (omega arith)).0 e).follows.2 0 1 refl refl in omega arith

  pub checker_counts_half : (r : Reply) → S.check D half_block r → (answer r).number ≡ 0 → ⊥
  unfolding D slot_rows padded stands has joined added standing
  checker_counts_half r x e = half_not_suited (((demand.checked D half_block r x D_lawful (omega arith)).0 e).suits 0 refl)

  -- "a writer with an invented byte count", of D's bytes and of those with a number of two bytes; and one that puts other bytes
  pub writer_invents_count : (before after : List ℕ) (r : Handed) (w : Written) → S.read D_bytes r → (answer r.reply).number ≡ 0
      → S.write r.design before w after → 19 ≤ length before → written_answer w ≡ plainly 0 19
  writer_invents_count before after r w x e y h = (demand.bytes_again D_bytes before after r w are_bytes.0 x e y h).0

  pub writer_drops_a_group : (before after : List ℕ) (r : Handed) (w : Written) → S.read large_bytes r → (answer r.reply).number ≡ 0
      → S.write r.design before w after → 20 ≤ length before → (written_answer w ≡ plainly 0 20) × (take 20 after ≡ large_bytes)
  writer_drops_a_group before after r w x e y h = demand.bytes_again large_bytes before after r w are_bytes.1 x e y h

  pub writer_exchanges_groups : (before after : List ℕ) (r : Handed) (w : Written) → S.read larger_bytes r
      → (answer r.reply).number ≡ 0
      → S.write r.design before w after → 21 ≤ length before
      → (written_answer w ≡ plainly 0 21) × (take 21 after ≡ larger_bytes)
  writer_exchanges_groups before after r w x e y h = demand.bytes_again larger_bytes before after r w are_bytes.2 x e y h

  -- a reader that loses the block height, a RAM, or which module a token names
  module _ (before after : List ℕ) (w : Written) (r : Handed) (x : S.write D before w after) (h : 19 ≤ length before)
      (y : S.read (take (written_answer w).value after) r) where
    D_fits : length (design_bytes D) ≤ length before
    unfolding D slot_rows padded number_bytes need_bytes row_bytes design_bytes
    D_fits = h

    pub reader_loses_the_block_height : r.design.chip.block.0 ≡ 3
    unfolding D slot_rows
    reader_loses_the_block_height = sym (ap (λ b. b.0) (demand.design_again D before after w r D_lawful x D_fits y).1.chip.block)

    pub reader_loses_a_ram : need_at r.design 0 ≡ need 2 1 0
    unfolding D slot_rows padded
    reader_loses_a_ram = sym ((demand.design_again D before after w r D_lawful x D_fits y).1.needs 0 (omega arith))

    pub reader_loses_a_module : get_or r.design.tokens 1 0 ≡ 3
    unfolding D slot_rows padded
    reader_loses_a_module = sym ((demand.design_again D before after w r D_lawful x D_fits y).1.tokens 1 (omega arith))

    pub reader_refuses_its_own : (answer r.reply).number ≡ 0
    reader_refuses_its_own = (demand.design_again D before after w r D_lawful x D_fits y).0

-- What the demands leave open a contract settles: of equal areas the narrower (P11), and D's rows to the byte.
module _ (S : Services) (keeps : Keeping S) (before rows after rows' : List ℕ) (r : Planned) where
  pub planner_takes_the_wide_one : S.plan four before rows r after rows' → Enough four before rows
      → r ≡ Ok (shape 3 4)
  unfolding Says
  planner_takes_the_wide_one x h =
      let c = keeps.plan four before rows after rows' r x in
      let (ch, (p, down), _) = four_plan (slots_of four after) (c.listed h).1 in (c.done h (shape 3 4) p ch down).0

  pub planner_puts_other_rows : S.plan D before rows r after rows' → Enough D before rows
      → (r ≡ Ok (shape 4 3)) × (rows' ≡ printed ++ drop 8 rows)
  unfolding Says D slot_rows rows_out
  planner_puts_other_rows x h =
      let c = keeps.plan D before rows after rows' r x in
      let (ch, (p, down), all) = D_plan (slots_of D after) (c.listed h).1 in
      let (a, b) = c.done h (shape 4 3) p ch down in
      (a, b ∙ rw (all p down 0 (omega arith), all p down 1 (omega arith)))

-- The program's text is 01's to the byte: of D's floorplan, of 10, and of a number of five digits.
pub text_of_D : plan_text (Ok (shape 4 3)) 2 printed
    ≡ 112 ∷ 108 ∷ 97 ∷ 110 ∷ 32 ∷ 48 ∷ 32 ∷ 52 ∷ 32 ∷ 51 ∷ 10
    ∷ 48 ∷ 32 ∷ 48 ∷ 32 ∷ 48 ∷ 32 ∷ 50 ∷ 32 ∷ 51 ∷ 10
    ∷ 49 ∷ 32 ∷ 50 ∷ 32 ∷ 48 ∷ 32 ∷ 50 ∷ 32 ∷ 51 ∷ 10 ∷ []
unfolding from_rows decimal figures module_line module_lines plan_text
text_of_D = refl

pub text_of_10 : (m : ℕ) (rows : List ℕ) → plan_text (Err NoPlacement) m rows
    ≡ 112 ∷ 108 ∷ 97 ∷ 110 ∷ 32 ∷ 49 ∷ 48 ∷ 32 ∷ 48 ∷ 10 ∷ []
unfolding decimal figures plan_text
text_of_10 m rows = refl

pub text_of_five_digits : (m : ℕ) (rows : List ℕ) → plan_text (Err (Unfinished 12345)) m rows
    ≡ 112 ∷ 108 ∷ 97 ∷ 110 ∷ 32 ∷ 49 ∷ 32 ∷ 49 ∷ 50 ∷ 51 ∷ 52 ∷ 53 ∷ 10 ∷ []
unfolding decimal figures plan_text
text_of_five_digits m rows = refl
