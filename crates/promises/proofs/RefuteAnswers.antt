-- Wrong services that demand 1 rejects, each by an input: what a number of its table would have to mean there does not hold, or a buffer does not
-- stand. Nothing of a service is known here but the demand. Assumes nothing.
use mathlib.Core.Path.{◌≡◌, refl, sym, ◌∙◌, ap}
use mathlib.Core.Logic.{◌⊎◌, inl, inr, ⊎_elim}
use mathlib.Core.Bool.{So}
use mathlib.Core.List.{List, [], ◌∷◌, ◌++◌}
use Prim.Native.Nat.{ℕ, suc, ◌-◌, ◌≤◌, ◌<◌}
use native.Mathlib.Omega.{arith}
use lib.ListN.{length, get_or, drop, replicate, length-replicate}
use Rattle.rules.specs.declared.Corner.{Corner}
use Rattle.rules.specs.declared.Design.{Design}
use Rattle.rules.specs.declared.Edit.{Edit}
use Rattle.rules.specs.declared.Edit.TheVariants.{Change, Turn}
use Rattle.rules.specs.declared.Need.{Need}
use Rattle.rules.specs.declared.Refusal.{Refusal}
use Rattle.rules.specs.declared.Refusal.TheVariants.{Unfinished, Malformed, WrongForm, BreaksLimits, BadToken, ExtraBytes}
use Rattle.rules.specs.Answers.{Reply, Written, Planned}
use Rattle.rules.specs.declared.Handed.{Handed}
use Rattle.rules.specs.Search.{any, all, least, count, total}
use Rattle.rules.specs.Chip.{OnChip, corner, shape, column, column_of, covers_block, held_between, holds}
use Rattle.rules.specs.Tree.{stands, has, joined, added, standing}
use Rattle.rules.specs.Placement.{Placement}
use Rattle.rules.specs.Slot.{slot, CornerOn}
use Rattle.rules.specs.Choice.{Chosen}
use Rattle.rules.specs.Design.{LawfulDesign, LawfulPlacement, SuitsOf, within_limits, lawful_chip, in_range, lawful_need, nodes, slots_of, AllStairs, OwnLists, root_slot, GoesDown, given_for, width_of, height_of, slot_rows}
use Rattle.rules.specs.Edit.{names_place}
use Rattle.rules.specs.Bytes.{took, refuse, padded, number_bytes, need_bytes, row_bytes, design_bytes, number_at, second_byte, third_byte, checked_at, row_at, need_of, tokens_at, design_at, chip_from, design_from}
use Rattle.rules.specs.Check.{from_rows, is_at_most}
use Rattle.rules.specs.Reply.{Answer, plainly, refusal, answer, written_answer, planned_answer}
use Rattle.rules.specs.Service.{Enough, work_of, zeros}
use Rattle.rules.specs.Bench.{Says, D, need, design, bytes_ending}
use Rattle.rules.proofs.Searching.{absurd_so}
use Rattle.rules.proofs.Test.{is_stair, are_stairs, best_width, meets, left_index, right_index, has_pair, goes_down}
use Rattle.rules.proofs.Stairs.{stairs_iff}
use Rattle.rules.proofs.Choosing.{chosen_once, chooses_this}
use Rattle.rules.proofs.Floorplans.{own_stairs, laid_goes}
use Rattle.promises.specs.Services.{Services, Keeping}
use Rattle.promises.specs.Demand1
use Rattle.promises.proofs.Inputs.{D_lawful, D_plan, D_enough, tall, tall_breaks_limits, twice, twice_bad_token, names_turned, names_no_zero_need, starved, half_block, over_the_side, of_lawful, gets_4, gets_5}

-- D's bytes, and D's length in bytes
D_bytes : length (design_bytes D) ≡ 19
unfolding D slot_rows padded number_bytes need_bytes row_bytes design_bytes
D_bytes = refl

-- two answers with other numbers are not the same
other_number : {A : Type 0} {a b : Answer} → a ≡ b → (a.number ≡ b.number → ⊥) → A
other_number e o = absurd (o (ap (λ x. x.number) e))

-- the table of a reading decides its answer
read_refused : {s : List ℕ} {d : Design} {a : Answer} {e : Refusal} → design_at s ≡ refuse e → Demand1.ReadNumbered s d a → a ≡ refusal e
read_refused q (Demand1.done p _) = let z : ◌≡◌ {A = ℕ} 0 1 = cc in absurd (omega arith)
read_refused {e = e} q (Demand1.unfinished {i = i} p) = let x : Unfinished i ≡ e = cc in rw (← x)
read_refused {e = e} q (Demand1.malformed {i = i} p) = let x : Malformed i ≡ e = cc in rw (← x)
read_refused {e = e} q (Demand1.wrong_form {i = i} p) = let x : WrongForm i ≡ e = cc in rw (← x)
read_refused {e = e} q (Demand1.breaks_limits {i = i} p) = let x : BreaksLimits i ≡ e = cc in rw (← x)
read_refused {e = e} q (Demand1.bad_token {i = i} p) = let x : BadToken i ≡ e = cc in rw (← x)
read_refused {e = e} q (Demand1.extra_bytes {i = i} p) = let x : ExtraBytes i ≡ e = cc in rw (← x)

read_accepted : {s : List ℕ} {d e : Design} {n : ℕ} {a : Answer} → design_at s ≡ took e n → Demand1.ReadNumbered s d a → (a ≡ plainly 0 0) × (d ≡ e)
read_accepted {d = d} {e = e} q (Demand1.done p _) = let x : d ≡ e = cc in (refl, x)
read_accepted q (Demand1.unfinished p) = let z : ◌≡◌ {A = ℕ} 0 1 = cc in absurd (omega arith)
read_accepted q (Demand1.malformed p) = let z : ◌≡◌ {A = ℕ} 0 1 = cc in absurd (omega arith)
read_accepted q (Demand1.wrong_form p) = let z : ◌≡◌ {A = ℕ} 0 1 = cc in absurd (omega arith)
read_accepted q (Demand1.breaks_limits p) = let z : ◌≡◌ {A = ℕ} 0 1 = cc in absurd (omega arith)
read_accepted q (Demand1.bad_token p) = let z : ◌≡◌ {A = ℕ} 0 1 = cc in absurd (omega arith)
read_accepted q (Demand1.extra_bytes p) = let z : ◌≡◌ {A = ℕ} 0 1 = cc in absurd (omega arith)

-- D's bytes, D's bytes and one more, and none
reads_D : design_at (bytes_ending (2 ∷ 3 ∷ 0 ∷ [])) ≡ took D 19
unfolding D slot_rows padded all stands has joined added in_range lawful_need number_at second_byte third_byte checked_at row_at need_of tokens_at design_at
reads_D = refl

reads_one_more : (v : ℕ) → design_at (bytes_ending (2 ∷ 3 ∷ 0 ∷ v ∷ [])) ≡ refuse (ExtraBytes 19)
unfolding all stands has joined added in_range lawful_need number_at second_byte third_byte checked_at row_at need_of tokens_at design_at
reads_one_more v = refl

-- D's bytes with W's bytes and B as given; with the bytes of module 0's CLBs, and module 1's CLBs and multipliers
abbrev pub sized : List ℕ → ℕ → List ℕ
sized w b = 1 ∷ (w ++ (6 ∷ b ∷ 0 ∷ 1 ∷ 2 ∷ 0 ∷ 0 ∷ 2 ∷ 2 ∷ 1 ∷ 0 ∷ 3 ∷ 0 ∷ 1 ∷ 2 ∷ 3 ∷ 0 ∷ []))

abbrev pub needing : List ℕ → ℕ → ℕ → List ℕ
needing clbs c m = (1 ∷ 5 ∷ 6 ∷ 3 ∷ 0 ∷ 1 ∷ 2 ∷ 0 ∷ 0 ∷ 2 ∷ []) ++ (clbs ++ (1 ∷ 0 ∷ c ∷ 0 ∷ m ∷ 2 ∷ 3 ∷ 0 ∷ []))

reads_nothing : design_at [] ≡ refuse (Unfinished 0)
unfolding number_at checked_at design_at
reads_nothing = refl

-- work that no listing left: 255 in every byte, where no height of D's is over 6
pub stranger : List ℕ
stranger = replicate 450 255

pub no_stairs : AllStairs D (slots_of D stranger) → ⊥
unfolding D slot_rows slot stranger
no_stairs st =
    let h = (st 0 (corner 0 0) (omega arith) (record { column = omega arith; row = omega arith })).rows 0 (omega arith) in omega arith

stranger_long : length stranger ≡ 450
unfolding stranger
stranger_long = length-replicate {A = ℕ} 450 255

-- A stranger's stairs for D: the root at (0, 0) holds (5, 6); two shapes of module 0 there have a pair with that box, (2, 6) with module 1's (3, 5)
-- at column 2, and (3, 5) with its (2, 6) at column 3, where there is no multiplier. Going down takes the first.
unfoldable pub two_pairs : List ℕ
two_pairs = 0 ∷ 6 ∷ 5 ∷ (replicate 159 0 ++ (5 ∷ 0 ∷ 0 ∷ 0 ∷ 6 ∷ (replicate 137 0 ++ (6 ∷ replicate 145 0))))

two_pairs_stairs : AllStairs D (slots_of D two_pairs)
unfolding D slot_rows two_pairs slot all is_stair are_stairs
two_pairs_stairs = (stairs_iff 5 6 6 3 (slots_of D two_pairs)).0 refl

two_pairs_chosen : Chosen 5 (root_slot D (slots_of D two_pairs)) (shape 5 6)
unfolding D slot_rows two_pairs slot best_width
two_pairs_chosen = chooses_this 5 (root_slot D (slots_of D two_pairs)) (shape 5 6) (omega arith) refl refl

two_pairs_down : (p : Placement) × GoesDown D (slots_of D two_pairs) (shape 5 6) p
unfolding D slot_rows two_pairs slot padded any all least count total stands has joined added standing column_of
    covers_block held_between holds column
    is_at_most given_for meets left_index right_index has_pair goes_down
two_pairs_down = (_, laid_goes D D_lawful (slots_of D two_pairs) (shape 5 6) refl)

-- D with 65 columns, with a need of nothing, with a token for module 2 and with a cut on one thing
unfoldable pub wide : Design
wide = design_from (chip_from 65 6 3 (0 ∷ 1 ∷ 2 ∷ 0 ∷ 0 ∷ [])) 2 (need 2 1 0 ∷ need 3 0 1 ∷ []) (2 ∷ 3 ∷ 0 ∷ [])

unfoldable pub altered : List Need → List ℕ → Design
altered needs tokens = design (0 ∷ 1 ∷ 2 ∷ 0 ∷ 0 ∷ []) 6 3 needs tokens

wide_breaks_limits : So (within_limits wide) → ⊥
unfolding wide padded all within_limits lawful_chip in_range lawful_need
wide_breaks_limits = absurd_so

idle_breaks_limits : So (within_limits (altered (need 2 1 0 ∷ need 0 0 0 ∷ []) (2 ∷ 3 ∷ 0 ∷ []))) → ⊥
unfolding altered padded all within_limits lawful_chip in_range lawful_need
idle_breaks_limits = absurd_so

-- which edits name no place of D: a leaf, a place past the tokens, module 2
names_no_leaf : So (names_place D (Turn 0)) → ⊥
unfolding D slot_rows padded names_place
names_no_leaf = absurd_so

names_none_past : So (names_place D (Turn 3)) → ⊥
unfolding D slot_rows padded names_place
names_none_past = absurd_so

names_no_module_2 : So (names_place D (Change 2 (need 1 0 0))) → ⊥
unfolding D slot_rows padded names_place
names_no_module_2 = absurd_so

-- module 0 of D in the rows 1 to 3 holds no RAM block
pub half_not_suited : SuitsOf D 0 (from_rows half_block 0) → ⊥
unfolding D slot_rows from_rows column_of covers_block held_between holds column count total padded
half_not_suited s = let h = s.rams in omega arith

half_not_lawful : LawfulPlacement D (from_rows half_block) → ⊥
unfolding D slot_rows padded stands has joined added standing
half_not_lawful l = half_not_suited (l.suits 0 refl)

module _ (S : Services) (demand : Demand1.Demand1 S) where
  -- read: no fault in no bytes, or another, or at another position; a byte after the last token let through; D refused, or read as another
  -- design; a refusal that hands back a design
  pub reader_takes_nothing : (r : Handed) → S.read [] r → answer r.reply ≡ plainly 1 0
  reader_takes_nothing r x = read_refused reads_nothing (demand.numbered.read [] r x)

  pub reader_takes_an_extra_byte : (v : ℕ) (r : Handed) → S.read (bytes_ending (2 ∷ 3 ∷ 0 ∷ v ∷ [])) r → answer r.reply ≡ plainly 7 19
  reader_takes_an_extra_byte v r x = read_refused (reads_one_more v) (demand.numbered.read _ r x)

  pub reader_refuses_all : (r : Handed) → S.read (bytes_ending (2 ∷ 3 ∷ 0 ∷ [])) r → (answer r.reply ≡ plainly 0 0) × (r.design ≡ D)
  reader_refuses_all r x = read_accepted reads_D (demand.numbered.read _ r x)

  pub reader_hands_back_a_design : (r : Handed) → S.read [] r → r.design ≡ D → ⊥
  unfolding D slot_rows zeros
  reader_hands_back_a_design r x e =
      let a = reader_takes_nothing r x in let q = demand.leaving.read [] r x (λ n. let z = ap (λ b. b.number) a in omega arith) in
      let z = ap (λ d. width_of d) (sym e ∙ q) in omega arith

  -- D's bytes with one number otherwise: W in two bytes or in three where one would do; 65 columns; a block higher than the chip; 65,536; a
  -- need of nothing; a cut on one thing; the module after the last. They are let through, or refused at the byte at fault or the next number
  pub reader_takes_two_bytes_for_one : (r : Handed) → S.read (sized (133 ∷ 0 ∷ []) 3) r
      → answer r.reply ≡ plainly 2 1
  unfolding in_range number_at second_byte third_byte checked_at design_at
  reader_takes_two_bytes_for_one r x = read_refused {e = Malformed 1} refl (demand.numbered.read _ r x)

  pub reader_takes_three_bytes_for_two : (r : Handed) → S.read (sized (133 ∷ 128 ∷ 0 ∷ []) 3) r
      → answer r.reply ≡ plainly 2 1
  unfolding in_range number_at second_byte third_byte checked_at design_at
  reader_takes_three_bytes_for_two r x = read_refused {e = Malformed 1} refl (demand.numbered.read _ r x)

  pub reader_takes_65_columns : (r : Handed) → S.read (sized (65 ∷ []) 3) r → answer r.reply ≡ plainly 4 1
  unfolding in_range number_at second_byte third_byte checked_at design_at
  reader_takes_65_columns r x = read_refused {e = BreaksLimits 1} refl (demand.numbered.read _ r x)

  pub reader_takes_a_tall_block : (r : Handed) → S.read (sized (5 ∷ []) 7) r → answer r.reply ≡ plainly 4 3
  unfolding in_range number_at second_byte third_byte checked_at design_at
  reader_takes_a_tall_block r x = read_refused {e = BreaksLimits 3} refl (demand.numbered.read _ r x)

  pub reader_takes_65536 : (r : Handed) → S.read (needing (128 ∷ 128 ∷ 4 ∷ []) 3 1) r
      → answer r.reply ≡ plainly 2 10
  unfolding in_range lawful_need number_at second_byte third_byte checked_at row_at need_of design_at
  reader_takes_65536 r x = read_refused {e = Malformed 10} refl (demand.numbered.read _ r x)

  pub reader_takes_a_zero_need : (r : Handed) → S.read (needing (2 ∷ []) 0 0) r → answer r.reply ≡ plainly 4 13
  unfolding in_range lawful_need number_at second_byte third_byte checked_at row_at need_of design_at
  reader_takes_a_zero_need r x = read_refused {e = BreaksLimits 13} refl (demand.numbered.read _ r x)

  pub reader_joins_one_thing : (r : Handed) → S.read (bytes_ending (2 ∷ 0 ∷ 3 ∷ [])) r
      → answer r.reply ≡ plainly 5 17
  unfolding stands has joined added in_range lawful_need number_at second_byte third_byte checked_at row_at need_of tokens_at
      design_at
  reader_joins_one_thing r x = read_refused {e = BadToken 17} refl (demand.numbered.read _ r x)

  pub reader_takes_module_m : (r : Handed) → S.read (bytes_ending (2 ∷ 4 ∷ 0 ∷ [])) r → answer r.reply ≡ plainly 5 17
  unfolding stands has joined added in_range lawful_need number_at second_byte third_byte checked_at row_at need_of tokens_at
      design_at
  reader_takes_module_m r x = read_refused {e = BadToken 17} refl (demand.numbered.read _ r x)

  -- a refusal that hands back a chip of some width
  pub reader_hands_back_a_column : (r : Handed) → S.read [] r → width_of r.design ≡ 0
  unfolding zeros
  reader_hands_back_a_column r x =
      let a = reader_takes_nothing r x in let q = demand.leaving.read [] r x (λ n. let z = ap (λ b. b.number) a in omega arith) in rw q

  -- write: an unlawful design written, D refused with room, or written in part where it does not fit
  pub writer_takes_a_tall_block : (before after : List ℕ) (r : Written) → S.write tall before r after → written_answer r ≡ plainly 4 0
  writer_takes_a_tall_block before after r x = gets_4 tall_breaks_limits (demand.numbered.write tall before after r x)

  pub writer_takes_a_module_twice : (before after : List ℕ) (r : Written) → S.write twice before r after → written_answer r ≡ plainly 5 0
  writer_takes_a_module_twice before after r x = gets_5 twice_bad_token (demand.numbered.write twice before after r x)

  pub writer_takes_65_columns : (before after : List ℕ) (r : Written) → S.write wide before r after
      → written_answer r ≡ plainly 4 0
  writer_takes_65_columns before after r x = gets_4 wide_breaks_limits (demand.numbered.write wide before after r x)

  pub writer_takes_a_zero_need : (before after : List ℕ) (r : Written)
      → S.write (altered (need 2 1 0 ∷ need 0 0 0 ∷ []) (2 ∷ 3 ∷ 0 ∷ [])) before r after
      → written_answer r ≡ plainly 4 0
  writer_takes_a_zero_need before after r x = gets_4 idle_breaks_limits (demand.numbered.write _ before after r x)

  pub writer_takes_module_m : (before after : List ℕ) (r : Written)
      → S.write (altered (need 2 1 0 ∷ need 3 0 1 ∷ []) (2 ∷ 4 ∷ 0 ∷ [])) before r after
      → written_answer r ≡ plainly 5 0
  unfolding altered padded all within_limits lawful_chip in_range lawful_need stands has joined added standing
  writer_takes_module_m before after r x = gets_5 (refl, refl) (demand.numbered.write _ before after r x)

  pub writer_joins_one_thing : (before after : List ℕ) (r : Written)
      → S.write (altered (need 2 1 0 ∷ need 3 0 1 ∷ []) (2 ∷ 0 ∷ 3 ∷ [])) before r after
      → written_answer r ≡ plainly 5 0
  unfolding altered padded all within_limits lawful_chip in_range lawful_need stands has joined added standing
  writer_joins_one_thing before after r x = gets_5 (refl, refl) (demand.numbered.write _ before after r x)

  pub writer_refuses_all : (before after : List ℕ) (r : Written) → 19 ≤ length before → S.write D before r after → written_answer r ≡ plainly 0 19
  writer_refuses_all before after r h x = go (of_lawful D_lawful (demand.numbered.write D before after r x))
    where
      go : {a : Answer} → Demand1.WriteNumbered D before a → a ≡ plainly 0 19
      go (Demand1.short l) = let e = D_bytes in absurd (omega arith)
      go (Demand1.done _) = rw D_bytes

  pub writer_fills_what_there_is : (before after : List ℕ) (r : Written) → length before < 19 → S.write D before r after
      → (written_answer r ≡ plainly 8 0) × (after ≡ before)
  writer_fills_what_there_is before after r h x =
      let a = go (of_lawful D_lawful (demand.numbered.write D before after r x)) in
      (a, demand.leaving.write D before after r x (λ n. let z = ap (λ b. b.number) a in omega arith))
    where
      go : {a : Answer} → Demand1.WriteNumbered D before a → a ≡ plainly 8 0
      go (Demand1.short _) = refl
      go (Demand1.done l) = let e = D_bytes in absurd (omega arith)

  -- list: D refused with room; work cleared before its length is looked at
  pub lister_refuses_all : (before after : List ℕ) (r : Reply) → 450 ≤ length before → S.list D before r after → answer r ≡ plainly 0 0
  unfolding D slot_rows
  lister_refuses_all before after r h x = go (of_lawful D_lawful (demand.numbered.list D before after r x))
    where
      go : {a : Answer} → Demand1.ListNumbered D before a → a ≡ plainly 0 0
      go (Demand1.short l) = absurd (omega arith)
      go (Demand1.done _) = refl

  pub lister_takes_a_tall_block : (before after : List ℕ) (r : Reply) → S.list tall before r after → (answer r ≡ plainly 4 0) × (after ≡ before)
  lister_takes_a_tall_block before after r x =
      let a = gets_4 tall_breaks_limits (demand.numbered.list tall before after r x) in
      (a, demand.leaving.list tall before after r x (λ n. let z = ap (λ b. b.number) a in omega arith))

  pub lister_clears_first : (r : Reply) → S.list D (1 ∷ []) r (0 ∷ []) → ⊥
  unfolding D slot_rows
  lister_clears_first r x =
      let a = go (of_lawful D_lawful (demand.numbered.list D (1 ∷ []) (0 ∷ []) r x)) in
      let q = demand.leaving.list D (1 ∷ []) (0 ∷ []) r x (λ n. let z = ap (λ b. b.number) a in omega arith) in
      let z = ap (λ l. get_or l 0 0) q in omega arith
    where
      go : {a : Answer} → Demand1.ListNumbered D (1 ∷ []) a → a ≡ plainly 8 0
      go (Demand1.short _) = refl
      go (Demand1.done l) = absurd (omega arith)

  -- plan: rows too few for D let through, or written to; an unlawful design planned; a design without a placement whose lists are not left, or
  -- whose rows are not
  pub planner_takes_few_rows : (before after rows' : List ℕ) (r : Planned) → S.plan D before [] r after rows'
      → (planned_answer r ≡ plainly 8 0) × (after ≡ before) × (rows' ≡ [])
  unfolding D slot_rows
  planner_takes_few_rows before after rows' r x =
      let a = go (of_lawful D_lawful (demand.numbered.plan D before [] after rows' r x)) in
      let q = demand.leaving.plan D before [] after rows' r x (λ n. let z = ap (λ b. b.number) a in omega arith) in
      (a, q.work_stands (λ n. let z = ap (λ b. b.number) a in omega arith), q.rows_stand)
    where
      go : {a : Answer} → Demand1.PlanNumbered D before [] a → a ≡ plainly 8 0
      go (Demand1.short _) = refl
      go (Demand1.none e) = let h = e.places in absurd (omega arith)
      go (Demand1.done e) = let h = e.places in absurd (omega arith)

  pub planner_takes_a_tall_block : (before rows after rows' : List ℕ) (r : Planned) → S.plan tall before rows r after rows' → planned_answer r ≡ plainly 4 0
  planner_takes_a_tall_block before rows after rows' r x = gets_4 tall_breaks_limits (demand.numbered.plan tall before rows after rows' r x)

  pub planner_clears_rows : (before rows after rows' : List ℕ) (r : Planned) → S.plan starved before rows r after rows' → (planned_answer r).number ≡ 10
      → (rows' ≡ rows → ⊥) → ⊥
  planner_clears_rows before rows after rows' r x e f =
      f (demand.leaving.plan starved before rows after rows' r x (λ n. absurd (omega arith))).rows_stand

  pub planner_lists_nothing : (before rows after rows' : List ℕ) (r : Planned) → S.plan starved before rows r after rows' → (planned_answer r).number ≡ 10
      → (OwnLists starved (slots_of starved after) → ⊥) → ⊥
  planner_lists_nothing before rows after rows' r x e f =
      f ((demand.leaving.plan starved before rows after rows' r x (λ n. absurd (omega arith))).work_listed e).1

  -- place: a stranger's bytes not tested, or rows written all the same
  strange_placed : (d : Design) (work rows rows' : List ℕ) (r : Planned) → Enough d work rows
      → (AllStairs d (slots_of d work) → ⊥) → S.place d work rows r rows'
      → (planned_answer r ≡ plainly 9 0) × (rows' ≡ rows)
  strange_placed d work rows rows' r h f x =
      let a = go (of_lawful h.lawful (demand.numbered.place d work rows rows' r x)) in
      (a, demand.leaving.place d work rows rows' r x (λ n. let z = ap (λ b. b.number) a in omega arith))
    where
      go : {a : Answer} → Demand1.PlaceNumbered d work rows rows' a → a ≡ plainly 9 0
      go (Demand1.short (inl k)) = let l = h.bytes in absurd (omega arith)
      go (Demand1.short (inr k)) = let l = h.places in absurd (omega arith)
      go (Demand1.stranger _ _) = refl
      go (Demand1.none _ st _) = absurd (f st)
      go (Demand1.lost _ st _ _) = absurd (f st)
      go (Demand1.done _ st _) = absurd (f st)

  pub placer_skips_the_stair_test : (rows rows' : List ℕ) (r : Planned) → 8 ≤ length rows → S.place D stranger rows r rows'
      → (planned_answer r ≡ plainly 9 0) × (rows' ≡ rows)
  placer_skips_the_stair_test rows rows' r h =
      let e = stranger_long in strange_placed D stranger rows rows' r (D_enough stranger rows (omega arith) h) no_stairs

  -- of any design one byte, in whatever slot of whatever node: over the rows above it; at a width over the columns; as high as an earlier one
  module _ (d : Design) (work rows rows' : List ℕ) (r : Planned) (h : Enough d work rows)
      (x : S.place d work rows r rows') (t : ℕ) (c : Corner) (b : t < nodes d) (on : CornerOn (width_of d) (slot_rows d) c) where
    pub placer_misses_a_height : (j : ℕ) → j < width_of d → height_of d - c.y.0 < slots_of d work t c j
        → planned_answer r ≡ plainly 9 0
    placer_misses_a_height j k o =
        (strange_placed d work rows rows' r h (λ st. let z = (st t c b on).rows j k in omega arith) x).0

    pub placer_misses_a_width : (j : ℕ) → j < width_of d → width_of d - c.x.0 ≤ j → 0 < slots_of d work t c j
        → planned_answer r ≡ plainly 9 0
    placer_misses_a_width j k w o =
        (strange_placed d work rows rows' r h (λ st. let z = (st t c b on).columns j k (omega arith) in omega arith) x).0

    pub placer_misses_a_level : (i j : ℕ) → i < j → j < width_of d → 0 < slots_of d work t c i
        → slots_of d work t c i ≤ slots_of d work t c j → planned_answer r ≡ plainly 9 0
    placer_misses_a_level i j p k q o =
        (strange_placed d work rows rows' r h (λ st. let z = (st t c b on).fall i j p k q (omega arith) in omega arith) x).0

  -- 10 where the root holds a shape, and going down from it fails
  pub placer_says_none_when_lost : (work rows rows' : List ℕ) (r : Planned) (j : ℕ) → j < 5
      → 0 < slots_of D work 2 (corner 0 0) j
      → S.place D work rows r rows' → (planned_answer r).number ≡ 10 → ⊥
  unfolding D slot_rows
  placer_says_none_when_lost work rows rows' r j h p x e = go (of_lawful D_lawful (demand.numbered.place D work rows rows' r x)) e
    where
      go : {a : Answer} → Demand1.PlaceNumbered D work rows rows' a → a.number ≡ 10 → ⊥
      go (Demand1.short _) e = omega arith
      go (Demand1.stranger _ _) e = omega arith
      go (Demand1.none _ _ f) e =
          let q : suc j - 1 ≡ j = omega arith in f (shape (suc j) (slots_of D work 2 (corner 0 0) j))
          (record { wide = omega arith; within = omega arith; high = p; byte = ap (λ i. slots_of D work 2 (corner 0 0) i) q })
      go (Demand1.lost _ _ _ _) e = omega arith
      go (Demand1.done _ _ _) e = omega arith

  -- a placer that takes the last left shape that has a pair, and finds that the right one does not suit
  pub placer_takes_the_last_pair : (rows rows' : List ℕ) (r : Planned) → S.place D two_pairs rows r rows'
      → (planned_answer r).number ≡ 9 → ⊥
  unfolding D
  placer_takes_the_last_pair rows rows' r x e = go (of_lawful D_lawful (demand.numbered.place D two_pairs rows rows' r x)) e
    where
      go : {a : Answer} → Demand1.PlaceNumbered D two_pairs rows rows' a → a.number ≡ 9 → ⊥
      go (Demand1.short _) e = omega arith
      go (Demand1.stranger _ f) e = f two_pairs_stairs
      go (Demand1.none _ _ _) e = omega arith
      go (Demand1.lost _ _ ch f) e =
          let (p, down) = two_pairs_down in let q = chosen_once _ _ _ _ two_pairs_chosen ch in f p (rw q at down)
      go (Demand1.done _ _ _) e = omega arith

  -- over D's own lists there is a shape to choose, and one goes down from it: neither 10 nor 9
  pub placer_finds_nothing : (work rows rows' : List ℕ) (r : Planned) → OwnLists D (slots_of D work) → S.place D work rows r rows'
      → ((planned_answer r).number ≡ 10) ⊎ ((planned_answer r).number ≡ 9) → ⊥
  unfolding D Says
  placer_finds_nothing work rows rows' r own x e = go (of_lawful D_lawful (demand.numbered.place D work rows rows' r x)) e
    where
      go : {a : Answer} → Demand1.PlaceNumbered D work rows rows' a → (a.number ≡ 10) ⊎ (a.number ≡ 9) → ⊥
      go (Demand1.short _) e = ⊎_elim (λ z. omega arith) (λ z. omega arith) e
      go (Demand1.stranger _ f) e = f (own_stairs D D_lawful (slots_of D work) own)
      go (Demand1.none _ _ f) e = f (shape 4 3) (D_plan (slots_of D work) own).0.stored
      go (Demand1.lost _ _ ch f) e =
          let (c, (p, down), _) = D_plan (slots_of D work) own in let q = chosen_once _ _ _ _ c ch in f p (rw q at down)
      go (Demand1.done _ _ _) e = ⊎_elim (λ z. omega arith) (λ z. omega arith) e

  -- a placer that counts a block covered in part: over whatever lists, module 0 in the rows 1 to 3 is no floorplan of D
  pub placer_counts_half : (work rows : List ℕ) (r : Planned) → S.place D work rows r half_block → (planned_answer r).number ≡ 0 → ⊥
  placer_counts_half work rows r x e = go (of_lawful D_lawful (demand.numbered.place D work rows half_block r x)) e
    where
      go : {a : Answer} → Demand1.PlaceNumbered D work rows half_block a → a.number ≡ 0 → ⊥
      go (Demand1.short _) e = omega arith
      go (Demand1.stranger _ _) e = omega arith
      go (Demand1.none _ _ _) e = omega arith
      go (Demand1.lost _ _ _ _) e = omega arith
      go (Demand1.done _ _ l) e = half_not_lawful l

  -- edit: the all-zero need granted, or the design changed with the refusal; a leaf turned, or a place past the tokens; module 2 of 0 and 1
  unnamed : (e : Edit) → (So (names_place D e) → ⊥) → (work after : List ℕ) (r : Handed) → S.edit D e work r after
      → (answer r.reply ≡ plainly 11 0) × (r.design ≡ D) × (after ≡ work)
  unnamed e f work after r x =
      let a = go (of_lawful D_lawful (demand.numbered.edit D e work after r x)) in
      let (b, c) = demand.leaving.edit D e work after r x (λ n. let z = ap (λ b. b.number) a in omega arith) in (a, b, c)
    where
      go : {a : Answer} → Demand1.EditNumbered D e work a → a ≡ plainly 11 0
      go (Demand1.unnamed _) = refl
      go (Demand1.short n _) = absurd (f n)
      go (Demand1.stranger n _ _) = absurd (f n)
      go (Demand1.done n _ _) = absurd (f n)

  module _ (work after : List ℕ) (r : Handed) where
    pub edit_grants_zero_need : S.edit D (Change 0 (need 0 0 0)) work r after
        → (answer r.reply ≡ plainly 11 0) × (r.design ≡ D) × (after ≡ work)
    edit_grants_zero_need = unnamed _ names_no_zero_need work after r

    pub edit_turns_a_leaf : S.edit D (Turn 0) work r after
        → (answer r.reply ≡ plainly 11 0) × (r.design ≡ D) × (after ≡ work)
    edit_turns_a_leaf = unnamed _ names_no_leaf work after r

    pub edit_turns_past_the_tokens : S.edit D (Turn 3) work r after
        → (answer r.reply ≡ plainly 11 0) × (r.design ≡ D) × (after ≡ work)
    edit_turns_past_the_tokens = unnamed _ names_none_past work after r

    pub edit_names_module_m : S.edit D (Change 2 (need 1 0 0)) work r after
        → (answer r.reply ≡ plainly 11 0) × (r.design ≡ D) × (after ≡ work)
    edit_names_module_m = unnamed _ names_no_module_2 work after r

  -- a stranger's bytes not tested, also where only one byte is wrong; too few bytes let through, or called unreliable
  strange_edited : (d : Design) (e : Edit) (work after : List ℕ) (r : Handed) → LawfulDesign d → So (names_place d e)
      → work_of d ≤ length work → (AllStairs d (slots_of d work) → ⊥) → S.edit d e work r after
      → (answer r.reply ≡ plainly 9 0) × (r.design ≡ d) × (after ≡ work)
  strange_edited d e work after r l n h f x =
      let a = go (of_lawful l (demand.numbered.edit d e work after r x)) in
      let (b, c) = demand.leaving.edit d e work after r x (λ n. let z = ap (λ b. b.number) a in omega arith) in (a, b, c)
    where
      go : {a : Answer} → Demand1.EditNumbered d e work a → a ≡ plainly 9 0
      go (Demand1.unnamed g) = absurd (g n)
      go (Demand1.short _ k) = absurd (omega arith)
      go (Demand1.stranger _ _ _) = refl
      go (Demand1.done _ _ st) = absurd (f st)

  pub edit_skips_the_stair_test : (after : List ℕ) (r : Handed) → S.edit D (Turn 2) stranger r after
      → (answer r.reply ≡ plainly 9 0) × (r.design ≡ D) × (after ≡ stranger)
  unfolding D slot_rows
  edit_skips_the_stair_test after r =
      let e = stranger_long in strange_edited D (Turn 2) stranger after r D_lawful names_turned (omega arith) no_stairs

  pub edit_misses_a_height : (d : Design) (e : Edit) (work after : List ℕ) (r : Handed) → LawfulDesign d
      → So (names_place d e) → work_of d ≤ length work → (t : ℕ) (c : Corner) → t < nodes d
      → CornerOn (width_of d) (slot_rows d) c → (j : ℕ) → j < width_of d
      → height_of d - c.y.0 < slots_of d work t c j → S.edit d e work r after → answer r.reply ≡ plainly 9 0
  edit_misses_a_height d e work after r l n h t c b on j k o x =
      (strange_edited d e work after r l n h (λ st. let z = (st t c b on).rows j k in omega arith) x).0

  pub edit_takes_few_bytes : (work after : List ℕ) (r : Handed) → length work < 450 → S.edit D (Turn 2) work r after
      → answer r.reply ≡ plainly 8 0
  unfolding D slot_rows
  edit_takes_few_bytes work after r h x = go (of_lawful D_lawful (demand.numbered.edit D _ work after r x))
    where
      go : {a : Answer} → Demand1.EditNumbered D (Turn 2) work a → a ≡ plainly 8 0
      go (Demand1.unnamed f) = absurd (f names_turned)
      go (Demand1.short _ _) = refl
      go (Demand1.stranger _ l _) = absurd (omega arith)
      go (Demand1.done _ l _) = absurd (omega arith)

  -- check: a module over the chip's side passed, or another named; a block covered in part counted; too few rows let through
  pub checker_takes_few_rows : (rows : List ℕ) (r : Reply) → length rows < 8 → S.check D rows r
      → answer r ≡ plainly 8 0
  unfolding D slot_rows
  checker_takes_few_rows rows r h x = go (of_lawful D_lawful (demand.numbered.check D rows r x))
    where
      go : {a : Answer} → Demand1.CheckNumbered D rows a → a ≡ plainly 8 0
      go (Demand1.short _) = refl
      go (Demand1.off_the_chip l _) = absurd (omega arith)
      go (Demand1.short_of_need l _) = absurd (omega arith)
      go (Demand1.cut_not_kept l _) = absurd (omega arith)
      go (Demand1.done l _) = absurd (omega arith)

  pub checker_passes_all : (r : Reply) → S.check D over_the_side r → (answer r).number ≡ 0 → ⊥
  unfolding D slot_rows padded from_rows stands has joined added standing
  checker_passes_all r x e = go (of_lawful D_lawful (demand.numbered.check D over_the_side r x)) e
    where
      go : {a : Answer} → Demand1.CheckNumbered D over_the_side a → a.number ≡ 0 → ⊥
      go (Demand1.short _) e = omega arith
      go (Demand1.off_the_chip _ _) e = omega arith
      go (Demand1.short_of_need _ _) e = omega arith
      go (Demand1.cut_not_kept _ _) e = omega arith
      go (Demand1.done _ l) e = let h = (l.on_chip 1 refl).columns in omega arith

  -- module 0 of those rows is on the chip, so it is not the one to name; module 0 of the half block is short, so the next one is not
  pub checker_names_another : (r : Reply) → S.check D over_the_side r → answer r ≡ plainly 12 0 → ⊥
  unfolding D slot_rows from_rows
  checker_names_another r x e = go (of_lawful D_lawful (demand.numbered.check D over_the_side r x)) e
    where
      on : OnChip 5 6 (from_rows over_the_side 0)
      on = record { wide = omega arith; high = omega arith; columns = omega arith; rows = omega arith }

      go : {a : Answer} → Demand1.CheckNumbered D over_the_side a → a ≡ plainly 12 0 → ⊥
      go (Demand1.short _) e = let z = ap (λ b. b.number) e in omega arith
      go (Demand1.off_the_chip {k = k} _ f) e = let z : k ≡ 0 = ap (λ b. b.value) e in (rw z at f).fault on
      go (Demand1.short_of_need _ _) e = let z = ap (λ b. b.number) e in omega arith
      go (Demand1.cut_not_kept _ _) e = let z = ap (λ b. b.number) e in omega arith
      go (Demand1.done _ _) e = let z = ap (λ b. b.number) e in omega arith

  -- 13 before 12: module 1 is off the chip, whatever it holds there
  pub checker_calls_it_short : (r : Reply) → S.check D over_the_side r → answer r ≡ plainly 13 1 → ⊥
  unfolding D slot_rows from_rows
  checker_calls_it_short r x e = go (of_lawful D_lawful (demand.numbered.check D over_the_side r x)) e
    where
      go : {a : Answer} → Demand1.CheckNumbered D over_the_side a → a ≡ plainly 13 1 → ⊥
      go (Demand1.short _) e = let z = ap (λ b. b.number) e in omega arith
      go (Demand1.off_the_chip _ _) e = let z = ap (λ b. b.number) e in omega arith
      go (Demand1.short_of_need {k = k} _ f) e = let z : k ≡ 1 = ap (λ b. b.value) e in let c = (rw z at f).on_chip.columns in omega arith
      go (Demand1.cut_not_kept _ _) e = let z = ap (λ b. b.number) e in omega arith
      go (Demand1.done _ _) e = let z = ap (λ b. b.number) e in omega arith

  -- the number of the module after it: there is none
  pub checker_names_the_next : (r : Reply) → S.check D over_the_side r → answer r ≡ plainly 12 2 → ⊥
  unfolding D slot_rows
  checker_names_the_next r x e = go (of_lawful D_lawful (demand.numbered.check D over_the_side r x)) e
    where
      go : {a : Answer} → Demand1.CheckNumbered D over_the_side a → a ≡ plainly 12 2 → ⊥
      go (Demand1.short _) e = let z = ap (λ b. b.number) e in omega arith
      go (Demand1.off_the_chip {k = k} _ f) e = let z : k ≡ 2 = ap (λ b. b.value) e in let b = f.below in omega arith
      go (Demand1.short_of_need _ _) e = let z = ap (λ b. b.number) e in omega arith
      go (Demand1.cut_not_kept _ _) e = let z = ap (λ b. b.number) e in omega arith
      go (Demand1.done _ _) e = let z = ap (λ b. b.number) e in omega arith

  pub checker_passes_the_first_short : (r : Reply) → S.check D half_block r → answer r ≡ plainly 13 1 → ⊥
  checker_passes_the_first_short r x e = go (of_lawful D_lawful (demand.numbered.check D half_block r x)) e
    where
      go : {a : Answer} → Demand1.CheckNumbered D half_block a → a ≡ plainly 13 1 → ⊥
      go (Demand1.short _) e = let z = ap (λ b. b.number) e in omega arith
      go (Demand1.off_the_chip _ _) e = let z = ap (λ b. b.number) e in omega arith
      go (Demand1.short_of_need {k = k} _ f) e = let z : k ≡ 1 = ap (λ b. b.value) e in half_not_suited ((rw z at f).before 0 (omega arith)).suits
      go (Demand1.cut_not_kept _ _) e = let z = ap (λ b. b.number) e in omega arith
      go (Demand1.done _ _) e = let z = ap (λ b. b.number) e in omega arith

  -- the cut of D stands at position 2, and no other token is a cut
  pub checker_names_a_leaf : (rows : List ℕ) (r : Reply) → S.check D rows r → answer r ≡ plainly 14 0 → ⊥
  unfolding D slot_rows padded stands has joined added standing
  checker_names_a_leaf rows r x e = go (of_lawful D_lawful (demand.numbered.check D rows r x)) e
    where
      go : {a : Answer} → Demand1.CheckNumbered D rows a → a ≡ plainly 14 0 → ⊥
      go (Demand1.short _) e = let z = ap (λ b. b.number) e in omega arith
      go (Demand1.off_the_chip _ _) e = let z = ap (λ b. b.number) e in omega arith
      go (Demand1.short_of_need _ _) e = let z = ap (λ b. b.number) e in omega arith
      go (Demand1.cut_not_kept {t = t} _ f) e = let z : t ≡ 0 = ap (λ b. b.value) e in (rw z at f).fault tt
      go (Demand1.done _ _) e = let z = ap (λ b. b.number) e in omega arith

-- What the demands leave open the contract settles: a byte past the count stays.
pub writer_writes_past_the_count : (S : Services) → Keeping S → (before after : List ℕ) (r : Written)
    → 19 ≤ length before → S.write D before r after → after ≡ design_bytes D ++ drop 19 before
writer_writes_past_the_count S keeps before after r h x =
    rw D_bytes at ((keeps.write D before after r x).done D_lawful (rw D_bytes h)).1
