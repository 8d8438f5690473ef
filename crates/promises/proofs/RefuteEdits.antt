-- Wrong services that demand 3 rejects, each by a run that begins with D's lists, from the demand's statement; where lists have to be told apart,
-- the fresh listings that the demand compares them with are demand 2's. Each clause is the one that rejects some of them. Assumes nothing.
use mathlib.Core.Path.{◌≡◌, refl, sym, ◌∙◌, ap}
use mathlib.Core.Logic.{inl, inr}
use mathlib.Core.List.{List, [], ◌∷◌}
use Prim.Native.Nat.{ℕ, ◌+◌, ◌-◌, ◌≤◌, ◌<◌}
use native.Mathlib.Omega.{arith}
use lib.ListN.{length, get_or, take, replicate}
use lib.Seq.{get_or-take}
use Rattle.rules.specs.declared.Shape.{Shape}
use Rattle.rules.specs.declared.Corner.{Corner}
use Rattle.rules.specs.declared.Direction.{Direction}
use Rattle.rules.specs.declared.Direction.TheVariants.{Vertical, Horizontal}
use Rattle.rules.specs.declared.Token.TheVariants.{Cut}
use Rattle.rules.specs.declared.Edit.TheVariants.{Change, Turn}
use Rattle.rules.specs.Answers.{Reply, Written, Planned}
use Rattle.rules.specs.declared.Handed.{Handed}
use Rattle.rules.specs.Search.{any, least, count, total}
use Rattle.rules.specs.Chip.{corner, shape, rectangle, column, column_of, covers_block, held_between}
use Rattle.rules.specs.Tree.{spans, stands, has, joined, added, standing}
use Rattle.rules.specs.Shape.{ShapeAt, Listed}
use Rattle.rules.specs.Slot.{slot, Stores, CornerOn}
use Rattle.rules.specs.Design.{need_at, token_at, ListsOf, node_at, slots_of, slot_rows, AllStairs}
use Rattle.rules.specs.Edit.{other, changed, changed_node}
use Rattle.rules.specs.Bytes.{padded, number_bytes, need_bytes, row_bytes, design_bytes}
use Rattle.rules.specs.Reply.{answer, written_answer, planned_answer}
use Rattle.rules.specs.Service.{Enough, work_of}
use Rattle.rules.specs.Bench.{OneOf, Says, D, need}
use Rattle.rules.proofs.Test.{suits_room, parted, fits}
use Rattle.rules.proofs.Searching.{absurd_so}
use Rattle.rules.proofs.Fitting.{realizes_fits}
use Rattle.rules.proofs.Suiting.{design_decides}
use Rattle.rules.proofs.Changing.{edit_lawful}
use Rattle.rules.proofs.Same.{names_same}
use Rattle.promises.specs.Services.{Services, Keeping}
use Rattle.promises.specs.Demand2.{GoodLists, Demand2}
use Rattle.promises.specs.Demand3.{Run, listed, planned, edited, saved, NeedChanged, CutTurned, Demand3}
use Rattle.promises.proofs.Inputs.{D_lawful, turned, grown, turned_list, names_turned, names_grown}
use Rattle.promises.proofs.RefutePlans.{never_empty, grown_root_bytes}

-- The root of D at (0, 0) has the shape (4, 3), and that of D with its cut turned has (3, 6) alone listed: no bytes are good lists of both.
D_shape : ShapeAt 5 6 (ListsOf D) (node_at D 2) (corner 0 0) (shape 4 3)
unfolding D padded stands has joined added standing column_of covers_block held_between column count total suits_room any parted fits
D_shape = (realizes_fits (design_decides D) (node_at D 2) (rectangle 0 0 4 3)).1 refl

turned_listed : (o : Shape) → Listed 5 6 (ListsOf turned) (node_at turned 2) (corner 0 0) o → o.h.0 ≡ 6
unfolding D slot_rows changed OneOf Says
turned_listed o l = go ((turned_list o).0 l)
  where
    go : OneOf o (shape 3 6 ∷ []) → o.h.0 ≡ 6
    go (inl e) = ap (λ s. s.h.0) e
    go (inr z) = absurd z

-- the root's slot lies in the first 450 bytes
root_bytes : (a b : List ℕ) → take 450 a ≡ take 450 b → (j : ℕ) → j < 5 → slots_of D a 2 (corner 0 0) j ≡ slots_of D b 2 (corner 0 0) j
unfolding D slot_rows slot
root_bytes a b e j h = sym (get_or-take 450 a (300 + j) 0 (omega arith)) ∙ ap (λ l. get_or l (300 + j) 0) e ∙ get_or-take 450 b (300 + j) 0 (omega arith)

lists_differ : (a b : List ℕ) → GoodLists D a → GoodLists turned b → take 450 a ≡ take 450 b → ⊥
unfolding D slot_rows changed
lists_differ a b f g e =
    let (o, z, d) = (f 2 (corner 0 0) (omega arith) (record { column = omega arith; row = omega arith })).complete (shape 4 3) D_shape in
    let l = g 2 (corner 0 0) (omega arith) (record { column = omega arith; row = omega arith }) in
    let within = z.within in let wide = z.wide in
    let y : Stores 5 (slots_of D b 2 (corner 0 0)) o = record { wide = z.wide; within = z.within; high = z.high; byte = sym (root_bytes a b e (o.w.0 - 1) (omega arith)) ∙ z.byte } in
    let low = d.high in let high = turned_listed o (record { is = l.shapes o y; alone = λ s x c. l.undominated o s y x c }) in omega arith

-- with need 1 as (4,0,1), module 1 at (2, 0) has the shape (2, 3) no longer: that holds 3 CLBs
grown_leaf : ShapeAt 5 6 (ListsOf grown) (node_at grown 1) (corner 2 0) (shape 2 3) → ⊥
unfolding D changed padded stands has joined added standing column_of covers_block held_between column count total
    suits_room fits
grown_leaf z = absurd_so ((realizes_fits (design_decides grown) (node_at grown 1) (rectangle 2 0 2 3)).0 z)

-- D takes 19 bytes; a cut is not its own other kind
D_fits : (out : List ℕ) → 19 ≤ length out → length (design_bytes D) ≤ length out
unfolding D slot_rows padded number_bytes need_bytes row_bytes design_bytes
D_fits out h = h

never_other : (c : Direction) → Cut c ≡ Cut (other c) → ⊥
never_other Vertical e = let z : ◌≡◌ {A = ℕ} 0 1 = cc in omega arith
never_other Horizontal e = let z : ◌≡◌ {A = ℕ} 0 1 = cc in omega arith

module _ (S : Services) (demand : Demand3 S) (start work : List ℕ) (q : Reply) (enough : 450 ≤ length start) (begun : S.list D start q work) where
  -- a run begins with D's lists
  first : Run S D start D work
  unfolding D slot_rows
  first = listed D_lawful enough begun

  -- "an edit that refuses all"; and one that refuses with another number than 11
  pub edit_refuses_all : (r : Handed) (after : List ℕ) → S.edit D (Turn 2) work r after → ((answer r.reply).number ≡ 0 → ⊥) → ⊥
  edit_refuses_all r after x f = ((demand.kept D start D work first).refused (Turn 2) r after x f).1 names_turned

  pub edit_refuses_with_9 : (r : Handed) (after : List ℕ) → S.edit D (Change 0 (need 0 0 0)) work r after → (answer r.reply).number ≡ 9 → ⊥
  edit_refuses_with_9 r after x e = let n = ((demand.kept D start D work first).refused _ r after x (λ z. omega arith)).0 in omega arith

  -- an edit of D's cut: "or changes nothing"; or changes more than the cut
  module _ (r : Handed) (after : List ℕ) (x : S.edit D (Turn 2) work r after) (done : (answer r.reply).number ≡ 0) where
    turning : CutTurned D r.design 2
    turning = (demand.kept D start D work first).granted (Turn 2) r after x done

    pub edit_changes_nothing : r.design ≡ D → ⊥
    edit_changes_nothing e = let (c, a, b) = turning.cut in never_other c (sym a ∙ ap (λ d. token_at d 2) (sym e) ∙ b)

    pub edit_turns_into_a_module : token_at r.design 2 ≡ Cut Horizontal
    unfolding D slot_rows padded
    edit_turns_into_a_module = let (c, a, b) = turning.cut in let e : Cut Vertical ≡ Cut c = a in let z : Vertical ≡ c = cc in rw (← z) at b

    pub edit_moves_a_module : get_or r.design.tokens 1 0 ≡ 3
    unfolding D slot_rows padded
    edit_moves_a_module = turning.tokens 1 (λ e. omega arith)

    pub edit_takes_a_need_away : r.design.needs ≡ D.needs
    edit_takes_a_need_away = turning.needs

    pub edit_turns_the_chip_too : r.design.chip ≡ D.chip
    edit_turns_the_chip_too = turning.chip

    pub edit_loses_a_module : r.design.modules ≡ 2
    unfolding D slot_rows
    edit_loses_a_module = turning.modules

    next : Run S D start r.design after
    next = edited first x

    -- an edit that keeps the lists, or leaves none; one that writes past them
    pub edit_keeps_lists : Demand2 S → r.design ≡ turned → after ≡ work → (before fresh : List ℕ) (q' : Reply) → 450 ≤ length before → S.list turned before q' fresh → ⊥
    unfolding D slot_rows changed
    edit_keeps_lists two e same before fresh q' h y =
        let g = (two.listed D start work q begun D_lawful enough).1 in
        let t = (two.listed turned before fresh q' y (edit_lawful D D_lawful (Turn 2) names_turned) h).1 in
        let f = (rw (e, same) at (demand.kept D start r.design after next)).fresh before fresh q' y h in
        lists_differ work fresh g t f

    pub edit_leaves_no_lists : r.design ≡ D → (n : ℕ) → after ≡ replicate n 0 → ⊥
    edit_leaves_no_lists e n z = never_empty n (rw (e, z) at (demand.kept D start r.design after next)).good

    pub edit_writes_past_the_lists : (i : ℕ) → 450 ≤ i → get_or after i 0 ≡ get_or start i 0
    unfolding D slot_rows
    edit_writes_past_the_lists i h =
        let k = demand.kept D start r.design after next in let s = k.sizes in
        let w : work_of r.design ≡ 450 = rw (← s.chip.width, ← s.chip.height, ← s.modules) in k.past.past i (rw w h)

    -- "or relists the first time and later only alters the design": the cut is turned back over the same bytes
    pub edit_relists_once : Demand2 S → r.design ≡ turned → (r' : Handed) → S.edit r.design (Turn 2) after r' after → r'.design ≡ D
        → (before fresh : List ℕ) (q' : Reply) → 450 ≤ length before → S.list turned before q' fresh → ⊥
    unfolding D slot_rows changed
    edit_relists_once two e r' y back before fresh q' h z =
        let g = (two.listed D start work q begun D_lawful enough).1 in
        let t = (two.listed turned before fresh q' z (edit_lawful D D_lawful (Turn 2) names_turned) h).1 in
        let f = (rw e at (demand.kept D start r.design after next)).fresh before fresh q' z h in
        let b = (rw back at (demand.kept D start r'.design after (edited next y))).fresh start work q begun enough in
        lists_differ work fresh g t (sym b ∙ f)

    -- a place that does not give what plan gives
    pub placer_forgets : (before rows after' rows' out : List ℕ) (p p' : Planned) → Enough r.design before rows → S.plan r.design before rows p after' rows'
        → S.place r.design after rows p' out → (planned_answer p' ≡ planned_answer p) × (out ≡ rows')
    placer_forgets = (demand.kept D start r.design after next).place

  -- an edit of module 1's need: not taken; module 0's changed too; the tokens changed too; module 0's lists altered
  module _ (r : Handed) (after : List ℕ) (x : S.edit D (Change 1 (need 4 0 1)) work r after) (done : (answer r.reply).number ≡ 0) where
    changing : NeedChanged D r.design 1 (need 4 0 1)
    changing = (demand.kept D start D work first).granted _ r after x done

    pub edit_takes_no_need : need_at r.design 1 ≡ need 4 0 1
    edit_takes_no_need = changing.need

    pub edit_changes_another_need : need_at r.design 0 ≡ need 2 1 0
    unfolding D slot_rows padded
    edit_changes_another_need = changing.needs 0 (λ e. omega arith)

    pub edit_turns_a_cut : r.design.tokens ≡ D.tokens
    edit_turns_a_cut = changing.tokens

    pub edit_changes_the_chip : r.design.chip ≡ D.chip
    edit_changes_the_chip = changing.chip

    pub edit_adds_a_module : r.design.modules ≡ 2
    unfolding D slot_rows
    edit_adds_a_module = changing.modules

    pub edit_spoils_a_sibling : r.design ≡ grown → (j : ℕ) → j < 5 → slots_of D after 0 (corner 0 0) j ≡ slots_of D work 0 (corner 0 0) j
    unfolding D slot_rows changed padded changed_node least stands has joined added standing spans
    edit_spoils_a_sibling e j h =
        (demand.kept D start D work first).off _ r after x done 0 (corner 0 0) (omega arith) (record { column = omega arith; row = omega arith })
        (rw e absurd_so) j h

    -- the leaf of another module relisted, and the changed one's not; the way up ended below the root (P9)
    lists_after : GoodLists r.design after
    lists_after = (demand.kept D start r.design after (edited first x)).good

    pub edit_relists_another_module : r.design ≡ grown → Stores 5 (slots_of D after 1 (corner 2 0)) (shape 2 3) → ⊥
    unfolding D slot_rows changed
    edit_relists_another_module e z =
        grown_leaf (((rw e at lists_after) 1 (corner 2 0) (omega arith) (record { column = omega arith; row = omega arith })).shapes (shape 2 3) z)

    pub edit_stops_below_the_root : r.design ≡ grown → (j : ℕ) → j < 5
        → slots_of grown after 2 (corner 0 0) j ≡ get_or (0 ∷ 0 ∷ 0 ∷ 4 ∷ 3 ∷ []) j 0
    edit_stops_below_the_root e = grown_root_bytes after (rw e at lists_after)

  -- an edit that refuses a design that was saved and read again
  pub edit_refuses_a_saved_design : Demand2 S → (out out' : List ℕ) (w : Written) (r : Handed) → S.write D out w out' → 19 ≤ length out
      → S.read (take (written_answer w).value out') r → (r' : Handed) (after : List ℕ) → S.edit r.design (Turn 2) work r' after
      → ((answer r'.reply).number ≡ 0 → ⊥) → ⊥
  edit_refuses_a_saved_design two out out' w r x h y r' after z f =
      let s = (two.design_again D out out' w r D_lawful x (D_fits out h) y).1 in
      ((demand.kept D start r.design work (saved first x (D_fits out h) y)).refused (Turn 2) r' after z f).1 (sym (names_same s (Turn 2)) ∙ names_turned)

-- the same over a run that plan began
pub edit_refuses_all_after_plan : (S : Services) → Demand3 S → (start rows work rows' : List ℕ) (p : Planned) → Enough D start rows
    → S.plan D start rows p work rows' → (r : Handed) (after : List ℕ) → S.edit D (Turn 2) work r after → ((answer r.reply).number ≡ 0 → ⊥) → ⊥
edit_refuses_all_after_plan S demand start rows work rows' p h y r after x f =
    ((demand.kept D start D work (planned h y)).refused (Turn 2) r after x f).1 names_turned

-- What the demand leaves open the contract settles: over a stranger's stairs too, an edit of module 1 leaves module 0's lists.
pub edit_relists_a_sibling : (S : Services) → Keeping S → (work after : List ℕ) (r : Handed) → 450 ≤ length work
    → AllStairs D (slots_of D work)
    → S.edit D (Change 1 (need 4 0 1)) work r after → (c : Corner) → CornerOn 5 6 c → (j : ℕ) → j < 5
    → slots_of D after 0 c j ≡ slots_of D work 0 c j
unfolding D slot_rows changed padded changed_node least stands has joined added standing spans
edit_relists_a_sibling S keeps work after r h st x c on =
    ((keeps.edit D _ work after r x).done D_lawful names_grown h st).1.off 0 c (omega arith) on absurd_so
