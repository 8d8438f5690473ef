-- "Places beyond W, m and 2m-1 in it are ignored, also when two designs are called the same": what the rules say of a
-- design they say of every design called the same, since each sum, test and tree looks only below those bounds. And
-- lawful designs are called the same exactly if their bytes are, since read back they give the design. Assumes nothing.
use Rattle.std.specs.Prelude.{Ok, Err}
use mathlib.Core.Path.{subst₃, ◌≡◌, refl, sym, ◌∙◌, ap}
use mathlib.Core.Logic.{◌↔◌}
use mathlib.Core.Bool.{Bool, true, false, not, ◌&&◌, So}
use mathlib.Core.List.{List}
use Prim.Native.Nat.{ℕ, zero, suc, ◌≤◌, ◌<◌}
use native.Mathlib.Omega.{arith}
use lib.Dec.{leb, ltb}
use lib.ListN.{length, get_or}
use Rattle.rules.specs.declared.Rectangle.{Rectangle}
use Rattle.rules.specs.declared.Chip.{Chip}
use Rattle.rules.specs.declared.Design.{Design}
use Rattle.rules.specs.declared.Edit.{Edit}
use Rattle.rules.specs.declared.Edit.TheVariants.{Change, Turn}
use Rattle.rules.specs.declared.Refusal.TheVariants.{BreaksLimits, TooShort, OffTheChip, ShortOfNeed, CutNotKept}
use Rattle.rules.specs.Answers.{Reply}
use Rattle.rules.specs.Chip.{kind_at, column, column_of, holds, SameChip}
use Rattle.rules.specs.Tree.{number_of, is_cut, is_module, token_of, last}
use Rattle.rules.specs.Placement.{Placement}
use Rattle.rules.specs.Slot.{work_needed}
use Rattle.rules.specs.Design.{Sized, most_modules, no_need, lawful_kind, need_at, token_at, nodes, lawful_need, lawful_chip, within_limits, SuitsOf, ListsOf, given_for, standing_of, node_at, root, tree_test, value_test, LawfulDesign, SameDesign, width_of, height_of, slot_rows}
use Rattle.rules.specs.Edit.{turned, names_place, changed, changed_node}
use Rattle.rules.specs.Bytes.{number_bytes, need_bytes, design_bytes, design_at}
use Rattle.rules.specs.Check.{from_rows, kept_at, is_on, is_suited, judged_cuts, judged_rows, after_tests, verdict}
use Rattle.rules.specs.Service.{work_of, rows_of}
use Rattle.rules.proofs.Searching.{ltb_iff, test-iffs}
use Rattle.rules.proofs.Below.{Below, all_below, least_below, row_below, standing_below, set_below, holds_below}
use Rattle.rules.proofs.Nodes.{modules_within, lawful_tree}
use Rattle.rules.proofs.Reading.{cleared, cleared_same, written_read}

-- It is an equivalence, of chips and so of designs. The bounds are the first one's own, and the second has the same.
pub chip_refl : (C : Chip) → SameChip C C
chip_refl C = record { width = refl; height = refl; block = refl; kinds = λ x h. refl }

chip_sym : {C D : Chip} → SameChip C D → SameChip D C
chip_sym z = record {
  width = sym z.width;
  height = sym z.height;
  block = sym z.block;
  kinds = λ x h. sym (z.kinds x (rw z.width h));
}

pub chip_trans : {C D E : Chip} → SameChip C D → SameChip D E → SameChip C E
chip_trans z y = record {
  width = z.width ∙ y.width;
  height = z.height ∙ y.height;
  block = z.block ∙ y.block;
  kinds = λ x h. z.kinds x h ∙ y.kinds x (rw z.width at h);
}

pub same_refl : (d : Design) → SameDesign d d
same_refl d = record { chip = chip_refl d.chip; modules = refl; needs = λ k h. refl; tokens = λ t h. refl }

pub same_sym : {d e : Design} → SameDesign d e → SameDesign e d
same_sym z = record {
  chip = chip_sym z.chip;
  modules = sym z.modules;
  needs = λ k h. sym (z.needs k (rw z.modules h));
  tokens = λ t h. sym (z.tokens t (rw z.modules h));
}

pub same_trans : {d e f : Design} → SameDesign d e → SameDesign e f → SameDesign d f
same_trans z y = record {
  chip = chip_trans z.chip y.chip;
  modules = z.modules ∙ y.modules;
  needs = λ k h. z.needs k h ∙ y.needs k (rw z.modules at h);
  tokens = λ t h. z.tokens t h ∙ y.tokens t (rw z.modules at h);
}

-- a second test is asked only where the first passes
and_alike : (a : Bool) {b c : Bool} → (So a → b ≡ c) → a && b ≡ a && c
and_alike true e = e refl
and_alike false e = refl

-- what the rules ask of each column, module and token, or look for among them: a kind and a need within the limits, a
-- module that is not fine, a cut that is not kept, a module's token
abbrev kind_fits : Design → ℕ → Bool
kind_fits d x = lawful_kind (kind_at d.chip x)

abbrev need_fits : Design → ℕ → Bool
need_fits d k = lawful_need (need_at d k)

abbrev not_fine : Design → Placement → ℕ → Bool
not_fine d p k = not (is_on d (p k) && is_suited d k (p k))

abbrev not_kept : Design → Placement → ℕ → Bool
not_kept d p t = not (kept_at d.modules p (node_at d t))

abbrev token_number : Design → ℕ → ℕ
token_number d t = get_or d.tokens t 0

abbrev says_module : Design → ℕ → ℕ → Bool
says_module d k t = is_module k (token_at d t)

-- the columns below W hold the same
kind_same : {C D : Chip} → SameChip C D → (k : ℕ) → column_of C k ≡ column_of D k
unfolding column_of
kind_same z zero = rw z.height
kind_same z (suc k) = rw (z.height, z.block)

column_below : {C D : Chip} → SameChip C D → Below C.width.0 (column C) (column D)
unfolding column
column_below z x h = rw (z.kinds x h) (kind_same z _)

module _ {d e : Design} (z : SameDesign d e) where
  -- the numbers
  pub width_same : width_of d ≡ width_of e
  width_same = ap (λ w. w.0) z.chip.width

  pub height_same : height_of d ≡ height_of e
  height_same = ap (λ h. h.0) z.chip.height

  block_same : d.chip.block.0 ≡ e.chip.block.0
  block_same = ap (λ b. b.0) z.chip.block

  pub slot_rows_same : slot_rows d ≡ slot_rows e
  unfolding slot_rows
  slot_rows_same = height_same

  pub nodes_same : nodes d ≡ nodes e
  nodes_same = rw z.modules

  pub work_same : work_of d ≡ work_of e
  work_same = subst₃ (λ W R n. work_of d ≡ work_needed W R n) width_same slot_rows_same nodes_same refl

  pub rows_same : rows_of d ≡ rows_of e
  rows_same = rw z.modules

  -- the chip and what suits: only columns below W are counted
  pub holds_same : (r : Rectangle) → holds d.chip r ≡ holds e.chip r
  holds_same = holds_below d.chip e.chip width_same (column_below z.chip)

  pub suits_same : (k : ℕ) → k < d.modules → (r : Rectangle) → SuitsOf d k r → SuitsOf e k r
  suits_same k h r s = rw (← holds_same r, ← z.needs k h) s

  -- and so what the leaves list, and what the modules are given
  pub lists_same : (k : ℕ) → k < d.modules → (r : Rectangle) → ListsOf d k r → ListsOf e k r
  unfolding ListsOf
  lists_same k h r s = rw (← holds_same r, ← z.needs k h) s

  pub given_same : (k : ℕ) → k < d.modules → (r : Rectangle) → given_for d k r ≡ given_for e k r
  unfolding given_for
  given_same k h r = refl

  -- the trees
  token_same : Below (nodes d) (token_at d) (token_at e)
  token_same t h = ap (token_of most_modules) (z.tokens t h)

  pub standing_same : (n : ℕ) → n ≤ nodes d → standing_of d n ≡ standing_of e n
  standing_same n h =
      standing_below d.modules (token_at d) (token_at e) n (λ t k. token_same t (omega arith)) ∙ rw z.modules

  pub node_same : (t : ℕ) → t < nodes d → node_at d t ≡ node_at e t
  node_same t h = ap last (standing_same (suc t) h)

  whole_same : standing_of d (nodes d) ≡ standing_of e (nodes e)
  whole_same = standing_same (nodes d) (omega arith) ∙ rw nodes_same

  pub root_same : root d ≡ root e
  root_same = ap last whole_same

  -- the tests of a value
  limits_same : within_limits d ≡ within_limits e
  unfolding within_limits lawful_chip
  limits_same =
      let kinds = all_below (width_of d) (kind_fits d) (kind_fits e) (λ x h. rw (z.chip.kinds x h)) in
      let needs = all_below d.modules (need_fits d) (need_fits e) (λ k h. rw (z.needs k h)) in
      rw (kinds, needs, width_same, height_same, block_same, z.modules)

  pub test_same : value_test d ≡ value_test e
  unfolding value_test
  test_same = λ i. elim (limits_same i) as (λ _. Reply) [
    | true ↦ tree_test (whole_same i)
    | false ↦ Err (BreaksLimits 0)
  ]

  pub lawful_same : LawfulDesign d → LawfulDesign e
  lawful_same l = sym test_same ∙ l

  -- the bytes
  pub bytes_same : design_bytes d ≡ design_bytes e
  unfolding design_bytes
  bytes_same =
      let kinds = row_below number_bytes (kind_at d.chip) (kind_at e.chip) (width_of d) z.chip.kinds in
      let needs = row_below need_bytes (need_at d) (need_at e) d.modules z.needs in
      let tokens = row_below number_bytes (token_number d) (token_number e) (nodes d) z.tokens in
      rw (kinds, needs, tokens, width_same, height_same, block_same, z.modules)

  -- the checker's verdict
  on_same : (r : Rectangle) → is_on d r ≡ is_on e r
  on_same r = rw (width_same, height_same)

  cuts_same : (p : Placement) → judged_cuts d p ≡ judged_cuts e p
  unfolding judged_cuts
  cuts_same p =
      let kept : Below (nodes d) (not_kept d p) (not_kept e p) = λ t h. rw (node_same t h, z.modules) in
      let first = least_below (not_kept d p) (not_kept e p) (nodes d) (nodes e) nodes_same kept in
      λ i. elim (ltb (first i) (nodes_same i)) as (λ _. Reply) [ true ↦ Err (CutNotKept (first i)) | false ↦ (Ok tt) ]

  judged_same : (p : Placement) → judged_rows d p ≡ judged_rows e p
  unfolding judged_rows
  judged_same p =
      let fine : Below d.modules (not_fine d p) (not_fine e p)
      = λ k h. rw (on_same (p k), holds_same (p k), z.needs k h) in
      let first = least_below (not_fine d p) (not_fine e p) d.modules e.modules z.modules fine in
      λ i. elim (ltb (first i) (z.modules i)) as (λ _. Reply) [
        | true ↦ elim (on_same (p (first i)) i) as (λ _. Reply) [
          | true ↦ Err (ShortOfNeed (first i))
          | false ↦ Err (OffTheChip (first i))
        ]
        | false ↦ cuts_same p i
      ]

  pub verdict_same : (rows : List ℕ) → verdict d rows ≡ verdict e rows
  unfolding verdict
  verdict_same rows =
      λ i. after_tests (test_same i) (elim (leb (rows_same i) (length rows)) as (λ _. Reply) [
        | true ↦ judged_same (from_rows rows) i
        | false ↦ Err TooShort
      ])

  -- edits
  pub names_same : (c : Edit) → names_place d c ≡ names_place e c
  unfolding names_place
  names_same (Change k n) = rw z.modules
  names_same (Turn t) =
      and_alike (ltb t (nodes d)) (λ h. ap is_cut (token_same t ((ltb_iff t (nodes d)).0 h))) ∙ rw nodes_same

  pub changed_node_same : (c : Edit) → changed_node d c ≡ changed_node e c
  unfolding changed_node
  changed_node_same (Change k n) =
      least_below (says_module d k) (says_module e k) (nodes d) (nodes e) nodes_same (λ t h. ap (is_module k) (token_same t h))
  changed_node_same (Turn t) = refl

  -- an edit that names a place makes the same change in both: the place stands within both arrays
  pub changed_same : LawfulDesign d → Sized d → Sized e → (c : Edit) → So (names_place d c)
      → SameDesign (changed d c) (changed e c)
  unfolding changed names_place
  changed_same l y y' (Change k n) s =
      let (h, _) = simp test-iffs at s in let (_, m) = modules_within d (lawful_tree d l).limits in
      let many = y.needs in let many' = y'.needs in
      record {
        chip = z.chip;
        modules = z.modules;
        needs = set_below d.needs e.needs k n no_need d.modules (omega arith) (omega arith) z.needs;
        tokens = z.tokens;
      }
  changed_same l y y' (Turn t) s =
      let (h, _) = simp test-iffs at s in let (_, m) = modules_within d (lawful_tree d l).limits in
      let many = y.tokens in let many' = y'.tokens in let v = number_of most_modules (turned (token_at d t)) in
      record {
        chip = z.chip;
        modules = z.modules;
        needs = z.needs;
        tokens = rw (← z.tokens t h)
            (set_below d.tokens e.tokens t v 0 (nodes d) (omega arith) (omega arith) z.tokens);
      }

-- The bytes tell lawful designs apart: read back, each gives its design with the ignored places set to zero.
same_by_bytes : (d e : Design) → LawfulDesign d → LawfulDesign e → design_bytes d ≡ design_bytes e → SameDesign d e
same_by_bytes d e l m q =
    let r = sym (written_read d l) ∙ ap design_at q ∙ written_read e m in let c : cleared d ≡ cleared e = cc in
    same_trans (cleared_same d) (rw c (same_sym (cleared_same e)))

-- so lawful designs are called the same exactly if their bytes are
pub same_iff_bytes : (d e : Design) → LawfulDesign d → LawfulDesign e → SameDesign d e ↔ (design_bytes d ≡ design_bytes e)
same_iff_bytes d e l m = (λ z. bytes_same z, same_by_bytes d e l m)
