-- Whole designs: accepted bytes, written again, are the same bytes; a lawful design, written and read, is the same design. Each
-- thing stands where the last one ended, so the laws of its parts are put end to end. Assumes nothing.
use mathlib.Core.Path.{◌≡◌, refl, sym, ap, ◌∙◌}
use mathlib.Core.List.{List, [], ◌++◌, append-nil}
use Prim.Native.Nat.{ℕ, ◌-◌, ◌*◌, ◌≤◌}
use native.Mathlib.Omega.{arith}
use lib.ListN.{length, get_or}
use lib.Seq.{drop-length}
use borrow.Author.Tests.{leb-true, eqb-true, eq-eqb}
use Rattle.rules.specs.declared.Chip.{Chip}
use Rattle.rules.specs.declared.Design.{Design}
use Rattle.rules.specs.declared.Refusal.TheVariants.{BreaksLimits}
use Rattle.rules.specs.Chip.{kind_at}
use Rattle.rules.specs.Design.{most_columns, most_rows, last_kind, lawful_kind, most_modules, most_tokens, Sized, no_need, need_at, token_at, nodes, root, LawfulDesign, SameDesign, width_of, height_of}
use Rattle.rules.specs.Bytes.{AreBytes, took, number_bytes, need_bytes, design_bytes, design_at, chip_from, design_from}
use Rattle.rules.proofs.Testing.{range_iff}
use Rattle.rules.proofs.Numbers.{Stands, both_stand, takes, refuses, if_judged, took_so}
use Rattle.rules.proofs.Padding.{padded_at, listed, listed_at, padded_long}
use Rattle.rules.proofs.Passing.{tests_iff}
use Rattle.rules.proofs.Taking.{over_nothing, Takes, then_takes, checked_read, need_read, row_read, tokens_read}
use Rattle.rules.proofs.Rereading.{then_written, checked_written, limited_written, need_written, row_written, tokens_written}

whole : {s xs : List ℕ} {n : ℕ} → n ≡ length s → Stands s 0 n xs → xs ≡ s
whole {s} {xs} e h = sym (append-nil xs) ∙ ap (λ l. xs ++ l) (sym (drop-length s) ∙ rw e) ∙ sym h.bytes

-- Accepted bytes are used up, by a lawful design, and are its own; its places are as many as they have to be.
accepted : (s : List ℕ) → Takes (λ d n. LawfulDesign d × (n ≡ length s) × (AreBytes s → design_bytes d ≡ s) × Sized d) (design_at s)
unfolding design_at design_bytes
accepted s =
    then_takes (checked_read _ _ s 0) λ form at-w r1.
    then_takes (checked_read _ _ s at-w) λ w at-h r2.
    then_takes (checked_read _ _ s at-h) λ h at_b r3.
    then_takes (checked_read _ _ s at_b) λ b at-kinds r4.
    then_takes (row_read 0 (checked_read _ _ s) w at-kinds) λ kinds at-m r5.
    then_takes (checked_read _ _ s at-m) λ m at-needs r6.
    then_takes (row_read no_need (need_read s) m at-needs) λ needs at-tokens r7.
    then_takes (tokens_read s m (2 * m - 1) 0 [] at-tokens) λ tokens end r8.
    if_judged (refuses tt) λ t.
    let d = design_from (chip_from w h b kinds) m needs tokens in let all-used = eqb-true end (length s) t in
    let tree = rw over_nothing at r8.passes.1.1 in
    takes (
      (tests_iff d).1 (record {
        width = r2.passes;
        height = r3.passes;
        block = r4.passes;
        kinds = λ x l. rw padded_at (r5.passes.1 x l);
        modules = r6.passes;
        needs = λ k l. rw padded_at (r7.passes.1 k l);
        tree = simp (token_at, padded_at, tree);
      }),
      all-used,
      λ small.
          let form-stands = rw (eqb-true form 1 r1.passes) at (r1.stands small) in
          whole all-used (simp (kind_at, need_at, padded_at) (both_stand form-stands (both_stand (r2.stands small) (both_stand
          (r3.stands small) (both_stand (r4.stands small) (both_stand (r5.stands small) (both_stand (r6.stands small)
          (both_stand (r7.stands small) (r8.stands small))))))))),
      let few = (range_iff 1 most_columns w).0 r2.passes in let some = (range_iff 1 most_modules m).0 r6.passes in record {
        kinds = let l = r5.passes.0 in padded_long most_columns 0 kinds (omega arith);
        needs = let l = r7.passes.0 in padded_long most_modules no_need needs (omega arith);
        tokens = let l = r8.passes.0 in padded_long most_tokens 0 tokens (omega arith);
      },
    )

-- What is read is a lawful design, and all bytes are used.
pub read_lawful : (s : List ℕ) (d : Design) (n : ℕ) → design_at s ≡ took d n → LawfulDesign d × (n ≡ length s)
read_lawful s d n e = let (lawful, all-used, _, _) = took_so d n (accepted s) e in (lawful, all-used)

-- and has its places
pub read_sized : (s : List ℕ) (d : Design) (n : ℕ) → design_at s ≡ took d n → Sized d
read_sized s d n e = (took_so d n (accepted s) e).3

-- "accepted bytes, written again, are the same bytes"
pub read_written : (s : List ℕ) (d : Design) (n : ℕ) → AreBytes s → design_at s ≡ took d n → design_bytes d ≡ s
read_written s d n small e = (took_so d n (accepted s) e).2 small

-- the same chip, and the same design, with zeros in the places that are ignored
abbrev cleared_chip : Chip → Chip
cleared_chip C = chip_from C.width.0 C.height.0 C.block.0 (listed (kind_at C) C.width.0)

unfoldable pub cleared : Design → Design
cleared d =
    design_from (cleared_chip d.chip) d.modules (listed (need_at d) d.modules) (listed (λ t. get_or d.tokens t 0) (nodes d))

pub cleared_same : (d : Design) → SameDesign d (cleared d)
unfolding cleared
cleared_same d = record {
  chip = record { width = refl; height = refl; block = refl; kinds = λ x l. rw (padded_at, listed_at) };
  modules = refl;
  needs = λ k l. rw (padded_at, listed_at);
  tokens = λ t l. rw (padded_at, listed_at);
}

-- "a lawful design, written and read, is the same design"
pub written_read : (d : Design) → LawfulDesign d → design_at (design_bytes d) ≡ took (cleared d) (length (design_bytes d))
unfolding design_at design_bytes cleared
written_read d lawful =
    let t = (tests_iff d).0 lawful in let s = design_bytes d in let high = (range_iff 1 most_rows (height_of d)).0 t.height in
    let token : ℕ → ℕ = λ t. get_or d.tokens t 0 in
    let all : Stands s 0 (length s) s = record { long = omega arith; bytes = rw drop-length (sym (append-nil s)) } in
    then_written _ (checked_written _ _ s 1 refl (omega arith)) all λ at-w e1.
    then_written _ (limited_written 1 most_columns s (width_of d) t.width (omega arith)) e1 λ at-h e2.
    then_written _ (limited_written 1 most_rows s (height_of d) t.height (omega arith)) e2 λ at_b e3.
    then_written _ (limited_written 1 (height_of d) s d.chip.block.0 t.block (omega arith)) e3 λ at-kinds e4.
    then_written _ (row_written s number_bytes _ (width_of d) (kind_at d.chip) λ i l. let k : kind_at d.chip i ≤ last_kind = leb-true _ _ (t.kinds i l) in
    checked_written lawful_kind BreaksLimits s _ (t.kinds i l) (omega arith)) e4 λ at-m e5.
    then_written _ (limited_written 1 most_modules s d.modules t.modules (omega arith)) e5 λ at-needs e6.
    then_written _ (row_written s need_bytes _ d.modules (need_at d) λ i l. need_written s _ (t.needs i l)) e6 λ at-tokens e7.
    let tree = over_nothing d.modules token (nodes d) ∙ t.tree in
    rw (tokens_written s d.modules (nodes d) 0 token [] (root d) tree at-tokens (length s) e7, eq-eqb (length s) (length s) refl)
