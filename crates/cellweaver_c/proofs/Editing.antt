-- The outcomes of an edit whose design goes to lent bytes. Over no work at all an edit is refused with 11 or 8, since every design's
-- lists take some bytes; a granted one leaves a lawful design, for which `out` is long enough. Assumes nothing.
use Rattle.std.specs.Prelude.{Ok, Err}
use mathlib.Core.Path.{◌≡◌, refl, ◌∙◌, ap}
use mathlib.Core.List.{List}
use Prim.Native.Nat.{ℕ, ◌≤◌, ◌<◌}
use native.Mathlib.Omega.{arith}
use native.Mathlib.Nat.{mul-pos}
use lib.ListN.{length}
use Rattle.rules.specs.declared.Design.{Design}
use Rattle.rules.specs.declared.Edit.{Edit}
use Rattle.rules.specs.declared.Refusal.{Refusal}
use Rattle.rules.specs.declared.Handed.{Handed}
use Rattle.rules.specs.Answers.{Written}
use Rattle.rules.specs.Design.{LawfulDesign, nodes, slot_rows}
use Rattle.rules.specs.Reply.{Answer, refusal, answer, written_answer}
use Rattle.rules.specs.Service.{work_of, Writes, Edits}
use Rattle.rules.proofs.Limits.{limits, every_row}
use Rattle.rules.proofs.Changing.{edit_lawful}
use Rattle.lending.specs.Lent.{lending}
use Rattle.promises.proofs.Answering.{edit_granted}
use Rattle.writing.specs.Parts.{design_size}
use Rattle.writing.proofs.Longest.{longest}
use Rattle.cellweaver_c.specs.Asked.{PutsBack, EditsInto}

some_work : (d : Design) → LawfulDesign d → 0 < work_of d
some_work d lawful =
    let l = limits d lawful in let n : 0 < nodes d = omega arith in let r : 0 < slot_rows d = omega (arith, every_row d) in
    mul-pos (mul-pos (mul-pos n r) l.chip.wide) l.chip.wide

-- a granted edit hands a lawful design back
pub back_lawful : (d : Design) (e : Edit) → LawfulDesign d → {work after : List ℕ} {h : Handed} → Edits d e work h after
    → h.reply ≡ (Ok tt) → LawfulDesign h.design
back_lawful d e lawful {work} {after} {h} x r =
    let (_, n, q) = edit_granted d e work after h x (ap (λ g. (answer g).number) r) in rw q (edit_lawful d lawful e n)

module _ (d : Design) (e : Edit) (lawful : LawfulDesign d) {work out : List ℕ} {reply : Answer} {h : Handed} where
  pub short_out : {none after : List ℕ} → length none ≡ 0 → Edits d e none h after → reply ≡ answer h.reply
      → length out < design_size → EditsInto d e (lending work work) (lending out out) reply
  short_out z x q s = record {
    unnamed = λ _ o. (q ∙ ap (λ g. answer g.reply) (x.unnamed lawful o).0, refl, refl);
    short = λ _ n. (q ∙ ap (λ g. answer g.reply) (x.short lawful n (omega (arith, some_work d lawful))).0, refl, refl);
    enough = λ r. absurd (omega arith);
  }

  module _ (long : design_size ≤ length out) {after : List ℕ} (x : Edits d e work h after) where
    enough_put : {out' : List ℕ} → PutsBack h (lending out out') reply → EditsInto d e (lending work after) (lending out out') reply
    enough_put p = record { unnamed = λ s. absurd (omega arith); short = λ s. absurd (omega arith); enough = λ _. (h, x, p) }

    pub edit_refused : {f : Refusal} → h.reply ≡ Err f → reply ≡ refusal f
        → EditsInto d e (lending work after) (lending out out) reply
    edit_refused {f} r q = enough_put (record {
      done = λ z. let w : ◌≡◌ {A = ℕ} 0 1 = cc in absurd (omega arith);
      refused = λ g z. let w : f ≡ g = cc in (rw (← w) q, refl);
    })

    pub edit_put : {w : Written} {out' : List ℕ} → h.reply ≡ (Ok tt) → Writes h.design out w out' → reply ≡ written_answer w
        → EditsInto d e (lending work after) (lending out out') reply
    edit_put r y q =
        let l = back_lawful d e lawful x r in let (a, b) = y.done l (omega (arith, longest h.design l)) in enough_put (record {
          done = λ _. (q ∙ ap written_answer a, b);
          refused = λ g z. let w : ◌≡◌ {A = ℕ} 0 1 = cc in absurd (omega arith);
        })
