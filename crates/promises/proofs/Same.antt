-- Two designs called the same get the same treatment: what a service's contract allows for the one it allows for the
-- other, so the answers that it allows for the two are the same. Write tells all other lawful designs apart. Read has
-- no design among its inputs, so there is nothing to say of it. Assumes nothing.
use Rattle.std.specs.Prelude.{Ok, Err}
use mathlib.Core.Path.{◌≡◌, refl, sym, ◌∙◌, ap}
use mathlib.Core.Logic.{◌↔◌}
use mathlib.Core.Bool.{So}
use mathlib.Core.List.{List, ◌++◌}
use Prim.Native.Nat.{ℕ, ◌≤◌}
use lib.ListN.{length, take, drop}
use lib.Seq.{take-append_seam}
use Rattle.rules.specs.declared.Design.{Design}
use Rattle.rules.specs.declared.Edit.{Edit}
use Rattle.rules.specs.Answers.{Reply, Written, Planned, Scored}
use Rattle.rules.specs.declared.Handed.{Handed}
use Rattle.rules.specs.declared.Cost.{Cost}
use Rattle.rules.specs.Design.{Sized, LawfulDesign, SameDesign}
use Rattle.rules.specs.Edit.{names_place, changed}
use Rattle.rules.specs.Bytes.{design_bytes}
use Rattle.rules.specs.Check.{from_rows}
use Rattle.rules.specs.Score.{SameCost}
use Rattle.rules.specs.Service.{Writes, Lists, Plans, Places, Edits, Checks, Scores, Enough}
use Rattle.rules.proofs.Same.{same_sym, work_same, rows_same, test_same, lawful_same, bytes_same, verdict_same, names_same, changed_same, same_iff_bytes}
use Rattle.rules.proofs.Carrying.{work_stairs, work_own, work_empty, work_chosen, work_down, edited_same}
use Rattle.rules.proofs.Costs.{terms_same, nets_same, score_same}
use Rattle.promises.specs.Services.{Services, Keeping}
use Rattle.promises.specs.Same.{SameTreatment}
use Rattle.promises.proofs.Cases.{Editing, unlawful_design, unnamed, short_work, stranger, granted, editing}
use Rattle.promises.proofs.Unique.{writes_once, lists_once, plans_once, places_once, edits_once, checks_once, scores_once}

enough_same : {d e : Design} {work rows : List ℕ} → SameDesign d e → Enough d work rows → Enough e work rows
enough_same z h = record {
  lawful = lawful_same z h.lawful;
  bytes = rw (work_same z) at h.bytes;
  places = rw (rows_same z) at h.places;
}

-- What is allowed for d is allowed for e: each outcome of e's is d's.
module _ {d e : Design} (z : SameDesign d e) (sized : Sized e) where
  back : SameDesign e d
  back = same_sym z

  pub writes_same : (before after : List ℕ) (r : Written) → Writes d before r after → Writes e before r after
  writes_same before after r x = record {
    sized = sized;
    unlawful = λ f t. x.unlawful f (test_same z ∙ t);
    short = λ l h. x.short (lawful_same back l) (rw (bytes_same z) h);
    done = λ l h. rw (bytes_same z) at (x.done (lawful_same back l) (rw (bytes_same z) h));
  }

  pub lists_same : (before after : List ℕ) (r : Reply) → Lists d before r after → Lists e before r after
  lists_same before after r x = record {
    sized = sized;
    unlawful = λ f t. x.unlawful f (test_same z ∙ t);
    short = λ l h. x.short (lawful_same back l) (rw (work_same z) h);
    done = λ l h.
        let l' = lawful_same back l in let (a, k, o) = x.done l' (rw (work_same z) h) in
        (a, rw (work_same z) at k, work_own z after l' o);
  }

  pub plans_same : (before rows after rows' : List ℕ) (r : Planned)
      → Plans d before rows r after rows' → Plans e before rows r after rows'
  plans_same before rows after rows' r x = record {
    sized = sized;
    unlawful = λ f t. x.unlawful f (test_same z ∙ t);
    short = λ l h. x.short (lawful_same back l) (rw (work_same z, rows_same z) h);
    listed = λ h.
        let h' = enough_same back h in let (k, o) = x.listed h' in
        (rw (work_same z) at k, work_own z after h'.lawful o);
    none = λ h f. x.none (enough_same back h) (work_empty back after f);
    done = λ h s p ch g.
        let ch' = work_chosen back after s ch in let g' = work_down back after h.lawful s p g in
        rw z.modules at (x.done (enough_same back h) s p ch' g');
  }

  pub places_same : (work rows rows' : List ℕ) (r : Planned) → Places d work rows r rows' → Places e work rows r rows'
  places_same work rows rows' r x = record {
    sized = sized;
    unlawful = λ f t. x.unlawful f (test_same z ∙ t);
    short = λ l h. x.short (lawful_same back l) (rw (work_same z, rows_same z) h);
    stranger = λ h f. x.stranger (enough_same back h) (λ st. f (work_stairs z work st));
    none = λ h st f. x.none (enough_same back h) (work_stairs back work st) (work_empty back work f);
    lost = λ h st s ch f.
        let h' = enough_same back h in let ch' = work_chosen back work s ch in
        x.lost h' (work_stairs back work st) s ch' (λ p g. f p (work_down z work h'.lawful s p g));
    done = λ h st s p ch g.
        let ch' = work_chosen back work s ch in let g' = work_down back work h.lawful s p g in
        rw z.modules at (x.done (enough_same back h) (work_stairs back work st) s p ch' g');
  }

  pub checks_same : (rows : List ℕ) (r : Reply) → Checks d rows r → Checks e rows r
  checks_same rows r x = record { sized = sized; judged = x.judged ∙ verdict_same z rows }

  pub scores_same : {a b : Cost} → SameCost a b → (rows : List ℕ) (r : Scored) → Scores d rows a r → Scores e rows b r
  scores_same y rows r x = record {
    sized = sized;
    judged = λ f v. x.judged f (verdict_same z rows ∙ v);
    bad_term = λ v f. x.bad_term (verdict_same z rows ∙ v) (λ t. f (sym (terms_same y) ∙ t));
    bad_net = λ v t f. x.bad_net (verdict_same z rows ∙ v) (terms_same y ∙ t) (λ n. f (sym (nets_same y z) ∙ n));
    done = λ v t n.
        let n' = nets_same y z ∙ n in rw (score_same y z (from_rows rows) n') at (x.done (verdict_same z rows ∙ v) (terms_same y ∙ t) n');
  }

-- what an edit with this reply hands back
abbrev handed_back : Design → Edit → Reply → Handed
handed_back d c (Ok tt) = record { reply = (Ok tt); design = changed d c }
handed_back d c (Err f) = record { reply = Err f; design = d }

reply_back : (d : Design) (c : Edit) (f : Reply) → f ≡ (handed_back d c f).reply
reply_back d c (Ok tt) = refl
reply_back d c (Err f) = refl

-- Edit hands a design back: for e the answer has the same reply, and beside it the design that is the same. The place
-- that is changed has to stand in both designs' arrays.
module _ {d e : Design} (z : SameDesign d e) (sized : Sized d) (sized' : Sized e) where
  pub edits_same : (c : Edit) (before after : List ℕ) (r : Handed) → Edits d c before r after
      → (r' : Handed) × Edits e c before r' after × (r.reply ≡ r'.reply) × SameDesign r.design r'.design
  edits_same c before after r x = (answer, allowed, reply_back e c r.reply, designs (editing d c before))
    where
      answer : Handed
      answer = handed_back e c r.reply

      so : {h : Handed} → r ≡ h → answer ≡ handed_back e c h.reply
      so a = ap (λ h. handed_back e c h.reply) a

      lawful : LawfulDesign e → LawfulDesign d
      lawful = lawful_same (same_sym z)

      names : So (names_place e c) → So (names_place d c)
      names n = names_same z c ∙ n

      allowed : Edits e c before answer after
      allowed = record {
        sized = sized';
        unlawful = λ f t. let (a, b) = x.unlawful f (test_same z ∙ t) in (so a, b);
        unnamed = λ l n. let (a, b) = x.unnamed (lawful l) (λ s. n (sym (names_same z c) ∙ s)) in (so a, b);
        short = λ l n h. let (a, b) = x.short (lawful l) (names n) (rw (work_same z) h) in (so a, b);
        stranger = λ l n h f.
            let (a, b) = x.stranger (lawful l) (names n) (rw (work_same z) h) (λ st. f (work_stairs z before st)) in
            (so a, b);
        done = λ l n h st.
            let st' = work_stairs (same_sym z) before st in
            let (a, m) = x.done (lawful l) (names n) (rw (work_same z) h) st' in
            (so a, edited_same z (lawful l) sized sized' c (names n) before after m);
      }

      designs : Editing d c before → SameDesign r.design answer.design
      designs (unlawful_design f t) = rw (x.unlawful f t).0 z
      designs (unnamed l n) = rw (x.unnamed l n).0 z
      designs (short_work l n h) = rw (x.short l n h).0 z
      designs (stranger l n h f) = rw (x.stranger l n h f).0 z
      designs (granted l n h st) = rw (x.done l n h st).0 (changed_same z l sized sized' c n)

-- So the answers allowed for two designs called the same are the same: reply, values, bytes and rows; for edit, designs
-- called the same.
module _ {d e : Design} (z : SameDesign d e) where
  pub same_written : (before after after' : List ℕ) (r r' : Written)
      → Writes d before r after → Writes e before r' after' → (r ≡ r') × (after ≡ after')
  same_written before after after' r r' x y = writes_once e before after after' r r' (writes_same z y.sized before after r x) y

  pub same_listed : (before after after' : List ℕ) (r r' : Reply)
      → Lists d before r after → Lists e before r' after' → (r ≡ r') × (after ≡ after')
  same_listed before after after' r r' x y = lists_once e before after after' r r' (lists_same z y.sized before after r x) y

  pub same_planned : (before rows after after' out out' : List ℕ) (r r' : Planned)
      → Plans d before rows r after out → Plans e before rows r' after' out'
      → (r ≡ r') × (after ≡ after') × (out ≡ out')
  same_planned before rows after after' out out' r r' x y =
      plans_once e before rows after after' out out' r r' (plans_same z y.sized before rows after out r x) y

  pub same_placed : (work rows out out' : List ℕ) (r r' : Planned)
      → Places d work rows r out → Places e work rows r' out' → (r ≡ r') × (out ≡ out')
  same_placed work rows out out' r r' x y = places_once e work rows out out' r r' (places_same z y.sized work rows out r x) y

  pub same_edited : (c : Edit) (before after after' : List ℕ) (r r' : Handed)
      → Edits d c before r after → Edits e c before r' after'
      → (r.reply ≡ r'.reply) × SameDesign r.design r'.design × (after ≡ after')
  same_edited c before after after' r r' x y =
      let (q, w, a, s) = edits_same z x.sized y.sized c before after r x in
      let (u, b) = edits_once e c before after after' q r' w y in (a ∙ ap (λ h. h.reply) u, rw u at s, b)

  pub same_checked : (rows : List ℕ) (r r' : Reply) → Checks d rows r → Checks e rows r' → r ≡ r'
  same_checked rows r r' x y = checks_once e rows r r' (checks_same z y.sized rows r x) y

  pub same_scored : {a b : Cost} → SameCost a b → (rows : List ℕ) (r r' : Scored) → Scores d rows a r → Scores e rows b r' → r ≡ r'
  same_scored {b = b} w rows r r' x y = scores_once e rows b r r' (scores_same z y.sized w rows r x) y

-- No other lawful designs are treated the same: write, given room, tells them apart. They are called the same exactly
-- if it answers alike and leaves the same bytes.
module _ (d e : Design) (lawful : LawfulDesign d) (lawful' : LawfulDesign e)
    (before after after' : List ℕ) (r r' : Written)
    (enough : length (design_bytes d) ≤ length before) (enough' : length (design_bytes e) ≤ length before)
    (x : Writes d before r after) (y : Writes e before r' after') where
  pub same_iff_written : SameDesign d e ↔ ((r ≡ r') × (after ≡ after'))
  same_iff_written = (λ z. same_written z before after after' r r' x y, apart)
    where
      put : (f : Design) (lent : List ℕ) → lent ≡ design_bytes f ++ drop (length (design_bytes f)) before
          → take (length (design_bytes f)) lent ≡ design_bytes f
      put f lent b = rw b (take-append_seam (design_bytes f) _)

      apart : (r ≡ r') × (after ≡ after') → SameDesign d e
      apart (q, same) =
          let (a, b) = x.done lawful enough in let (a', b') = y.done lawful' enough' in
          let n : length (design_bytes d) ≡ length (design_bytes e) = cc in
          (same_iff_bytes d e lawful lawful').1 (sym (put d after b) ∙ rw (n, same) (put e after' b'))

-- "same designs, same treatment", of any services that keep their contracts
pub same_treatment : (S : Services) → Keeping S → SameTreatment S
same_treatment S k = record {
  write = λ d e z before after after' r r' x y. same_written z before after after' r r' (k.write d before after r x) (k.write e before after' r' y);
  list = λ d e z before after after' r r' x y. same_listed z before after after' r r' (k.list d before after r x) (k.list e before after' r' y);
  plan = λ d e z before rows after after' out out' r r' x y.
      same_planned z before rows after after' out out' r r' (k.plan d before rows after out r x) (k.plan e before rows after' out' r' y);
  place = λ d e z work rows out out' r r' x y. same_placed z work rows out out' r r' (k.place d work rows out r x) (k.place e work rows out' r' y);
  edit = λ d e z c before after after' r r' x y. same_edited z c before after after' r r' (k.edit d c before after r x) (k.edit e c before after' r' y);
  check = λ d e z rows r r' x y. same_checked z rows r r' (k.check d rows r x) (k.check e rows r' y);
  score = λ d e z a b w rows r r' x y. same_scored z w rows r r' (k.score d rows a r x) (k.score e rows b r' y);
}
