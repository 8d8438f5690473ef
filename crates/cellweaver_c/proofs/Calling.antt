-- Demand 3 over the library's calls: begin with list or plan over a design's bytes, then let only edits write to the work, each handed the bytes
-- that the last granted one put. An edit's bytes are read as the design that it hands back, but for places that are ignored; so each call goes on
-- with the run. Assumes nothing.
use mathlib.Core.Path.{◌≡◌, refl, sym, ◌∙◌, ap}
use mathlib.Core.Logic.{◌⊎◌, inl, inr, ⊎_elim}
use mathlib.Core.Bool.{So}
use mathlib.Core.List.{List}
use Prim.Native.Nat.{ℕ, ◌≤◌, ◌<◌}
use native.Mathlib.Omega.{arith}
use native.Mathlib.Decide.{dec_le}
use lib.ListN.{length, take}
use lib.Seq.{take-append_seam}
use Rattle.rules.specs.declared.Design.{Design}
use Rattle.rules.specs.declared.Edit.{Edit}
use Rattle.rules.specs.declared.Refusal.{Refusal}
use Rattle.rules.specs.declared.Refusal.TheVariants.{TooShort, NoSuchEdit}
use Rattle.rules.specs.declared.Handed.{Handed}
use Rattle.rules.specs.Design.{LawfulDesign}
use Rattle.rules.specs.Edit.{names_place}
use Rattle.rules.specs.Bytes.{Took, took, refuse, design_bytes, design_at}
use Rattle.rules.specs.Reply.{Answer, refusal, answer, planned_answer}
use Rattle.rules.specs.Service.{Enough, work_of, rows_of, Lists, Plans, Edits}
use Rattle.rules.proofs.Searching.{know}
use Rattle.rules.proofs.Nodes.{never_both}
use Rattle.rules.proofs.Reading.{read_lawful, cleared, written_read}
use Rattle.lending.specs.Lent.{lending}
use Rattle.promises.specs.Services.{contracts}
use Rattle.promises.specs.Demand3.{RunKept}
use Rattle.promises.proofs.Copying.{refusal_not_0}
use Rattle.promises.proofs.Refusals.{OfReading, unfinished, malformed, wrong_form, breaks_limits_at, bad_token_at, extra_bytes, reading_refused}
use Rattle.promises.proofs.Cases.{Lent, unlawful, short, enough, one_lent, two_lent}
use Rattle.promises.proofs.Demands.{contracts_keep}
use Rattle.promises.proofs.Editing.{Granted, one_edit, Throughout, begun, edit_goes_on, saved_goes_on, own_kept}
use Rattle.writing.specs.Parts.{design_size}
use Rattle.cellweaver_c.specs.Asked.{Asked, Says, AskedList, AskedPlan, AskedEdit, PutsBack, EditsInto}

-- A run of calls over work that was `start`, by the bytes and the work that it leaves. Calls that do not write to the work may come between.
pub data Calls (start : List ℕ) : List ℕ → List ℕ → Type 0 where
  list : {bytes after : List ℕ} {a : Answer} → AskedList bytes (lending start after) a → a.number ≡ 0 → Calls start bytes after
  plan : {bytes after rows rows' : List ℕ} {a : Answer} → AskedPlan bytes (lending start after) (lending rows rows') a
      → (a.number ≡ 0) ⊎ (a.number ≡ 10) → Calls start bytes after
  granted : {bytes work after out out' : List ℕ} {e : Edit} {a : Answer} → Calls start bytes work
      → AskedEdit bytes e (lending work after) (lending out out') a → a.number ≡ 0 → Calls start (take a.value out') after
  refused : {bytes work after out out' : List ℕ} {e : Edit} {a : Answer} → Calls start bytes work
      → AskedEdit bytes e (lending work after) (lending out out') a → (a.number ≡ 0 → ⊥) → Calls start bytes after

-- the bytes hold a design, to which and to whose lists a run has led
pub record Held (start bytes work : List ℕ) : Type 0 where
  pub from : Design
  pub design : Design
  pub end : ℕ
  pub read : design_at bytes ≡ took design end
  pub run : Throughout from start design work

-- with 0 or 10 the bytes were read
not_ten : {e : Refusal} → OfReading e → (refusal e).number ≡ 10 → ⊥
not_ten unfinished z = omega arith
not_ten malformed z = omega arith
not_ten wrong_form z = omega arith
not_ten breaks_limits_at z = omega arith
not_ten bad_token_at z = omega arith
not_ten extra_bytes z = omega arith

was_read : {bytes : List ℕ} {a : Answer} {Standing : Type 0} {Served : Design → Type 0} → Asked bytes a Standing Served
    → (a.number ≡ 0) ⊎ (a.number ≡ 10) → (d : Design) × (n : ℕ) × (design_at bytes ≡ took d n) × Served d
was_read {bytes} {a} {Standing} {Served} x w = go (design_at bytes) refl
  where
    go : (t : Took Design) → design_at bytes ≡ t → (d : Design) × (n : ℕ) × (design_at bytes ≡ took d n) × Served d
    go (took d n) q = (d, n, q, x.read d n q)
    go (refuse e) q =
        let r : (refusal e).number ≡ a.number = ap (λ b. b.number) (sym (x.unread e q).0) in
        ⊎_elim (λ z. absurd (refusal_not_0 e (r ∙ z))) (λ z. absurd (not_ten (reading_refused bytes e q) (r ∙ z))) w

-- and the bytes lent were enough
list_enough : (d : Design) (before after : List ℕ) (a : Answer) → LawfulDesign d → Says answer (λ r. Lists d before r after) a → a.number ≡ 0
    → work_of d ≤ length before
list_enough d before after a l s z = go (one_lent d (work_of d) before)
  where
    go : Lent d (length before < work_of d) (work_of d ≤ length before) → work_of d ≤ length before
    go (unlawful e t) = never_both d t l
    go (short _ h) = let k = rw (s.said, (s.served.short l h).0) at z in absurd (omega arith)
    go (enough _ h) = h

plan_enough : (d : Design) (before after rows rows' : List ℕ) (a : Answer) → LawfulDesign d → Says planned_answer (λ r. Plans d before rows r after rows') a
    → (a.number ≡ 0) ⊎ (a.number ≡ 10) → Enough d before rows
plan_enough d before after rows rows' a l s z = go (two_lent d before rows)
  where
    go : Lent d ((length before < work_of d) ⊎ (length rows < rows_of d)) (Enough d before rows) → Enough d before rows
    go (unlawful e t) = never_both d t l
    go (short _ h) =
        let e : a.number ≡ 8 = ap (λ b. b.number) s.said ∙ ap (λ r. (planned_answer r).number) (s.served.short l h).0 in
        ⊎_elim (λ w. absurd (omega arith)) (λ w. absurd (omega arith)) z
    go (enough _ h) = h

-- An edit is granted, and puts the bytes of the design whose lists work then holds; or work stands.
abbrev Outcome : List ℕ → List ℕ → List ℕ → List ℕ → Answer → Type 0
Outcome start work after out' a = ((a.number ≡ 0) × Held start (take a.value out') after) ⊎ ((a.number ≡ 0 → ⊥) × (after ≡ work))

stands : {start work after : List ℕ} (out' : List ℕ) {a : Answer} (f : Refusal) → 0 < (refusal f).number → a ≡ refusal f → after ≡ work
    → Outcome start work after out' a
stands out' f m i j = inr (λ z. let k = ap (λ b. b.number) i in omega arith, j)

module _ {start bytes work after out out' : List ℕ} {e : Edit} {a : Answer} (o : Held start bytes work) where
  with_enough : (h : Handed) → Edits o.design e work h after → PutsBack h (lending out out') a → Outcome start work after out' a
  with_enough h y p =
      ⊎_elim put_back (λ r. stands out' NoSuchEdit (omega arith) (p.refused NoSuchEdit (ap (λ f. f.reply) r.answer)).0 r.bytes)
      (one_edit o.design e work after h o.run.own y)
    where
      put_back : Granted o.design e work h after → Outcome start work after out' a
      put_back g =
          let (i, j) = p.done (ap (λ r. r.reply) g.answer) in let run = edit_goes_on o.design e work after h o.run y in
          let bytes : take a.value out' ≡ design_bytes h.design = rw (i, j) (take-append_seam _ _) in
          inl (
            ap (λ b. b.number) i,
            record {
              from = o.from;
              design = cleared h.design;
              end = length (design_bytes h.design);
              read = rw bytes (written_read h.design run.own.lawful);
              run = saved_goes_on h.design after run;
            },
          )

  edit_held : AskedEdit bytes e (lending work after) (lending out out') a → Outcome start work after out' a
  edit_held x = go (x.read o.design o.end o.read) (dec_le design_size (length out)) (know (names_place o.design e))
    where
      go : EditsInto o.design e (lending work after) (lending out out') a → Dec (design_size ≤ length out)
          → So (names_place o.design e) ⊎ (So (names_place o.design e) → ⊥) → Outcome start work after out' a
      go s (yes long) _ = let (h, y, p) = s.enough long in with_enough h y p
      go s (no long) (inl names) = let (i, j, _) = s.short (omega arith) names in stands out' TooShort (omega arith) i j
      go s (no long) (inr none) = let (i, j, _) = s.unnamed (omega arith) none in stands out' NoSuchEdit (omega arith) i j

-- each call begins a run or goes on with it
list_held : (start bytes after : List ℕ) (a : Answer) → AskedList bytes (lending start after) a → a.number ≡ 0 → Held start bytes after
list_held start bytes after a x z =
    let (d, n, q, s) = was_read x (inl z) in let l = (read_lawful bytes d n q).0 in let long = list_enough d start after a l s z in
    let (_, kept, lists) = s.served.done l long in
    record { from = d; design = d; end = n; read = q; run = begun d start after l long (kept, lists) }

plan_held : (start bytes after rows rows' : List ℕ) (a : Answer) → AskedPlan bytes (lending start after) (lending rows rows') a
    → (a.number ≡ 0) ⊎ (a.number ≡ 10) → Held start bytes after
plan_held start bytes after rows rows' a x z =
    let (d, n, q, s) = was_read x z in let l = (read_lawful bytes d n q).0 in let long = plan_enough d start after rows rows' a l s z in
    record { from = d; design = d; end = n; read = q; run = begun d start after l long.bytes (s.served.listed long) }

granted_held : {start bytes work after out out' : List ℕ} {e : Edit} {a : Answer} → Held start bytes work
    → AskedEdit bytes e (lending work after) (lending out out') a → a.number ≡ 0 → Held start (take a.value out') after
granted_held o x z = ⊎_elim (λ g. g.1) (λ r. absurd (r.0 z)) (edit_held o x)

refused_held : {start bytes work after out out' : List ℕ} {e : Edit} {a : Answer} → Held start bytes work
    → AskedEdit bytes e (lending work after) (lending out out') a → (a.number ≡ 0 → ⊥) → Held start bytes after
refused_held o x f = ⊎_elim (λ g. absurd (f g.0)) (λ r. rw r.1 o) (edit_held o x)

-- throughout a run of calls
pub calls_held : {start bytes work : List ℕ} → Calls start bytes work → Held start bytes work
calls_held (list {bytes = bytes} {after = after} {a = a} x z) = list_held _ bytes after a x z
calls_held (plan {bytes = bytes} {after = after} {rows = rows} {rows' = rows'} {a = a} x z) = plan_held _ bytes after rows rows' a x z
calls_held (granted run x z) = granted_held (calls_held run) x z
calls_held (refused run x f) = refused_held (calls_held run) x f

-- Demand 3, of the design that the bytes now hold and the work as it then stands
pub after_calls : {start bytes work : List ℕ} → Calls start bytes work
    → (from d : Design) × (n : ℕ) × (design_at bytes ≡ took d n) × RunKept contracts from start d work
after_calls {start} {bytes} {work} run = let o = calls_held run in
    (o.from, o.design, o.end, o.read, own_kept contracts contracts_keep o.from start o.design work o.run)
