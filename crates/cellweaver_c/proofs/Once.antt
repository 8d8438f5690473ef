-- "Prove that two replies allowed by it are equal": for each function, reply and lent bytes. The bytes are one design or one refusal;
-- over a design the service's two answers are equal. Assumes nothing.
use Rattle.std.specs.Prelude.{Ok, Err}
use mathlib.Core.Path.{◌≡◌, refl, sym, ◌∙◌, ap}
use mathlib.Core.Logic.{◌⊎◌, ⊎_elim}
use mathlib.Core.Bool.{So}
use mathlib.Core.List.{List}
use Prim.Native.Nat.{ℕ, ◌≤◌, ◌<◌}
use native.Mathlib.Omega.{arith}
use native.Mathlib.Decide.{dec_le}
use lib.ListN.{length}
use Rattle.rules.specs.declared.Design.{Design}
use Rattle.rules.specs.declared.Edit.{Edit}
use Rattle.rules.specs.declared.Refusal.{Refusal}
use Rattle.rules.specs.Answers.{Reply}
use Rattle.rules.specs.declared.Handed.{Handed}
use Rattle.rules.specs.declared.Cost.{Cost}
use Rattle.rules.specs.Edit.{names_place}
use Rattle.rules.specs.Bytes.{Took, took, refuse, design_at}
use Rattle.rules.specs.Reply.{Answer, ScoreAnswer, refusal, answer, written_answer, planned_answer, scored_answer}
use Rattle.rules.proofs.Searching.{know}
use Rattle.lending.specs.Lent.{lending}
use Rattle.promises.proofs.Unique.{reads_once, writes_once, lists_once, plans_once, places_once, edits_once, checks_once, scores_once}
use Rattle.writing.specs.Parts.{design_size}
use Rattle.cellweaver_c.specs.Asked.{Asked, Sizes, AskedRead, AskedSizes, AskedWrite, AskedList, AskedPlan}
use Rattle.cellweaver_c.specs.Asked.{AskedPlace, AskedCheck, AskedScore, AskedEdit, PutsBack, EditsInto}

-- two of the same are the same
both : {A B : Type 0} {a b c : A} {x y z : B} → (a ≡ c) × (x ≡ z) → (b ≡ c) × (y ≡ z) → (a ≡ b) × (x ≡ y)
both p q = (p.0 ∙ sym q.0, p.1 ∙ sym q.1)

all_three : {A B C : Type 0} {a b c : A} {x y z : B} {u v w : C} → (a ≡ c) × (x ≡ z) × (u ≡ w)
    → (b ≡ c) × (y ≡ z) × (v ≡ w) → (a ≡ b) × (x ≡ y) × (u ≡ v)
all_three p q = (p.0 ∙ sym q.0, p.1 ∙ sym q.1, p.2 ∙ sym q.2)

-- an edit: whether `out` is long enough is told first
put_once : {h : Handed} {out out' out'' : List ℕ} {a a' : Answer} → PutsBack h (lending out out') a → PutsBack h (lending out out'') a'
    → (a ≡ a') × (out' ≡ out'')
put_once {h} {out} {out'} {out''} {a} {a'} p q = go h.reply refl
  where
    go : (r : Reply) → h.reply ≡ r → (a ≡ a') × (out' ≡ out'')
    go (Ok tt) e = both (p.done e) (q.done e)
    go (Err f) e = both (p.refused f e) (q.refused f e)

edit_once : (d : Design) (e : Edit) (before out : List ℕ) {a a' : Answer} {after after' out' out'' : List ℕ}
    → EditsInto d e (lending before after) (lending out out') a → EditsInto d e (lending before after') (lending out out'') a'
    → (a ≡ a') × (after ≡ after') × (out' ≡ out'')
edit_once d e before out {a} {a'} {after} {after'} {out'} {out''} x y = go (dec_le design_size (length out)) (know (names_place d e))
  where
    go : Dec (design_size ≤ length out) → So (names_place d e) ⊎ (So (names_place d e) → ⊥)
        → (a ≡ a') × (after ≡ after') × (out' ≡ out'')
    go (yes long) _ =
        let (h, s, p) = x.enough long in let (h', s', p') = y.enough long in
        let (i, j) = edits_once d e before after after' h h' s s' in let (k, l) = put_once p (rw (← i) at p') in (k, j, l)
    go (no long) z =
        let short : length out < design_size = omega arith in
        ⊎_elim (λ n. all_three (x.short short n) (y.short short n)) (λ n. all_three (x.unnamed short n) (y.unnamed short n)) z

module _ (bytes : List ℕ) where
  -- the bytes are refused, or a design
  once : {Same : Type 0} {a a' : Answer} {Standing Standing' : Type 0} {Served Served' : Design → Type 0}
      → ((e : Refusal) → (a ≡ refusal e) × Standing → (a' ≡ refusal e) × Standing' → Same)
      → ((d : Design) → Served d → Served' d → Same) → Asked bytes a Standing Served → Asked bytes a' Standing' Served' → Same
  once {Same} f g x y = go (design_at bytes) refl
    where
      go : (t : Took Design) → design_at bytes ≡ t → Same
      go (took d n) q = g d (x.read d n q) (y.read d n q)
      go (refuse e) q = f e (x.unread e q) (y.unread e q)

  module _ (a a' : Answer) where
    pub read_once : AskedRead bytes a → AskedRead bytes a' → a ≡ a'
    read_once x y = x.said ∙ ap (λ h. answer h.reply) (reads_once bytes x.r y.r x.served y.served) ∙ sym y.said

    pub sizes_once : (s s' : Sizes) → AskedSizes bytes s a → AskedSizes bytes s' a' → (a ≡ a') × (s ≡ s')
    sizes_once s s' = once (λ _. both) (λ _. both)

    pub write_once : (before after after' : List ℕ) → AskedWrite bytes (lending before after) a
        → AskedWrite bytes (lending before after') a' → (a ≡ a') × (after ≡ after')
    write_once before after after' = once (λ _. both) λ d x y.
        let (p, q) = writes_once d before after after' x.r y.r x.served y.served in
        (x.said ∙ ap written_answer p ∙ sym y.said, q)

    pub list_once : (before after after' : List ℕ) → AskedList bytes (lending before after) a
        → AskedList bytes (lending before after') a' → (a ≡ a') × (after ≡ after')
    list_once before after after' = once (λ _. both) λ d x y.
        let (p, q) = lists_once d before after after' x.r y.r x.served y.served in
        (x.said ∙ ap answer p ∙ sym y.said, q)

    pub plan_once : (before rows after after' rows' rows'' : List ℕ) → AskedPlan bytes (lending before after) (lending rows rows') a
        → AskedPlan bytes (lending before after') (lending rows rows'') a' → (a ≡ a') × (after ≡ after') × (rows' ≡ rows'')
    plan_once before rows after after' rows' rows'' = once
        (λ _ p q. let (s, t) = both p.1 q.1 in (p.0 ∙ sym q.0, s, t)) λ d x y.
        let (p, q, s) = plans_once d before rows after after' rows' rows'' x.r y.r x.served y.served in
        (x.said ∙ ap planned_answer p ∙ sym y.said, q, s)

    pub place_once : (work rows rows' rows'' : List ℕ) → AskedPlace bytes work (lending rows rows') a
        → AskedPlace bytes work (lending rows rows'') a' → (a ≡ a') × (rows' ≡ rows'')
    place_once work rows rows' rows'' = once (λ _. both) λ d x y.
        let (p, q) = places_once d work rows rows' rows'' x.r y.r x.served y.served in
        (x.said ∙ ap planned_answer p ∙ sym y.said, q)

    pub edit_need_or_turn_once : (e : Edit) (before out after after' out' out'' : List ℕ)
        → AskedEdit bytes e (lending before after) (lending out out') a → AskedEdit bytes e (lending before after') (lending out out'') a'
        → (a ≡ a') × (after ≡ after') × (out' ≡ out'')
    edit_need_or_turn_once e before out after after' out' out'' = once
        (λ _ p q. let (s, t) = both p.1 q.1 in (p.0 ∙ sym q.0, s, t)) λ d. edit_once d e before out

    pub check_once : (rows : List ℕ) → AskedCheck bytes rows a → AskedCheck bytes rows a' → a ≡ a'
    check_once rows = once (λ _ p q. p.0 ∙ sym q.0) λ d x y.
        x.said ∙ ap answer (checks_once d rows x.r y.r x.served y.served) ∙ sym y.said

  pub score_once : (rows : List ℕ) (c : Cost) (a a' : ScoreAnswer) → AskedScore bytes rows c a → AskedScore bytes rows c a' → a ≡ a'
  score_once rows c a a' = once
      (λ _ p q i. record { reply = (p.0 ∙ sym q.0) i; values = (p.1 ∙ sym q.1) i }) λ d x y.
      x.2 ∙ ap scored_answer (scores_once d rows c x.0 y.0 x.1 y.1) ∙ sym y.2
