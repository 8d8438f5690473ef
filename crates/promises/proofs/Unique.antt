-- "Prove that two replies allowed by it are equal": for each service, reply and lent bytes. Whichever outcome comes about, it fixes the
-- answer and the bytes. Assumes nothing.
use mathlib.Core.Path.{◌≡◌, sym, ◌∙◌}
use mathlib.Core.Logic.{◌⊎◌, ⊎_elim}
use mathlib.Core.List.{List}
use Prim.Native.Nat.{ℕ, ◌≤◌, ◌<◌}
use lib.ListN.{length}
use Rattle.rules.specs.declared.Design.{Design}
use Rattle.rules.specs.declared.Edit.{Edit}
use Rattle.rules.specs.Answers.{Reply, Written, Planned, Scored}
use Rattle.rules.specs.declared.Handed.{Handed}
use Rattle.rules.specs.declared.Cost.{Cost}
use Rattle.rules.specs.Design.{node_at, nodes, root, ListsOf, slot_rows, slots_of, width_of, height_of}
use Rattle.rules.specs.Edit.{changed, changed_node}
use Rattle.rules.specs.Bytes.{design_bytes}
use Rattle.rules.specs.Service.{Reads, Writes, Lists, Plans, Places, Edits, Checks, Scores, Enough, work_of, rows_of}
use Rattle.rules.proofs.Standing.{node_position}
use Rattle.rules.proofs.Nodes.{node_at_lem, node_part, part_node}
use Rattle.rules.proofs.Limits.{every_row, no_other_row}
use Rattle.rules.proofs.Floorplans.{planned}
use Rattle.rules.proofs.Changing.{edit_lawful, edit_keeps}
use Rattle.rules.proofs.Working.{listed_once, relisted_once}
use Rattle.promises.proofs.Cases.{Lent, unlawful, short, enough, one_lent, two_lent, Placing, no_stairs, empty, lost, placed, placing, Editing, unlawful_design, unnamed, short_work, stranger, granted, editing, Scoring, faulty, bad_term, bad_net, scored, scoring}

pub reads_once : (s : List ℕ) (r r' : Handed) → Reads s r → Reads s r' → r ≡ r'
reads_once s r r' x y = x ∙ sym y

pub checks_once : (d : Design) (rows : List ℕ) (r r' : Reply) → Checks d rows r → Checks d rows r' → r ≡ r'
checks_once d rows r r' x y = x.judged ∙ sym y.judged

pub scores_once : (d : Design) (rows : List ℕ) (c : Cost) (r r' : Scored) → Scores d rows c r → Scores d rows c r' → r ≡ r'
scores_once d rows c r r' x y = go (scoring d rows c)
  where
    go : Scoring d rows c → r ≡ r'
    go (faulty e v) = x.judged e v ∙ sym (y.judged e v)
    go (bad_term v f) = x.bad_term v f ∙ sym (y.bad_term v f)
    go (bad_net v t f) = x.bad_net v t f ∙ sym (y.bad_net v t f)
    go (scored v t n) = x.done v t n ∙ sym (y.done v t n)

-- two of the same are the same
both : {A B : Type 0} {a b c : A} {x y z : B} → (a ≡ c) × (x ≡ z) → (b ≡ c) × (y ≡ z) → (a ≡ b) × (x ≡ y)
both p q = (p.0 ∙ sym q.0, p.1 ∙ sym q.1)

all_three : {A B C : Type 0} {a b c : A} {x y z : B} {u v w : C} → (a ≡ c) × (x ≡ z) × (u ≡ w) → (b ≡ c) × (y ≡ z) × (v ≡ w) → (a ≡ b) × (x ≡ y) × (u ≡ v)
all_three p q = (p.0 ∙ sym q.0, p.1 ∙ sym q.1, p.2 ∙ sym q.2)

pub writes_once : (d : Design) (before after after' : List ℕ) (r r' : Written) → Writes d before r after → Writes d before r' after' → (r ≡ r') × (after ≡ after')
writes_once d before after after' r r' x y = go (one_lent d (length (design_bytes d)) before)
  where
    go : Lent d (length before < length (design_bytes d)) (length (design_bytes d) ≤ length before) → (r ≡ r') × (after ≡ after')
    go (unlawful e t) = both (x.unlawful e t) (y.unlawful e t)
    go (short l h) = both (x.short l h) (y.short l h)
    go (enough l h) = both (x.done l h) (y.done l h)

pub lists_once : (d : Design) (before after after' : List ℕ) (r r' : Reply) → Lists d before r after → Lists d before r' after' → (r ≡ r') × (after ≡ after')
lists_once d before after after' r r' x y = go (one_lent d (work_of d) before)
  where
    go : Lent d (length before < work_of d) (work_of d ≤ length before) → (r ≡ r') × (after ≡ after')
    go (unlawful e t) = both (x.unlawful e t) (y.unlawful e t)
    go (short l h) = both (x.short l h) (y.short l h)
    go (enough l h) =
        let (a, k, o) = x.done l h in let (a', k', o') = y.done l h in
        (a ∙ sym a', listed_once (width_of d) (height_of d) (slot_rows d) (ListsOf d) (node_at d) (nodes d) before after after' k k' o o')

pub plans_once : (d : Design) (before rows after after' rows' rows'' : List ℕ) (r r' : Planned)
    → Plans d before rows r after rows' → Plans d before rows r' after' rows'' → (r ≡ r') × (after ≡ after') × (rows' ≡ rows'')
plans_once d before rows after after' rows' rows'' r r' x y = go (two_lent d before rows)
  where
    go : Lent d ((length before < work_of d) ⊎ (length rows < rows_of d)) (Enough d before rows) → (r ≡ r') × (after ≡ after') × (rows' ≡ rows'')
    go (unlawful e t) = all_three (x.unlawful e t) (y.unlawful e t)
    go (short l h) = all_three (x.short l h) (y.short l h)
    go (enough l h) =
        let (k, o) = x.listed h in let (k', o') = y.listed h in
        let e = listed_once (width_of d) (height_of d) (slot_rows d) (ListsOf d) (node_at d) (nodes d) before after after' k k' o o' in
        let y' : Plans d before rows r' after rows'' = rw (← e) at y in
        let (a, b) = ⊎_elim (λ z. both (x.none h z.0) (y'.none h z.0))
        (λ z. let (s, ch, (p, down, _)) = z in both (x.done h s p ch down) (y'.done h s p ch down)) (planned d l (slots_of d after) o) in (a, e, b)

pub places_once : (d : Design) (work rows rows' rows'' : List ℕ) (r r' : Planned) → Places d work rows r rows' → Places d work rows r' rows'' → (r ≡ r') × (rows' ≡ rows'')
places_once d work rows rows' rows'' r r' x y = go (two_lent d work rows)
  where
    over : Enough d work rows → Placing d (slots_of d work) → (r ≡ r') × (rows' ≡ rows'')
    over h (no_stairs f) = both (x.stranger h f) (y.stranger h f)
    over h (empty st f) = both (x.none h st f) (y.none h st f)
    over h (lost st s ch f) = both (x.lost h st s ch f) (y.lost h st s ch f)
    over h (placed st s p ch down) = both (x.done h st s p ch down) (y.done h st s p ch down)

    go : Lent d ((length work < work_of d) ⊎ (length rows < rows_of d)) (Enough d work rows) → (r ≡ r') × (rows' ≡ rows'')
    go (unlawful e t) = both (x.unlawful e t) (y.unlawful e t)
    go (short l h) = both (x.short l h) (y.short l h)
    go (enough l h) = over h (placing d l (slots_of d work))

pub edits_once : (d : Design) (e : Edit) (before after after' : List ℕ) (r r' : Handed) → Edits d e before r after → Edits d e before r' after' → (r ≡ r') × (after ≡ after')
edits_once d e before after after' r r' x y = go (editing d e before)
  where
    go : Editing d e before → (r ≡ r') × (after ≡ after')
    go (unlawful_design f t) = both (x.unlawful f t) (y.unlawful f t)
    go (unnamed l f) = both (x.unnamed l f) (y.unnamed l f)
    go (short_work l n h) = both (x.short l n h) (y.short l n h)
    go (stranger l n h f) = both (x.stranger l n h f) (y.stranger l n h f)
    go (granted l n h st) =
        let (a, m) = x.done l n h st in let (a', m') = y.done l n h st in
        let d' = changed d e in let l' = edit_lawful d l e n in let k = (edit_keeps d e).nodes_same in (
          a ∙ sym a',
          relisted_once (width_of d) (height_of d) (slot_rows d) (every_row d) (no_other_row d) (ListsOf d') (node_at d') (nodes d) (changed_node d e) (root d')
              (λ u q. let (b, i) = part_node d' l' u q in (rw k at b, i)) before after after' m m'
              (λ t b. let b' : t < nodes d' = rw k b in (node_part d' l' t b', node_position (node_at_lem d' l' t b'))),
        )
