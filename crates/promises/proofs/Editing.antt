-- Demand 3, for runs of any length: begin with what list or plan leaves and let only edits write, each handed the design that the last one left,
-- also by way of its bytes. By induction on the run the bytes are the design's own lists throughout, since own lists are stairs, relisting the
-- way keeps them own, and a design that is saved and read again is the same. Assumes nothing.
use Rattle.std.specs.Prelude.{Ok, Err}
use mathlib.Core.Path.{◌≡◌, refl, sym, ◌∙◌, ap}
use mathlib.Core.Logic.{◌⊎◌, inl, inr, ⊎_elim}
use mathlib.Core.Bool.{So}
use mathlib.Core.List.{List}
use Prim.Native.Nat.{ℕ, ◌≤◌}
use native.Mathlib.Omega.{arith}
use lib.ListN.{length}
use lib.Seq.{get_or-set_other}
use Rattle.rules.specs.declared.Design.{Design}
use Rattle.rules.specs.declared.Edit.{Edit}
use Rattle.rules.specs.declared.Edit.TheVariants.{Change, Turn}
use Rattle.rules.specs.declared.Refusal.TheVariants.{NoSuchEdit}
use Rattle.rules.specs.declared.Handed.{Handed}
use Rattle.rules.specs.Slot.{PastKept}
use Rattle.rules.specs.Design.{Sized, LawfulDesign, node_at, nodes, ListsOf, slots_of, OwnLists, width_of, height_of, slot_rows}
use Rattle.rules.specs.Edit.{names_place, changed, EditedLists}
use Rattle.rules.specs.Reply.{answer, planned_answer}
use Rattle.rules.specs.Service.{Edits, work_of}
use Rattle.rules.proofs.Searching.{know}
use Rattle.rules.proofs.Changing.{edit_lawful, edit_keeps}
use Rattle.rules.proofs.OneChange.{need_changed, needs_kept, cut_turned}
use Rattle.rules.proofs.Limits.{every_row}
use Rattle.rules.proofs.Agreeing.{on_more_rows}
use Rattle.rules.proofs.Floorplans.{own_stairs}
use Rattle.rules.proofs.Reading.{cleared, cleared_same}
use Rattle.rules.proofs.Relisting.{relisted_own}
use Rattle.rules.proofs.Same.{chip_refl, chip_trans, lawful_same, work_same}
use Rattle.rules.proofs.Carrying.{work_own}
use Rattle.rules.proofs.Working.{same_lists}
use Rattle.promises.specs.Services.{Services, Keeping}
use Rattle.promises.specs.Demand3.{Run, listed, planned, edited, saved, SameSizes, OneChange, RunKept, Demand3}
use Rattle.promises.proofs.Copying.{written_then_read}
use Rattle.promises.proofs.Planning.{own_good, place_as_plan}

-- a lawful design with its full lists
pub record Own (d : Design) (work : List ℕ) : Type 0 where
  pub lawful : LawfulDesign d
  pub bytes : work_of d ≤ length work
  pub lists : OwnLists d (slots_of d work)

-- one edit over own lists: granted or refused as demanded
pub record Granted (d : Design) (e : Edit) (before : List ℕ) (r : Handed) (after : List ℕ) : Type 0 where
  pub names : So (names_place d e)
  pub answer : r ≡ record { reply = (Ok tt); design = changed d e }
  pub lists : EditedLists d e before after

pub record Unnamed (d : Design) (e : Edit) (before : List ℕ) (r : Handed) (after : List ℕ) : Type 0 where
  pub names : So (names_place d e) → ⊥
  pub answer : r ≡ record { reply = Err NoSuchEdit; design = d }
  pub bytes : after ≡ before

pub one_edit : (d : Design) (e : Edit) (before after : List ℕ) (r : Handed) → Own d before → Edits d e before r after
    → Granted d e before r after ⊎ Unnamed d e before r after
one_edit d e before after r own x = ⊎_elim
    (λ n. let (a, m) = x.done own.lawful n own.bytes (own_stairs d own.lawful (slots_of d before) own.lists) in inl (record { names = n; answer = a; lists = m }))
    (λ f. let (a, b) = x.unnamed own.lawful f in inr (record { names = f; answer = a; bytes = b })) (know (names_place d e))

-- the sizes stay, and so does the work that is needed
edit_sizes : (d : Design) (e : Edit) → SameSizes d (changed d e)
edit_sizes d e = let k = edit_keeps d e in record { chip = rw k.chip (chip_refl d.chip); modules = sym k.modules }

sizes_work : {d e : Design} → SameSizes d e → work_of e ≡ work_of d
unfolding slot_rows
sizes_work s = rw (s.chip.width, s.chip.height, s.modules)

sizes_then : {c d e : Design} → SameSizes c d → SameSizes d e → SameSizes c e
sizes_then a b = record { chip = chip_trans a.chip b.chip; modules = a.modules ∙ b.modules }

pub granted_own : (d : Design) (e : Edit) (before after : List ℕ) → Own d before → So (names_place d e) → EditedLists d e before after → Own (changed d e) after
granted_own d e before after own n m =
    let ln = m.past.length in let w = sizes_work (edit_sizes d e) in record {
      lawful = edit_lawful d own.lawful e n;
      bytes = rw (w, ln) own.bytes;
      lists = relisted_own d e own.lawful n before after own.lists m;
    }

-- "it makes that one change"
one_change : (d : Design) → LawfulDesign d → Sized d → (e : Edit) → So (names_place d e) → OneChange d e (changed d e)
unfolding changed
one_change d l z (Change k n) s = record {
  chip = refl;
  modules = refl;
  need = need_changed d l z k n s;
  needs = needs_kept d k n;
  tokens = refl;
}
one_change d l z (Turn t) s = record {
  chip = refl;
  modules = refl;
  needs = refl;
  cut = cut_turned d l z t s;
  tokens = λ s o. get_or-set_other d.tokens t s _ 0 o;
}

-- a design that is saved and read again has the same lists
pub saved_own : (d : Design) (work : List ℕ) → Own d work → Own (cleared d) work
saved_own d work own = let s = cleared_same d in record {
  lawful = lawful_same s own.lawful;
  bytes = rw (← work_same s) own.bytes;
  lists = work_own s work own.lawful own.lists;
}

past_then : {n : ℕ} {a b c : List ℕ} → PastKept n a b → PastKept n b c → PastKept n a c
past_then p q = record { length = q.length ∙ p.length; past = λ i h. q.past i h ∙ p.past i h }

-- throughout a run the bytes are the full lists of the design as it then stands, bytes past them stand, and sizes stay
pub record Throughout (from : Design) (start : List ℕ) (d : Design) (work : List ℕ) : Type 0 where
  pub own : Own d work
  pub past : PastKept (work_of d) start work
  pub sizes : SameSizes from d

-- it begins with what list or plan leaves
pub begun : (d : Design) (start work : List ℕ) → LawfulDesign d → work_of d ≤ length start → PastKept (work_of d) start work × OwnLists d (slots_of d work)
    → Throughout d start d work
begun d start work l h (past, lists) = let ln = past.length in record {
  own = record { lawful = l; bytes = omega arith; lists = lists };
  past = past;
  sizes = record { chip = chip_refl d.chip; modules = refl };
}

-- an edit goes on with it
pub edit_goes_on : {from : Design} {start : List ℕ} (d : Design) (e : Edit) (work after : List ℕ) (r : Handed) → Throughout from start d work
    → Edits d e work r after → Throughout from start r.design after
edit_goes_on {from} {start} d e work after r t x = ⊎_elim
    (λ g. let w = sizes_work (edit_sizes d e) in rw g.answer (record {
      own = granted_own d e work after t.own g.names g.lists;
      past = rw w (past_then t.past g.lists.past);
      sizes = sizes_then t.sizes (edit_sizes d e);
    }))
    (λ u. rw (u.answer, u.bytes) t) (one_edit d e work after r t.own x)

-- and so does saving the design
pub saved_goes_on : {from : Design} {start : List ℕ} (d : Design) (work : List ℕ) → Throughout from start d work → Throughout from start (cleared d) work
saved_goes_on d work t = let s = cleared_same d in record {
  own = saved_own d work t.own;
  past = rw (← work_same s) t.past;
  sizes = sizes_then t.sizes (record { chip = s.chip; modules = s.modules });
}

-- what is demanded over own lists
pub own_kept : (S : Services) → Keeping S → (from : Design) (start : List ℕ) (d : Design) (work : List ℕ) → Throughout from start d work → RunKept S from start d work
own_kept S k from start d work t = let own = t.own in record {
  refused = λ e r after x f. ⊎_elim (λ g. absurd (f (rw g.answer))) (λ u. (rw u.answer, u.names)) (one_edit d e work after r own (k.edit d e work after r x));
  granted = λ e r after x f. let y = k.edit d e work after r x in
      ⊎_elim (λ g. rw g.answer (one_change d own.lawful y.sized e g.names)) (λ u. absurd (not_granted u f)) (one_edit d e work after r own y);
  fresh = λ before listed r x h. let (_, p, l) = (k.list d before listed r x).done own.lawful h in
      same_lists (width_of d) (height_of d) (slot_rows d) (ListsOf d) (node_at d) (nodes d) work listed own.bytes (rw p.length h) own.lists l;
  off = λ e r after x f t c h on o j b. let y = k.edit d e work after r x in
      ⊎_elim (λ g. g.lists.off t c h (on_more_rows (every_row d) on) (rw g.answer at o) j b) (λ u. absurd (not_granted u f)) (one_edit d e work after r own y);
  good = own_good d work own.lists;
  past = t.past;
  sizes = t.sizes;
  place = λ before rows after rows' out r r' h x z.
      let (a, b) = place_as_plan d before rows after rows' r (k.plan d before rows after rows' r x) h work out r' own.bytes own.lists (k.place d work rows out r' z) in (ap planned_answer a, b);
}
  where
    not_granted : {e : Edit} {r : Handed} {after : List ℕ} → Unnamed d e work r after → (answer r.reply).number ≡ 0 → ⊥
    not_granted u f = let z = rw u.answer at f in omega arith

module _ (S : Services) (k : Keeping S) (from : Design) (start : List ℕ) where
  pub run_own : {d : Design} {work : List ℕ} → Run S from start d work → Throughout from start d work
  run_own (listed {r = r} {work = work} l h x) = let (_, p, o) = (k.list from start work r x).done l h in begun from start work l h (p, o)
  run_own (planned {rows = rows} {rows' = rows'} {r = r} {work = work} h x) =
      begun from start work h.lawful h.bytes ((k.plan from start rows work rows' r x).listed h)
  run_own (edited {d = d} {work = work} {after = after} {e = e} {r = r} run x) = edit_goes_on d e work after r (run_own run) (k.edit d e work after r x)
  run_own (saved {d = d} {work = work} {out = out} {out' = out'} {w = w} {r = r} run x h y) =
      let t = run_own run in
      rw (written_then_read d out out' w r t.own.lawful (k.write d out out' w x) h (k.read _ r y)) (saved_goes_on d work t)

-- Demand 3, of any services that keep their contracts
pub demand_3 : (S : Services) → Keeping S → Demand3 S
demand_3 S k = record { kept = λ from start d work run. own_kept S k from start d work (run_own S k from start run) }
