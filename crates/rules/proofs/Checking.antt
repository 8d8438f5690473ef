-- The checker passes exactly the lawful placements, and a refusal names the first fault: each test says what it tests, and
-- the least number that fails its test is the first. Assumes nothing.
use Rattle.std.specs.Prelude.{Ok, Err}
use mathlib.Core.Path.{◌≡◌, refl, sym, ◌∙◌}
use mathlib.Core.Logic.{◌⊎◌, inl, inr, ◌↔◌}
use mathlib.Core.Bool.{Bool, true, false, not, ◌&&◌, ◌||◌, So}
use mathlib.Core.List.{List}
use Prim.Native.Nat.{ℕ, ◌*◌, ◌≤◌, ◌<◌}
use native.Mathlib.Omega.{arith}
use native.Mathlib.Decide.{dec_le, dec_lt}
use lib.Dec.{leb, ltb}
use lib.ListN.{length}
use Rattle.rules.specs.declared.Rectangle.{Rectangle}
use Rattle.rules.specs.declared.Direction.{Direction}
use Rattle.rules.specs.declared.Design.{Design}
use Rattle.rules.specs.declared.Refusal.TheVariants.{TooShort, OffTheChip, ShortOfNeed, CutNotKept}
use Rattle.rules.specs.Answers.{Reply}
use Rattle.rules.specs.Search.{all, least}
use Rattle.rules.specs.Chip.{OnChip, holds}
use Rattle.rules.specs.Tree.{Tree, leaf, cut, has}
use Rattle.rules.specs.Placement.{Placement, Kept, KeptAt, Lawful, begins, ends}
use Rattle.rules.specs.Design.{need_at, SuitsOf, nodes, node_at, root, value_test, LawfulDesign, width_of, height_of}
use Rattle.rules.specs.Check.{from_rows, Fine, FirstOff, FirstShort, FirstNotKept, is_on_chip, is_kept, kept_at, is_on, is_suited, judged_cuts, judged_rows, after_tests, verdict}
use Rattle.rules.proofs.Suiting.{at_most_iff}
use Rattle.rules.proofs.Searching.{absurd_so, and_iff, or_iff, not_iff, leb_iff, ltb_iff, know, all_iff, least_is, test-iffs}
use Rattle.rules.proofs.Standing.{Part, part_has}
use Rattle.rules.proofs.Nodes.{lawful_tree, node_part, follows_by_nodes}

-- the tests say what they test
pub on_chip_iff : (W H : ℕ) (r : Rectangle) → So (is_on_chip W H r) ↔ OnChip W H r
unfolding is_on_chip
on_chip_iff W H r = (
  λ t. let s = simp test-iffs at t in record { wide = s.0.0.0; high = s.0.0.1; columns = s.0.1; rows = s.1 },
  λ o. simp test-iffs (((o.wide, o.high), o.columns), o.rows),
)

if_both : (a b c : Bool) → So (not (a && b) || c) ↔ (So a → So b → So c)
if_both true true c = (λ t x y. t, λ h. h refl refl)
if_both true false c = (λ t x y. absurd_so y, λ h. refl)
if_both false b c = (λ t x y. absurd_so x, λ h. refl)

pub kept_iff : (m : ℕ) (d : Direction) (l r : Tree) (p : Placement) → ((i : ℕ) → So (has l i) → i < m) → ((j : ℕ) → So (has r j) → j < m)
    → So (is_kept m d l r p) ↔ Kept d l r p
unfolding is_kept
kept_iff m d l r p f g = (
  λ t i j a b. (order i j).0 ((if_both (has l i) (has r j) (before i j)).0
      ((all_iff m (test i)).0 ((all_iff m (λ i. all m (test i))).0 t i (f i a)) j (g j b)) a b),
  λ k. (all_iff m (λ i. all m (test i))).1 λ i h. (all_iff m (test i)).1 λ j h'.
      (if_both (has l i) (has r j) (before i j)).1 (λ a b. (order i j).1 (k i j a b)),
)
  where
    before : ℕ → ℕ → Bool
    before i j = leb (ends d (p i)) (begins d (p j))

    order : (i j : ℕ) → So (before i j) ↔ (ends d (p i) ≤ begins d (p j))
    order i j = leb_iff (ends d (p i)) (begins d (p j))

    test : ℕ → ℕ → Bool
    test i j = not (has l i && has r j) || before i j

-- the first number below n that fails a test, or none does
data Fault (f : ℕ → Bool) (n r : ℕ) : Type 0 where
  first : ltb r n ≡ true → (So (f r) → ⊥) → ((k : ℕ) → k < r → So (f k)) → Fault f n r
  none : ltb r n ≡ false → ((k : ℕ) → k < n → So (f k)) → Fault f n r

first_fault : (f : ℕ → Bool) (n : ℕ) → Fault f n (least (λ k. not (f k)) n 0)
first_fault f n = go (ltb r n) refl
  where
    r : ℕ
    r = least (λ k. not (f k)) n 0

    passes : (k : ℕ) → k < n → k < r → So (f k)
    passes k h g = go (know (f k))
      where
        go : So (f k) ⊎ (So (f k) → ⊥) → So (f k)
        go (inl t) = t
        go (inr t) = let l = (least_is (λ k. not (f k)) n 0).least k (omega arith) (omega arith) ((not_iff (f k)).1 t) in absurd (omega arith)

    go : (b : Bool) → ltb r n ≡ b → Fault f n r
    go true e =
        let h = (ltb_iff r n).0 e in
        first e ((not_iff (f r)).0 ((least_is (λ k. not (f k)) n 0).passes (omega arith))) (λ k g. passes k (omega arith) g)
    go false e = none e (λ k g. passes k g (later (dec_lt r n) g))
      where
        later : {k : ℕ} → Dec (r < n) → k < n → k < r
        later (yes h) g = absurd_so (sym e ∙ (ltb_iff r n).1 h)
        later (no h) g = omega arith

-- what each reply of the checker says of a placement for a lawful design
pub data Judged (d : Design) (p : Placement) : Reply → Type 0 where
  passed : ((k : ℕ) → k < d.modules → Fine d p k) → ((t : ℕ) → t < nodes d → KeptAt p (node_at d t)) → Judged d p (Ok tt)
  off_the_chip : {k : ℕ} → FirstOff d p k → Judged d p (Err (OffTheChip k))
  short_of_need : {k : ℕ} → FirstShort d p k → Judged d p (Err (ShortOfNeed k))
  cut_not_kept : {t : ℕ} → FirstNotKept d p t → Judged d p (Err (CutNotKept t))

module _ (d : Design) (lawful : LawfulDesign d) (p : Placement) where
  fine_iff : (k : ℕ) → So (is_on d (p k) && is_suited d k (p k)) ↔ Fine d p k
  fine_iff k =
      let a = and_iff (is_on d (p k)) (is_suited d k (p k)) in let o = on_chip_iff (width_of d) (height_of d) (p k) in
      let s = at_most_iff (need_at d k) (holds d.chip (p k)) in
      (λ t. record { on_chip = o.0 (a.0 t).0; suits = s.0 (a.0 t).1 }, λ f. a.1 (o.1 f.on_chip, s.1 f.suits))

  kept_at_iff : (t : ℕ) → t < nodes d → So (kept_at d.modules p (node_at d t)) ↔ KeptAt p (node_at d t)
  unfolding has
  kept_at_iff t h = go (node_at d t) (node_part d lawful t h)
    where
      go : (u : Tree) → Part u (root d) → So (kept_at d.modules p u) ↔ KeptAt p u
      go (leaf s k) q = (λ _. tt, λ _. refl)
      go (cut s c l r) q =
          let below : (i : ℕ) → So (has l i) ⊎ So (has r i) → i < d.modules =
          λ i t. ((lawful_tree d lawful).modules i).0 (part_has q i ((or_iff (has l i) (has r i)).1 t)) in
          kept_iff d.modules c l r p (λ i t. below i (inl t)) (λ i t. below i (inr t))

  judged_cuts_lem : ((k : ℕ) → k < d.modules → Fine d p k) → Judged d p (judged_cuts d p)
  unfolding judged_cuts
  judged_cuts_lem f = go _ (first_fault (λ t. kept_at d.modules p (node_at d t)) (nodes d))
    where
      go : (r : ℕ) → Fault (λ t. kept_at d.modules p (node_at d t)) (nodes d) r
          → Judged d p (elim (ltb r (nodes d)) as (λ _. Reply) [ true ↦ Err (CutNotKept r) | false ↦ (Ok tt) ])
      go r (first e x before) =
          let h = (ltb_iff r (nodes d)).0 e in
          rw e (cut_not_kept (record {
            below = h;
            fine = f;
            before = λ s l. (kept_at_iff s (omega arith)).0 (before s l);
            fault = λ k. x ((kept_at_iff r h).1 k);
          }))
      go r (none e each) = rw e (passed f (λ t h. (kept_at_iff t h).0 (each t h)))

  -- the checker's answer on a lawful design and a placement
  judged_rows_lem : Judged d p (judged_rows d p)
  unfolding judged_rows
  judged_rows_lem = go _ (first_fault (λ k. is_on d (p k) && is_suited d k (p k)) d.modules)
    where
      go : (r : ℕ) → Fault (λ k. is_on d (p k) && is_suited d k (p k)) d.modules r
          → Judged d p (elim (ltb r d.modules) as (λ _. Reply) [
            | true ↦ elim (is_on d (p r)) as (λ _. Reply) [ true ↦ Err (ShortOfNeed r) | false ↦ Err (OffTheChip r) ]
            | false ↦ judged_cuts d p
          ])
      go r (first e x before) = rw e (fault (is_on d (p r)) refl)
        where
          h : r < d.modules
          h = (ltb_iff r d.modules).0 e

          on : So (is_on d (p r)) ↔ OnChip (width_of d) (height_of d) (p r)
          on = on_chip_iff (width_of d) (height_of d) (p r)

          fault : (b : Bool) → is_on d (p r) ≡ b
              → Judged d p (elim b as (λ _. Reply) [ true ↦ Err (ShortOfNeed r) | false ↦ Err (OffTheChip r) ])
          fault true q = short_of_need (record {
            below = h;
            before = λ j l. (fine_iff j).0 (before j l);
            on_chip = on.0 q;
            fault = λ s. x ((fine_iff r).1 (record { on_chip = on.0 q; suits = s }));
          })
          fault false q = off_the_chip (record {
            below = h;
            before = λ j l. (fine_iff j).0 (before j l);
            fault = λ o. absurd_so (sym q ∙ on.1 o);
          })
      go r (none e each) = rw e (judged_cuts_lem (λ k h. (fine_iff k).0 (each k h)))

-- no design but a lawful one passes
pub passed_is_lawful : (d : Design) (rows : List ℕ) → verdict d rows ≡ (Ok tt) → LawfulDesign d
unfolding verdict
passed_is_lawful d rows e = go (value_test d) _ e
  where
    go : (r next : Reply) → after_tests r next ≡ (Ok tt) → r ≡ (Ok tt)
    go (Ok tt) next e = refl
    go (Err x) next e = let z : ◌≡◌ {A = ℕ} 0 1 = cc in absurd (omega arith)

module _ (d : Design) (lawful : LawfulDesign d) (rows : List ℕ) where
  -- rows too short, then what the placement in them is
  pub verdict_too_short : length rows < 4 * d.modules → verdict d rows ≡ Err TooShort
  unfolding verdict
  verdict_too_short h = rw lawful (go (leb (4 * d.modules) (length rows)) refl)
    where
      go : (b : Bool) → leb (4 * d.modules) (length rows) ≡ b
          → elim b as (λ _. Reply) [ true ↦ judged_rows d (from_rows rows) | false ↦ Err TooShort ] ≡ Err TooShort
      go true e = let l = (leb_iff (4 * d.modules) (length rows)).0 e in absurd (omega arith)
      go false e = refl

  pub verdict_judged : 4 * d.modules ≤ length rows → Judged d (from_rows rows) (verdict d rows)
  unfolding verdict
  verdict_judged h = rw (lawful, (leb_iff (4 * d.modules) (length rows)).1 h) (judged_rows_lem d lawful (from_rows rows))

  -- any other reply judges the placement
  pub judged : (r : Reply) → (r ≡ Err TooShort → ⊥) → verdict d rows ≡ r → (4 * d.modules ≤ length rows) × Judged d (from_rows rows) r
  judged r o e = go (dec_le (4 * d.modules) (length rows))
    where
      go : Dec (4 * d.modules ≤ length rows) → (4 * d.modules ≤ length rows) × Judged d (from_rows rows) r
      go (yes h) = (h, rw e at (verdict_judged h))
      go (no h) = absurd (o (sym e ∙ verdict_too_short (omega arith)))

  -- "The separate checker passes exactly the lawful placements."
  pub passes_iff : (verdict d rows ≡ (Ok tt))
      ↔ ((4 * d.modules ≤ length rows) × Lawful (width_of d) (height_of d) (SuitsOf d) (root d) (from_rows rows))
  passes_iff = (
    λ e. let (h, j) = judged (Ok tt) (λ q. let z : ◌≡◌ {A = ℕ} 0 1 = cc in omega arith) e in (h, to j),
    λ t. back (verdict_judged t.0) t.1,
  )
    where
      has_iff : (k : ℕ) → So (has (root d) k) ↔ (k < d.modules)
      has_iff = (lawful_tree d lawful).modules

      to : Judged d (from_rows rows) (Ok tt) → Lawful (width_of d) (height_of d) (SuitsOf d) (root d) (from_rows rows)
      to (passed f k) = record {
        on_chip = λ i t. (f i ((has_iff i).0 t)).on_chip;
        suits = λ i t. (f i ((has_iff i).0 t)).suits;
        follows = (follows_by_nodes d lawful (from_rows rows)).1 k;
      }

      back : {r : Reply} → Judged d (from_rows rows) r → Lawful (width_of d) (height_of d) (SuitsOf d) (root d) (from_rows rows) → r ≡ (Ok tt)
      back (passed f k) L = refl
      back (off_the_chip {k = k} x) L = absurd (x.fault (L.on_chip k ((has_iff k).1 x.below)))
      back (short_of_need {k = k} x) L = absurd (x.fault (L.suits k ((has_iff k).1 x.below)))
      back (cut_not_kept {t = t} x) L = absurd (x.fault ((follows_by_nodes d lawful (from_rows rows)).0 L.follows t x.below))

  -- a refusal with 12, 13 or 14 names the first fault
  pub names_off_the_chip : (k : ℕ) → verdict d rows ≡ Err (OffTheChip k) → FirstOff d (from_rows rows) k
  names_off_the_chip k e = go (judged (Err (OffTheChip k)) (λ q. let z : ◌≡◌ {A = ℕ} 0 1 = cc in omega arith) e).1
    where
      go : Judged d (from_rows rows) (Err (OffTheChip k)) → FirstOff d (from_rows rows) k
      go (off_the_chip x) = x

  pub names_short_of_need : (k : ℕ) → verdict d rows ≡ Err (ShortOfNeed k) → FirstShort d (from_rows rows) k
  names_short_of_need k e = go (judged (Err (ShortOfNeed k)) (λ q. let z : ◌≡◌ {A = ℕ} 0 1 = cc in omega arith) e).1
    where
      go : Judged d (from_rows rows) (Err (ShortOfNeed k)) → FirstShort d (from_rows rows) k
      go (short_of_need x) = x

  pub names_cut_not_kept : (t : ℕ) → verdict d rows ≡ Err (CutNotKept t) → FirstNotKept d (from_rows rows) t
  names_cut_not_kept t e = go (judged (Err (CutNotKept t)) (λ q. let z : ◌≡◌ {A = ℕ} 0 1 = cc in omega arith) e).1
    where
      go : Judged d (from_rows rows) (Err (CutNotKept t)) → FirstNotKept d (from_rows rows) t
      go (cut_not_kept x) = x
