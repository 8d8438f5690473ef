-- Each answer of a service meets its contract where its condition holds; the conditions of the others contradict it. Assumes nothing.
use Rattle.std.specs.Prelude.{Ok, Err}
use mathlib.Core.Path.{◌≡◌, refl, sym, ◌∙◌, ap}
use mathlib.Core.Logic.{◌⊎◌, inl, inr}
use mathlib.Core.Bool.{false, So}
use mathlib.Core.List.{List}
use Prim.Native.Nat.{ℕ, ◌*◌, ◌≤◌, ◌<◌}
use native.Mathlib.Omega.{arith}
use lib.ListN.{length}
use borrow.Author.Tests.{le-leb, lt-leb}
use Rattle.rules.specs.declared.Design.{Design}
use Rattle.rules.specs.declared.Edit.{Edit}
use Rattle.rules.specs.declared.Refusal.{Refusal}
use Rattle.rules.specs.declared.Refusal.TheVariants.{TooShort, Unreliable, NoSuchEdit}
use Rattle.rules.specs.Answers.{Reply, Planned}
use Rattle.rules.specs.declared.Handed.{Handed}
use Rattle.rules.specs.Design.{Sized, value_test, LawfulDesign, slots_of, AllStairs}
use Rattle.rules.specs.Edit.{names_place, changed, EditedLists}
use Rattle.rules.specs.Check.{verdict, judged_rows, from_rows}
use Rattle.rules.specs.Service.{Enough, work_of, rows_of, Lists, Plans, Places, Edits, Checks}
use Rattle.rules.proofs.Searching.{absurd_so, test-iffs}
use Rattle.rules.proofs.Nodes.{never_both, same_refusal}
use Rattle.listing.specs.Making.{ListedAfresh}
use Rattle.placing.specs.Place.{PlacedFrom}
use Rattle.cellweaver.specs.Tested.{enough_lent}

-- list
module _ (d : Design) (sized : Sized d) (before : List ℕ) where
  pub list_refuses : {e : Refusal} → value_test d ≡ Err e → Lists d before (Err e) before
  list_refuses u = record {
    sized = sized;
    unlawful = λ f q. (ap Err (same_refusal d u q), refl);
    short = λ l _. never_both d u l;
    done = λ l _. never_both d u l;
  }

  module _ (l : LawfulDesign d) where
    pub list_short : length before < work_of d → Lists d before (Err TooShort) before
    list_short h = record {
      sized = sized;
      unlawful = λ e u. never_both d u l;
      short = λ _ _. (refl, refl);
      done = λ _ k. absurd (omega arith);
    }

    pub list_done : {after : List ℕ} → work_of d ≤ length before → ListedAfresh d before after → Lists d before (Ok tt) after
    list_done h z = record {
      sized = sized;
      unlawful = λ e u. never_both d u l;
      short = λ _ k. absurd (omega arith);
      done = λ _ _. (refl, z.0, z.1);
    }

-- the lent bytes that plan and place test
pub enough : (d : Design) (work rows : List ℕ) → LawfulDesign d → So (enough_lent d work rows) → Enough d work rows
enough d work rows l s = let h = simp test-iffs at s in record { lawful = l; bytes = h.0; places = h.1 }

-- work of the same length serves as well
pub enough_kept : {d : Design} {work after rows : List ℕ} → Enough d work rows → length after ≡ length work → Enough d after rows
enough_kept e q = let b = e.bytes in record { lawful = e.lawful; bytes = omega arith; places = e.places }

module _ (d : Design) (sized : Sized d) (work rows : List ℕ) where
  not_enough : {A : Type 0} → enough_lent d work rows ≡ false → Enough d work rows → A
  not_enough f e = absurd_so (sym f ∙ simp test-iffs (e.bytes, e.places))

  not_short : {A : Type 0} → Enough d work rows → (length work < work_of d) ⊎ (length rows < rows_of d) → A
  not_short e (inl h) = let b = e.bytes in absurd (omega arith)
  not_short e (inr h) = let b = e.places in absurd (omega arith)

  -- plan
  pub plan_refuses : {e : Refusal} → value_test d ≡ Err e → Plans d work rows (Err e) work rows
  plan_refuses u = record {
    sized = sized;
    unlawful = λ f q. (ap Err (same_refusal d u q), refl, refl);
    short = λ l _. never_both d u l;
    listed = λ e. never_both d u e.lawful;
    none = λ e _. never_both d u e.lawful;
    done = λ e s p _ _. never_both d u e.lawful;
  }

  pub plan_short : LawfulDesign d → enough_lent d work rows ≡ false → Plans d work rows (Err TooShort) work rows
  plan_short l f = record {
    sized = sized;
    unlawful = λ e u. never_both d u l;
    short = λ _ _. (refl, refl, refl);
    listed = λ e. not_enough f e;
    none = λ e _. not_enough f e;
    done = λ e s p _ _. not_enough f e;
  }

  pub plan_done : {after rows' : List ℕ} {r : Planned} → Enough d work rows → ListedAfresh d work after → PlacedFrom d after rows r rows' → Plans d work rows r after rows'
  plan_done e l z = record {
    sized = sized;
    unlawful = λ f u. never_both d u e.lawful;
    short = λ _ h. not_short e h;
    listed = λ _. l;
    none = λ _. z.none;
    done = λ _. z.done;
  }

  -- place
  pub place_refuses : {e : Refusal} → value_test d ≡ Err e → Places d work rows (Err e) rows
  place_refuses u = record {
    sized = sized;
    unlawful = λ f q. (ap Err (same_refusal d u q), refl);
    short = λ l _. never_both d u l;
    stranger = λ e _. never_both d u e.lawful;
    none = λ e _ _. never_both d u e.lawful;
    lost = λ e _ s _ _. never_both d u e.lawful;
    done = λ e _ s p _ _. never_both d u e.lawful;
  }

  pub place_short : LawfulDesign d → enough_lent d work rows ≡ false → Places d work rows (Err TooShort) rows
  place_short l f = record {
    sized = sized;
    unlawful = λ e u. never_both d u l;
    short = λ _ _. (refl, refl);
    stranger = λ e _. not_enough f e;
    none = λ e _ _. not_enough f e;
    lost = λ e _ s _ _. not_enough f e;
    done = λ e _ s p _ _. not_enough f e;
  }

  module _ (e : Enough d work rows) where
    pub place_stranger : (AllStairs d (slots_of d work) → ⊥) → Places d work rows (Err Unreliable) rows
    place_stranger o = record {
      sized = sized;
      unlawful = λ f u. never_both d u e.lawful;
      short = λ _ h. not_short e h;
      stranger = λ _ _. (refl, refl);
      none = λ _ s _. absurd (o s);
      lost = λ _ s _ _ _. absurd (o s);
      done = λ _ s _ _ _ _. absurd (o s);
    }

    pub place_done : {rows' : List ℕ} {r : Planned} → AllStairs d (slots_of d work) → PlacedFrom d work rows r rows' → Places d work rows r rows'
    place_done s z = record {
      sized = sized;
      unlawful = λ f u. never_both d u e.lawful;
      short = λ _ h. not_short e h;
      stranger = λ _ o. absurd (o s);
      none = λ _ _. z.none;
      lost = λ _ _. z.lost;
      done = λ _ _. z.done;
    }

-- edit
module _ (d : Design) (sized : Sized d) (e : Edit) (before : List ℕ) where
  pub edit_refuses : {f : Refusal} {r : Handed} → r ≡ record { reply = Err f; design = d } → value_test d ≡ Err f → Edits d e before r before
  edit_refuses q u = record {
    sized = sized;
    unlawful = λ f p. (q ∙ ap (λ g. record { reply = Err g; design = d }) (same_refusal d u p), refl);
    unnamed = λ l _. never_both d u l;
    short = λ l _ _. never_both d u l;
    stranger = λ l _ _ _. never_both d u l;
    done = λ l _ _ _. never_both d u l;
  }

  module _ (l : LawfulDesign d) where
    pub edit_unnamed : {r : Handed} → r ≡ record { reply = Err NoSuchEdit; design = d } → (So (names_place d e) → ⊥) → Edits d e before r before
    edit_unnamed q o = record {
      sized = sized;
      unlawful = λ f u. never_both d u l;
      unnamed = λ _ _. (q, refl);
      short = λ _ s _. absurd (o s);
      stranger = λ _ s _ _. absurd (o s);
      done = λ _ s _ _. absurd (o s);
    }

    module _ (s : So (names_place d e)) where
      pub edit_short : {r : Handed} → r ≡ record { reply = Err TooShort; design = d } → length before < work_of d → Edits d e before r before
      edit_short q h = record {
        sized = sized;
        unlawful = λ f u. never_both d u l;
        unnamed = λ _ o. absurd (o s);
        short = λ _ _ _. (q, refl);
        stranger = λ _ _ k _. absurd (omega arith);
        done = λ _ _ k _. absurd (omega arith);
      }

      module _ (h : work_of d ≤ length before) where
        pub edit_stranger : {r : Handed} → r ≡ record { reply = Err Unreliable; design = d } → (AllStairs d (slots_of d before) → ⊥) → Edits d e before r before
        edit_stranger q o = record {
          sized = sized;
          unlawful = λ f u. never_both d u l;
          unnamed = λ _ o. absurd (o s);
          short = λ _ _ k. absurd (omega arith);
          stranger = λ _ _ _ _. (q, refl);
          done = λ _ _ _ z. absurd (o z);
        }

        pub edit_done : {next : Design} {after : List ℕ} → next ≡ changed d e → AllStairs d (slots_of d before) → EditedLists d e before after
            → Edits d e before (record { reply = (Ok tt); design = next }) after
        edit_done q z m = record {
          sized = sized;
          unlawful = λ f u. never_both d u l;
          unnamed = λ _ o. absurd (o s);
          short = λ _ _ k. absurd (omega arith);
          stranger = λ _ _ _ o. absurd (o z);
          done = λ _ _ _ _. (ap (λ n. record { reply = (Ok tt); design = n }) q, m);
        }

-- check
module _ (d : Design) (sized : Sized d) (rows : List ℕ) where
  pub check_refuses : {e : Refusal} → value_test d ≡ Err e → Checks d rows (Err e)
  unfolding verdict
  check_refuses u = record { sized = sized; judged = rw (verdict, u) }

  pub check_short : LawfulDesign d → length rows < 4 * d.modules → Checks d rows (Err TooShort)
  unfolding verdict
  check_short l h = record { sized = sized; judged = rw (verdict, l, lt-leb (4 * d.modules) (length rows) h) }

  pub check_judged : {r : Reply} → LawfulDesign d → 4 * d.modules ≤ length rows → r ≡ judged_rows d (from_rows rows) → Checks d rows r
  unfolding verdict
  check_judged l h q = record { sized = sized; judged = rw (verdict, l, le-leb (4 * d.modules) (length rows) h) q }
