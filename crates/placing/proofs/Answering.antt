-- The answer by its outcomes. A root slot stores no shape, or one alone is to choose; and one goes down from it exactly if the computed
-- rectangles pass, which then are the only ones. So of the three outcomes one is the case, and its answer is given. Assumes nothing.
use Rattle.std.specs.Prelude.{Ok, Err}
use mathlib.Core.Path.{◌≡◌, refl, sym, ◌∙◌, ap}
use mathlib.Core.Bool.{So}
use mathlib.Core.List.{List, ◌++◌}
use Prim.Native.Nat.{ℕ, ◌-◌, ◌*◌, ◌<◌}
use lib.ListN.{length, take, drop}
use Rattle.std.specs.Prelude.{Some, None}
use Rattle.rules.specs.declared.Shape.{Shape}
use Rattle.rules.specs.declared.Rectangle.{Rectangle}
use Rattle.rules.specs.declared.Design.{Design}
use Rattle.rules.specs.declared.Refusal.TheVariants.{Unreliable, NoPlacement}
use Rattle.rules.specs.Chip.{corner}
use Rattle.rules.specs.Placement.{Placement}
use Rattle.rules.specs.Choice.{rows_out}
use Rattle.rules.specs.Design.{nodes, slots_of, root_slot, GoesDown, width_of, NoShapeIn, ChosenIn}
use Rattle.rules.specs.Service.{Enough}
use Rattle.rules.proofs.Test.{goes_for, laid_for}
use Rattle.rules.proofs.Searching.{absurd_so}
use Rattle.rules.proofs.Choosing.{chosen_once}
use Rattle.rules.proofs.Floorplans.{laid_goes, goes_laid}
use Rattle.rules.proofs.RowsOut.{rows_same}
use Rattle.choosing.specs.Choose.{chosen_shape}
use Rattle.choosing.specs.Descend.{place_of}
use Rattle.choosing.proofs.Best.{chosen_none, chosen_this}
use Rattle.slots.specs.declared.Board.{Board}
use Rattle.slots.specs.Size.{board_of}
use Rattle.slots.specs.Lent.{slots_on}
use Rattle.placing.specs.Place.{WentDown, PlacedFrom}
use Rattle.placing.proofs.Going.{first_of}

module _ {d : Design} {work rows : List ℕ} (enough : Enough d work rows) where
  -- the shape found, on the design's own board
  module _ {board : Board} {bytes : List ℕ} {t : ℕ} (e : board ≡ board_of d) (f : bytes ≡ work) (g : t ≡ nodes d - 1) where
    pub none_chosen : None ≡ chosen_shape board.width.0 (slots_on board bytes t (corner 0 0)) → NoShapeIn d work
    none_chosen q = chosen_none (width_of d) (root_slot d (slots_of d work)) (rw (e, f, g) at q)

    pub this_chosen : {s : Shape} → Some s ≡ chosen_shape board.width.0 (slots_on board bytes t (corner 0 0)) → ChosenIn d work s
    this_chosen q = chosen_this (width_of d) (root_slot d (slots_of d work)) (rw (e, f, g) at q)

  pub answer_none : NoShapeIn d work → PlacedFrom d work rows (Err NoPlacement) rows
  answer_none z = record {
    none = λ _. (refl, refl);
    lost = λ o ch _. absurd (z o ch.stored);
    done = λ o p ch _. absurd (z o ch.stored);
  }

  module _ {s : Shape} (ch : ChosenIn d work s) where
    only : (o : Shape) → ChosenIn d work o → o ≡ s
    only o x = chosen_once (width_of d) (root_slot d (slots_of d work)) o s x ch

    -- whoever goes down goes down to the rectangles of the rules
    goes : (o : Shape) (p : Placement) → ChosenIn d work o → GoesDown d (slots_of d work) o p
        → So (goes_for d (slots_of d work) s) × ((k : ℕ) → k < d.modules → p k ≡ laid_for d (slots_of d work) s k)
    goes o p x down = goes_laid d enough.lawful (slots_of d work) s p (rw (only o x) at down)

    pub answer_lost : WentDown d (slots_of d work) s None → PlacedFrom d work rows (Err Unreliable) rows
    answer_lost w = record {
      none = λ z. absurd (z s ch.stored);
      lost = λ _ _ _. (refl, refl);
      done = λ o p x down. absurd_so (w.ok ∙ (goes o p x down).0);
    }

    -- the rows of its first modules are put out
    pub answer_done : {places : List Rectangle} {rows' : List ℕ} → WentDown d (slots_of d work) s (Some places) → length (take d.modules places) ≡ d.modules
        → rows' ≡ rows_out (length (take d.modules places)) (place_of (take d.modules places)) ++ drop (4 * length (take d.modules places)) rows
        → PlacedFrom d work rows (Ok s) rows'
    answer_done {places} w n q = record {
      none = λ z. absurd (z s ch.stored);
      lost = λ o x no. absurd ((rw (only o x) at no) _ (laid_goes d enough.lawful (slots_of d work) s (sym w.ok)));
      done = λ o p x down. (
        ap Ok (sym (only o x)),
        rw n at q ∙ rw (rows_same d.modules p (place_of (take d.modules places))
            (λ k h. (goes o p x down).1 k h ∙ sym (w.places k h) ∙ sym (first_of d.modules places k h))),
      );
    }
