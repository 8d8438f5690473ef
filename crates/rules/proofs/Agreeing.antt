-- Slots that agree at the corners of the chip say the same: pairs, choices and what goes down hang on those bytes alone.
-- Assumes nothing.
use mathlib.Core.Path.{◌≡◌, sym}
use Prim.Native.Nat.{ℕ, ◌≤◌, ◌<◌}
use native.Mathlib.Omega.{arith}
use Rattle.rules.specs.declared.Corner.{Corner}
use Rattle.rules.specs.declared.Shape.{Shape}
use Rattle.rules.specs.declared.Rectangle.{Rectangle}
use Rattle.rules.specs.declared.Direction.{Direction}
use Rattle.rules.specs.Tree.{Tree, leaf, cut, position}
use Rattle.rules.specs.Placement.{Placement}
use Rattle.rules.specs.Slot.{CornerOn, ListsAt}
use Rattle.rules.specs.Choice.{Chosen, Pair, Taken, Down, beside}
use Rattle.rules.specs.Edit.{Paired}
use Rattle.rules.proofs.Standing.{Part, whole, in_left, in_right}
use Rattle.rules.proofs.Listing.{same_stores}

pub record Agree (W H : ℕ) (g g' : Corner → ℕ → ℕ) : Type 0 where
  pub at : (c : Corner) → CornerOn W H c → (j : ℕ) → j < W → g c j ≡ g' c j

-- a corner in the first rows is one in more rows, so slots that agree in these agree in those
pub on_more_rows : {W H R : ℕ} {c : Corner} → H ≤ R → CornerOn W H c → CornerOn W R c
on_more_rows h on = let r = on.row in record { column = on.column; row = omega arith }

pub agree_on : {W H R : ℕ} {g g' : Corner → ℕ → ℕ} → H ≤ R → Agree W R g g' → Agree W H g g'
agree_on h e = record { at = λ c on. e.at c (on_more_rows h on) }

-- lists at the corners that have slots are lists at every corner of the chip, where every row of it has slots
pub all_rows : {W H R : ℕ} → H ≤ R → (Lists : ℕ → Rectangle → Type 0) (g : Corner → ℕ → ℕ) (t : Tree) → ListsAt W H R Lists g t → ListsAt W H H Lists g t
all_rows every Lists g t l c on = l c (on_more_rows every on)

pub agree_back : {W H : ℕ} {g g' : Corner → ℕ → ℕ} → Agree W H g g' → Agree W H g' g
agree_back e = record { at = λ c on j h. sym (e.at c on j h) }

pub chosen_agree : (W : ℕ) (g g' : ℕ → ℕ) → ((j : ℕ) → j < W → g j ≡ g' j) → (s : Shape) → Chosen W g s → Chosen W g' s
chosen_agree W g g' e s ch = record {
  stored = same_stores W g g' e s ch.stored;
  smallest = λ o z. ch.smallest o (same_stores W g' g (λ j h. sym (e j h)) o z);
  narrowest = λ o z. ch.narrowest o (same_stores W g' g (λ j h. sym (e j h)) o z);
}

module _ (W H : ℕ) (d : Direction) where
  pair_agree : {L L' R R' : Corner → ℕ → ℕ} → Agree W H L L' → Agree W H R R' → (c : Corner) → CornerOn W H c → (s o box : Shape)
      → Pair W H d L R c s o box → Pair W H d L' R' c s o box
  pair_agree {L} {L'} {R} {R'} e f c on s o box z = record {
    left = same_stores W (L c) (L' c) (e.at c on) s z.left;
    corner = z.corner;
    right = same_stores W (R (beside d c s)) (R' (beside d c s)) (f.at (beside d c s) z.corner) o z.right;
    box = z.box;
  }

  pub paired_agree : {L L' R R' : Corner → ℕ → ℕ} → Agree W H L L' → Agree W H R R' → (c : Corner) → CornerOn W H c → (s : Shape)
      → Paired W H d L R c s → Paired W H d L' R' c s
  paired_agree e f c on s z = record { s = z.s; o = z.o; pair = pair_agree e f c on z.s z.o s z.pair; fits = z.fits }

  taken_agree : {L L' R R' : Corner → ℕ → ℕ} → Agree W H L L' → Agree W H R R' → (c : Corner) → CornerOn W H c → (box s o : Shape)
      → Taken W H d L R c box s o → Taken W H d L' R' c box s o
  taken_agree e f c on box s o z = record {
    pair = pair_agree e f c on s o box z.pair;
    first = λ s' o' p. z.first s' o' (pair_agree (agree_back e) (agree_back f) c on s' o' box p);
    only = λ o' p. z.only o' (pair_agree (agree_back e) (agree_back f) c on s o' box p);
  }

pub down_agree : (W H : ℕ) (S : ℕ → Rectangle → Type 0) (given : ℕ → Rectangle → Rectangle) (slots slots' : ℕ → Corner → ℕ → ℕ) (t : Tree)
    → ((u : Tree) → Part u t → Agree W H (slots (position u)) (slots' (position u))) → (c : Corner) → CornerOn W H c → (s : Shape) (p : Placement)
    → Down W H S given slots t c s p → Down W H S given slots' t c s p
unfolding Down
down_agree W H S given slots slots' (leaf t k) e c on s p z = z
down_agree W H S given slots slots' (cut t d l r) e c on box p (s, o, x, y, z) = (
  s,
  o,
  taken_agree W H d (e l (in_left whole)) (e r (in_right whole)) c on box s o x,
  down_agree W H S given slots slots' l (λ u q. e u (in_left q)) c on s p y,
  down_agree W H S given slots slots' r (λ u q. e u (in_right q)) (beside d c s) x.pair.corner o p z,
)
