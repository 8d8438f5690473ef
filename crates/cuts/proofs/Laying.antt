-- One left shape laid over the top sides: where it has boxes, the filled slot beside it is laid from the first right
-- side on that a box can have; where it has none, nothing changes. Past the chip the filled slots hold no top side, so
-- laying there changes nothing either. Assumes nothing.
use mathlib.Core.Path.{◌≡◌, refl, sym, ◌∙◌, ap}
use mathlib.Core.Logic.{◌↔◌, ⊎_elim}
use mathlib.Core.Bool.{Bool, true, false, So}
use mathlib.Core.List.{List}
use Prim.Native.Nat.{ℕ, suc, ◌+◌, ◌-◌, ◌*◌, ◌≤◌, ◌<◌, min, max}
use native.Mathlib.Omega.{arith}
use native.Mathlib.Numerals.{add-one}
use native.Mathlib.Decide.{dec_le, dec_lt}
use lib.ListN.{get_or}
use Rattle.rules.specs.declared.Direction.{Direction}
use Rattle.rules.specs.declared.Direction.TheVariants.{Vertical, Horizontal}
use Rattle.rules.specs.declared.Corner.{Corner}
use Rattle.rules.proofs.Test.{across, only_if}
use Rattle.slots.specs.declared.Board.{Board}
use Rattle.slots.specs.Lent.{OnBoard, slots_on, Lent}
use Rattle.cuts.specs.Cut.{most_places, filled_size, tops_size, places, first_right, lowered, least_of, held_top, TailsNone, has_box, greater_top, box_top, least_top, TopsAre, Pairable, laid_top, Laid}
use Rattle.cuts.proofs.Least.{lowered_none, lowered_some, least_start}
use Rattle.cuts.proofs.Tops.{Meets, meets_out, top_in}

-- a right side is far enough for both shapes exactly from the first on
first_iff : (d : Direction) (x i b : ℕ)
    → (first_right d (x + i + 1) ≤ b) ↔ ((x + suc i ≤ b) × (across d (x + suc i) x < b))
first_iff Vertical x i b = (λ h. (omega arith, omega arith), λ (p, q). omega arith)
first_iff Horizontal x i b = (λ h. (omega arith, omega arith), λ (p, q). omega arith)

-- and it is on the chip where the right child's corner is
pub first_on : (d : Direction) (B : Board) (c : Corner) (i h : ℕ) → c.x.0 + i < B.width.0
    → across d (c.x.0 + i + 1) (c.y.0 + h) < places d B → first_right d (c.x.0 + i + 1) ≤ B.width.0
first_on Vertical B c i h w k = omega arith
first_on Horizontal B c i h w k = omega arith

same_place : (d : Direction) (x y i h : ℕ) → across d (x + i + 1) (y + h) ≡ across d (x + suc i) (y + h)
same_place d x y i h = ap (λ z. across d z (y + h)) (omega arith)

-- beyond the last place there is no corner
pub no_corner : (d : Direction) (B : Board) (c : Corner) (i h b : ℕ) {place : ℕ}
    → place ≡ across d (c.x.0 + i + 1) (c.y.0 + h) → places d B ≤ place → Meets d B c i h b → ⊥
no_corner d B c i h b e k m = omega (arith, m.place, same_place d c.x.0 c.y.0 i h)

only_no : (b : Bool) (n : ℕ) → (So b → ⊥) → only_if b n ≡ 0
only_no true n f = absurd (f refl)
only_no false n f = refl

module _ (d : Direction) (B : Board) (c : Corner) (i h : ℕ) (line tops : List ℕ) (can : Pairable B c line tops) where
  abbrev box : ℕ → ℕ
  box b = box_top d B (held_top line) c i h b

  abbrev next : ℕ → ℕ
  next b = lowered (get_or tops b 0) (box b)

  no_box : (b : ℕ) → (Meets d B c i h b → ⊥) → next b ≡ get_or tops b 0
  unfolding box_top
  no_box b f =
      lowered_none (get_or tops b 0) (box b) (only_no (has_box d B c i h b) (greater_top d (held_top line) c i h b) (λ s. f (meets_out d B c i h b s)))

  pub never_met : ((b : ℕ) → Meets d B c i h b → ⊥) → TopsAre c.x.0 next tops
  never_met f = record { long = can.long; at = λ b k m. sym (no_box b (f b)) }

  pub shape_laid : {after : List ℕ} {place from first n top : ℕ} → 0 < h → c.y.0 + h ≤ B.height.0
      → top ≡ c.y.0 + h
      → place ≡ across d (c.x.0 + i + 1) (c.y.0 + h) → place < places d B → places d B ≤ most_places
      → from ≡ place * filled_size + first
      → first ≡ first_right d (c.x.0 + i + 1) → first ≤ B.width.0 → n ≡ B.width.0 + 1 - first
      → Laid tops first n (laid_top tops first top line from) after → TopsAre c.x.0 next after
  shape_laid {after} {place} {from} {first} {n} {top} some rows et ep on few ef eo ei en l =
      record { long = l.long ∙ can.long; at = λ b k m. go b k m (dec_lt b first) (dec_le b B.width.0) }
    where
      held : (b : ℕ) → first ≤ b
          → laid_top tops first top line from (b - first) ≡ min (get_or tops b 0) (max top (held_top line place b))
      held b p =
          let eb : first + (b - first) ≡ b = omega arith in
          let ej : from + (b - first) ≡ place * filled_size + b = omega arith in rw (eb, ej)

      go : (b : ℕ) → c.x.0 ≤ b → b < tops_size → Dec (b < first) → Dec (b ≤ B.width.0) → get_or after b 0 ≡ next b
      go b k m (yes p) q =
          l.below b p ∙ sym (no_box b (λ z. let h = (first_iff d c.x.0 i b).1 (z.wide, z.beside) in omega arith))
      go b k m (no p) (yes q) =
          let (u, v) = (first_iff d c.x.0 i b).0 (omega arith) in let e = same_place d c.x.0 c.y.0 i h in
          let t = top_in d B (held_top line) c i h b (record { some = some; rows = rows; place = omega arith; wide = u; beside = v; columns = q }) in
          let eb : first + (b - first) ≡ b = omega arith in
          let e' : place ≡ across d (c.x.0 + suc i) (c.y.0 + h) = omega arith in
          let z : get_or after b 0 ≡ min (get_or tops b 0) (max top (held_top line place b)) = rw eb at (l.inside (b - first) (omega arith) ∙ held b (omega arith)) in
          (rw (e', et) at z) ∙ sym (lowered_some (get_or tops b 0) (box b) (omega arith) ∙ rw t)
      go b k m (no p) (no q) =
          let eb : first + (b - first) ≡ b = omega arith in let narrow = can.columns in
          ⊎_elim
          (λ (w, z). let z' : get_or after b 0 ≡ min (get_or tops b 0) (max top (held_top line place b)) = rw eb at (z ∙ held b (omega arith)) in
          let a = can.tails.at place b (omega arith) (omega arith) (omega arith) in let a' = can.low b k m in
          omega arith)
          (λ z. rw eb at z) (l.beyond (b - first) (omega arith))
          ∙ sym (no_box b (λ z. let a = z.columns in omega arith))

-- the left slot's shapes one after the other
module _ (d : Direction) (board : Board) (work line : List ℕ) (left : ℕ) (c : Corner) where
  abbrev after_shapes : ℕ → ℕ → ℕ
  after_shapes = least_top d board (held_top line) c (slots_on board work left c)

  pub shapes_none : {tops : List ℕ} → TopsAre c.x.0 (λ _. suc board.height.0) tops
      → TopsAre c.x.0 (after_shapes 0) tops
  unfolding least_top least_of
  shapes_none z = record { long = z.long; at = z.at }

  pub shapes_next : {tops after : List ℕ} {h : ℕ} (i : ℕ)
      → h ≡ slots_on board work left c i → TopsAre c.x.0 (after_shapes i) tops
      → TopsAre c.x.0 (λ b. lowered (get_or tops b 0) (box_top d board (held_top line) c i h b)) after → TopsAre c.x.0 (after_shapes (i + 1)) after
  unfolding least_top least_of
  shapes_next i e z y = record { long = y.long; at = λ b h k. rw add-one (y.at b h k ∙ rw (e, z.at b h k)) }

  pub can_pair : {tops : List ℕ} {t : ℕ} (n : ℕ) → Lent board (suc t) work → OnBoard board c → TailsNone board line
      → TopsAre c.x.0 (after_shapes n) tops → Pairable board c line tops
  unfolding least_top
  can_pair n r on tails z = record {
    columns = r.columns;
    rows = r.rows;
    corner = on;
    tails = tails;
    long = z.long;
    low =
        λ b h k. omega (arith, z.at b h k, least_start (suc board.height.0) (λ i. box_top d board (held_top line) c i (slots_on board work left c i) b) n);
  }
