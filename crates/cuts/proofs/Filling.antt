-- Slots are filled, and filled slots laid over top sides, byte after byte and chunk after chunk; the slots of a line
-- stand one behind the other, so each keeps its place. Assumes nothing.
use mathlib.Core.Path.{◌≡◌, ◌∙◌, ap}
use mathlib.Core.Logic.{◌⊎◌, inl, inr}
use mathlib.Core.List.{List}
use Prim.Native.Nat.{ℕ, suc, ◌+◌, ◌-◌, ◌*◌, ◌≤◌, ◌<◌, min, max}
use native.Mathlib.Omega.{arith}
use native.Mathlib.Nat.{le_refl, add_assoc}
use native.Mathlib.Decide.{dec_lt, ℕ_discrete}
use lib.ListN.{length, get_or, set}
use Rattle.rules.specs.declared.Direction.{Direction}
use Rattle.rules.specs.declared.Direction.TheVariants.{Vertical, Horizontal}
use Rattle.rules.specs.declared.Corner.{Corner}
use Rattle.rules.specs.Design.{most_columns, most_rows}
use Rattle.rules.proofs.Test.{across}
use Rattle.slots.specs.declared.Board.{Board}
use Rattle.slots.specs.Written.{Filled}
use borrow.Rule.Slice.PartMut.{put_mid}
use Rattle.slots.specs.Lent.{OnBoard, bytes}
use Rattle.slots.proofs.Filling.{one_filled, then_filled, run_filled, same_length, filled_at, filled_out}
use Rattle.cuts.specs.Cut.{most_places, filled_size, chunk, corner_at, lines, places, lowered, least_of, slot_top, held_top, TailsNone, LineFilled, SlotFilled, laid_top, Laid}
use Rattle.cuts.proofs.Least.{least_start, least_same}

-- filling: one height more
pub least_next : (s : ℕ) (f : ℕ → ℕ) (j : ℕ) {low r : ℕ} → low ≡ least_of s f j → r ≡ lowered low (f j)
    → (r ≡ least_of s f (suc j)) × (r ≤ s)
unfolding least_of
least_next s f j {low} {r} e h =
    let q : r ≡ least_of s f (suc j) = h ∙ ap (λ l. lowered l (f j)) e in (q, omega (arith, least_start s f (suc j)))

-- the corners of the lines are those on the board
pub corner_on : (d : Direction) (board : Board) (on p : ℕ) → on < lines d board → p < places d board
    → OnBoard board (corner_at d on p)
corner_on Vertical board on p h k = record { column = k; row = h }
corner_on Horizontal board on p h k = record { column = h; row = k }

-- the corner that the code comes to at one of n places
pub corner_met : (d : Direction) (board : Board) {on p n : ℕ} {c : Corner} → on < lines d board → p < n → n ≡ places d board
    → c ≡ corner_at d on p → OnBoard board c
corner_met d board {on} {p} h k e q = rw q (corner_on d board on p h (omega arith))

pub few_places : (d : Direction) (board : Board) → board.width.0 ≤ most_columns → board.height.0 ≤ most_rows
    → places d board ≤ most_places
few_places Vertical board h k = omega arith
few_places Horizontal board h k = omega arith

-- one place more of a line
module _ {d : Direction} {board : Board} {slots : Corner → ℕ → ℕ} {on : ℕ} where
  pub line_none : {filled : List ℕ} → TailsNone board filled → LineFilled d board slots on 0 filled
  line_none l = record { tails = l; at = λ p b h k m. absurd (omega arith) }

  pub line_next : {before after : List ℕ} {p : ℕ} {c : Corner} → LineFilled d board slots on p before
      → c ≡ corner_at d on p → OnBoard board c → board.width.0 ≤ most_columns → p < most_places
      → Filled before (p * filled_size + c.x.0 + 1) (board.width.0 - c.x.0) (λ j. slot_top board.height.0 c.y.0 (slots c) (suc j)) after
      → LineFilled d board slots on (p + 1) after
  line_next {before} {after} {p} {c} l e in-it narrow few f = record {
    tails = record { long = same_length f' ∙ l.tails.long; at = λ q b h k m. tail q b k m (dec_lt q p) ∙ l.tails.at q b h k m };
    at = λ q b h k m. go q b h k m (ℕ_discrete q p);
  }
    where
      x : ℕ
      x = across d p on

      f' : Filled before (p * filled_size + x + 1) (board.width.0 - x) (λ j. slot_top board.height.0 (across d on p) (slots (corner_at d on p)) (suc j)) after
      f' = rw e at f

      near : x < board.width.0
      near = let z : OnBoard board (corner_at d on p) = rw e at in-it in z.column

      tail : (q b : ℕ) → board.width.0 < b → b < filled_size → Dec (q < p)
          → get_or after (q * filled_size + b) 0 ≡ get_or before (q * filled_size + b) 0
      tail q b k m (yes h) = filled_out f' (q * filled_size + b) (inl (omega arith))
      tail q b k m (no h) = filled_out f' (q * filled_size + b) (inr (omega (arith, near)))

      go : (q b : ℕ) → q < p + 1 → across d q on < b → b ≤ board.width.0 → Dec (q ≡ p)
          → held_top after q b ≡ slot_top board.height.0 (across d on q) (slots (corner_at d on q)) (b - across d q on)
      go q b h k m (yes q') = rw q' (
          let k' : x < b = rw q' at k in let s = l.tails.long in
          let ei : p * filled_size + x + 1 + (b - x - 1) ≡ p * filled_size + b = omega arith in
          let ej : suc (b - x - 1) ≡ b - x = omega arith in
          rw (ei, ej) at (filled_at f' (omega arith) (b - x - 1) (omega arith)))
      go q b h k m (no q') = filled_out f' (q * filled_size + b) (inl (omega arith)) ∙ l.at q b (omega arith) k m

-- laying: one top side more, and a chunk more
pub one_laid : (top from : ℕ) (line : List ℕ) {v w : List ℕ} {a k x t : ℕ} → Filled w a k (laid_top w a top line from) v
    → x ≡ min (get_or v (a + k) 0) t
    → t ≡ max top (get_or line (from + k) 0) → Filled w a (k + 1) (laid_top w a top line from) (set v (a + k) x)
one_laid top from line {v} {w} {a} {k} e h q =
    one_filled e (omega (arith, filled_out e (a + k) (inr (le_refl (a + k)))))

pub chunk_laid : (top from : ℕ) (line : List ℕ) {u v w : List ℕ} {a k m : ℕ}
    → Filled w a k (laid_top w a top line from) v
    → Filled v (a + k) m (laid_top v (a + k) top line (from + k)) u → Filled w a (k + m) (laid_top w a top line from) u
chunk_laid top from line {u} {v} {w} {a} {k} {m} e h =
    then_filled e h (λ i l. rw (filled_out e (a + k + i) (inr (omega arith)), add_assoc a k i, add_assoc from k i))

pub filled_laid : {v w : List ℕ} {a k : ℕ} {f : ℕ → ℕ} (n : ℕ) → Filled w a k f v → n ≤ k → k < n + chunk
    → a + k ≤ length w → Laid w a n f v
filled_laid {v} {w} {a} {k} {f} n e h h' l = record {
  long = same_length e;
  below = λ i p. filled_out e i (inl p);
  inside = λ i p. filled_at e l i (omega arith);
  beyond = λ i p. go i (dec_lt i k);
}
  where
    go : (i : ℕ) → Dec (i < k)
        → ((suc i < n + chunk) × (get_or v (a + i) 0 ≡ f i)) ⊎ (get_or v (a + i) 0 ≡ get_or w (a + i) 0)
    go i (yes p) = inl (omega arith, filled_at e l i p)
    go i (no p) = inr (filled_out e (a + i) (inr (omega arith)))

-- the slot that is filled stands in the line
pub corner_filled : (H y : ℕ) (f : ℕ → ℕ) (slot tops : List ℕ) {before : List ℕ} {a m n : ℕ} → a + n ≤ length before → m ≡ n → length tops ≡ n → length slot ≡ n
    → ((j : ℕ) → j < n → bytes slot j ≡ f j) → SlotFilled H y slot tops → Filled before a n (λ j. slot_top H y f (suc j)) (put_mid a m before tops)
unfolding slot_top
corner_filled H y f slot tops l e q w same z =
    run_filled tops l e q (λ k h. z k (omega arith) ∙ ap (λ n. y + n) (least_same (suc (H - y)) (bytes slot) f (suc k) (λ i p. same i (omega arith))))
