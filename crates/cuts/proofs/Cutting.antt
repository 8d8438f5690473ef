-- One corner: its top sides start with none, none is below the corner, and past the chip there are none, so the kept
-- bytes are the slot. Assumes nothing.
use mathlib.Core.Path.{◌≡◌, ◌∙◌}
use mathlib.Core.List.{List}
use Prim.Native.Nat.{ℕ, suc, ◌+◌, ◌-◌, ◌*◌, ◌≤◌, ◌<◌}
use native.Mathlib.Omega.{arith}
use native.Mathlib.Decide.{dec_le}
use lib.ListN.{get_or, replicate, length-replicate, get_or-replicate}
use Rattle.rules.specs.declared.Direction.{Direction}
use Rattle.rules.specs.declared.Corner.{Corner}
use Rattle.slots.specs.declared.Board.{Board}
use Rattle.slots.specs.Written.{Filled}
use Rattle.slots.specs.Lent.{OnBoard, start_on, Lent, SlotOn}
use Rattle.slots.proofs.Filling.{same_filled, slot_filled}
use Rattle.slots.proofs.Lending.{last_lent}
use Rattle.cuts.specs.Cut.{filled_size, line_size, tops_size, TailsNone, box_top, least_top, kept_byte, laid_slot, TopsAre}
use Rattle.cuts.proofs.Least.{least_found}
use Rattle.cuts.proofs.Tops.{top_out}

-- buffers that hold no top side yet
pub fresh_tops : (x H : ℕ) → TopsAre x (λ _. suc H) (replicate tops_size (H + 1))
fresh_tops x H = record {
  long = length-replicate tops_size (H + 1);
  at = λ b h k. let e : H + 1 ≡ suc H = omega arith in get_or-replicate tops_size b (H + 1) 0 k ∙ e;
}

pub fresh_line : (board : Board) → TailsNone board (replicate line_size (board.height.0 + 1))
fresh_line board = record {
  long = length-replicate line_size (board.height.0 + 1);
  at =
      λ p b h k m. let e : board.height.0 + 1 ≡ suc board.height.0 = omega arith in get_or-replicate line_size (p * filled_size + b) (board.height.0 + 1) 0 (omega arith) ∙ e;
}

-- no box lies below its corner
above : (d : Direction) (B : Board) (tops : ℕ → ℕ → ℕ) (c : Corner) (bytes : ℕ → ℕ) (n b : ℕ) → OnBoard B c
    → c.y.0 ≤ least_top d B tops c bytes n b
unfolding least_top
above d B tops c bytes n b on = go (dec_le (least_top d B tops c bytes n b) B.height.0)
  where
    go : Dec (least_top d B tops c bytes n b ≤ B.height.0) → c.y.0 ≤ least_top d B tops c bytes n b
    go (no h) = let r = on.row in omega arith
    go (yes h) =
        let (i, p, q, e) = least_found (suc B.height.0) (λ i. box_top d B tops c i (bytes i) b) n (omega arith) in
        let (m, f) = top_out d B tops c i (bytes i) b q in omega arith

module _ (d : Direction) (B : Board) (tops : ℕ → ℕ → ℕ) (c : Corner) (bytes : ℕ → ℕ) (on : OnBoard B c) {held : List ℕ}
    (z : TopsAre c.x.0 (least_top d B tops c bytes (B.width.0 - c.x.0)) held) where
  pub tops_above : (b : ℕ) → c.x.0 ≤ b → b < tops_size → c.y.0 ≤ get_or held b 0
  tops_above b h k = rw (z.at b h k) (above d B tops c bytes (B.width.0 - c.x.0) b on)

  pub corner_cut : (t : ℕ) {work work' : List ℕ} {base : ℕ} → Lent B (suc t) work
      → base ≡ start_on B t c
      → Filled work base B.width.0 (λ j. kept_byte c.y.0 (get_or held (c.x.0 + j) 0) (get_or held (c.x.0 + suc j) 0)) work'
      → SlotOn B t c (laid_slot d B tops c bytes) work work'
  unfolding laid_slot
  corner_cut t {work} {work'} r e k =
      slot_filled B.width.0 B.listed.0 t c (laid_slot d B tops c bytes) work work' (last_lent r on)
      (same_filled (laid_slot d B tops c bytes) (rw e at k) (λ j h.
      let x = on.column in let w = r.columns in
      rw (z.at (c.x.0 + j) (omega arith) (omega arith), z.at (c.x.0 + suc j) (omega arith) (omega arith))))
