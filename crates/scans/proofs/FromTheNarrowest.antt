-- A horizontal cut's left shapes, from the narrowest on: one after the other is scanned, and the slot holds what the scan keeps up to the next one's width.
-- Assumes nothing.
use mathlib.Core.Path.{◌≡◌, sym, ◌∙◌, ap}
use mathlib.Core.List.{List}
use Prim.Native.Nat.{ℕ, suc, ◌+◌, ◌-◌, ◌≤◌, ◌<◌}
use native.Mathlib.Omega.{arith}
use native.Mathlib.Decide.{dec_lt}
use lib.ListN.{length}
use Rattle.rules.specs.declared.Corner.{Corner}
use Rattle.rules.specs.declared.Shape.{Shape}
use Rattle.rules.specs.declared.Direction.TheVariants.{Horizontal}
use Rattle.rules.specs.Chip.{shape}
use Rattle.rules.specs.Slot.{Stores, CornerOn}
use Rattle.rules.proofs.Scanning.{StairsOf, sides}
use Rattle.rules.proofs.Keeping.{KeptTo, StopsAt, keeping_begins, keeping_ends, no_corner}
use Rattle.slots.specs.declared.Board.{Board}
use Rattle.slots.specs.Lent.{slots_on}
use Rattle.cuts.specs.declared.Cut.{Cut}
use Rattle.scans.specs.Run.{bytes, FirstAfter}
use Rattle.scans.specs.Scan.{ScanReady, AboveReady, ScannedAbove, CornerScanned}
use Rattle.scans.proofs.Horizontal.{above_kept_to}

-- The scan before the left shape of width i + 1, or with none left: what it has kept of narrower boxes stands in the slot.
pub record LeftsFrom (cut : Cut) (c : Corner) (children slot : List ℕ) (i low : ℕ) : Type 0 where
  pub long : length slot ≡ cut.board.width.0
  pub within : c.x.0 + i ≤ cut.board.width.0
  pub shape : c.x.0 + i < cut.board.width.0 → 1 ≤ slots_on cut.board children cut.left c i
  pub few : low ≤ suc cut.board.height.0
  pub kept : KeptTo cut.board.width.0 cut.board.height.0 Horizontal (slots_on cut.board children cut.left) (slots_on cut.board children cut.right) c (suc i) low (bytes slot)

module _ {cut : Cut} {c : Corner} {children empty : List ℕ} (ready : ScanReady cut c children empty) where
  abbrev B : Board
  B = cut.board

  abbrev W : ℕ
  W = B.width.0

  abbrev H : ℕ
  H = B.height.0

  abbrev L : Corner → ℕ → ℕ
  L = slots_on B children cut.left

  abbrev R : Corner → ℕ → ℕ
  R = slots_on B children cut.right

  abbrev columns : ℕ
  columns = W - c.x.0

  on : CornerOn W H c
  on = ready.lefts.corner

  ls : StairsOf W H L
  ls = ready.lefts.stairs

  rs : StairsOf W H R
  rs = ready.rights.stairs

  -- a left shape wider than the first a columns is at least as wide as the first one after these
  at_least : {a r : ℕ} → FirstAfter (L c) a columns r → {s : Shape} → Stores W (L c) s → a < s.w.0 → suc r ≤ s.w.0
  at_least {a} {r} u {s} x h = go (dec_lt (s.w.0 - 1) r)
    where
      go : Dec (s.w.0 - 1 < r) → suc r ≤ s.w.0
      go (no q) = omega arith
      go (yes q) = absurd (omega (arith, u.none (s.w.0 - 1) (omega arith) q, x.byte, x.high))

  -- at first nothing is kept, and no box is narrower than the narrowest left shape
  pub lefts_begin : {i : ℕ} → FirstAfter (L c) 0 columns i → LeftsFrom cut c children empty i (H - c.y.0 + 1)
  lefts_begin {i} u = let b = u.within in let x = on.column in let y = on.row in record {
    long = ready.long;
    within = omega arith;
    shape = λ h. u.holds (omega arith);
    few = omega arith;
    kept = keeping_begins ready.cleared
        (λ q z. omega (arith, (sides z).1, at_least u z.looks.left z.looks.left.wide))
        (λ q z. omega (arith, z.fits.rows));
  }

  module _ {slot : List ℕ} {i low : ℕ} (z : LeftsFrom cut c children slot i low) where
    -- at last every box is narrower than the columns and one
    pub lefts_end : W ≤ c.x.0 + i → CornerScanned Horizontal cut c children slot
    lefts_end h = keeping_ends z.kept (λ q b. omega (arith, b.fits.columns))

    module _ (inside : c.x.0 + i < W) {next height : ℕ} (u : FirstAfter (L c) (suc i) columns next) (e : height ≡ L c i) where
      stored : Stores W (L c) (shape (suc i) height)
      stored = let q : suc i - 1 ≡ i = omega arith in
          record { wide = omega arith; within = omega arith; high = omega (arith, e, z.shape inside); byte = ap (L c) q ∙ sym e }

      -- the scan stops at the next wider left shape, or beyond the columns
      stops : StopsAt W H Horizontal L R c (shape (suc i) height) (suc next)
      stops = record {
        left = stored;
        above = omega (arith, u.from);
        next = λ s x h. at_least u x h;
      }

      in_columns : c.x.0 + next ≤ W
      in_columns = omega (arith, u.within, on.column)

      pub above_ready : AboveReady cut c i next height low children slot
      above_ready = record {
        reads = ready.rights;
        long = z.long;
        wider = omega (arith, u.from);
        within = in_columns;
        high = omega (arith, e, (ls c on).rows i (omega arith), on.row);
        few = z.few;
      }

      -- one left shape more
      pub lefts_more : {slot' : List ℕ} {r : ℕ} → ScannedAbove cut c i next height low children slot slot' r → LeftsFrom cut c children slot' next r
      lefts_more {slot'} {r} sa = go (dec_lt (c.y.0 + height) H)
        where
          go : Dec (c.y.0 + height < H) → LeftsFrom cut c children slot' next r
          go (no h) = let (ew, er) = sa.off (omega arith) in record {
            long = rw ew z.long;
            within = in_columns;
            shape = λ q. u.holds (omega arith);
            few = omega (arith, z.few);
            kept = rw (ew, er) (no_corner on ls rs stops (λ o. omega (arith, o.row)) z.kept);
          }
          go (yes h) = let ak = sa.on h in record {
            long = ak.put.long ∙ z.long;
            within = in_columns;
            shape = λ q. u.holds (omega arith);
            few = omega (arith, z.few, ak.within);
            kept = above_kept_to on ls rs low stops h in_columns z.kept ak;
          }
