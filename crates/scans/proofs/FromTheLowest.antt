-- A vertical cut's left shapes, from the lowest up: one after the other is scanned, and its slot holds what the scan keeps up to the next one's height.
-- Assumes nothing.
use mathlib.Core.Path.{◌≡◌, sym, ◌∙◌, ap}
use mathlib.Core.List.{List}
use Prim.Native.Nat.{ℕ, suc, ◌+◌, ◌-◌, ◌≤◌, ◌<◌}
use native.Mathlib.Omega.{arith}
use native.Mathlib.Decide.{dec_lt, ℕ_discrete}
use lib.ListN.{length}
use Rattle.rules.specs.declared.Corner.{Corner}
use Rattle.rules.specs.declared.Shape.{Shape}
use Rattle.rules.specs.declared.Direction.TheVariants.{Vertical}
use Rattle.rules.specs.Chip.{shape}
use Rattle.rules.specs.Slot.{Stores, CornerOn, Stair}
use Rattle.rules.proofs.Scanning.{StairsOf, sides, stair_falls}
use Rattle.rules.proofs.Keeping.{KeptTo, StopsAt, keeping_begins, keeping_ends, no_corner}
use Rattle.slots.specs.declared.Board.{Board}
use Rattle.slots.specs.Lent.{slots_on}
use Rattle.cuts.specs.declared.Cut.{Cut}
use Rattle.scans.specs.Run.{bytes, UpToLast, stop_at}
use Rattle.scans.specs.Scan.{ScanReady, BesideReady, ScannedBeside, CornerScanned}
use Rattle.scans.proofs.Runs.{stop_some, stop_none}
use Rattle.scans.proofs.Vertical.{beside_kept_to}

-- A left shape that is among the first n bytes is among those up to the last, and no lower than that one.
module _ {W H : ℕ} {c : Corner} {f : ℕ → ℕ} (st : Stair W H c f) {n r : ℕ} (u : UpToLast f n r) {s : Shape} (x : Stores W f s) (within : s.w.0 ≤ n) (few : n ≤ W) where
  pub up_to : s.w.0 ≤ r
  up_to = go (dec_lt (s.w.0 - 1) r)
    where
      go : Dec (s.w.0 - 1 < r) → s.w.0 ≤ r
      go (yes h) = omega arith
      go (no h) = let w = x.wide in absurd (omega (arith, u.none (s.w.0 - 1) (omega arith) (omega arith), x.byte, x.high))

  pub no_lower : stop_at f r ≤ s.h.0
  no_lower = go (ℕ_discrete s.w.0 r)
    where
      e : stop_at f r ≡ f (r - 1)
      e = stop_some f r (omega (arith, up_to, x.wide))

      go : Dec (s.w.0 ≡ r) → stop_at f r ≤ s.h.0
      go (yes q) = omega (arith, e, x.byte, ap (λ w. f (w - 1)) q)
      go (no q) =
          let w = x.wide in let a = up_to in let b = u.within in let i = x.within in
          omega (arith, e, x.byte, st.fall (s.w.0 - 1) (r - 1) (omega arith) (omega arith) (omega (arith, x.byte, x.high)) (u.holds (omega arith)))

-- The scan before the left shape of a width, which is so high, or with none left: what it has kept of lower boxes stands in the slot.
pub record LeftsTo (cut : Cut) (c : Corner) (children slot : List ℕ) (wide height last : ℕ) : Type 0 where
  pub long : length slot ≡ cut.board.width.0
  pub within : c.x.0 + wide ≤ cut.board.width.0
  pub shape : 1 ≤ wide → 1 ≤ slots_on cut.board children cut.left c (wide - 1)
  pub high : height ≡ stop_at (slots_on cut.board children cut.left c) wide
  pub room : wide < last
  pub narrow : last ≤ suc (cut.board.width.0 - c.x.0)
  pub kept : KeptTo cut.board.width.0 cut.board.height.0 Vertical (slots_on cut.board children cut.left) (slots_on cut.board children cut.right) c height last (bytes slot)

module _ {cut : Cut} {c : Corner} {children empty : List ℕ} (ready : ScanReady cut c children empty) where
  abbrev B : Board
  B = cut.board

  abbrev W : ℕ
  W = B.width.0

  abbrev H : ℕ
  H = B.height.0

  abbrev L : Corner → ℕ → ℕ
  L = slots_on B children cut.left

  abbrev R : Corner → ℕ → ℕ
  R = slots_on B children cut.right

  abbrev columns : ℕ
  columns = W - c.x.0

  st : Stair W H c (L c)
  st = ready.lefts.stairs c ready.lefts.corner

  on : CornerOn W H c
  on = ready.lefts.corner

  ls : StairsOf W H L
  ls = ready.lefts.stairs

  rs : StairsOf W H R
  rs = ready.rights.stairs

  -- a left shape is no wider than the columns from its corner on
  narrow_left : {s : Shape} → Stores W (L c) s → s.w.0 ≤ columns
  narrow_left {s} x = go (dec_lt columns s.w.0)
    where
      go : Dec (columns < s.w.0) → s.w.0 ≤ columns
      go (no h) = omega arith
      go (yes h) = let w = x.wide in let v = x.within in absurd (omega (arith, x.byte, x.high, st.columns (s.w.0 - 1) (omega arith) (omega arith)))

  -- at first nothing is kept, and no box is lower than the lowest left shape
  pub lefts_begin : {wide height : ℕ} → UpToLast (L c) columns wide → height ≡ stop_at (L c) wide → LeftsTo cut c children empty wide height (columns + 1)
  lefts_begin {wide} {height} u e = let b = u.within in let x = ready.lefts.corner.column in record {
    long = ready.long;
    within = omega arith;
    shape = u.holds;
    high = e;
    room = omega arith;
    narrow = omega arith;
    kept = keeping_begins ready.cleared
        (λ q z. omega (arith, e, (sides z).1, no_lower st u z.looks.left (narrow_left z.looks.left) (omega arith)))
        (λ q z. omega (arith, z.fits.columns));
  }

  module _ {slot : List ℕ} {wide height last : ℕ} (z : LeftsTo cut c children slot wide height last) where
    -- at last every box is lower than the stop
    pub lefts_end : wide ≡ 0 → CornerScanned Vertical cut c children slot
    lefts_end e = keeping_ends z.kept (λ q b. let h : height ≡ 255 = z.high ∙ ap (stop_at (L c)) e ∙ stop_none (L c) in omega (arith, b.fits.rows, ready.lefts.lent.rows))

    module _ (some : 1 ≤ wide) {next stop : ℕ} (u : UpToLast (L c) (wide - 1) next) (e : stop ≡ stop_at (L c) next) where
      its_height : height ≡ L c (wide - 1)
      its_height = z.high ∙ stop_some (L c) wide some

      stored : Stores W (L c) (shape wide height)
      stored = record { wide = some; within = omega (arith, z.within); high = omega (arith, its_height, z.shape some); byte = sym its_height }

      -- the scan stops at the next narrower left shape, which is higher; above any shape where there is none
      stops : StopsAt W H Vertical L R c (shape wide height) stop
      stops = record {
        left = stored;
        above = above (dec_lt 0 next);
        next = λ s x h. omega (arith, e, no_lower st u x (narrower s x h) (omega (arith, z.within)));
      }
        where
          above : Dec (0 < next) → height < stop
          above (yes h) =
              let w = z.within in let b = u.within in
              omega (arith, e, stop_some (L c) next h, its_height, st.fall (next - 1) (wide - 1) (omega arith) (omega arith) (u.holds h) (z.shape some))
          above (no h) =
              let q : next ≡ 0 = omega arith in
              omega (arith, e ∙ ap (stop_at (L c)) q ∙ stop_none (L c), its_height, st.rows (wide - 1) (omega (arith, z.within)), ready.lefts.lent.rows)

          narrower : (s : Shape) → Stores W (L c) s → height < s.h.0 → s.w.0 ≤ wide - 1
          narrower s x h = let f = stair_falls st Vertical stored x h in omega arith

      pub beside_ready : BesideReady cut c wide height stop last children slot
      beside_ready = record {
        reads = ready.rights;
        long = z.long;
        some = some;
        within = z.within;
        room = z.room;
        narrow = z.narrow;
        lower = stops.above;
      }

      -- one left shape more
      pub lefts_more : {slot' : List ℕ} {r : ℕ} → ScannedBeside cut c wide height stop last children slot slot' r → LeftsTo cut c children slot' next stop r
      lefts_more {slot'} {r} sb = go (dec_lt (c.x.0 + wide) W)
        where
          there : wide < r → KeptTo W H Vertical L R c stop (wide + 1 + (r - 1 - wide)) (bytes slot') → KeptTo W H Vertical L R c stop r (bytes slot')
          there w y = let q : wide + 1 + (r - 1 - wide) ≡ r = omega arith in rw q at y

          go : Dec (c.x.0 + wide < W) → LeftsTo cut c children slot' next stop r
          go (no h) = let (ew, er) = sb.off (omega arith) in record {
            long = rw ew z.long;
            within = omega (arith, z.within, u.within);
            shape = u.holds;
            high = e;
            room = omega (arith, z.room, u.within);
            narrow = omega (arith, z.narrow);
            kept = rw (ew, er) (no_corner on ls rs stops (λ o. omega (arith, o.column)) z.kept);
          }
          go (yes h) = let (w, bk) = sb.on h in let k = bk.within in record {
            long = bk.put.long ∙ z.long;
            within = omega (arith, z.within, u.within);
            shape = u.holds;
            high = e;
            room = omega (arith, u.within);
            narrow = omega (arith, z.narrow);
            kept = there w (beside_kept_to on ls rs stops h z.room z.narrow z.kept bk);
          }
