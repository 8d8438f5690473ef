-- What the walk carries is what the room holds: from all rows and no column on, a column more is the room one column wider, and a row less the
-- room one row lower. So a room is tested by what is carried, and nothing carried grows too large. Assumes nothing.
use mathlib.Core.Path.{◌≡◌, refl, sym, ◌∙◌}
use mathlib.Core.Bool.{So}
use Prim.Native.Nat.{ℕ, suc, ◌+◌, ◌-◌, ◌*◌, ◌≤◌, ◌<◌}
use native.Mathlib.Omega.{arith}
use native.Mathlib.Nat.{le_refl, sub-zero, mul-sub, mul-le-mul, div-le_self}
use native.Mathlib.Decide.{ℕ_discrete}
use borrow.Author.Tests.{eq-eqb, ne_eqb}
use Rattle.rules.specs.declared.Chip.{Chip}
use Rattle.rules.specs.declared.Corner.{Corner}
use Rattle.rules.specs.declared.Need.{Need}
use Rattle.rules.specs.declared.Rectangle.{Rectangle}
use Rattle.rules.specs.Chip.{kind_at, OnChip, rectangle, holds}
use Rattle.rules.specs.Check.{is_at_most}
use Rattle.rules.specs.Design.{most_rows, lawful_chip}
use Rattle.rules.proofs.Test.{suits_room, blocks_between}
use Rattle.rules.proofs.Searching.{same_test}
use Rattle.rules.proofs.Limits.{chip_limits}
use Rattle.rules.proofs.Blocks.{columns_of}
use Rattle.rules.proofs.Suiting.{suits_decided, at_most_iff}
use Rattle.holding.specs.Held.{EachUpTo, column_in}
use Rattle.holding.proofs.Holding.{held_in, none_held, one_more_held, few_held, holds_columns}
use Rattle.leaves.specs.declared.room.Room.{Room}
use Rattle.leaves.specs.Room.{as_rows, edge_of, one_each, no_columns, wider, lower, Widens, Lowers}
use Rattle.leaves.proofs.Edges.{at_edge, block_under, off_edge}

-- how many blocks stand whole in the h rows above a corner
abbrev blocks_up : Chip → Corner → ℕ → ℕ
blocks_up C c h = blocks_between C.block.0 c.y.0 (c.y.0 + h)

-- the room of w columns and h rows at a corner
unfoldable pub room_of : Chip → Corner → ℕ → ℕ → Room
room_of C c w h = record {
  rows = as_rows h;
  blocks = blocks_up C c h;
  edge = as_rows (edge_of C.block.0 c.y.0 (c.y.0 + h));
  row = held_in C one_each c.x.0 w;
  held = held_in C (column_in h (blocks_up C c h)) c.x.0 w;
}

same_room : {r s : Room} → r.rows.0 ≡ s.rows.0 → r.blocks ≡ s.blocks → r.edge.0 ≡ s.edge.0 → r.row ≡ s.row
    → r.held ≡ s.held → r ≡ s
same_room a b e n m = λ i. record { rows = as_rows (a i); blocks = b i; edge = as_rows (e i); row = n i; held = m i }

-- the steps of the walk
module _ (C : Chip) (c : Corner) (some : 0 < C.block.0) where
  pub room_begins : c.y.0 ≤ C.height.0 → no_columns C.height.0 C.block.0 c.y.0 ≡ room_of C c 0 (C.height.0 - c.y.0)
  unfolding no_columns room_of
  room_begins h =
      let e : c.y.0 + (C.height.0 - c.y.0) ≡ C.height.0 = omega arith in
      let none : (column : Need) → _ = λ column. none_held C column c.x.0 in
      rw e (same_room refl refl refl (none _) (none _))

  pub room_wider : (w h : ℕ) → wider (room_of C c w h) (kind_at C (c.x.0 + w)) ≡ room_of C c (suc w) h
  unfolding wider room_of
  room_wider w h =
      let more : (column : Need) → _ = λ column. one_more_held C column c.x.0 _ w refl in
      same_room refl refl refl (more _) (more _)

  pub room_lower : (w h : ℕ) → lower C.block.0 (room_of C c w (suc h)) ≡ room_of C c w h
  unfolding lower room_of
  room_lower w h = go (ℕ_discrete (suc h) edge)
    where
      many : ℕ
      many = blocks_up C c (suc h)

      edge : ℕ
      edge = edge_of C.block.0 c.y.0 (c.y.0 + suc h)

      less : (k b : ℕ) → columns_of C k c.x.0 w * b - columns_of C k c.x.0 w * 1 ≡ columns_of C k c.x.0 w * (b - 1)
      less k b = sym (mul-sub (columns_of C k c.x.0 w) b 1)

      one : suc h - 1 ≡ h
      one = omega arith

      clbs : columns_of C 0 c.x.0 w * suc h - columns_of C 0 c.x.0 w * 1 ≡ columns_of C 0 c.x.0 w * h
      clbs = less 0 (suc h) ∙ rw one refl

      go : Dec (suc h ≡ edge) → lower C.block.0 (room_of C c w (suc h)) ≡ room_of C c w h
      go (yes e) =
          let (p, b, z) = at_edge C.block.0 c.y.0 h some e in let t = eq-eqb (suc h) edge e in
          let held : (k : ℕ) → _ = λ k. rw (← b) at (less k many) in
          rw t (same_room one (sym b) (sym z) refl (λ i. record { clbs = clbs i; rams = held 1 i; multipliers = held 2 i }))
      go (no e) =
          let (b, z) = off_edge C.block.0 c.y.0 h some e in let t = ne_eqb (suc h) edge e in
          let held : (k : ℕ) → columns_of C k c.x.0 w * many - 0 ≡ columns_of C k c.x.0 w * blocks_up C c h = λ k. sub-zero _ ∙ rw b refl in
          rw t (same_room one (sub-zero many ∙ sym b) (sym z) refl (λ i. record { clbs = clbs i; rams = held 1 i; multipliers = held 2 i }))

-- a room on the chip is tested by what it holds
module _ (C : Chip) (lawful : So (lawful_chip C)) (c : Corner) where
  pub room_suits : (need : Need) (w h : ℕ) → 1 ≤ w → 1 ≤ h → c.x.0 + w ≤ C.width.0 → c.y.0 + h ≤ C.height.0
      → is_at_most need (room_of C c w h).held ≡ suits_room C need c.x.0 c.y.0 (c.x.0 + w) (c.y.0 + h)
  unfolding room_of
  room_suits need w h p q r s =
      same_test (is_at_most need (room_of C c w h).held) (suits_room C need c.x.0 c.y.0 (c.x.0 + w) (c.y.0 + h)) (
        λ t. (suits_decided C need room).0 (on, (at_most_iff need (holds C room)).0 (rw held t)),
        λ t. rw (← held) ((at_most_iff need (holds C room)).1 ((suits_decided C need room).1 t).1),
      )
    where
      room : Rectangle
      room = rectangle c.x.0 c.y.0 w h

      on : OnChip C.width.0 C.height.0 (rectangle c.x.0 c.y.0 w h)
      on = record { wide = p; high = q; columns = r; rows = s }

      held : holds C (rectangle c.x.0 c.y.0 w h) ≡ held_in C (column_in h (blocks_up C c h)) c.x.0 w
      held = holds_columns C lawful (rectangle c.x.0 c.y.0 w h) on

  -- nothing that is carried grows too large, and there is enough to take away
  few_blocks : (h : ℕ) → c.y.0 + h ≤ C.height.0 → blocks_up C c h ≤ most_rows
  unfolding blocks_between
  few_blocks h p = omega (arith, chip_limits C lawful, div-le_self (c.y.0 + h) C.block.0)

  pub room_widens : (w h : ℕ) → c.x.0 + w ≤ C.width.0 → c.y.0 + h ≤ C.height.0 → Widens (room_of C c w h)
  unfolding room_of
  room_widens w h p q =
      let l = chip_limits C lawful in let b = few_blocks h q in
      let one : EachUpTo most_rows one_each = record { clbs = omega arith; rams = omega arith; multipliers = omega arith } in
      let column : EachUpTo most_rows (column_in h (blocks_up C c h)) = record { clbs = omega arith; rams = b; multipliers = b } in
      record {
        rows = omega arith;
        blocks = b;
        row = few_held C one_each c.x.0 _ w (omega arith) one refl;
        held = few_held C (column_in h (blocks_up C c h)) c.x.0 _ w (omega arith) column refl;
      }

  pub room_lowers : (w h : ℕ) → Lowers C.block.0 (room_of C c w (suc h))
  unfolding room_of
  room_lowers w h = record {
    some = omega arith;
    clbs = more 0 (suc h) (omega arith);
    blocks = λ e. ends e;
    rams = λ e. more 1 _ (ends e);
    multipliers = λ e. more 2 _ (ends e);
    edge = λ e p. block_under C.block.0 c.y.0 h some (ends e);
  }
    where
      some : 0 < C.block.0
      some = (chip_limits C lawful).some_rows

      more : (k b : ℕ) → 1 ≤ b → columns_of C k c.x.0 w * 1 ≤ columns_of C k c.x.0 w * b
      more k b p = mul-le-mul (le_refl (columns_of C k c.x.0 w)) p

      ends : suc h ≡ edge_of C.block.0 c.y.0 (c.y.0 + suc h) → 0 < blocks_up C c (suc h)
      ends e = (at_edge C.block.0 c.y.0 h some e).0
