-- The walk width by width, in the slot's bytes. What is carried tests the room that the walk has come to, so that a column more and stepping
-- down are what the walk does at one width; where it ends the slot has its bytes, which are the leaf's list. Assumes nothing.
use mathlib.Core.Path.{◌≡◌, refl, sym, ◌∙◌, ap, subst}
use mathlib.Core.Bool.{Bool, So}
use mathlib.Core.List.{List}
use Prim.Native.Nat.{ℕ, suc, ◌+◌, ◌-◌, ◌≤◌, ◌<◌}
use native.Mathlib.Omega.{arith}
use native.Mathlib.Nat.{le_refl}
use native.Mathlib.Numerals.{add-one}
use lib.ListN.{length, get_or, set, length-set}
use lib.Seq.{get_or-set_same, get_or-set_other}
use Rattle.std.specs.Prelude.{Option, Some, None}
use Rattle.rules.specs.declared.Chip.{Chip}
use Rattle.rules.specs.declared.Corner.{Corner}
use Rattle.rules.specs.declared.Need.{Need}
use Rattle.rules.specs.Chip.{kind_at}
use Rattle.rules.specs.Check.{is_at_most}
use Rattle.rules.specs.Design.{last_kind, lawful_chip}
use Rattle.rules.specs.Walk.{stepped_down, rows_after, walked}
use Rattle.rules.proofs.Test.{suits_room}
use Rattle.rules.proofs.Limits.{chip_limits}
use Rattle.rules.proofs.Rooms.{rising}
use Rattle.rules.proofs.Suiting.{suits_growing}
use Rattle.rules.proofs.Walking.{WalkedTo, down_same, rows_fall, walk_begins, walk_width, columns_used, rows_used, rooms_at, walk_lists}
use Rattle.leaves.specs.declared.room.Room.{Room}
use Rattle.leaves.specs.Leaf.{WalkReady, WalkListed}
use Rattle.leaves.specs.Room.{no_columns, wider, Widens}
use Rattle.leaves.specs.Step.{descended, Descends, Steppable, step_to, Stepped}
use Rattle.leaves.proofs.Carrying.{room_of, room_begins, room_wider, room_suits, room_widens}
use Rattle.leaves.proofs.Descending.{descends_to, descends_all, handed_on, used_up}

-- the test of the rooms at a corner, and the rows at which the walk leaves width j there
abbrev suits_at : Chip → Need → Corner → ℕ → ℕ → Bool
suits_at C need c = rooms_at (suits_room C need) c.x.0 c.y.0

abbrev left_at : Chip → Need → Corner → ℕ → ℕ
left_at C need c = rows_after (suits_at C need c) (C.height.0 - c.y.0)

-- the room of w columns with the rows that width j leaves
abbrev left_room : Chip → Need → Corner → ℕ → ℕ → Room
left_room C need c w j = room_of C c w (left_at C need c j)

-- the bytes of the slot
abbrev bytes : List ℕ → ℕ → ℕ
bytes slot i = get_or slot i 0

-- the first j widths are walked, with this room and these bytes in the slot
pub record Walks (C : Chip) (need : Need) (c : Corner) (before : List ℕ) (j : ℕ) (room : Room) (slot : List ℕ) : Type 0 where
  pub ready : WalkReady C c before
  pub within : c.x.0 + j ≤ C.width.0
  pub some : 0 < left_at C need c j
  pub carried : room ≡ left_room C need c j j
  pub long : length slot ≡ length before
  pub walk : WalkedTo (suits_at C need c) (C.width.0 - c.x.0) (C.height.0 - c.y.0) C.width.0 j (bytes slot)

module _ {C : Chip} (lawful : So (lawful_chip C)) {need : Need} {c : Corner} {before : List ℕ} where
  -- "from .. full height", before the first column
  pub walks_first : {room : Room} → WalkReady C c before → room ≡ no_columns C.height.0 C.block.0 c.y.0 → Walks C need c before 0 room before
  unfolding rows_after
  walks_first r e =
      let p = r.corner in let l = chip_limits C lawful in
      record {
        ready = r;
        within = omega arith;
        some = omega arith;
        carried = e ∙ room_begins C c l.some_rows (omega arith);
        long = refl;
        walk = walk_begins r.cleared;
      }

  -- bytes that are the walk's are the leaf's list
  walk_listed : {slot : List ℕ} → WalkReady C c before → length slot ≡ length before
      → ((i : ℕ) → i < C.width.0 → bytes slot i ≡ walked (suits_at C need c) (C.width.0 - c.x.0) (C.height.0 - c.y.0) i)
      → WalkListed C need c before slot
  walk_listed ready long d =
      let p = ready.corner in let G = rising (suits_growing C need) c.x.0 c.y.0 in
      record { long = long; bytes = λ i k. d i k ∙ walk_lists G (omega arith) i }

  module _ {j : ℕ} {room : Room} {slot : List ℕ} (z : Walks C need c before j room slot) where
    -- the room is on the chip
    rows_on : c.y.0 + left_at C need c j ≤ C.height.0
    unfolding rows_after
    rows_on =
        let p = z.ready.corner in
        omega (arith, rows_fall (suits_at C need c) (C.width.0 - c.x.0) (C.height.0 - c.y.0) 0 j (omega arith))

    pub widens : Widens room
    widens = rw z.carried (room_widens C lawful c j (left_at C need c j) z.within rows_on)

    -- until the columns are used up
    pub walks_out : C.width.0 ≤ c.x.0 + j → WalkListed C need c before slot
    walks_out p = walk_listed z.ready z.long (columns_used z.walk (omega arith))

    -- adding a column
    module _ (on : c.x.0 + j < C.width.0) where
      pub kind_known : kind_at C (c.x.0 + j) ≤ last_kind
      kind_known = (chip_limits C lawful).kinds (c.x.0 + j) on

      module _ {next : Room} (en : next ≡ wider room (kind_at C (c.x.0 + j))) where
        wide : next ≡ left_room C need c (suc j) j
        wide =
            let l = chip_limits C lawful in en ∙ rw z.carried (room_wider C c l.some_rows j (left_at C need c j))

        rows_are : next.rows.0 ≡ left_at C need c j
        unfolding room_of
        rows_are = ap (λ r. r.rows.0) wide

        pub steppable : Steppable C.block.0 next
        steppable =
            let l = chip_limits C lawful in let d = descends_all C lawful c (suc j) (left_at C need c j) in
            record {
              some = omega (arith, rows_are, z.some);
              rows = omega (arith, rows_are, rows_on);
              down = subst (λ n. Descends C.block.0 n next) (sym rows_are) (rw wide d);
            }

        -- stepping down comes to the rows at which the walk leaves this width
        comes_to : stepped_down (λ i. is_at_most need (room_of C c (suc j) i).held) (left_at C need c j) ≡ left_at C need c (suc j)
        unfolding rows_after
        comes_to =
            down_same _ (suits_at C need c (suc j)) (left_at C need c j)
            (λ i p q. let o = rows_on in room_suits C lawful c need (suc j) i (omega arith) p (omega arith) (omega arith))

        left : descended need C.block.0 next.rows.0 next ≡ left_room C need c (suc j) (suc j)
        left =
            subst (λ n. descended need C.block.0 n next ≡ left_room C need c (suc j) (suc j)) (sym rows_are)
            (rw wide (descends_to C lawful c (suc j) need (left_at C need c j) ∙ ap (room_of C c (suc j)) comes_to))

        rows_left : (descended need C.block.0 next.rows.0 next).rows.0 ≡ left_at C need c (suc j)
        unfolding room_of
        rows_left = ap (λ r. r.rows.0) left

        module _ {height : ℕ} {r : Option Room} (s : Stepped need C.block.0 next (bytes slot j) height r) where
          -- the slot has the byte of this width too
          walk_more : WalkedTo (suits_at C need c) (C.width.0 - c.x.0) (C.height.0 - c.y.0) C.width.0 (suc j) (bytes (set slot j height))
          walk_more =
              let was = z.walk.ahead j (le_refl j) (omega arith) in let w = z.ready.wide in let long = z.long in
              walk_width z.walk (omega arith) (omega arith)
              (get_or-set_same slot j height 0 (omega arith) ∙ rw (rows_left, rows_are, was) at s.height)
              (λ i k m. get_or-set_other slot j i height 0 k)

          long_more : length (set slot j height) ≡ length before
          long_more = length-set slot j height ∙ z.long

          to : r ≡ step_to (left_room C need c (suc j) (suc j))
          to = s.to ∙ ap step_to left

          pub walks_more : {room' : Room} → r ≡ Some room' → Walks C need c before (j + 1) room' (set slot j height)
          walks_more e =
              let (p, q) = handed_on C c (suc j) (left_at C need c (suc j)) to e in
              rw add-one (record { ready = z.ready; within = omega arith; some = p; carried = q; long = long_more; walk = walk_more })

          -- until the rows are used up
          pub walks_low : r ≡ None → WalkListed C need c before (set slot j height)
          walks_low e =
              walk_listed z.ready long_more
              (rows_used walk_more (used_up C c (suc j) (left_at C need c (suc j)) to e))
