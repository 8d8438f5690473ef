-- Stepping down, row by row. While it goes on what is left to come stays the same, and the height kept is the last one that suited; so where
-- it stops is where it comes to. Assumes nothing.
use mathlib.Core.Path.{◌≡◌, refl, ◌∙◌, ap, subst}
use mathlib.Core.Bool.{Bool, true, false, So}
use Prim.Native.Nat.{ℕ, zero, suc, ◌-◌, ◌≤◌, ◌<◌}
use native.Mathlib.Omega.{arith}
use native.Mathlib.Nat.{le_refl}
use native.Mathlib.Decide.{dec_lt}
use borrow.Author.Tests.{lt-ltb, le-ltb}
use Rattle.std.specs.Prelude.{Option, Some, None}
use Rattle.rules.specs.declared.Chip.{Chip}
use Rattle.rules.specs.declared.Corner.{Corner}
use Rattle.rules.specs.declared.Need.{Need}
use Rattle.rules.specs.Check.{is_at_most}
use Rattle.rules.specs.Design.{most_rows, lawful_chip}
use Rattle.rules.specs.Walk.{stepped_down}
use Rattle.rules.proofs.Limits.{chip_limits}
use Rattle.leaves.specs.declared.room.Room.{Room}
use Rattle.leaves.specs.Room.{lower, Lowers}
use Rattle.leaves.specs.Step.{descended, Descends, Steppable, step_to, last_of, Stepped}
use Rattle.leaves.proofs.Carrying.{room_of, room_lower, room_lowers}

-- it has come down to this room, with this height kept
pub record Steps (need : Need) (B : ℕ) (from : Room) (before : ℕ) (room : Room) (kept : ℕ) : Type 0 where
  pub few : from.rows.0 ≤ most_rows
  pub under : room.rows.0 ≤ from.rows.0
  pub down : Descends B room.rows.0 room
  pub to : descended need B room.rows.0 room ≡ descended need B from.rows.0 from
  pub height : kept ≡ last_of room.rows.0 from.rows.0 before

module _ {need : Need} {B : ℕ} {from : Room} {before : ℕ} where
  pub steps_first : Steppable B from → Steps need B from before from before
  steps_first p = record {
    few = p.rows;
    under = le_refl from.rows.0;
    down = p.down;
    to = refl;
    height = rw (le-ltb from.rows.0 from.rows.0 (le_refl from.rows.0), last_of);
  }

  module _ {room : Room} {kept : ℕ} (z : Steps need B from before room kept) where
    -- where it stops is where it comes to
    stops_here : room ≡ descended need B from.rows.0 from → Stepped need B from before kept (step_to room)
    stops_here q = record { to = ap step_to q; height = z.height ∙ ap (λ r. last_of r.rows.0 from.rows.0 before) q }

    -- no rows are left
    pub steps_out : room.rows.0 ≡ 0 → Stepped need B from before kept None
    unfolding descended step_to
    steps_out p =
        let none : ◌≡◌ {A = Option Room} None (step_to room) = rw (le-ltb 0 room.rows.0 (omega arith), step_to) in
        rw none (stops_here (subst (λ n. descended need B n room ≡ descended need B from.rows.0 from) p z.to))

    module _ (some : 0 < room.rows.0) where
      one_more : room.rows.0 ≡ suc (room.rows.0 - 1)
      one_more = omega arith

      below : Lowers B room × Descends B (room.rows.0 - 1) (lower B room)
      unfolding Descends
      below = let d = subst (λ n. Descends B n room) one_more z.down in (d.1, d.2)

      comes_to : descended need B (suc (room.rows.0 - 1)) room ≡ descended need B from.rows.0 from
      comes_to = subst (λ n. descended need B n room ≡ descended need B from.rows.0 from) one_more z.to

      pub steps_lowers : Lowers B room
      steps_lowers = below.0

      -- the room no longer suits
      pub steps_left : is_at_most need room.held ≡ false → Stepped need B from before kept (Some room)
      unfolding descended step_to
      steps_left t =
          let here : Some room ≡ step_to room = rw (lt-ltb 0 room.rows.0 some, step_to) in
          rw here (stops_here ((rw (t, descended)) ∙ comes_to))

      -- it still suits: one row less
      pub steps_down : {next : Room} → So (is_at_most need room.held) → next ≡ lower B room → Steps need B from before next room.rows.0
      unfolding descended lower
      steps_down t e =
          let u = z.under in let v = room.rows.0 in
          rw e (record {
            few = z.few;
            under = omega arith;
            down = below.1;
            to = rw (t, descended) at comes_to;
            height = rw (lt-ltb (v - 1) from.rows.0 (omega arith), last_of) one_more;
          })

-- of a room at a corner: the rows left are those of the walk, by the test of what is held; and each row can be taken away
module _ (C : Chip) (lawful : So (lawful_chip C)) (c : Corner) (w : ℕ) where
  some_rows : 0 < C.block.0
  some_rows = (chip_limits C lawful).some_rows

  pub descends_to : (need : Need) (h : ℕ)
      → descended need C.block.0 h (room_of C c w h) ≡ room_of C c w (stepped_down (λ i. is_at_most need (room_of C c w i).held) h)
  unfolding descended stepped_down
  descends_to need zero = refl
  descends_to need (suc h) = go (is_at_most need (room_of C c w (suc h)).held) (descends_to need h)
    where
      left : ℕ
      left = stepped_down (λ i. is_at_most need (room_of C c w i).held) h

      go : (b : Bool) → descended need C.block.0 h (room_of C c w h) ≡ room_of C c w left
          → elim b as (λ _. Room) [ true ↦ descended need C.block.0 h (lower C.block.0 (room_of C c w (suc h))) | false ↦ room_of C c w (suc h) ]
          ≡ room_of C c w (elim b as (λ _. ℕ) [ true ↦ left | false ↦ suc h ])
      go true ih = rw (room_lower C c some_rows w h) ih
      go false ih = refl

  pub descends_all : (h : ℕ) → Descends C.block.0 h (room_of C c w h)
  unfolding Descends room_of
  descends_all zero = refl
  descends_all (suc h) = (refl, room_lowers C lawful c w h, rw (room_lower C c some_rows w h) (descends_all h))

-- where stepping down comes to such a room: it has rows and is handed on, or it has none
module _ (C : Chip) (c : Corner) (w h : ℕ) where
  has_rows : 0 < h → step_to (room_of C c w h) ≡ Some (room_of C c w h)
  unfolding step_to room_of
  has_rows p = rw (lt-ltb 0 h p, step_to)

  has_none_lem : h ≡ 0 → step_to (room_of C c w h) ≡ None
  unfolding step_to room_of
  has_none_lem p = rw (le-ltb 0 h (omega arith), step_to)

  pub handed_on : {room : Room} {r : Option Room} → r ≡ step_to (room_of C c w h) → r ≡ Some room → (0 < h) × (room ≡ room_of C c w h)
  handed_on {room} {r} e q = go (dec_lt 0 h)
    where
      go : Dec (0 < h) → (0 < h) × (room ≡ room_of C c w h)
      go (yes p) = let z = has_rows p in (p, cc)
      go (no p) = let z = has_none_lem (omega arith) in let n : ◌≡◌ {A = ℕ} 0 1 = cc in absurd (omega arith)

  pub used_up : {r : Option Room} → r ≡ step_to (room_of C c w h) → r ≡ None → h ≡ 0
  used_up e q = go (dec_lt 0 h)
    where
      go : Dec (0 < h) → h ≡ 0
      go (yes p) = let z = has_rows p in let n : ◌≡◌ {A = ℕ} 0 1 = cc in absurd (omega arith)
      go (no p) = omega arith
