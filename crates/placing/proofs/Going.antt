-- Going down for a design: the rooms that are laid out over stairs are on the chip, and so are the rectangles given for them, so each
-- can be tested; and going down with the test of the leaves is laying out, and then testing every place. Assumes nothing.
use mathlib.Core.Path.{◌≡◌, refl, sym, ◌∙◌, ap}
use mathlib.Core.Bool.{Bool, true, false}
use mathlib.Core.List.{List}
use Prim.Native.Nat.{ℕ, ◌<◌}
use native.Mathlib.Omega.{arith}
use lib.ListN.{take}
use Rattle.std.specs.Prelude.{Option, Some, None}
use Rattle.std.specs.Bool.{then_some}
use Rattle.std.specs.List.{All}
use Rattle.std.proofs.lemmas.List.{get_or-take, get_or_default, length-take}
use Rattle.rules.specs.declared.Shape.{Shape}
use Rattle.rules.specs.declared.Rectangle.{Rectangle}
use Rattle.rules.specs.declared.Design.{Design}
use Rattle.rules.specs.Search.{all}
use Rattle.rules.specs.Chip.{OnChip}
use Rattle.rules.specs.Design.{given_for, nodes, slots_of, width_of, height_of}
use Rattle.rules.specs.Check.{is_suited}
use Rattle.rules.proofs.Test.{given_suits, goes_for}
use Rattle.rules.proofs.Below.{all_below}
use Rattle.rules.proofs.Suiting.{design_leaves}
use Rattle.rules.proofs.Floorplans.{laid_on_chip}
use Rattle.choosing.specs.Descend.{nowhere, place_of, any_suits, LaidOut, LaysOut}
use Rattle.choosing.proofs.Suited.{laid_suited, none_suited}
use Rattle.slots.specs.declared.Board.{Board}
use Rattle.slots.specs.Size.{board_of}
use Rattle.slots.specs.Lent.{slots_on}
use Rattle.trees.specs.Positions.{LeftChildren}
use Rattle.placing.specs.Place.{PlacesOn, FromStairs, GivenIn, WentDown}

-- the places of the first modules, of all
pub first_of : (m : ℕ) (places : List Rectangle) (k : ℕ) → k < m → place_of (take m places) k ≡ place_of places k
first_of m places k h = get_or-take m places k nowhere h

pub first_on : {W H : ℕ} (m : ℕ) (places : List Rectangle) → PlacesOn W H m places → All (OnChip W H) (take m places)
first_on m places on k d h =
    let l = simp length-take at h in let x : k < m = omega arith in
    rw (get_or_default (take m places) k d nowhere h, first_of m places k x) (on.on k x)

module _ {d : Design} {work : List ℕ} {s : Shape} (from : FromStairs d work s) where
  -- what laying out gives of this design
  pub laid_out : {board : Board} {lefts : List ℕ} {n : ℕ} {bytes : List ℕ} {r : Option (List Rectangle)} → board ≡ board_of d → n ≡ nodes d → bytes ≡ work
      → LeftChildren d lefts → LaysOut board (slots_on board bytes) d.tokens lefts n s r → LaidOut (board_of d) (slots_of d work) d s r
  laid_out e f g l z = (rw (e, f, g) at z) d from.lawful refl refl l

  -- a cut has no pair
  pub no_pair : LaidOut (board_of d) (slots_of d work) d s None → WentDown d (slots_of d work) s None
  no_pair z = record {
    ok = sym (none_suited (board_of d) (given_suits (is_suited d) (given_for d)) (slots_of d work) d from.lawful s z);
    places = tt;
    chip = tt;
  }

  module _ {rooms : List Rectangle} (z : LaidOut (board_of d) (slots_of d work) d s (Some rooms)) where
    rooms_on : PlacesOn (width_of d) (height_of d) d.modules rooms
    rooms_on = record {
      on = λ k h. rw (z.places k h)
          (laid_on_chip d from.lawful (slots_of d work) from.stairs any_suits s from.stored (sym z.ok) k h);
    }

    -- the code gives each module its whole room, and so does the rule
    pub whole_rooms : GivenIn d rooms rooms
    unfolding given_for
    whole_rooms k h = refl

    module _ (places : List Rectangle) (given : GivenIn d rooms places) where
      pub places_on : PlacesOn (width_of d) (height_of d) d.modules places
      places_on = record { on = λ k h. rw (given k h) ((design_leaves d).inside k (place_of rooms k) (rooms_on.on k h)).0 }

      -- every cut has a pair: the test of the places decides
      pub all_tested : (suited : Bool) → suited ≡ all d.modules (λ k. is_suited d k (place_of (take d.modules places) k))
          → WentDown d (slots_of d work) s (then_some suited places)
      all_tested suited q = go suited (
          q ∙ all_below d.modules _ _ (λ k h. ap (is_suited d k) (first_of d.modules places k h ∙ given k h))
          ∙ sym (laid_suited (board_of d) (given_suits (is_suited d) (given_for d)) (slots_of d work) d from.lawful s rooms z))
        where
          go : (b : Bool) → b ≡ goes_for d (slots_of d work) s → WentDown d (slots_of d work) s (then_some b places)
          go true e = record { ok = e; places = λ k h. given k h ∙ ap (given_for d k) (z.places k h); chip = places_on }
          go false e = record { ok = e; places = tt; chip = tt }
