-- Going down at one node: what the code finds at a cut is what the definition says, and every corner that it gives is one of the chip,
-- since a pair is taken only beside such a corner. Assumes nothing.
use mathlib.Core.Path.{◌≡◌, refl, sym, ◌∙◌, ap}
use mathlib.Core.Bool.{Bool, true, false}
use mathlib.Core.List.{List}
use Prim.Native.Nat.{ℕ, zero, suc, ◌+◌, ◌-◌, ◌≤◌, ◌<◌}
use native.Mathlib.Omega.{arith}
use native.Mathlib.Decide.{dec_lt, ℕ_discrete}
use lib.Dec.{ltb}
use lib.ListN.{length, get_or, set, replicate}
use lib.Seq.{get_or-set_same, get_or-set_other, set_out}
use borrow.Author.Tests.{lt-ltb, le-ltb}
use Rattle.std.specs.Prelude.{Option, Some, None, IfSome}
use Rattle.rules.specs.declared.Corner.{Corner}
use Rattle.rules.specs.declared.Shape.{Shape}
use Rattle.rules.specs.declared.Rectangle.{Rectangle}
use Rattle.rules.specs.declared.Direction.{Direction}
use Rattle.rules.specs.declared.Token.{Token}
use Rattle.rules.specs.declared.Token.TheVariants.{Cut, Module, Beyond}
use Rattle.rules.specs.Chip.{corner}
use Rattle.rules.specs.Choice.{beside}
use Rattle.rules.specs.Design.{most_tokens}
use Rattle.slots.specs.declared.Board.{Board}
use Rattle.slots.specs.Lent.{OnBoard, Lent}
use Rattle.choosing.specs.declared.Pair.{Pair}
use Rattle.choosing.specs.declared.Descent.{Descent}
use Rattle.choosing.specs.Choose.{pair_in}
use Rattle.choosing.specs.Descend.{nowhere, room_of, first_descent, given_rooms, down_pair, down_cut, down_token, Settled}
use Rattle.choosing.proofs.Pairs.{pair_taken}

-- at a cut: its children stand where they cannot; or it goes by its pair
module _ (board : Board) (slots : ℕ → Corner → ℕ → ℕ) (d : Direction) (l t : ℕ) (e : Descent) where
  pub cut_stops : t ≤ l + 1 → None ≡ down_cut board slots d l t e
  unfolding down_cut
  cut_stops h = rw (down_cut, le-ltb (l + 1) t h)

  pub cut_pair : {r : ℕ} {p : Option Pair} → suc r ≡ t → l < r → p ≡ pair_in board slots d l r (room_of e t).corner (room_of e t).shape
      → down_cut board slots d l t e ≡ down_pair d l r (room_of e t).corner p e
  unfolding down_cut
  cut_pair {r} {p} h k q = let x : t - 1 ≡ r = omega arith in rw (down_cut, lt-ltb (l + 1) t (omega arith), x, q)

  pub cut_without : l + 1 < t → None ≡ pair_in board slots d l (t - 1) (room_of e t).corner (room_of e t).shape → None ≡ down_cut board slots d l t e
  cut_without h q = sym (cut_pair (omega arith) (omega arith) q)

  pub cut_with : {p : Pair} {b : Corner} {r : Descent} → l + 1 < t → Some p ≡ pair_in board slots d l (t - 1) (room_of e t).corner (room_of e t).shape
      → b ≡ beside d (room_of e t).corner p.left
      → r ≡ given_rooms l (record { corner = (room_of e t).corner; shape = p.left }) (t - 1) (record { corner = b; shape = p.right }) e
      → Some r ≡ down_cut board slots d l t e
  cut_with h q x f = ap Some (rw x at f) ∙ sym (cut_pair (omega arith) (omega arith) q)

-- every corner given is one of the chip
set_keeps : (P : Rectangle → Type 0) (xs : List Rectangle) (i : ℕ) (v : Rectangle) → ((t : ℕ) → P (get_or xs t nowhere)) → P v
    → (t : ℕ) → P (get_or (set xs i v) t nowhere)
set_keeps P xs i v p q t = go (dec_lt i (length xs)) (ℕ_discrete t i)
  where
    go : Dec (i < length xs) → Dec (t ≡ i) → P (get_or (set xs i v) t nowhere)
    go (yes h) (yes e) = rw (e, get_or-set_same xs i v nowhere h) q
    go (yes h) (no e) = rw (get_or-set_other xs i t v nowhere e) (p t)
    go (no h) e = rw (set_out xs i v (omega arith)) (p t)

all_nowhere : (P : Rectangle → Type 0) (n t : ℕ) → P nowhere → P (get_or (replicate n nowhere) t nowhere)
all_nowhere P zero t p = p
all_nowhere P (suc n) zero p = p
all_nowhere P (suc n) (suc t) p = all_nowhere P n t p

module _ {board : Board} where
  pub first_settled : {work : List ℕ} (n : ℕ) (s : Shape) → Lent board n work → Settled board (first_descent n s)
  unfolding first_descent
  first_settled n s r =
      let z : OnBoard board (corner 0 0) = record { column = r.wide; row = omega (arith, r.high, r.chip) } in
      record {
        on = set_keeps (λ q. OnBoard board q.corner) (replicate most_tokens nowhere) (n - 1) _
            (λ t. all_nowhere (λ q. OnBoard board q.corner) most_tokens t z) z;
      }

  pair_settled : {e : Descent} (d : Direction) (l r : ℕ) (c : Corner) (p : Option Pair) → OnBoard board c → ((o : Pair) → p ≡ Some o → OnBoard board (beside d c o.left))
      → Settled board e → IfSome (down_pair d l r c p e) (Settled board)
  pair_settled {e} d l r c (Some o) on h S = record {
    on = set_keeps (λ q. OnBoard board q.corner) (set e.rooms l _) r _ (set_keeps (λ q. OnBoard board q.corner) e.rooms l _ S.on on) (h o refl);
  }
  pair_settled d l r c None on h S = tt

  cut_settled : {e : Descent} (slots : ℕ → Corner → ℕ → ℕ) (d : Direction) (l t : ℕ) → Settled board e → IfSome (down_cut board slots d l t e) (Settled board)
  unfolding down_cut
  cut_settled {e} slots d l t S = go (ltb (l + 1) t)
    where
      p : Option Pair
      p = pair_in board slots d l (t - 1) (room_of e t).corner (room_of e t).shape

      go : (b : Bool) → IfSome (elim b as (λ _. Option Descent) [ true ↦ down_pair d l (t - 1) (room_of e t).corner p e | false ↦ None ]) (Settled board)
      go true = pair_settled d l (t - 1) (room_of e t).corner p (S.on t) (λ o q. (pair_taken _ _ d (slots l) (slots (t - 1)) (room_of e t).corner (room_of e t).shape o q).pair.corner) S
      go false = tt

  pub token_settled : {e : Descent} (slots : ℕ → Corner → ℕ → ℕ) (k : Token) (l t : ℕ) → Settled board e → IfSome (down_token board slots k l t e) (Settled board)
  token_settled slots (Cut d) l t S = cut_settled slots d l t S
  token_settled slots (Module k) l t S = record { on = S.on }
  token_settled slots Beyond l t S = tt
