-- Nets in bytes, taken one after another from a place on: what is dropped before a place begins with the count there, and then come the members.
-- Assumes nothing.
use mathlib.Core.Path.{◌≡◌, refl, sym, ◌∙◌, ap}
use mathlib.Core.Bool.{Bool, true, false, ◌&&◌}
use mathlib.Core.Logic.{◌⊎◌, inl, inr}
use mathlib.Core.List.{List, [], ◌∷◌, ◌++◌, append_assoc, append-nil}
use Prim.Native.Nat.{ℕ, zero, suc, ◌+◌, ◌-◌, ◌≤◌, ◌<◌}
use native.Mathlib.Omega.{arith}
use native.Mathlib.Nat.{eq-or-lt_of_le}
use Rattle.std.specs.Prelude.{Option, None, Some, MatchOption}
use Rattle.std.specs.List.{IsSplitAt}
use Rattle.std.proofs.lemmas.List.{length-take-le}
use lib.ListN.{length, set, take, drop, length-append, length-set, get_or-append, get_or-eq_default}
use lib.Seq.{get_or_at, get_or-set_same, get_or-set_other}
use borrow.Author.Tests.{le-leb, lt-leb}
use Rattle.rules.specs.declared.Net.{Net}
use Rattle.rules.specs.Design.{most_modules}
use Rattle.rules.specs.Score.{most_nets, no_net, net_at, SameNet}
use Rattle.costs.specs.Slices.{net_there, net_of, first_net, past_net, nets_in}
use Rattle.costs.specs.Places.{Split, Taking, NetsFrom}

-- a net that is there, and none
pub first_there : (s : List ℕ) → net_there s ≡ true → first_net s ≡ net_of s
unfolding first_net
first_there s t = rw (first_net, t)

pub first_none : (s : List ℕ) → net_there s ≡ false → first_net s ≡ no_net
unfolding first_net
first_none s f = rw (first_net, f)

pub past_there : (s : List ℕ) → net_there s ≡ true → past_net s ≡ drop (suc (net_of s).count) s
unfolding past_net
past_there s t = rw (past_net, t)

pub past_nothing : (s : List ℕ) → net_there s ≡ false → past_net s ≡ []
unfolding past_net
past_nothing s f = rw (past_net, f)

-- the net that bytes begin with, and no net
pub split_there : (n : ℕ) (s : List ℕ) → n ≤ most_modules → n ≤ length s → Split (n ∷ s) (take n s) (drop n s)
unfolding net_there
split_there n s few ends =
    let l = length-take-le n s ends in
    let t : net_there (n ∷ s) ≡ true = rw (le-leb n most_modules few, le-leb n (length s) ends) in
    record { is_there = t; few = omega arith; net = rw l; after = sym (past_there (n ∷ s) t) }

pub none_many : (n : ℕ) (s : List ℕ) → most_modules < n → net_there (n ∷ s) ≡ false
unfolding net_there
none_many n s h = rw (lt-leb n most_modules h)

and_false : (b : Bool) → b && false ≡ false
and_false true = refl
and_false false = refl

pub none_ends : (n : ℕ) (s : List ℕ) → length s < n → net_there (n ∷ s) ≡ false
unfolding net_there
none_ends n s h = rw (lt-leb n (length s) h) (and_false _)

pub none_left : (s : List ℕ) → length s ≡ 0 → net_there s ≡ false
unfolding net_there
none_left [] h = refl
none_left (n ∷ s) h = absurd (omega arith)

-- what is left after the count is cut behind the members, if it is as long
pub split_or : {T : Type 0} (s : List ℕ) (n : ℕ) (rest : List ℕ) (o : Option T) (front back : T → List ℕ) → s ≡ n ∷ rest → n ≤ most_modules
    → MatchOption o (length rest < n) (λ p. IsSplitAt rest n (front p) (back p))
    → MatchOption o (net_there s ≡ false) (λ p. Split s (front p) (back p))
split_or s n rest None front back e few h = rw e (none_ends n rest h)
split_or s n rest (Some p) front back e few h = rw (e, h.1, h.2) (split_there n rest few h.0)

-- with a net more
nets_more : (k : ℕ) (s : List ℕ) → 0 < length s → nets_in (suc k) s ≡ first_net s ∷ nets_in k (past_net s)
unfolding nets_in
nets_more k [] h = absurd (omega arith)
nets_more k (n ∷ s) h = refl

nets_over : (s : List ℕ) → 0 < length s → nets_in 0 s ≡ no_net ∷ []
unfolding nets_in
nets_over [] h = absurd (omega arith)
nets_over (n ∷ s) h = refl

nets_none : (k : ℕ) (s : List ℕ) → length s ≡ 0 → nets_in k s ≡ []
unfolding nets_in
nets_none zero [] h = refl
nets_none (suc k) [] h = refl
nets_none k (n ∷ s) h = absurd (omega arith)

module _ (bytes : List ℕ) (nets : List Net) (count : ℕ) (left : List ℕ) (z : Taking bytes nets count left) where
  pub take_next : 0 < length left → count < most_nets → (net : Net) → SameNet net (first_net left)
      → (next : List ℕ) → next ≡ past_net left → Taking bytes (set nets count net) (count + 1) next
  take_next h k net e next q =
      let first = first_net left in
      let n : most_nets - count ≡ suc (most_nets - (count + 1)) = omega arith in
      let more = nets_more (most_nets - (count + 1)) left h in
      record {
        done = z.done ++ (first ∷ []);
        rest = z.rest ∙ rw (n, more, q) (sym (append_assoc z.done (first ∷ []) _));
        many = length-append z.done (first ∷ []) ∙ rw z.many;
        few = omega arith;
        places = length-set nets count net ∙ z.places;
        same = λ i l. go i (eq-or-lt_of_le (omega (arith, l)));
      }
    where
      go : (i : ℕ) → (suc i ≡ count + 1) ⊎ (suc i < count + 1)
          → SameNet (net_at (set nets count net) i) (net_at (z.done ++ (first_net left ∷ [])) i)
      go i (inl e') =
          let i-is : i ≡ count = omega arith in let p = z.places in let m = z.many in
          let a = get_or-set_same nets count net no_net (omega arith) in
          let b = get_or_at z.done (first_net left) [] no_net count m in rw (i-is, a, b) e
      go i (inr l) =
          let m = z.many in
          let a = get_or-set_other nets count i net no_net (λ w. absurd (omega arith)) in
          let b = get_or-append z.done (first_net left ∷ []) no_net i (omega arith) in rw (a, b) (z.same i (omega arith))

  pub take_all : length left ≡ 0 → NetsFrom bytes nets count
  take_all h =
      let e : nets_in most_nets bytes ≡ z.done = z.rest ∙ rw (nets_none (most_nets - count) left h, append-nil) in
      record { many = sym (ap length e ∙ z.many); same = λ i l. rw e (z.same i l) }

  pub take_over : count ≡ most_nets → 0 < length left → NetsFrom bytes nets (count + 1)
  take_over k h =
      let n : most_nets - count ≡ 0 = omega arith in
      let e : nets_in most_nets bytes ≡ z.done ++ (no_net ∷ []) = z.rest ∙ rw (n, nets_over left h) in
      record {
        many = sym (ap length e ∙ length-append z.done (no_net ∷ []) ∙ rw z.many);
        same = λ i l. rw e (go i (eq-or-lt_of_le (omega (arith, l))));
      }
    where
      go : (i : ℕ) → (suc i ≡ count + 1) ⊎ (suc i < count + 1) → SameNet (net_at nets i) (net_at (z.done ++ (no_net ∷ [])) i)
      go i (inl e') =
          let p = z.places in let i-is : i ≡ count = omega arith in
          let a = get_or-eq_default nets no_net {n = count} (omega arith) in
          let b = get_or_at z.done no_net [] no_net count z.many in rw (i-is, a, b) (record { count = refl; members = λ j l. refl })
      go i (inr l) =
          let m = z.many in let b = get_or-append z.done (no_net ∷ []) no_net i (omega arith) in rw b (z.same i (omega arith))
