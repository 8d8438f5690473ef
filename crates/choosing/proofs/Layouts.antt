-- Going down node by node is going down the tree. Before the nodes t, t - 1, .. are gone through, the things that the first t + 1
-- tokens leave standing have their rectangles; the last of them is node t, so a leaf gives its module its rectangle, and a cut gives
-- its children theirs, which then stand in its place. Assumes nothing.
use mathlib.Core.Path.{◌≡◌, refl, sym, ◌∙◌}
use mathlib.Core.Logic.{⊎_elim, inl, inr, ◌↔◌}
use mathlib.Core.Bool.{Bool, true, false, ◌&&◌, So}
use mathlib.Core.List.{List, [], ◌∷◌}
use Prim.Native.Nat.{ℕ, zero, suc, ◌-◌, ◌≤◌, ◌<◌}
use native.Mathlib.Omega.{arith}
use native.Mathlib.Nat.{le_refl}
use lib.ListN.{length, get_or, set, replicate, length-set}
use lib.Seq.{get_or-set_same, get_or-set_other}
use Rattle.std.specs.Prelude.{Option, Some, None, IfSome, is_some}
use Rattle.std.specs.Option.{option_map, option_and_then}
use Rattle.rules.specs.declared.Corner.{Corner}
use Rattle.rules.specs.declared.Shape.{Shape}
use Rattle.rules.specs.declared.Rectangle.{Rectangle}
use Rattle.rules.specs.declared.Direction.{Direction}
use Rattle.rules.specs.declared.Token.{Token}
use Rattle.rules.specs.declared.Design.{Design}
use Rattle.rules.specs.Chip.{corner}
use Rattle.rules.specs.Tree.{Tree, leaf, cut, position, has, stands}
use Rattle.rules.specs.Choice.{beside}
use Rattle.rules.specs.Design.{most_tokens, most_modules, token_in, nodes, root, LawfulDesign}
use Rattle.rules.proofs.Test.{left_shape, right_shape, has_pair, goes_down, laid}
use Rattle.rules.proofs.Searching.{absurd_so, and_iff, or_iff, eqb_iff, same_test}
use Rattle.rules.proofs.Standing.{Once, Part, whole, in_left, in_right, Among, here, there, joined_among, joined_stands, Reading, none_read, module_read, cut_read, last_is, last_position}
use Rattle.rules.proofs.Nodes.{modules_within, lawful_tree}
use Rattle.rules.proofs.Placing.{merge_left, merge_right}
use Rattle.slots.specs.declared.Board.{Board}
use Rattle.trees.specs.Positions.{LeftChildren}
use Rattle.trees.proofs.Lefts.{left_child}
use Rattle.choosing.specs.declared.Descent.{Descent}
use Rattle.choosing.specs.Choose.{taken_if, pair_of}
use Rattle.choosing.specs.Descend.{nowhere, room_of, place_of, first_descent, down_leaf, given_rooms, down_pair, down_node, descended, Settled, any_suits, LaidOut, LaysOut}
use Rattle.choosing.proofs.Steps.{cut_pair, token_settled}

-- something holds of each thing standing
abbrev Each : (Tree → Type 0) → List Tree → Type 0
Each P [] = Unit {0}
Each P (t ∷ ts) = P t × Each P ts

-- the things standing after n tokens have positions below n, each below that of the thing above it
abbrev Falls : ℕ → List Tree → Type 0
Falls n [] = Unit {0}
Falls n (t ∷ ts) = (position t < n) × Falls (position t) ts

falls_below : (n k : ℕ) (ts : List Tree) → n ≤ k → Falls n ts → Falls k ts
falls_below n k [] h f = tt
falls_below n k (t ∷ ts) h (a, f) = (omega arith, f)

falls : {m : ℕ} {token : ℕ → Token} {n : ℕ} {ts : List Tree} → Reading m token n ts → Falls n ts
falls none_read = tt
falls (module_read r e h f) = (omega arith, falls r)
falls (cut_read {n = n} {ts = ts} r e) = let (a, (b, f)) = falls r in (omega arith, falls_below _ n ts (omega arith) f)

each_below : (P Q : Tree → Type 0) (n : ℕ) (ts : List Tree) → ((t : Tree) → position t < n → P t → Q t) → Falls n ts → Each P ts → Each Q ts
each_below P Q n [] h f p = tt
each_below P Q n (t ∷ ts) h (a, f) (p, ps) = (h t a p, each_below P Q (position t) ts (λ u b q. h u (omega arith) q) f ps)

-- no module stands twice in any part of what stands
abbrev OnceAmong : List Tree → Type 0
OnceAmong ts = (u : Tree) → Among u ts → Once u

once_part : {u t : Tree} → Part u t → Once t → Once u
unfolding Once
once_part whole o = o
once_part (in_left p) o = once_part p o.0
once_part (in_right p) o = once_part p o.1

-- the arrays' lengths
record Sized (e : Descent) : Type 0 where
  rooms : length e.rooms ≡ most_tokens
  places : length e.places ≡ most_modules

module _ (board : Board) (slots : ℕ → Corner → ℕ → ℕ) where
  W : ℕ
  W = board.width.0

  H : ℕ
  H = board.height.0

  -- from the rectangle that it has been given, going down a tree finds all pairs; and gives its modules these places
  abbrev Goes : Descent → Tree → Type 0
  Goes e t = So (goes_down W H any_suits slots t (room_of e (position t)).corner (room_of e (position t)).shape)

  abbrev Lies : Descent → List Rectangle → Tree → Type 0
  Lies e places t = (k : ℕ) → So (has t k) → place_of places k ≡ laid W H slots t (room_of e (position t)).corner (room_of e (position t)).shape k

  -- going down these trees has come to an end; or one of them has a cut with no pair
  record Went (e : Descent) (ts : List Tree) (end : Descent) : Type 0 where
    goes : Each (Goes e) ts
    lies : Each (Lies e end.places) ts
    others : (k : ℕ) → (So (stands ts k) → ⊥) → place_of end.places k ≡ place_of e.places k

  abbrev Comes : Descent → List Tree → Option Descent → Type 0
  Comes e ts None = Each (Goes e) ts → ⊥
  Comes e ts (Some end) = Went e ts end

  -- a leaf
  leaf_comes : (n k : ℕ) (ts : List Tree) (e : Descent) (end : Option Descent) → Sized e → k < most_modules → (So (stands ts k) → ⊥)
      → Comes (down_leaf k n e) ts end → Comes e (leaf n k ∷ ts) end
  unfolding goes_down laid has stands
  leaf_comes n k ts e None z h f C = λ g. C g.1
  leaf_comes n k ts e (Some end) z h f C = record {
    goes = (refl, C.goes);
    lies = (
      λ j s. let q = (eqb_iff j k).0 s in rw q (C.others k f ∙ get_or-set_same e.places k (room_of e n) nowhere (omega (arith, z.places))),
      C.lies,
    );
    others = λ j g.
        C.others j (λ s. g ((or_iff (has (leaf n k) j) (stands ts j)).1 (inr s)))
        ∙ get_or-set_other e.places k j (room_of e n) nowhere (λ q. g ((or_iff (has (leaf n k) j) (stands ts j)).1 (inl ((eqb_iff j k).1 q))));
  }

  -- a cut: its children are given the shapes of its pair, and then stand in its place
  module _ (n : ℕ) (d : Direction) (l r : Tree) (ts : List Tree) (e : Descent) where
    c : Corner
    c = (room_of e n).corner

    box : Shape
    box = (room_of e n).shape

    L : Corner → ℕ → ℕ
    L = slots (position l)

    R : Corner → ℕ → ℕ
    R = slots (position r)

    left : Rectangle
    left = record { corner = c; shape = left_shape W H d L R c box }

    right : Rectangle
    right = record { corner = beside d c (left_shape W H d L R c box); shape = right_shape W H d L R c box }

    given_left : Sized e → position l < position r → position r < most_tokens
        → room_of (given_rooms (position l) left (position r) right e) (position l) ≡ left
    given_left z h k =
        get_or-set_other (set e.rooms (position l) left) (position r) (position l) right nowhere (λ q. omega arith)
        ∙ get_or-set_same e.rooms (position l) left nowhere (omega (arith, z.rooms))

    given_right : Sized e → position r < most_tokens → room_of (given_rooms (position l) left (position r) right e) (position r) ≡ right
    given_right z k = get_or-set_same (set e.rooms (position l) left) (position r) right nowhere (rw length-set (omega (arith, z.rooms)))

    given_other : (t : ℕ) → t < position l → position l < position r
        → room_of (given_rooms (position l) left (position r) right e) t ≡ room_of e t
    given_other t h k =
        get_or-set_other (set e.rooms (position l) left) (position r) t right nowhere (λ q. omega arith)
        ∙ get_or-set_other e.rooms (position l) t left nowhere (λ q. omega arith)

    Down : Tree → Rectangle → Type 0
    Down t q = So (goes_down W H any_suits slots t q.corner q.shape)

    cut_goes : Goes e (cut n d l r) ↔ (So (has_pair W H d L R c box) × Down l left × Down r right)
    unfolding goes_down left right L R c box Down
    cut_goes =
        let u = and_iff (has_pair W H d L R c box && goes_down W H any_suits slots l left.corner left.shape) (goes_down W H any_suits slots r right.corner right.shape) in
        let v = and_iff (has_pair W H d L R c box) (goes_down W H any_suits slots l left.corner left.shape) in
        (λ g. let (a, b) = u.0 g in let (p, q) = v.0 a in (p, q, b), λ (p, q, b). u.1 (v.1 (p, q), b))

    module _ (apart : (k : ℕ) → So (has l k) → So (has r k) → ⊥) where
      cut_lies : (q : Rectangle) (k : ℕ) → So (has (cut n d l r) k) → (So (has l k) → q ≡ laid W H slots l left.corner left.shape k)
          → (So (has r k) → q ≡ laid W H slots r right.corner right.shape k) → q ≡ laid W H slots (cut n d l r) c box k
      unfolding laid has left right L R
      cut_lies q k s a b =
          ⊎_elim (λ i. a i ∙ sym (merge_left l (laid W H slots l left.corner left.shape) _ k i)) (λ i. b i ∙ sym (merge_right l r (laid W H slots l left.corner left.shape) _ k apart i))
          ((or_iff (has l k) (has r k)).0 s)

      given : Descent
      given = given_rooms (position l) left (position r) right e

      pair_comes : (end : Option Descent) → Sized e → position l < position r → position r < most_tokens → Falls (position l) ts
          → So (has_pair W H d L R c box) → Comes given (r ∷ (l ∷ ts)) end → Comes e (cut n d l r ∷ ts) end
      unfolding Down c box given
      pair_comes None z h k f t C = λ (g, gs). let (p, a, b) = cut_goes.0 g in C (
        rw (given_right z k) b,
        (rw (given_left z h k) a, each_below (Goes e) _ (position l) ts (λ u a g. rw (given_other (position u) a h) g) f gs),
      )
      pair_comes (Some end) z h k f t C =
          let on = given_left z h k in let or = given_right z k in let (gr, (gl, gs)) = C.goes in let (yr, (yl, ys)) = C.lies in
          record {
            goes = (cut_goes.1 (t, rw on at gl, rw or at gr), each_below _ (Goes e) (position l) ts (λ u a g. rw (given_other (position u) a h) at g) f gs);
            lies = (
              λ j s. cut_lies (place_of end.places j) j s (λ i. rw on at (yl j i)) (λ i. rw or at (yr j i)),
              each_below _ (Lies e end.places) (position l) ts (λ u a y j s. rw (given_other (position u) a h) at (y j s)) f ys,
            );
            others = λ j g. C.others j (λ s. g (rw (joined_stands n d l r ts j) at s));
          }

      -- going on from there
      cut_comes : (on : Descent → Option Descent) → Sized e → position l < position r → position r < most_tokens → Falls (position l) ts
          → Comes given (r ∷ (l ∷ ts)) (on given)
          → Comes e (cut n d l r ∷ ts) (option_and_then on (down_pair d (position l) (position r) c (pair_of W H d L R c box) e))
      unfolding pair_of left right given
      cut_comes on z h k f C = go (has_pair W H d L R c box) refl
        where
          go : (b : Bool) → has_pair W H d L R c box ≡ b
              → Comes e (cut n d l r ∷ ts)
              (option_and_then on (down_pair d (position l) (position r) c (taken_if b (left_shape W H d L R c box) (right_shape W H d L R c box)) e))
          go true t = pair_comes (on given) z h k f t C
          go false t = λ g. absurd_so (sym t ∙ (cut_goes.0 g.0).0)

sized_leaf : {e : Descent} (k t : ℕ) → Sized e → Sized (down_leaf k t e)
sized_leaf k t z = record { rooms = z.rooms; places = simp length-set z.places }

sized_given : {e : Descent} (l r : ℕ) (a b : Rectangle) → Sized e → Sized (given_rooms l a r b e)
sized_given l r a b z = record { rooms = simp length-set z.rooms; places = z.places }

module _ (board : Board) (slots : ℕ → Corner → ℕ → ℕ) (tokens lefts : List ℕ) (m N : ℕ) (few : m ≤ most_modules) (short : N ≤ most_tokens)
    (positions : (t : ℕ) (k : Direction) (l r : Tree) (us : List Tree) → t < N → Reading m (token_in tokens) (suc t) (cut t k l r ∷ us) → get_or lefts t 0 ≡ position l) where
  -- the nodes that tokens read from the first on
  comes : {n : ℕ} {ts : List Tree} → Reading m (token_in tokens) n ts → n ≤ N → OnceAmong ts → (e : Descent) → Sized e
      → Comes board slots e ts (descended board slots tokens lefts n e)
  unfolding descended Once W H L R c box given
  comes none_read h o e z = record { goes = tt; lies = tt; others = λ k s. refl }
  comes (module_read {n = n} {k = k} {ts = ts} r q b f) h o e z =
      rw q (leaf_comes board slots n k ts e _ z (omega arith) f (comes r (omega arith) (λ u a. o u (there a)) (down_leaf k n e) (sized_leaf k n z)))
  comes (cut_read {n = n} {d = d} {l = l} {r = r} {ts = ts} rs q) h o e z =
      let (a, (b, f)) = falls rs in let p = last_position rs in
      rw (q, positions n d l r ts h (cut_read rs q), cut_pair board slots d (position l) n e p b refl)
      (cut_comes board slots n d l r ts e (o (cut n d l r) (here whole)).2 (descended board slots tokens lefts n) z b (omega arith) f
      (comes rs (omega arith) (λ u a. o u (joined_among a)) _ (sized_given (position l) (position r) _ _ z)))

-- the first descent: the root's rectangle, and the lengths
first_room : (n : ℕ) (s : Shape) (t : ℕ) → suc t ≡ n → n ≤ most_tokens → room_of (first_descent n s) t ≡ record { corner = corner 0 0; shape = s }
unfolding first_descent
first_room n s t e h =
    let x : n - 1 ≡ t = omega arith in
    rw x (get_or-set_same (replicate most_tokens nowhere) t _ nowhere (omega arith))

first_sized : (n : ℕ) (s : Shape) → Sized (first_descent n s)
unfolding first_descent
first_sized n s = record { rooms = length-set (replicate most_tokens nowhere) (n - 1) _; places = refl }

-- one tree, gone down whole
module _ (board : Board) (slots : ℕ → Corner → ℕ → ℕ) (t : Tree) (c : Corner) (s : Shape) (e : Descent)
    (q : room_of e (position t) ≡ record { corner = c; shape = s }) where
  one_comes : (end : Option Descent) → Comes board slots e (t ∷ []) end
      → (is_some end ≡ goes_down board.width.0 board.height.0 any_suits slots t c s)
      × IfSome end (λ x. (k : ℕ) → So (has t k) → place_of x.places k ≡ laid board.width.0 board.height.0 slots t c s k)
  unfolding W H
  one_comes None C = (same_test false _ (λ f. absurd_so f, λ g. absurd (C (rw q g, tt))), tt)
  one_comes (Some end) C = (sym (rw q at C.goes.0), λ k h. rw q at (C.lies.0 k h))

only_part : {u t : Tree} → Among u (t ∷ []) → Part u t
only_part (here p) = p
only_part {u = u} {t = t} (there a) = elim a [ ]

-- the places that going down has come to
abbrev pub laid_places : Option Descent → Option (List Rectangle)
laid_places end = option_map (λ e. e.places) end

-- going down the nodes of a lawful design is going down its tree
module _ (board : Board) (slots : ℕ → Corner → ℕ → ℕ) (d : Design) (s : Shape) where
  lays : (end : Option Descent) → ((k : ℕ) → k < d.modules → So (has (root d) k))
      → is_some end ≡ goes_down board.width.0 board.height.0 any_suits slots (root d) (corner 0 0) s
      → IfSome end (λ x. (k : ℕ) → So (has (root d) k) → place_of x.places k ≡ laid board.width.0 board.height.0 slots (root d) (corner 0 0) s k)
      → LaidOut board slots d s (laid_places end)
  lays None m a b = record { ok = a; places = tt }
  lays (Some x) m a b = record { ok = a; places = λ k h. b k (m k h) }

  lays_out : LawfulDesign d → (lefts : List ℕ) → LeftChildren d lefts → (end : Option Descent)
      → end ≡ descended board slots d.tokens lefts (nodes d) (first_descent (nodes d) s) → LaidOut board slots d s (laid_places end)
  lays_out lawful lefts L end e =
      let T = lawful_tree d lawful in let m = modules_within d T.limits in
      let C = comes board slots d.tokens lefts d.modules (nodes d) m.1 (omega arith)
      (λ t k l r us h g. left_child lawful L h (sym (last_is g))) T.reading (le_refl (nodes d)) (λ u a. once_part (only_part a) T.once)
      (first_descent (nodes d) s) (first_sized (nodes d) s) in
      let (a, b) = one_comes board slots (root d) (corner 0 0) s (first_descent (nodes d) s)
      (first_room (nodes d) s (position (root d)) (last_position T.reading) (omega arith)) end (rw e C) in
      lays end (λ k h. (T.modules k).1 h) a b

-- while t nodes are left of n: every corner given is one of the chip, and going down these nodes ends where going down all n does
pub record Remains (board : Board) (slots : ℕ → Corner → ℕ → ℕ) (tokens lefts : List ℕ) (n : ℕ) (first : Descent) (t : ℕ) (e : Descent) : Type 0 where
  pub settled : Settled board e
  pub same : descended board slots tokens lefts t e ≡ descended board slots tokens lefts n first

module _ {board : Board} {slots : ℕ → Corner → ℕ → ℕ} {tokens lefts : List ℕ} {n : ℕ} {first e : Descent} where
  pub one_down : {r : Descent} (t : ℕ) → 0 < t → Remains board slots tokens lefts n first t e → Some r ≡ down_node board slots tokens lefts (t - 1) e
      → Remains board slots tokens lefts n first (t - 1) r
  unfolding descended
  one_down zero h m q = absurd (omega arith)
  one_down {r} (suc t) h m q = let x : suc t - 1 ≡ t = omega arith in record {
    settled = rw (← q) at (token_settled slots (token_in tokens (suc t - 1)) (get_or lefts (suc t - 1) 0) (suc t - 1) m.settled);
    same = rw x (rw (← (rw x at q)) at m.same);
  }

  -- and when none is left, or there is no going on, of a lawful design its tree
  pub all_down : {t : ℕ} {s : Shape} → t ≤ 0 → Remains board slots tokens lefts n first t e → first ≡ first_descent n s
      → LaysOut board slots tokens lefts n s (Some e.places)
  unfolding descended
  all_down {t} {s} h m f d w et en lf =
      let x : t ≡ 0 = omega arith in lays_out board slots d s w lefts lf (Some e) (rw (et, en, ← f) (rw x at m.same))

  pub none_down : {s : Shape} (t : ℕ) → 0 < t → Remains board slots tokens lefts n first t e → None ≡ down_node board slots tokens lefts (t - 1) e
      → first ≡ first_descent n s → LaysOut board slots tokens lefts n s None
  unfolding descended
  none_down zero h m q f d w et en lf = absurd (omega arith)
  none_down {s} (suc t) h m q f d w et en lf =
      let x : suc t - 1 ≡ t = omega arith in lays_out board slots d s w lefts lf None (rw (et, en, ← f) (rw (← (rw x at q)) at m.same))
