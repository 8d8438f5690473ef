-- Going down with a test of the leaves: every cut has a pair, and every module's rectangle passes. By induction on the tree; no module
-- stands twice, so a child's rectangles are the cut's. Assumes nothing.
use mathlib.Core.Path.{◌≡◌, refl, sym, ◌∙◌}
use mathlib.Core.Logic.{⊎_elim, inl, inr, ◌↔◌}
use mathlib.Core.Bool.{Bool, false, ◌&&◌, So}
use mathlib.Core.List.{List}
use Prim.Native.Nat.{ℕ}
use Rattle.std.specs.Prelude.{Some, None}
use Rattle.rules.specs.declared.Corner.{Corner}
use Rattle.rules.specs.declared.Shape.{Shape}
use Rattle.rules.specs.declared.Rectangle.{Rectangle}
use Rattle.rules.specs.declared.Design.{Design}
use Rattle.rules.specs.Search.{all}
use Rattle.rules.specs.Chip.{corner}
use Rattle.rules.specs.Tree.{Tree, leaf, cut, position, has}
use Rattle.rules.specs.Placement.{Placement}
use Rattle.rules.specs.Choice.{beside}
use Rattle.rules.specs.Design.{root, LawfulDesign}
use Rattle.rules.proofs.Test.{left_shape, right_shape, has_pair, merge, goes_down, laid}
use Rattle.rules.proofs.Searching.{absurd_so, and_iff, or_iff, eqb_iff, all_iff, same_test}
use Rattle.rules.proofs.Standing.{Once}
use Rattle.rules.proofs.Nodes.{lawful_tree}
use Rattle.rules.proofs.Placing.{merge_left, merge_right}
use Rattle.slots.specs.declared.Board.{Board}
use Rattle.choosing.specs.Descend.{place_of, any_suits, LaidOut}

-- both tests pass, or all three
both_and : (p a b : Bool) → So (p && a && b) ↔ (So p × So a × So b)
both_and p a b = (λ t. let (u, v) = (and_iff (p && a) b).0 t in let (x, y) = (and_iff p a).0 u in (x, y, v), λ (x, y, v). (and_iff (p && a) b).1 ((and_iff p a).1 (x, y), v))

module _ (W H : ℕ) (suits : ℕ → Rectangle → Bool) (slots : ℕ → Corner → ℕ → ℕ) where
  -- every module of a tree passes
  abbrev Pass : Tree → Placement → Type 0
  Pass t p = (k : ℕ) → So (has t k) → So (suits k (p k))

  module _ (l r : Tree) (apart : (k : ℕ) → So (has l k) → So (has r k) → ⊥) (p q : Placement) where
    pass_left : Pass l (merge l p q) ↔ Pass l p
    pass_left = (λ f k s. rw (merge_left l p q k s) at (f k s), λ f k s. rw (merge_left l p q k s) (f k s))

    pass_right : Pass r (merge l p q) ↔ Pass r q
    pass_right = (λ f k s. rw (merge_right l r p q k apart s) at (f k s), λ f k s. rw (merge_right l r p q k apart s) (f k s))

  pub suited : (t : Tree) → Once t → (c : Corner) (s : Shape)
      → So (goes_down W H suits slots t c s) ↔ (So (goes_down W H any_suits slots t c s) × ((k : ℕ) → So (has t k) → So (suits k (laid W H slots t c s k))))
  unfolding goes_down laid has Once
  suited (leaf t k) o c s = (λ g. (refl, λ j i. rw ((eqb_iff j k).0 i) g), λ g. g.1 k ((eqb_iff k k).1 refl))
  suited (cut t d l r) (ol, or, apart) c box =
      let L = slots (position l) in let R = slots (position r) in let s = left_shape W H d L R c box in let o = right_shape W H d L R c box in
      let p = laid W H slots l c s in let q = laid W H slots r (beside d c s) o in
      let a = both_and (has_pair W H d L R c box) (goes_down W H suits slots l c s) (goes_down W H suits slots r (beside d c s) o) in
      let b = both_and (has_pair W H d L R c box) (goes_down W H any_suits slots l c s) (goes_down W H any_suits slots r (beside d c s) o) in
      let u = suited l ol c s in let v = suited r or (beside d c s) o in let m = pass_left l r apart p q in let n = pass_right l r apart p q in (
        λ g. let (x, y, z) = a.0 g in let (yl, pl) = u.0 y in let (zr, pr) = v.0 z in
            (b.1 (x, yl, zr), λ k i. ⊎_elim (m.1 pl k) (n.1 pr k) ((or_iff (has l k) (has r k)).0 i)),
        λ (g, f). let (x, y, z) = b.0 g in a.1 (
          x,
          u.1 (y, m.0 (λ k i. f k ((or_iff (has l k) (has r k)).1 (inl i)))),
          v.1 (z, n.0 (λ k i. f k ((or_iff (has l k) (has r k)).1 (inr i)))),
        ),
      )

-- of a lawful design laid out, the test of every module's place; where a cut has no pair, no test passes
module _ (board : Board) (suits : ℕ → Rectangle → Bool) (slots : ℕ → Corner → ℕ → ℕ) (d : Design) (lawful : LawfulDesign d) (s : Shape) where
  pub laid_suited : (ps : List Rectangle) → LaidOut board slots d s (Some ps)
      → goes_down board.width.0 board.height.0 suits slots (root d) (corner 0 0) s ≡ all d.modules (λ k. suits k (place_of ps k))
  laid_suited ps z =
      let T = lawful_tree d lawful in let u = suited board.width.0 board.height.0 suits slots (root d) T.once (corner 0 0) s in
      let a = all_iff d.modules (λ k. suits k (place_of ps k)) in
      same_test _ _ (
        λ g. a.1 (λ k h. rw (z.places k h) ((u.0 g).1 k ((T.modules k).1 h))),
        λ f. u.1 (sym z.ok, λ k i. let h = (T.modules k).0 i in rw (z.places k h) at (a.0 f k h)),
      )

  pub none_suited : LaidOut board slots d s None → goes_down board.width.0 board.height.0 suits slots (root d) (corner 0 0) s ≡ false
  none_suited z =
      let u = suited board.width.0 board.height.0 suits slots (root d) (lawful_tree d lawful).once (corner 0 0) s in
      same_test _ false (λ g. z.ok ∙ (u.0 g).0, λ f. absurd_so f)
