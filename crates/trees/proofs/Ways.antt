-- The way up to the root. A node's tree spans a position if that is the node's own or a child's tree spans it, and both children come
-- before the node, so each mark follows from those before it. Assumes nothing.
use mathlib.Core.Path.{◌≡◌, refl, ◌∙◌}
use mathlib.Core.Bool.{Bool, true, false, ◌||◌}
use mathlib.Core.List.{List}
use Prim.Native.Nat.{ℕ, ◌-◌, ◌≤◌, ◌<◌}
use native.Mathlib.Omega.{arith}
use lib.Dec.{eqb}
use lib.ListN.{replicate}
use Rattle.rules.specs.declared.Design.{Design}
use Rattle.rules.specs.Tree.{Tree, position, spans}
use Rattle.rules.specs.Design.{most_tokens, token_at, nodes, node_at, LawfulDesign}
use Rattle.rules.proofs.Standing.{Node, is_leaf, is_cut}
use Rattle.rules.proofs.Nodes.{node_at_lem}
use Rattle.rules.proofs.Limits.{limits}
use Rattle.trees.specs.Positions.{LeftChildren, WayUp, mark_of}
use Rattle.trees.proofs.Arrays.{UpTo, none_yet}
use Rattle.trees.proofs.Lefts.{left_child}

-- the nodes before t are marked
abbrev pub Marked : Design → ℕ → ℕ → List Bool → Type 0
Marked d at t marks = UpTo false (λ u. spans (node_at d u) at) (nodes d) t marks

pub none_marked : (d : Design) (at : ℕ) → LawfulDesign d → Marked d at 0 (replicate most_tokens false)
none_marked d at lawful = none_yet false _ (nodes d) 0 (omega (arith, (limits d lawful).modules)) (λ u h. absurd (omega arith))

pub all_marked : {d : Design} {at t : ℕ} {marks : List Bool} → Marked d at t marks → nodes d ≤ t → WayUp d at marks
all_marked f h = record { node = λ u k. f.before u (omega arith) k; past = f.past }

-- a node's mark is right if those before it are
module _ {d : Design} {lefts : List ℕ} (lawful : LawfulDesign d) (L : LeftChildren d lefts) (at : ℕ) {t : ℕ} {marks : List Bool}
    (f : Marked d at t marks) (h : t < nodes d) where
  pub mark_right : {m : Bool} → m ≡ mark_of (token_at d t) lefts marks t at → m ≡ spans (node_at d t) at
  unfolding mark_of spans
  mark_right e = e ∙ go refl (node_at_lem d lawful t h)
    where
      alone : (b : Bool) → b || false ≡ b
      alone true = refl
      alone false = refl

      go : {u : Tree} → node_at d t ≡ u → Node d.modules (token_at d) t u → mark_of (token_at d t) lefts marks t at ≡ spans (node_at d t) at
      go q (is_leaf e b) = rw (q, mark_of, e) (alone (eqb at t))
      go q (is_cut {l = l} {r = r} e a) =
          let b = left_child lawful L h q in let p : t - 1 ≡ position r = omega arith in
          let x = f.before (position l) (omega arith) (omega arith) in
          let y = f.before (position r) (omega arith) (omega arith) in
          rw (q, mark_of, e, b, p, x, y, ← a.left_is, ← a.right_is)
