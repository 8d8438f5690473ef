-- "granted, it makes that one change": the need of one module or one cut, and nothing else; the places stay as many as they
-- are. Assumes nothing.
use mathlib.Core.Path.{◌≡◌, refl, ap}
use mathlib.Core.Bool.{So}
use Prim.Native.Nat.{ℕ}
use native.Mathlib.Omega.{arith}
use lib.Dec.{ltb}
use lib.ListN.{length-set}
use lib.Seq.{get_or-set_same, get_or-set_other}
use Rattle.rules.specs.declared.Direction.{Direction}
use Rattle.rules.specs.declared.Token.TheVariants.{Cut}
use Rattle.rules.specs.declared.Design.{Design}
use Rattle.rules.specs.declared.Need.{Need}
use Rattle.rules.specs.declared.Edit.{Edit}
use Rattle.rules.specs.declared.Edit.TheVariants.{Change, Turn}
use Rattle.rules.specs.Tree.{token_of, is_cut}
use Rattle.rules.specs.Design.{most_modules, Sized, no_need, need_at, token_at, nodes, LawfulDesign}
use Rattle.rules.specs.Edit.{names_place, changed, other}
use Rattle.rules.proofs.Searching.{and_iff, test-iffs, ltb_iff}
use Rattle.rules.proofs.Tokens.{cut_undone}
use Rattle.rules.proofs.Nodes.{modules_within, lawful_tree}
use Rattle.rules.proofs.Changing.{cut_named}

-- an edit leaves the design's places as many as they are
pub edit_sized : (d : Design) (e : Edit) → Sized d → Sized (changed d e)
unfolding changed
edit_sized d (Change k n) z = record { kinds = z.kinds; needs = rw length-set z.needs; tokens = z.tokens }
edit_sized d (Turn t) z = record { kinds = z.kinds; needs = z.needs; tokens = rw length-set z.tokens }

-- "granted, it makes that one change": the need of module k, and no other
pub need_changed : (d : Design) → LawfulDesign d → Sized d → (k : ℕ) (n : Need) → So (names_place d (Change k n))
    → need_at (changed d (Change k n)) k ≡ n
unfolding changed names_place
need_changed d e z k n s =
    let (h, l) = simp test-iffs at s in let (a, b) = modules_within d (lawful_tree d e).limits in
    get_or-set_same d.needs k n no_need (omega arith)

pub needs_kept : (d : Design) (k : ℕ) (n : Need) (j : ℕ) → (j ≡ k → ⊥) → need_at (changed d (Change k n)) j ≡ need_at d j
unfolding changed
needs_kept d k n j o = get_or-set_other d.needs k j n no_need o

pub tokens_of_need : (d : Design) (k : ℕ) (n : Need) → (changed d (Change k n)).tokens ≡ d.tokens
unfolding changed
tokens_of_need d k n = refl

-- or the cut at position t, turned into the other kind, and no other token
pub cut_turned : (d : Design) → LawfulDesign d → Sized d → (t : ℕ) → So (names_place d (Turn t))
    → (c : Direction) × (token_at d t ≡ Cut c) × (token_at (changed d (Turn t)) t ≡ Cut (other c))
unfolding changed names_place
cut_turned d e z t s =
    let (c, x) = cut_named d t s in let (h, l) = (and_iff (ltb t (nodes d)) (is_cut (token_at d t))).0 s in
    let b = (ltb_iff t (nodes d)).0 h in let m = modules_within d (lawful_tree d e).limits in
    (c, x, rw (get_or-set_same d.tokens t _ 0 (omega arith), x) (cut_undone most_modules (other c)))

pub tokens_kept : (d : Design) (t s : ℕ) → (s ≡ t → ⊥) → token_at (changed d (Turn t)) s ≡ token_at d s
unfolding changed
tokens_kept d t s o = ap (token_of most_modules) (get_or-set_other d.tokens t s _ 0 o)

pub needs_of_turn : (d : Design) (t : ℕ) → (changed d (Turn t)).needs ≡ d.needs
unfolding changed
needs_of_turn d t = refl
