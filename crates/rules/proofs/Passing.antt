-- A design is lawful exactly if it passes its tests, one by one. Assumes nothing.
use mathlib.Core.Path.{◌≡◌}
use mathlib.Core.Logic.{◌↔◌}
use mathlib.Core.Bool.{So}
use mathlib.Core.List.{[], ◌∷◌}
use Prim.Native.Nat.{ℕ, ◌<◌}
use Rattle.rules.specs.declared.Design.{Design}
use Rattle.rules.specs.Chip.{kind_at}
use Rattle.rules.specs.Tree.{things}
use Rattle.rules.specs.Design.{most_columns, most_rows, lawful_kind, most_modules, need_at, nodes, in_range, lawful_need, within_limits, standing_of, root, LawfulDesign, lawful_chip, width_of, height_of}
use Rattle.rules.proofs.Searching.{and_iff, all_iff}
use Rattle.rules.proofs.Nodes.{lawful_iff}

-- The tests of a design handed over as a value: it is lawful exactly if it passes them.
pub record Tests (d : Design) : Type 0 where
  pub width : So (in_range 1 most_columns (width_of d))
  pub height : So (in_range 1 most_rows (height_of d))
  pub block : So (in_range 1 (height_of d) d.chip.block.0)
  pub kinds : (x : ℕ) → x < width_of d → So (lawful_kind (kind_at d.chip x))
  pub modules : So (in_range 1 most_modules d.modules)
  pub needs : (k : ℕ) → k < d.modules → So (lawful_need (need_at d k))
  pub tree : standing_of d (nodes d) ≡ things (root d ∷ [])

pub tests_iff : (d : Design) → LawfulDesign d ↔ Tests d
unfolding within_limits lawful_chip
tests_iff d = (
  λ e. let (t, q) = (lawful_iff d).0 e in let l = simp (and_iff, all_iff) at t in record {
    width = l.0.0.0.0.0;
    height = l.0.0.0.0.1;
    block = l.0.0.0.1;
    kinds = l.0.0.1;
    modules = l.0.1;
    needs = l.1;
    tree = q;
  },
  λ t. (lawful_iff d).1 (simp (and_iff, all_iff) (((((t.width, t.height), t.block), t.kinds), t.modules), t.needs), t.tree),
)
