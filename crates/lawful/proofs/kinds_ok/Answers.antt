-- The chain tests the listed kinds, and so the places below the width, which is within its limit. Assumes nothing.
use Rattle.std.proofs.Common.{tests}
use Rattle.std.proofs.lemmas.Iterator.{YieldsList-from_slice}
use Rattle.std.proofs.lemmas.Iterator.Search.{all_from_yields_List}
use mathlib.Core.Path.{◌∙◌}
use borrow.Author.Rules.{rules}
use lib.Dec.{leb}
use lib.ListN.{take}
use Rattle.rules.specs.Design.{last_kind}
use Rattle.lawful.proofs.Listed.{all_listed}
use Rattle.lawful.proofs.kinds_ok.Goals as goal

pub returns : goal.returns
returns c =
    let C = c.args.chip in
    all_from_yields_List (λ k. leb k last_kind) _ _ c.all.result c.all.ensures.ran
    (YieldsList-from_slice (take C.width.0 C.kinds) cc) (λ x b q k. search (rules, tests))
    ∙ all_listed _ C.kinds 0 C.width.0 (search rules)
