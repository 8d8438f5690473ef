-- The chain tests the listed needs, and so the places below the number of modules, which is within its limit. Assumes nothing.
use Rattle.std.proofs.Common.{tests}
use Rattle.std.proofs.lemmas.Iterator.{YieldsList-from_slice}
use Rattle.std.proofs.lemmas.Iterator.Search.{all_from_yields_List}
use mathlib.Core.Path.{◌∙◌}
use borrow.Author.Rules.{rules}
use lib.ListN.{take}
use Rattle.rules.specs.Design.{no_need, lawful_need}
use Rattle.lawful.proofs.Listed.{all_listed}
use Rattle.lawful.proofs.needs_ok.Goals as goal

pub returns : goal.returns
returns c =
    let d = c.args.d in
    all_from_yields_List lawful_need _ _ c.all.result c.all.ensures.ran
    (YieldsList-from_slice (take d.modules d.needs) cc) (λ x b q k. search (rules, tests))
    ∙ all_listed _ d.needs no_need d.modules (search rules)
