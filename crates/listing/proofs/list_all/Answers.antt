-- `listing::list_all` meets its contract: every node is marked, so all are listed, and by the scan. Assumes nothing.
use mathlib.Core.Bool.{true, false}
use native.Mathlib.Omega.{arith}
use lib.ListN.{get_or-replicate}
use borrow.Author.Rules.{rules}
use Rattle.rules.specs.Design.{most_tokens}
use Rattle.rules.proofs.Limits.{limits}
use Rattle.listing.proofs.Passing.{all_made}
use Rattle.listing.proofs.list_all.Goals as goal

pub list_marked-requires : goal.list_marked-requires
list_marked-requires c = let l = limits _ c.requires.0 in (search rules, λ _ t h. get_or-replicate most_tokens t true false (omega arith))

pub returns : goal.returns
returns c =
    let lawful = c.requires.0 in let l = limits _ lawful in
    all_made lawful (λ t h. get_or-replicate most_tokens t true false (omega arith)) c.list_marked.ensures
