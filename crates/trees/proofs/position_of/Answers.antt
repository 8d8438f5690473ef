-- The first token that is the module's: its position, or how many there are, is the least that passes. Assumes nothing.
use mathlib.Core.Path.{refl, ◌∙◌, ap}
use native.Mathlib.Omega.{arith}
use Rattle.std.specs.Option.{unwrap_or}
use Rattle.rules.specs.Tree.{is_module, token_of}
use Rattle.rules.specs.Design.{most_modules, token_at, nodes}
use Rattle.rules.proofs.Limits.{limits}
use Rattle.trees.proofs.Seeking.{first_found}
use Rattle.trees.proofs.position_of.Goals as goal

pub returns : goal.returns
returns c =
    let d = c.args.design in
    let seek = first_found (λ v. is_module c.args.k (token_of most_modules v)) (λ t. is_module c.args.k (token_at d t)) d.tokens (nodes d)
    (omega (arith, (limits _ c.requires.0).modules)) (λ t h. refl) in
    c.unwrap_or.ensures ∙ ap (λ o. unwrap_or o (nodes d)) c.first_of.ensures ∙ seek
