-- The fold over the bytes is their test one after the other. Assumes nothing.
use mathlib.Core.Path.{◌∙◌}
use mathlib.Core.Bool.{true}
use Rattle.std.proofs.Common.{rules}
use Rattle.std.proofs.lemmas.Iterator.{YieldsList-from_slice}
use Rattle.std.proofs.lemmas.Iterator.Consumers.{fold_from_yields_List}
use Rattle.stairs.proofs.Walking.{and_zero, zeros}
use Rattle.stairs.proofs.all_zero.Goals as goal

pub returns : goal.returns
returns c =
    let bytes = c.args.bytes.now in
    fold_from_yields_List _ (and_zero bytes) true c.fold.result c.fold.ensures.ran (YieldsList-from_slice bytes cc) (λ a x b q k. search rules) ∙ zeros bytes
