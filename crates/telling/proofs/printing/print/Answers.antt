use Rattle.std.proofs.lemmas.Result.{on_ok_weaker}
use Rattle.std.proofs.Output.{if_some_weaken}
use Rattle.telling.proofs.Lines.{print_puts}
use Rattle.std.proofs.Common.{rules, refl}
use Rattle.telling.proofs.printing.print.Goals as goal

pub returns-clause-text : goal.returns-clause-text
returns-clause-text g c = on_ok_weaker _ (if_some_weaken (g.D.Display.output c.args.value) _ _ (λ s. print_puts _ s _ _ _ refl c.min.ensures (search rules))) c.write-put.ensures.writes
