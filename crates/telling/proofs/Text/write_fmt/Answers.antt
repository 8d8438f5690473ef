use Rattle.std.proofs.lemmas.Result.{on_ok_weaker}
use Rattle.std.proofs.Output.{if_some_weaken}
use Rattle.telling.proofs.Lines.{said_more}
use Rattle.std.proofs.Common.{rules}
use Rattle.telling.proofs.Text.write_fmt.Goals as goal

pub returns-clause-text : goal.returns-clause-text
returns-clause-text g c = on_ok_weaker _ (if_some_weaken (g.D.Display.output c.args.value) _ _ (λ s e. said_more _ _ _ _ _ s c.self.view_is c.self.invariant (search rules) c.print-more.ensures.there e)) c.print-more.ensures.text
