-- The places that are not read stay zero. Assumes nothing.
use Prim.Native.Nat.{ℕ}
use borrow.Author.Rules.{rules}
use Rattle.std.proofs.lemmas.Result.{err_from_is_err_and}
use Rattle.rules.specs.declared.Refusal.TheVariants.{BreaksLimits}
use Rattle.rules.specs.Design.{most_columns, lawful_kind, width_of}
use Rattle.rules.specs.Bytes.{checked_at}
use Rattle.reading.specs.Stages.{kinds_at}
use Rattle.reading.proofs.Rows.{row_taken, row_refused, filled}
use Rattle.reading.proofs.read_kinds.Goals as goal

pub returns-in_err-next : goal.returns-in_err-next
unfolding kinds_at
returns-in_err-next c =
    let s = c.args.s.now in let d = c.args.last.value in
    let r = c.read_row.ensures (checked_at lawful_kind BreaksLimits s) (λ i r p. search rules) in
    let p = err_from_is_err_and c.from_residual.result c.from_residual.ensures.1 in
    rw (p.1, p.2, row_refused _ (width_of d) _ c.read_row.new.row r (search rules) c.in_err-next.was)

pub returns : goal.returns
unfolding kinds_at
returns c =
    let s = c.args.s.now in let d = c.args.last.value in
    let r = c.read_row.ensures (checked_at lawful_kind BreaksLimits s) (λ i r p. search rules) in
    rw (row_taken _ (width_of d) _ c.read_row.new.row r (search rules) c.in_ok-next.was, filled {A = ℕ} most_columns 0 c.read_row.new.row (width_of d) (search rules))
