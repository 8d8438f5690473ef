-- The count of modules is within its limits, so every need has its place. The places that are not read stay zero. Assumes nothing.
use borrow.Author.Rules.{rules}
use Rattle.std.proofs.lemmas.Result.{err_from_is_err_and}
use Rattle.rules.specs.Design.{most_modules, no_need}
use Rattle.rules.specs.Bytes.{need_of}
use Rattle.numbers.proofs.Answers.{was_taken}
use Rattle.reading.specs.Stages.{needs_at}
use Rattle.reading.proofs.Answers.{goes_on, limited_fits}
use Rattle.reading.proofs.Rows.{row_taken, row_refused, filled}
use Rattle.reading.proofs.read_needs.Goals as goal

pub slice_bounds-needs-end : goal.slice_bounds-needs-end
slice_bounds-needs-end c =
    let l = (limited_fits _ _ _ _ (was_taken _ c.limited-number.ensures c.in-Ok.is)).1 in search rules

pub slice_bounds-row-end : goal.slice_bounds-row-end
slice_bounds-row-end c =
    let l = (limited_fits _ _ _ _ (was_taken _ c.limited-number.ensures c.in-Ok.is)).1 in search rules

pub returns-in_err-next : goal.returns-in_err-next
unfolding needs_at
returns-in_err-next c =
    let l = (limited_fits _ _ _ _ (was_taken _ c.limited-number.ensures c.in-Ok.is)).1 in
    let r = c.read_row.ensures (need_of c.args.s.now) (λ i r p. search rules) in
    let p = err_from_is_err_and c.from_residual.result c.from_residual.ensures.1 in
    let m = c.in-Ok.modules.value in
    rw (p.1, p.2) (goes_on _ _ c.limited-number.ensures c.in-Ok.is
    (rw (row_refused _ m _ c.read_row.new.row r (search rules) c.in_err-next.was)))

pub returns : goal.returns
unfolding needs_at
returns c =
    let l = (limited_fits _ _ _ _ (was_taken _ c.limited-number.ensures c.in-Ok.is)).1 in
    let r = c.read_row.ensures (need_of c.args.s.now) (λ i r p. search rules) in
    let m = c.in-Ok.modules.value in
    goes_on _ _ c.limited-number.ensures c.in-Ok.is
    (rw (row_taken _ m _ c.read_row.new.row r (search rules) c.in_ok-next.was, filled most_modules no_need c.read_row.new.row m (search rules)))
