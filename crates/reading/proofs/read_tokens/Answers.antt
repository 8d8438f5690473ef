-- A token that is kept is a byte. The places that are not read stay zero. Assumes nothing.
use Rattle.std.specs.Prelude.{Some, None}
use Rattle.std.proofs.lemmas.Result.{err_from_is_err_and}
use mathlib.Core.Path.{◌≡◌, sym, ◌∙◌}
use Prim.Native.Nat.{◌<◌}
use native.Mathlib.Omega.{arith}
use borrow.Author.Rules.{rules}
use Rattle.rules.specs.declared.Refusal.TheVariants.{BadToken}
use Rattle.rules.specs.Tree.{token_of}
use Rattle.rules.specs.Design.{most_modules, most_tokens}
use Rattle.lawful.specs.Stack.{after_token}
use Rattle.numbers.proofs.Answers.{was_taken, was_refused}
use Rattle.reading.specs.Stages.{tree_at}
use Rattle.reading.proofs.Rows.{filled}
use Rattle.reading.proofs.Trees.{tokens_begun, token_unread, token_bad, token_byte, token_kept, one_stands, not_one_stands}
use Rattle.reading.proofs.read_tokens.Goals as goal
use Rattle.reading.proofs.read_tokens.Goals.{In_ok-stack}

-- the token that is kept
kept : (c : In_ok-stack) → after_token c.args.last.value.modules (token_of most_modules c.in-Ok.taken.value) c.loop-byte.stack ≡ Some c.in_ok-stack.stack
kept c =
    let e : c.after_token.result ≡ Some c.in_ok-stack.stack = grind arith in
    rw c.token_of_number-token.ensures at (sym c.after_token.ensures ∙ e)

pub loop-byte-init : goal.loop-byte-init
loop-byte-init c = rw c.empty_stack-stack.ensures (tokens_begun _ _ _ _ (search rules))

pub returns-in_default : goal.returns-in_default
unfolding tree_at
returns-in_default c =
    rw (token_unread c.loop-byte.invariant (omega arith) (was_refused _ c.take_number-number.ensures c.unwrap_err.ensures))

pub returns-in_err-stack : goal.returns-in_err-stack
unfolding tree_at
returns-in_err-stack c =
    let none : c.after_token.result ≡ None = grind arith in
    let p = err_from_is_err_and c.from_residual.result c.from_residual.ensures.1 in
    let said = rw none at c.ok_or.ensures.value in
    let was = c.in_err-stack.was in
    let bad : c.in_err-stack.field-0.0 ≡ BadToken c.loop-byte.at = cc in
    let q = was_taken _ c.take_number-number.ensures c.in-Ok.is in
    let o = rw c.token_of_number-token.ensures at (sym c.after_token.ensures ∙ none) in
    rw (p.1, p.2, bad, token_bad c.loop-byte.invariant (omega arith) q (search rules) o)

pub overflow_cast-byte : goal.overflow_cast-byte
overflow_cast-byte c =
    let v = c.in-Ok.taken.value in
    let q = was_taken _ c.take_number-number.ensures c.in-Ok.is in
    let small : v < 256 = token_byte c.loop-byte.invariant (omega arith) q (search rules) (kept (goal.at.overflow_cast-byte c).In_ok-stack) in
    omega arith

pub loop-byte-preserved : goal.loop-byte-preserved
loop-byte-preserved c =
    let q = was_taken _ c.take_number-number.ensures c.in-Ok.is in
    token_kept c.loop-byte.invariant (omega arith) q (search rules) (kept (goal.at.loop-byte-preserved c).In_ok-stack)

pub returns-then-stack-ne1 : goal.returns-then-stack-ne1
unfolding tree_at
returns-then-stack-ne1 c = rw (not_one_stands c.loop-byte.invariant (omega arith) c.if-stack-ne1.true)

pub returns : goal.returns
unfolding tree_at
returns c = rw (one_stands c.loop-byte.invariant (omega arith) c.if-stack-ne1.false, filled most_tokens 0 _ _ c.loop-byte.invariant.long)
