-- A refused token settles the reply, since what is refused stays refused; once the tokens are used up, the count does. Assumes nothing.
use Rattle.std.specs.Prelude.{Some, None}
use Rattle.std.proofs.lemmas.Result.{err_from_is_err_and}
use Rattle.std.proofs.lemmas.List.{get_or-take}
use mathlib.Core.Path.{◌≡◌, sym, ◌∙◌}
use native.Mathlib.Omega.{arith}
use Rattle.rules.specs.declared.Refusal.TheVariants.{BadToken}
use Rattle.rules.specs.Design.{nodes, token_at}
use Rattle.lawful.specs.Stack.{after_token}
use Rattle.lawful.proofs.Mirroring.{stands_first, stands_next, stands_no_more}
use Rattle.lawful.proofs.tree_test.Goals as goal
use Rattle.lawful.proofs.tree_test.Goals.{After-after_token}

-- the token that the code takes is the one at this position
taken : (c : After-after_token)
    → c.after_token.result ≡ after_token c.args.d.modules (token_at c.args.d c.loop-token.token-index) c.loop-token.stack
taken c = let a = c.token_of.ensures in grind (arith, get_or-take)

pub loop-token-init : goal.loop-token-init
loop-token-init c = rw c.empty_stack-stack.ensures (stands_first _ _)

pub returns-in_err-stack : goal.returns-in_err-stack
returns-in_err-stack c =
    let none : c.after_token.result ≡ None = grind arith in
    let p = err_from_is_err_and c.from_residual.result c.from_residual.ensures.1 in
    let said = rw none at c.ok_or.ensures.value in
    let was = c.in_err-stack.was in
    let bad : c.in_err-stack.field-0.0 ≡ BadToken 0 = cc in
    let no = stands_no_more _ _ c.requires.1 c.loop-token.invariant (sym (taken c.before.before.before.before) ∙ none) (nodes c.args.d) (omega arith) in
    rw (p.1, p.2, bad) (sym no)

pub loop-token-preserved : goal.loop-token-preserved
loop-token-preserved c =
    let some : c.after_token.result ≡ Some c.in_ok-stack.stack = grind arith in
    stands_next _ _ c.requires.1 c.loop-token.invariant (sym (taken c.before.before.before) ∙ some)
