-- The tokens are read as a row is, over a stack that mirrors what stands. A token is refused where the rules refuse it, and once the
-- tokens are used up the stack's count tells whether one thing stands. Assumes nothing.
use Rattle.std.specs.Prelude.{Some, None}
use Rattle.std.proofs.lemmas.List.{take_all}
use mathlib.Core.Path.{◌≡◌, refl, ◌∙◌}
use mathlib.Core.List.{List, [], ◌∷◌, ◌++◌, append-nil}
use Prim.Native.Nat.{ℕ, suc, ◌+◌, ◌-◌, ◌≤◌, ◌<◌}
use native.Mathlib.Omega.{arith}
use native.Mathlib.Numerals.{add-one}
use lib.ListN.{length, set, take, length-set}
use Rattle.rules.specs.declared.Refusal.{Refusal}
use Rattle.rules.specs.declared.Refusal.TheVariants.{BadToken, NotOneThing}
use Rattle.rules.specs.Tree.{Tree, refused, token_of, after}
use Rattle.rules.specs.Design.{most_modules}
use Rattle.rules.specs.Bytes.{Took, took, refuse, and_then, number_at, only_one, kept_token, tokens_at}
use Rattle.rules.proofs.Tokens.{kept_small}
use Rattle.lawful.specs.declared.Stack.{Stack}
use Rattle.lawful.specs.Stack.{empty_stack, after_token, Mirrors}
use Rattle.lawful.proofs.Mirroring.{empty_mirrors, token_refused, token_passed, one_more, one_thing}
use Rattle.reading.proofs.Rows.{Reading, begun}
use Rattle.reading.proofs.Rows as rows

-- i of n tokens have been read, from one position up to another, and these trees stand
pub record ReadingTokens (s : List ℕ) (m n from at i : ℕ) (stack : Stack) (tokens : List ℕ) : Type 0 where
  pub trees : List Tree
  pub long : length tokens ≡ n
  pub mirrors : Mirrors stack trees
  pub most : stack.count ≤ i
  pub reading : Reading (tokens_at s m 0 n [] from) (tokens_at s m i (n - i) trees at) i tokens

pub tokens_begun : (s : List ℕ) (m n from : ℕ) {tokens : List ℕ} → length tokens ≡ n → ReadingTokens s m n from from 0 empty_stack tokens
unfolding empty_stack
tokens_begun s m n from l = record {
  trees = [];
  long = l;
  mirrors = empty_mirrors;
  most = omega arith;
  reading = let e : n - 0 ≡ n = omega arith in rw e (begun _);
}

module _ {s : List ℕ} {m n from at i : ℕ} {stack : Stack} {tokens : List ℕ}
    (R : ReadingTokens s m n from at i stack tokens) where
  abbrev whole : Took (List ℕ)
  whole = tokens_at s m 0 n [] from

  -- the next token
  module _ (h : i < length tokens) where
    more : i < n
    more = omega (arith, R.long)

    rest : tokens_at s m i (n - i) R.trees at
        ≡ and_then (number_at s at) λ k next. kept_token at (after m i (token_of most_modules k) R.trees) λ now.
        and_then (tokens_at s m (i + 1) (n - (i + 1)) now next) λ ks end. took (k ∷ ks) end
    unfolding tokens_at
    rest = let l = more in let e : n - i ≡ suc (n - suc i) = omega arith in rw (add-one, e, tokens_at)

    pub token_unread : {e : Refusal} → number_at s at ≡ refuse e → whole ≡ refuse e
    token_unread q = (rw (rest, q) at R.reading).left

    module _ {k next : ℕ} (q : number_at s at ≡ took k next) where
      refuses : after m i (token_of most_modules k) R.trees ≡ refused → whole ≡ refuse (BadToken at)
      refuses f = (rw (rest, q, f) at R.reading).left

      -- with what the token leaves
      module _ (few : m ≤ most_modules) where
        pub token_bad : after_token m (token_of most_modules k) stack ≡ None → whole ≡ refuse (BadToken at)
        token_bad o = refuses (token_refused m i (token_of most_modules k) few R.mirrors o)

        module _ {p : Stack} (o : after_token m (token_of most_modules k) stack ≡ Some p) where
          -- a token that is kept is a byte, since it says a cut or a module
          pub token_byte : k < 256
          token_byte =
              let (us, u, M) = token_passed m i (token_of most_modules k) few R.mirrors o in
              omega (arith, kept_small most_modules m i k R.trees us u)

          pub token_kept : ReadingTokens s m n from next (i + 1) p (set tokens i k)
          token_kept =
              let (us, u, M) = token_passed m i (token_of most_modules k) few R.mirrors o in
              let a = one_more m (token_of most_modules k) stack _ o in record {
                trees = us;
                long = length-set tokens i k ∙ R.long;
                mirrors = M;
                most = omega (arith, R.most);
                reading = rows.one_more k _ (rw (rest, q, u) at R.reading) h;
              }

  -- the tokens are used up
  module _ (h : length tokens ≤ i) where
    no_more : n ≤ i
    no_more = omega (arith, R.long)

    none_left : tokens_at s m i (n - i) R.trees at ≡ only_one s at R.trees
    unfolding tokens_at
    none_left = let l = no_more in let e : n - i ≡ 0 = omega arith in rw (e, tokens_at)

    pub one_stands : stack.count ≡ 1 → whole ≡ took tokens at
    one_stands e = (rw (none_left, (one_thing R.mirrors e).1) at R.reading.left) ∙ rw (append-nil, take_all i tokens h)

    pub not_one_stands : (stack.count ≡ 1 → ⊥) → whole ≡ refuse (NotOneThing (length s))
    not_one_stands e = (rw none_left at R.reading.left) ∙ go R.trees R.mirrors
      where
        go : (ts : List Tree) → Mirrors stack ts
            → (and_then (only_one s at ts) λ more end. took (take i tokens ++ more) end) ≡ refuse (NotOneThing (length s))
        go [] M = refl
        go (t ∷ []) M = absurd (e M.count)
        go (t ∷ (u ∷ ts)) M = refl
