-- Terms and nets are lawful if they are not too many and each passes: too many, or one that fails, settles it. Assumes nothing.
use mathlib.Core.Path.{◌≡◌, refl, sym}
use mathlib.Core.Bool.{Bool, true, false, ◌&&◌, So}
use mathlib.Core.List.{List}
use Prim.Native.Nat.{ℕ, ◌≤◌, ◌<◌}
use lib.Dec.{leb, ltb}
use borrow.Author.Tests.{le-leb, lt-leb, le-ltb}
use Rattle.rules.specs.declared.Term.{Term}
use Rattle.rules.specs.declared.Net.{Net}
use Rattle.rules.specs.Search.{all}
use Rattle.rules.specs.Design.{in_range, most_modules}
use Rattle.rules.specs.Score.{most_terms, most_nets, term_at, net_at, member_at, weight_of, lawful_weight, lawful_terms, lawful_net, lawful_nets}
use Rattle.rules.proofs.Searching.{test-iffs, all_iff}
use Rattle.rules.proofs.Testing.{all_fails}

-- one that fails among all
one_fails : (few : Bool) (n : ℕ) (f : ℕ → Bool) (i : ℕ) → i < n → f i ≡ false → false ≡ few && all n f
one_fails true n f i h e = sym (all_fails n f i h e)
one_fails false n f i h e = refl

pub terms_many : (terms : List Term) (n : ℕ) → most_terms < n → false ≡ lawful_terms terms n
unfolding lawful_terms
terms_many terms n h = rw (lt-leb n most_terms h)

pub term_fails : (terms : List Term) (n i : ℕ) → i < n → lawful_weight (weight_of (term_at terms i)) ≡ false → false ≡ lawful_terms terms n
unfolding lawful_terms
term_fails terms n i h e = one_fails (leb n most_terms) n (λ i. lawful_weight (weight_of (term_at terms i))) i h e

pub terms_pass : (terms : List Term) (n : ℕ) → n ≤ most_terms → all n (λ i. lawful_weight (weight_of (term_at terms i))) ≡ true
    → true ≡ lawful_terms terms n
unfolding lawful_terms
terms_pass terms n h e = rw (le-leb n most_terms h, e)

pub net_empty : (m : ℕ) (net : Net) → net.count < 1 → false ≡ lawful_net m net
unfolding lawful_net in_range
net_empty m net h = rw (lt-leb 1 net.count h)

pub net_long : (m : ℕ) (net : Net) → most_modules < net.count → false ≡ lawful_net m net
unfolding lawful_net in_range
net_long m net h = rw (lt-leb net.count most_modules h) (go (leb 1 net.count))
  where
    go : (b : Bool) → false ≡ b && false && all net.count (λ j. ltb (member_at net j) m)
    go true = refl
    go false = refl

pub member_missing : (m : ℕ) (net : Net) (j : ℕ) → j < net.count → m ≤ member_at net j → false ≡ lawful_net m net
unfolding lawful_net
member_missing m net j h k =
    one_fails (in_range 1 most_modules net.count) net.count (λ j. ltb (member_at net j) m) j h (le-ltb (member_at net j) m k)

pub net_passes : (m : ℕ) (net : Net) → 1 ≤ net.count → net.count ≤ most_modules
    → all net.count (λ j. ltb (member_at net j) m) ≡ true → true ≡ lawful_net m net
unfolding lawful_net in_range
net_passes m net h k e = rw (le-leb 1 net.count h, le-leb net.count most_modules k, e)

pub nets_many : (m : ℕ) (nets : List Net) (n : ℕ) → most_nets < n → false ≡ lawful_nets m nets n
unfolding lawful_nets
nets_many m nets n h = rw (lt-leb n most_nets h)

pub net_fails : (m : ℕ) (nets : List Net) (n i : ℕ) → i < n → lawful_net m (net_at nets i) ≡ false → false ≡ lawful_nets m nets n
unfolding lawful_nets
net_fails m nets n i h e = one_fails (leb n most_nets) n (λ i. lawful_net m (net_at nets i)) i h e

pub nets_pass : (m : ℕ) (nets : List Net) (n : ℕ) → n ≤ most_nets → all n (λ i. lawful_net m (net_at nets i)) ≡ true → true ≡ lawful_nets m nets n
unfolding lawful_nets
nets_pass m nets n h e = rw (le-leb n most_nets h, e)

-- and of lawful nets each is lawful
pub net_lawful : (m : ℕ) (nets : List Net) (n i : ℕ) → So (lawful_nets m nets n) → i < n → So (lawful_net m (net_at nets i))
unfolding lawful_nets
net_lawful m nets n i t h = let z = simp (test-iffs, all_iff) at t in z.1 i h
