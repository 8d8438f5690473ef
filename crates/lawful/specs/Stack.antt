-- Reading tokens one after another with no trees at hand: of the things standing, their count and the modules in them are enough to
-- tell which token is refused. proofs/Mirroring shows that this decides as 01's rule does.
use Rattle.std.specs.Prelude.{◌≡◌, true, false, not, ◌&&◌, List, ℕ, ◌+◌, ◌-◌, ◌<◌, ltb, length, get_or, set, replicate, Option, Some, None}
use Rattle.rules.specs.declared.Token.{Token}
use Rattle.rules.specs.declared.Token.TheVariants.{Cut, Module, Beyond}
use Rattle.rules.specs.Tree.{Tree, Standing, refused, things, stands}
use Rattle.rules.specs.Design.{most_modules}
use Rattle.lawful.specs.declared.Stack.{Stack}

-- nothing stands
unfoldable pub empty_stack : Stack
empty_stack = record { seen = replicate most_modules false; count = 0 }

-- a cut joins two things into one, if there are two
unfoldable pub after_cut : Stack → Option Stack
after_cut s = elim (ltb s.count 2) [ true ↦ None | false ↦ Some (record { seen = s.seen; count = s.count - 1 }) ]

-- a module is one more thing, if it is one of m and does not stand yet
unfoldable pub after_module : ℕ → ℕ → Stack → Option Stack
after_module m k s =
    elim (ltb k m && not (get_or s.seen k false)) [
      | true ↦ Some (record { seen = set s.seen k true; count = s.count + 1 })
      | false ↦ None
    ]

-- the stack after a token, of m modules; none where the token is refused
abbrev pub after_token : ℕ → Token → Stack → Option Stack
after_token m (Cut d) s = after_cut s
after_token m (Module k) s = after_module m k s
after_token m Beyond s = None

-- the stack keeps the count of these things standing, and the modules in them
pub record Mirrors (s : Stack) (ts : List Tree) : Type 0 where
  pub size : length s.seen ≡ most_modules
  pub count : s.count ≡ length ts
  pub seen : (k : ℕ) → k < most_modules → get_or s.seen k false ≡ stands ts k

-- no stack exactly where the rule refuses, and otherwise one that mirrors what then stands
abbrev pub Agrees : Option Stack → Standing → Type 0
Agrees p refused = p ≡ None
Agrees p (things ts) = (s : Stack) × (p ≡ Some s) × Mirrors s ts
