-- Tests, counts and sums over the numbers below a bound. A test is a Bool, and `So b` says that it holds.
use Rattle.std.specs.Prelude.{Bool, true, false, ℕ, zero, suc, ◌+◌}

-- some number below n passes
unfoldable pub any : ℕ → (ℕ → Bool) → Bool
any zero f = false
any (suc n) f = elim (f n) [ true ↦ true | false ↦ any n f ]

-- every number below n passes
unfoldable pub all : ℕ → (ℕ → Bool) → Bool
all zero f = true
all (suc n) f = elim (f n) [ true ↦ all n f | false ↦ false ]

-- the least of i, i + 1, .., i + n - 1 that passes, or i + n where none does
unfoldable pub least : (ℕ → Bool) → ℕ → ℕ → ℕ
least f zero i = i
least f (suc n) i = elim (f i) [ true ↦ i | false ↦ least f n (suc i) ]

-- how many numbers below n pass
unfoldable pub count : ℕ → (ℕ → Bool) → ℕ
count zero f = 0
count (suc n) f = elim (f n) [ true ↦ 1 + count n f | false ↦ count n f ]

-- the sum of g over the numbers below n that pass
unfoldable pub total : ℕ → (ℕ → Bool) → (ℕ → ℕ) → ℕ
total zero f g = 0
total (suc n) f g = elim (f n) [ true ↦ g n + total n f g | false ↦ total n f g ]
