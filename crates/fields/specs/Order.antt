-- 01: "Order: form number 1, W, H, B, W kinds, m, three needs for each module, 2m-1 tokens. Nothing follows." Which number that is by
-- its place in the row of numbers, counted from 0; and where in the bytes it begins.
use Rattle.std.specs.Prelude.{Bool, true, false, Option, Some, None, List, ℕ, zero, suc, ◌+◌, ◌-◌, ◌*◌, ◌/◌, ◌%◌, ltb}
use Rattle.rules.specs.Bytes.{Took, took, refuse, number_at}
use Rattle.fields.specs.declared.Field.{Field}
use Rattle.fields.specs.declared.Field.TheVariants.{Form, Width, Height, Block, Kind, Modules, Clbs, Rams, Multipliers, Token, After}

-- a number begins where the last one ended, the first at 0; where none stands the place stays
abbrev pub next : ℕ → Took ℕ → ℕ
next at (took v n) = n
next at (refuse e) = at

unfoldable pub after_number : List ℕ → ℕ → ℕ
after_number s at = next at (number_at s at)

-- the value of the number that stands there, if any does
abbrev pub value : Took ℕ → Option ℕ
value (took v n) = Some v
value (refuse e) = None

unfoldable pub value_at : List ℕ → ℕ → Option ℕ
value_at s at = value (number_at s at)

unfoldable pub place_of : List ℕ → ℕ → ℕ
place_of s zero = 0
place_of s (suc n) = after_number s (place_of s n)

-- one or the other
abbrev pub pick : Bool → Field → Field → Field
pick true a b = a
pick false a b = b

-- "three needs for each module": CLBs, RAMs, multipliers
abbrev pub need_number : ℕ → ℕ → Field
need_number k zero = Clbs k
need_number k (suc zero) = Rams k
need_number k (suc (suc n)) = Multipliers k

-- "2m-1 tokens. Nothing follows."
unfoldable pub need_or_token : ℕ → ℕ → Field
need_or_token m n =
    pick (ltb (n / 3) m) (need_number (n / 3) (n % 3))
    (pick (ltb (n - 3 * m + 1) (2 * m)) (Token (n - 3 * m + 1) (2 * m - 1)) After)

-- "m"
abbrev pub after_kinds : ℕ → ℕ → Field
after_kinds m zero = Modules
after_kinds m (suc n) = need_or_token m n

-- "form number 1, W, H, B, W kinds"
abbrev pub field_of : ℕ → ℕ → ℕ → Field
field_of w m zero = Form
field_of w m (suc zero) = Width
field_of w m (suc (suc zero)) = Height
field_of w m (suc (suc (suc zero))) = Block
field_of w m (suc (suc (suc (suc x)))) = pick (ltb x w) (Kind x) (after_kinds m (x - w))
