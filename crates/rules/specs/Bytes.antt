-- Design bytes and their reading: rules 18, 19 and 21 of docs/RULES.md.
use Rattle.std.specs.Prelude.{Bool, true, false, List, [], ◌∷◌, ◌++◌, ℕ, zero, suc, ◌+◌, ◌-◌, ◌*◌, ◌/◌, ◌%◌, ◌<◌, leb, ltb, eqb, length, get_or, replicate}
use Rattle.rules.specs.declared.Need.{Need}
use Rattle.rules.specs.declared.Chip.{Chip}
use Rattle.rules.specs.declared.Design.{Design}
use Rattle.rules.specs.declared.Refusal.{Refusal}
use Rattle.rules.specs.declared.Refusal.TheVariants.{Unfinished, Malformed, WrongForm, BreaksLimits, BadToken, NotOneThing, ExtraBytes}
use Rattle.rules.specs.Chip.{kind_at}
use Rattle.rules.specs.Tree.{Tree, Standing, refused, things, token_of, after}
use Rattle.rules.specs.Design.{most_columns, most_rows, lawful_kind, most_modules, most_tokens, most_number, no_need, need_at, nodes, in_range, lawful_need, width_of, height_of}

-- Bytes are numbers below 256.
abbrev pub AreBytes : List ℕ → Type 0
AreBytes s = (i : ℕ) → get_or s i 0 < 256

-- Rule 18: "Every number is written in groups of seven bits, low group first, the top bit set on every byte but the last. Only the
-- shortest form is valid, at most three bytes, value at most 65,535."
unfoldable pub number_bytes : ℕ → List ℕ
number_bytes n =
    elim (ltb n 128) [
      | true ↦ n ∷ []
      | false ↦ elim (ltb n 16384) [
        | true ↦ (128 + n % 128) ∷ (n / 128) ∷ []
        | false ↦ (128 + n % 128) ∷ (128 + n / 128 % 128) ∷ (n / 16384) ∷ []
      ]
    ]

-- A value taken from the bytes, with the position after it; or the refusal that ends the reading.
pub data Took (A : Type 0) : Type 0 where
  took : A → ℕ → Took A
  refuse : Refusal → Took A

abbrev pub and_then : {A B : Type 0} → Took A → (A → ℕ → Took B) → Took B
and_then (took a next) f = f a next
and_then (refuse e) f = refuse e

-- what was taken is kept if the test holds, else refused
abbrev pub judged : {A : Type 0} → Bool → Refusal → Took A → Took A
judged true e t = t
judged false e t = refuse e

-- A number's third, second and first byte. 1: "bytes end inside or before a number". 2: "third byte still has its top bit,
-- value over 65,535, or a longer form than needed". Both stand at the number's first byte, `at`.
unfoldable pub third_byte : List ℕ → ℕ → ℕ → Took ℕ
third_byte s at low =
    judged (ltb (at + 2) (length s)) (Unfinished at)
    (let v = low + 16384 * get_or s (at + 2) 0 in
    judged (ltb 0 (get_or s (at + 2) 0)) (Malformed at) (judged (leb v most_number) (Malformed at) (took v (at + 3))))

unfoldable pub second_byte : List ℕ → ℕ → ℕ → Took ℕ
second_byte s at low =
    judged (ltb (at + 1) (length s)) (Unfinished at)
    (elim (ltb (get_or s (at + 1) 0) 128) [
      | true ↦ judged (ltb 0 (get_or s (at + 1) 0)) (Malformed at) (took (low + 128 * get_or s (at + 1) 0) (at + 2))
      | false ↦ third_byte s at (low + 128 * (get_or s (at + 1) 0 - 128))
    ])

unfoldable pub number_at : List ℕ → ℕ → Took ℕ
number_at s at =
    judged (ltb at (length s)) (Unfinished at)
    (elim (ltb (get_or s at 0) 128) [
      | true ↦ took (get_or s at 0) (at + 1)
      | false ↦ second_byte s at (get_or s at 0 - 128)
    ])

-- Rule 19: "Order: form number 1, W, H, B, W kinds, m, three needs for each module, 2m-1 tokens."
unfoldable pub need_bytes : Need → List ℕ
need_bytes n = number_bytes n.clbs ++ (number_bytes n.rams ++ number_bytes n.multipliers)

-- the bytes of the first n of a row of things
unfoldable pub row_bytes : {A : Type 0} → (A → List ℕ) → (ℕ → A) → ℕ → List ℕ
row_bytes f a zero = []
row_bytes f a (suc n) = row_bytes f a n ++ f (a n)

unfoldable pub design_bytes : Design → List ℕ
design_bytes d =
    number_bytes 1 ++ (number_bytes (width_of d) ++ (number_bytes (height_of d) ++ (number_bytes d.chip.block.0
    ++ (row_bytes number_bytes (kind_at d.chip) (width_of d)
    ++ (number_bytes d.modules ++ (row_bytes need_bytes (need_at d) d.modules
    ++ row_bytes number_bytes (λ t. get_or d.tokens t 0) (nodes d)))))))

-- a number that has to pass a test, refused at its first byte. 3: "form number is not 1"; 4: "a value breaks the limits above"
unfoldable pub checked_at : (ℕ → Bool) → (ℕ → Refusal) → List ℕ → ℕ → Took ℕ
checked_at test refusal s at = and_then (number_at s at) λ v next. judged (test v) (refusal at) (took v next)

abbrev pub limited_at : ℕ → ℕ → List ℕ → ℕ → Took ℕ
limited_at low most = checked_at (in_range low most) BreaksLimits

-- a row of n things, each read where the last one ended
unfoldable pub row_at : {A : Type 0} → (ℕ → Took A) → ℕ → ℕ → Took (List A)
row_at f zero at = took [] at
row_at f (suc n) at = and_then (f at) λ a next. and_then (row_at f n next) λ rest end. took (a ∷ rest) end

-- Rule 21: "an all-zero need: its first number", judged when the third is read
unfoldable pub need_of : List ℕ → ℕ → Took Need
need_of s at =
    and_then (number_at s at) λ a second.
    and_then (number_at s second) λ b third.
    and_then (number_at s third) λ c next.
    let n : Need = record { clbs = a; rams = b; multipliers = c } in
    judged (lawful_need n) (BreaksLimits at) (took n next)

-- 5 at the token; 6 at the length, when the tokens are used up: n more tokens, after t of them, over what stands
abbrev pub only_one : List ℕ → ℕ → List Tree → Took (List ℕ)
only_one s at [] = refuse (NotOneThing (length s))
only_one s at (t ∷ []) = took [] at
only_one s at (t ∷ (u ∷ ts)) = refuse (NotOneThing (length s))

abbrev pub kept_token : ℕ → Standing → (List Tree → Took (List ℕ)) → Took (List ℕ)
kept_token at refused f = refuse (BadToken at)
kept_token at (things ts) f = f ts

unfoldable pub tokens_at : List ℕ → ℕ → ℕ → ℕ → List Tree → ℕ → Took (List ℕ)
tokens_at s m t zero ts at = only_one s at ts
tokens_at s m t (suc n) ts at =
    and_then (number_at s at) λ k next.
    kept_token at (after m t (token_of most_modules k) ts) λ now.
    and_then (tokens_at s m (suc t) n now next) λ ks end. took (k ∷ ks) end

-- Rule 22, places that are ignored: "reading sets them to zero"
unfoldable pub padded : {A : Type 0} → ℕ → A → List A → List A
padded size zeros xs = xs ++ replicate (size - length xs) zeros

abbrev pub chip_from : ℕ → ℕ → ℕ → List ℕ → Chip
chip_from w h b kinds = record {
  width = record { 0 = w };
  height = record { 0 = h };
  block = record { 0 = b };
  kinds = padded most_columns 0 kinds;
}

abbrev pub design_from : Chip → ℕ → List Need → List ℕ → Design
design_from chip m needs tokens = record {
  chip = chip;
  modules = m;
  needs = padded most_modules no_need needs;
  tokens = padded most_tokens 0 tokens;
}

-- Rule 21: "Numbers are judged as they are read: 1 or 2 first, then 3, 4 or 5, then 6, then 7." 7: "bytes after the last token", at the
-- first extra byte.
unfoldable pub design_at : List ℕ → Took Design
design_at s =
    and_then (checked_at (λ v. eqb v 1) WrongForm s 0) λ form at-w.
    and_then (limited_at 1 most_columns s at-w) λ w at-h.
    and_then (limited_at 1 most_rows s at-h) λ h at_b.
    and_then (limited_at 1 h s at_b) λ b at-kinds.
    and_then (row_at (checked_at lawful_kind BreaksLimits s) w at-kinds) λ kinds at-m.
    and_then (limited_at 1 most_modules s at-m) λ m at-needs.
    and_then (row_at (need_of s) m at-needs) λ needs at-tokens.
    and_then (tokens_at s m 0 (2 * m - 1) [] at-tokens) λ tokens end.
    judged (eqb end (length s)) (ExtraBytes end) (took (design_from (chip_from w h b kinds) m needs tokens) end)
