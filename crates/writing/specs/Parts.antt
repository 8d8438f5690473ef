-- 01, "Order: form number 1, W, H, B, W kinds, m, three needs for each module, 2m-1 tokens.": what stands first, and the most bytes that
-- all take together.
use Rattle.std.specs.Prelude.{List, [], ◌∷◌, ℕ, ◌+◌, ◌*◌, length}
use Rattle.rules.specs.declared.Design.{Design}
use Rattle.rules.specs.Design.{most_tokens, most_columns, most_rows, last_kind, most_modules, most_number, width_of, height_of}
use Rattle.rules.specs.Bytes.{number_bytes}

-- the numbers that stand first: the form number, W, H and B
abbrev pub head_numbers : Design → List ℕ
head_numbers d = 1 ∷ width_of d ∷ height_of d ∷ d.chip.block.0 ∷ []

-- the bytes of the longest lawful design: of each number as many as its limit takes; the last module's token is m+1
abbrev pub widest : ℕ → ℕ
widest most = length (number_bytes most)

unfoldable pub design_size : ℕ
design_size =
    widest 1 + widest most_columns + widest most_rows + widest most_rows + widest last_kind * most_columns
    + widest most_modules + 3 * widest most_number * most_modules + widest (most_modules + 1) * most_tokens
