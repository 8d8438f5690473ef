-- The plan program, rule 26 of docs/RULES.md: its two sizes, and the text that it prints.
use Rattle.std.specs.Prelude.{true, false, List, [], ◌∷◌, ◌++◌, ℕ, zero, suc, ◌+◌, ◌/◌, ◌%◌, ltb, replicate, Ok, Err}
use Rattle.rules.specs.Answers.{Planned}
use Rattle.rules.specs.Choice.{row_of}
use Rattle.rules.specs.Check.{from_rows}
use Rattle.rules.specs.Reply.{refusal}

-- "The program reads at most 4,096 bytes, enough to decide every reading. It keeps a work array of 65,536 bytes", zeroed
abbrev pub program_input : ℕ
program_input = 4096

abbrev pub program_work : ℕ
program_work = 65536

unfoldable pub zeroed : ℕ → List ℕ
zeroed n = replicate n 0

-- a number of at most so many digits, in ASCII, without leading zeros
unfoldable pub decimal : ℕ → ℕ → List ℕ
decimal zero n = []
decimal (suc k) n = elim (ltb n 10) [ true ↦ (48 + n) ∷ [] | false ↦ decimal k (n / 10) ++ ((48 + n % 10) ∷ []) ]

-- numbers in a line: a space before each, and a newline at the end
unfoldable pub figures : List ℕ → List ℕ
figures [] = 10 ∷ []
figures (n ∷ ns) = 32 ∷ (decimal 5 n ++ figures ns)

-- "a line for each module follows: k x y w h"
unfoldable pub module_line : ℕ → List ℕ → List ℕ
module_line k rows = decimal 5 k ++ figures (row_of (from_rows rows k))

unfoldable pub module_lines : ℕ → List ℕ → List ℕ
module_lines zero rows = []
module_lines (suc k) rows = module_lines k rows ++ module_line k rows

-- "prints "plan", the number, then box width and height (0), or the position (1 to 7; otherwise 0)"
abbrev pub plan_line : List ℕ → List ℕ
plan_line ns = 112 ∷ 108 ∷ 97 ∷ 110 ∷ figures ns

unfoldable pub plan_text : Planned → ℕ → List ℕ → List ℕ
plan_text (Ok s) m rows = plan_line (0 ∷ s.w.0 ∷ s.h.0 ∷ []) ++ module_lines m rows
plan_text (Err e) m rows = plan_line ((refusal e).number ∷ (refusal e).value ∷ [])
