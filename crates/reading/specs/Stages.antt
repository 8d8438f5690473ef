-- A design is read in four stages, in file order, each over the design that the last one left; Whole.antt, in proofs/, shows that
-- they are the rules' reading.
use Rattle.std.specs.Prelude.{◌≡◌, Result, Ok, Err, List, [], ℕ, eqb}
use Rattle.rules.specs.declared.Chip.{Chip}
use Rattle.rules.specs.declared.Design.{Design}
use Rattle.rules.specs.declared.Refusal.{Refusal}
use Rattle.numbers.specs.declared.Taken.{Taken}
use Rattle.numbers.specs.Replies.{reply_of}
use Rattle.rules.specs.declared.Refusal.TheVariants.{WrongForm, BreaksLimits}
use Rattle.rules.specs.Design.{most_columns, most_rows, lawful_kind, most_modules, most_tokens, no_need, nodes, width_of, with_chip, with_modules, with_tokens}
use Rattle.rules.specs.Bytes.{Took, took, refuse, and_then, checked_at, limited_at, row_at, need_of, tokens_at, padded, chip_from, design_from}

-- what a reader of one thing answers is what the rules take
abbrev pub Answers : {A : Type 0} → (ℕ → Took A) → (ℕ → Result (Taken A) Refusal → Type 0) → Type 0
Answers f post = (at : ℕ) (r : _) → post at r → r ≡ reply_of (f at)

-- the row that the rules take stands in its places; or the refusal is theirs
abbrev pub RowRead : {A : Type 0} → Took (List A) → List A → Result ℕ Refusal → Type 0
RowRead (took xs end) row r = (row ≡ xs) × (r ≡ Ok end)
RowRead (refuse e) row r = r ≡ Err e

-- the form number, then W, H and B
unfoldable pub sizes_at : List ℕ → Took Design
sizes_at s =
    and_then (checked_at (λ v. eqb v 1) WrongForm s 0) λ form at-w.
    and_then (limited_at 1 most_columns s at-w) λ w at-h.
    and_then (limited_at 1 most_rows s at-h) λ h at_b.
    and_then (limited_at 1 h s at_b) λ b next. took (design_from (chip_from w h b []) 0 [] []) next

-- the kinds of the columns
abbrev pub with_kinds : Chip → List ℕ → Chip
with_kinds C ks = record { width = C.width; height = C.height; block = C.block; kinds = padded most_columns 0 ks }

unfoldable pub kinds_at : List ℕ → Design → ℕ → Took Design
kinds_at s d at =
    and_then (row_at (checked_at lawful_kind BreaksLimits s) (width_of d) at) λ ks next.
    took (with_chip d (with_kinds d.chip ks)) next

-- the count of modules, and their needs
unfoldable pub needs_at : List ℕ → Design → ℕ → Took Design
needs_at s d at =
    and_then (limited_at 1 most_modules s at) λ m at-needs.
    and_then (row_at (need_of s) m at-needs) λ ns next. took (with_modules d m (padded most_modules no_need ns)) next

-- the tokens
unfoldable pub tree_at : List ℕ → Design → ℕ → Took Design
tree_at s d at =
    and_then (tokens_at s d.modules 0 (nodes d) [] at) λ ts next. took (with_tokens d (padded most_tokens 0 ts)) next
