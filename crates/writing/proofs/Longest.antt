-- How many bytes the longest lawful design takes: each number is within its limit, and a lesser number takes no more bytes. No limit
-- is named. Assumes nothing.
use Prim.Native.Nat.{ℕ, ◌+◌, ◌*◌, ◌≤◌, ◌<◌}
use native.Mathlib.Omega.{arith}
use native.Mathlib.Nat.{le_trans, mul-le-mul_left}
use lib.ListN.{length, get_or}
use Rattle.rules.specs.declared.Design.{Design}
use Rattle.rules.specs.Chip.{kind_at}
use Rattle.rules.specs.Design.{most_tokens, most_columns, most_rows, last_kind, most_modules, most_number}
use Rattle.rules.specs.Design.{need_at, nodes, LawfulDesign, width_of, height_of}
use Rattle.rules.specs.Bytes.{number_bytes, need_bytes, design_bytes}
use Rattle.rules.proofs.Tokens.{small_number}
use Rattle.rules.proofs.Nodes.{never_beyond}
use Rattle.rules.proofs.Limits.{limits, need_limits}
use Rattle.writing.specs.Parts.{widest, design_size}
use Rattle.writing.proofs.Lengths.{lesser_shorter, length_need, row_short, length_design}

module _ (d : Design) (lawful : LawfulDesign d) where
  -- the tokens of a lawful design are its cuts and its modules
  token_small : (t : ℕ) → t < nodes d → get_or d.tokens t 0 ≤ most_modules + 1
  token_small t h = omega (arith, small_number most_modules (get_or d.tokens t 0) (never_beyond d lawful t h))

  need_small : (k : ℕ) → k < d.modules → length (need_bytes (need_at d k)) ≤ 3 * widest most_number
  need_small k h =
      let n = need_at d k in let l = need_limits n ((limits d lawful).needs k h) in
      let a = lesser_shorter n.clbs most_number l.clbs in let b = lesser_shorter n.rams most_number l.rams in
      let c = lesser_shorter n.multipliers most_number l.multipliers in omega (arith, length_need n)

  -- what is put together: the form number, W, H, B, the kinds, m, the needs, the tokens
  pub longest : length (design_bytes d) ≤ design_size
  unfolding design_size
  longest =
      let l = limits d lawful in let w = lesser_shorter (width_of d) most_columns l.chip.width in
      let h = lesser_shorter (height_of d) most_rows l.chip.height in
      let b = lesser_shorter d.chip.block.0 most_rows (omega arith) in
      let m = lesser_shorter d.modules most_modules l.modules in
      let kind = widest last_kind in let need = 3 * widest most_number in let token = widest (most_modules + 1) in
      let kinds = le_trans
      (row_short number_bytes (kind_at d.chip) kind (width_of d) (λ x i. lesser_shorter _ last_kind (l.chip.kinds x i)))
      (mul-le-mul_left kind l.chip.width) in
      let needs = le_trans (row_short need_bytes (need_at d) need d.modules need_small) (mul-le-mul_left need l.modules) in
      let few : nodes d ≤ most_tokens = omega arith in
      let tokens = le_trans
      (row_short number_bytes (λ t. get_or d.tokens t 0) token (nodes d)
      (λ t i. lesser_shorter _ (most_modules + 1) (token_small t i))) (mul-le-mul_left token few) in
      omega (arith, length_design d)
