-- After i digits the value is below 10 to the power i, and there are at most 18 of them, so nothing wraps. Assumes nothing.
use Rattle.std.proofs.Common.{ℕ, ◌*◌, ◌^◌, ◌<◌, ◌≤◌, arith}
use native.Mathlib.Nat.{pow-succ', pow-le-pow_right}
use Rattle.words.proofs.numbers.number_in.Goals as goal

-- one digit more, of at most 18
room : (i : ℕ) → i < 18 → 10 * 10 ^ i ≤ 10 ^ 18
room i h = rw (← pow-succ') (pow-le-pow_right (omega arith) {j = 18} (omega arith))

pub overflow_mul-n : goal.overflow_mul-n
overflow_mul-n c = let now = c.loop-b in omega (arith, room now.b-index (omega arith))

pub overflow_add-n : goal.overflow_add-n
overflow_add-n c = let now = c.loop-b in omega (arith, room now.b-index (omega arith))
