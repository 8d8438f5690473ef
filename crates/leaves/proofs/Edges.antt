-- A row less. Of blocks that stand one on the other one is lost exactly where the row is the last of a whole block, and the edge then goes
-- down to the end of the block below. So a row less asks for no division. Assumes nothing.
use mathlib.Core.Path.{◌≡◌, refl}
use Prim.Native.Nat.{ℕ, suc, ◌+◌, ◌-◌, ◌*◌, ◌/◌, ◌≤◌, ◌<◌}
use native.Mathlib.Omega.{arith}
use native.Mathlib.Nat.{le_refl, le_antisymm, suc-mul, mul-le-mul, le-div_iff_mul-le, div-lt_iff_lt-mul, div-mul-le_self}
use native.Mathlib.Decide.{dec_lt}
use borrow.Author.Tests.{lt-ltb, le-ltb}
use Rattle.rules.proofs.Test.{blocks_between}
use Rattle.leaves.specs.Room.{edge_above, edge_of}

-- where a block stands whole from row y on, the last block ends a block's height above row y, or higher
pub blocks_end : (B y far : ℕ) → 0 < B → 0 < blocks_between B y far → y + B ≤ far / B * B
unfolding blocks_between
blocks_end B y far some p =
    let first = (y + (B - 1)) / B in let a : y + (B - 1) < suc first * B = (div-lt_iff_lt-mul some).0 (omega arith) in
    let b : suc first * B ≤ far / B * B = mul-le-mul (omega arith) (le_refl B) in omega (arith, suc-mul first B)

module _ (B y h : ℕ) (some : 0 < B) where
  -- how many blocks end by the highest row, and by the row below
  abbrev by : ℕ
  by = (y + suc h) / B

  abbrev below : ℕ
  below = (y + h) / B

  -- as many where none ends with the row, and one less where one does
  no_end : (y + suc h ≡ by * B → ⊥) → below ≡ by
  no_end k =
      le_antisymm ((le-div_iff_mul-le some).1 (omega (arith, div-mul-le_self (y + h) B)))
      ((le-div_iff_mul-le some).1 (omega (arith, div-mul-le_self (y + suc h) B, k)))

  an_end : y + suc h ≡ by * B → suc below ≡ by
  an_end e =
      let p : below < by = (div-lt_iff_lt-mul some).1 (omega arith) in
      let n : y + h < suc below * B = (div-lt_iff_lt-mul some).0 (omega arith) in
      let r : by < suc (suc below) = (div-lt_iff_lt-mul some).1 (omega (arith, suc-mul (suc below) B)) in omega arith

  -- the first block that begins at row y or above; so many blocks stand whole up to the highest row; and where the last of them ends
  abbrev first : ℕ
  first = (y + (B - 1)) / B

  abbrev many : ℕ
  many = blocks_between B y (y + suc h)

  abbrev edge : ℕ
  edge = edge_of B y (y + suc h)

  no_more : below ≤ by
  no_more = (le-div_iff_mul-le some).1 (omega (arith, div-mul-le_self (y + h) B))

  -- with a block the edge is where the last one ends, and without any it is 0
  some_edge : 0 < many → edge ≡ by * B - y
  some_edge p = rw (lt-ltb 0 many p)

  no_edge : (0 < many → ⊥) → edge ≡ 0
  no_edge p = rw (le-ltb 0 many (omega arith))

  ends_block : suc h ≡ edge → (0 < many) × (y + suc h ≡ by * B)
  ends_block e = go (dec_lt 0 many)
    where
      go : Dec (0 < many) → (0 < many) × (y + suc h ≡ by * B)
      go (yes p) = (p, omega (arith, some_edge p))
      go (no p) = absurd (omega (arith, no_edge p))

  -- the highest row is the last of a whole block: there is one block less, and the edge goes down by its rows
  pub at_edge : suc h ≡ edge
      → (0 < many) × (blocks_between B y (y + h) ≡ many - 1) × (edge_of B y (y + h) ≡ edge_above B edge (many - 1))
  unfolding blocks_between
  at_edge e =
      let (p, q) = ends_block e in let b = an_end q in
      let w : by * B ≡ below * B + B = rw (← b) (suc-mul below B) in let z : below * B - y ≡ edge - B = omega (arith, some_edge p) in
      let m : blocks_between B y (y + h) ≡ many - 1 = omega arith in (p, m, rw (m, z))

  -- the edge is no lower than a block is high
  pub block_under : 0 < many → B ≤ edge
  block_under p = omega (arith, some_edge p, blocks_end B y (y + suc h) some p)

  -- it is not: blocks and edge stay
  pub off_edge : (suc h ≡ edge → ⊥) → (blocks_between B y (y + h) ≡ many) × (edge_of B y (y + h) ≡ edge)
  unfolding blocks_between
  off_edge k = go (dec_lt 0 many)
    where
      go : Dec (0 < many) → (blocks_between B y (y + h) ≡ many) × (edge_of B y (y + h) ≡ edge)
      go (yes p) = let e = no_end (λ q. k (omega (arith, some_edge p))) in rw e (refl, refl)
      go (no p) = let m : blocks_between B y (y + h) ≡ many = omega (arith, no_more) in (m, rw (m, le-ltb 0 many (omega arith)))
