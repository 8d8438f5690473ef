-- A lawful chip's limits and a lawful design's, one by one: their tests, taken apart; and which rows have slots. Assumes nothing.
use mathlib.Core.Bool.{So}
use Prim.Native.Nat.{ℕ, ◌≤◌, ◌<◌}
use native.Mathlib.Omega.{arith}
use native.Mathlib.Nat.{le_refl}
use Rattle.rules.specs.declared.Need.{Need}
use Rattle.rules.specs.declared.Chip.{Chip}
use Rattle.rules.specs.declared.Design.{Design}
use Rattle.rules.specs.Chip.{kind_at}
use Rattle.rules.specs.Design.{most_columns, most_rows, last_kind, most_modules, most_number, need_at, in_range, lawful_need, lawful_chip, within_limits, LawfulDesign, height_of, slot_rows}
use Rattle.rules.proofs.Searching.{test-iffs, all_iff}
use Rattle.rules.proofs.Nodes.{lawful_iff}

-- every row of the chip has slots, and no other row has
pub every_row : (d : Design) → height_of d ≤ slot_rows d
unfolding slot_rows
every_row d = le_refl (height_of d)

pub no_other_row : (d : Design) → slot_rows d ≤ height_of d
unfolding slot_rows
no_other_row d = le_refl (height_of d)

pub record NeedLimits (n : Need) : Type 0 where
  pub clbs : n.clbs ≤ most_number
  pub rams : n.rams ≤ most_number
  pub multipliers : n.multipliers ≤ most_number

pub need_limits : (n : Need) → So (lawful_need n) → NeedLimits n
unfolding lawful_need
need_limits n t = let s = simp test-iffs at t in record { clbs = omega arith; rams = omega arith; multipliers = omega arith }

pub record ChipLimits (C : Chip) : Type 0 where
  pub wide : 1 ≤ C.width.0
  pub width : C.width.0 ≤ most_columns
  pub high : 1 ≤ C.height.0
  pub height : C.height.0 ≤ most_rows
  pub some_rows : 1 ≤ C.block.0
  pub block : C.block.0 ≤ C.height.0
  pub kinds : (x : ℕ) → x < C.width.0 → kind_at C x ≤ last_kind

pub chip_limits : (C : Chip) → So (lawful_chip C) → ChipLimits C
unfolding lawful_chip in_range
chip_limits C t = let s = simp (test-iffs, all_iff) at t in record {
  wide = omega arith;
  width = omega arith;
  high = omega arith;
  height = omega arith;
  some_rows = omega arith;
  block = omega arith;
  kinds = s.1;
}

pub record Limits (d : Design) : Type 0 where
  pub chip : ChipLimits d.chip
  pub some : 0 < d.modules
  pub modules : d.modules ≤ most_modules
  pub needs : (k : ℕ) → k < d.modules → So (lawful_need (need_at d k))

-- a lawful design's chip is lawful
pub lawful_chip_lem : (d : Design) → LawfulDesign d → So (lawful_chip d.chip)
unfolding within_limits
lawful_chip_lem d e = (simp test-iffs at ((lawful_iff d).0 e).0).0.0

pub limits : (d : Design) → LawfulDesign d → Limits d
unfolding within_limits in_range
limits d e = let s = simp (test-iffs, all_iff) at ((lawful_iff d).0 e).0 in record {
  chip = chip_limits d.chip s.0.0;
  some = omega arith;
  modules = omega arith;
  needs = s.1;
}
