-- Where the blocks of a column stand: each ends on the chip, so its numbers are small. Assumes nothing.
use Rattle.std.proofs.Common.{◌≡◌, ℕ, zero, suc, ◌+◌, ◌*◌, ◌/◌, ◌<◌, ◌≤◌, Bool, refl, ap, ◌∙◌, le-div_iff_mul-le, add-one, arith}
use Rattle.rules.specs.Search.{count}
use Rattle.rules.specs.declared.Chip.{Chip}
use Rattle.rules.specs.declared.Rectangle.{Rectangle}
use Rattle.rules.specs.Chip.{Column, column_of, covers_block, left, bottom, top}
use Rattle.rules.specs.Chip.{column, kind_at}
use Rattle.blocks.specs.Cut.{Within, IsBlock, covers, counted}

-- a column that is not of CLBs
pub block_high : (C : Chip) (k : ℕ) → (k ≡ 0 → ⊥) → C.block.0 ≡ (column_of C k).high
unfolding column_of
block_high C zero h = absurd (h refl)
block_high C (suc k) h = refl

pub block_many : (C : Chip) (k : ℕ) → (k ≡ 0 → ⊥) → C.height.0 / C.block.0 ≡ (column_of C k).many
unfolding column_of
block_many C zero h = absurd (h refl)
block_many C (suc k) h = refl

-- a column of CLBs
pub clb_high : (C : Chip) (k : ℕ) → k ≡ 0 → 1 ≡ (column_of C k).high
unfolding column_of
clb_high C k e = rw e

pub clb_many : (C : Chip) (k : ℕ) → k ≡ 0 → C.height.0 ≡ (column_of C k).many
unfolding column_of
clb_many C k e = rw e

-- blocks start at row 0
pub from_row_0 : (C : Chip) (k : ℕ) → (column_of C k).first ≡ 0
unfolding column_of
from_row_0 C zero = refl
from_row_0 C (suc k) = refl

-- each ends on the chip
pub ends : (C : Chip) (k j : ℕ) → 0 < C.block.0 → j < (column_of C k).many → suc j * (column_of C k).high ≤ C.height.0
unfolding column_of
ends C zero j b h = omega arith
ends C (suc k) j b h = (le-div_iff_mul-le b).0 h

-- so the rows below it and its own are rows of the chip
pub on_chip : (C : Chip) (x j : ℕ) {k h : ℕ} → k ≡ kind_at C x → h ≡ (column_of C k).high → Within C → j < (column C x).many
    → j * h + h ≤ C.height.0
unfolding column
on_chip C x j e f w l = let s = ends C (kind_at C x) j w.some_rows l in rw (f, e) (omega arith)

pub is_block : (C : Chip) (x j : ℕ) {k h : ℕ} (b : Rectangle) → k ≡ kind_at C x → h ≡ (column_of C k).high
    → left b ≡ x → b.shape.w.0 ≡ 1 → bottom b ≡ j * h → b.shape.h.0 ≡ h → IsBlock (column C x) x j b
unfolding column
is_block C x j b e f p q s t =
    let z = from_row_0 C (kind_at C x) in let g : b.shape.h.0 ≡ (column_of C (kind_at C x)).high = cc in
    record { column = p; wide = q; low = rw z (omega (arith, s ∙ ap (λ (n : ℕ). j * n) (f ∙ ap (λ (i : ℕ). (column_of C i).high) e))); high = g }

-- to cover a block's rectangle is to cover the block
pub covers_is : (c : Column) (r b : Rectangle) (x j : ℕ) → IsBlock c x j b → covers r b ≡ covers_block c (bottom r) (top r) j
unfolding covers covers_block
covers_is c r b x j i =
    let e : c.first + j * c.high + c.high ≡ c.first + suc j * c.high = omega arith in rw (i.low, i.high, e)

-- a count with one block more
counted_next : (j : ℕ) (f : ℕ → Bool) → counted (f j) (count j f) ≡ count (j + 1) f
unfolding count
counted_next j f = rw add-one

pub one_more : (c : Column) (r b : Rectangle) (x j : ℕ) {n m : ℕ} {is : Bool} → IsBlock c x j b → is ≡ covers r b
    → n ≡ count j (covers_block c (bottom r) (top r)) → m ≡ counted is n → m ≡ count (j + 1) (covers_block c (bottom r) (top r))
one_more c r b x j i e f g = rw (g, f, e, covers_is c r b x j i) (counted_next j (covers_block c (bottom r) (top r)))
