-- What the scan's loops find among the bytes of a slot, f 0, f 1, and so on: a byte that is not 0 is the height of a shape, of the width j + 1. What
-- is kept goes to another slot.
use Rattle.std.specs.Prelude.{◌≡◌, ◌⊎◌, true, false, List, ℕ, ◌+◌, ◌-◌, ◌≤◌, ◌<◌, max, eqb, length, get_or}
use Rattle.std.specs.Prelude.{Option, Some, None}
pub use Rattle.slots.specs.Lent.{bytes}
use Rattle.scans.specs.declared.Looked.{Looked}

-- a place among n bytes, or n where there is none
abbrev pub or_end : ℕ → Option ℕ → ℕ
or_end n (Some k) = k
or_end n None = n

-- of the first n bytes these many are up to the last that holds a shape
pub record UpToLast (f : ℕ → ℕ) (n r : ℕ) : Type 0 where
  pub within : r ≤ n
  pub holds : 1 ≤ r → 1 ≤ f (r - 1)
  pub none : (k : ℕ) → r ≤ k → k < n → f k ≡ 0

-- the height at which the scan stops, after that of the last of n bytes; higher than any shape where there is none
unfoldable pub stop_at : (ℕ → ℕ) → ℕ → ℕ
stop_at f n = elim (eqb n 0) [ true ↦ 255 | false ↦ f (n - 1) ]

-- the first of n bytes that holds a shape, the first a left out; n where none does
pub record FirstAfter (f : ℕ → ℕ) (a n r : ℕ) : Type 0 where
  pub from : a ≤ r
  pub within : r ≤ n
  pub holds : r < n → 1 ≤ f r
  pub none : (k : ℕ) → a ≤ k → k < r → f k ≡ 0

-- from the last of n bytes down, the bytes up to the first shape that passes a bound, and the narrowest shape before it
pub record LookedUp (f : ℕ → ℕ) (n height : ℕ) (r : Looked) : Type 0 where
  pub within : r.higher ≤ n
  pub over : 1 ≤ r.higher → height < f (r.higher - 1)
  pub under : (k : ℕ) → r.higher ≤ k → k < n → f k ≤ height
  pub found : FirstAfter f r.higher n (or_end n r.found)

-- a byte is at the place of one of these numbers
abbrev pub PlaceOf : (ℕ → Type 0) → (ℕ → ℕ) → ℕ → Type 0
PlaceOf Kept place i = (k : ℕ) × Kept k × (place k ≡ i)

-- of these numbers k each value is put at its place, and all other bytes stand; of every byte it is known which
pub record Put (Kept : ℕ → Type 0) (place value : ℕ → ℕ) (before after : List ℕ) : Type 0 where
  pub long : length after ≡ length before
  pub here : (k : ℕ) → Kept k → get_or after (place k) 0 ≡ value k
  pub others : (i : ℕ) → (PlaceOf Kept place i → ⊥) → get_or after i 0 ≡ get_or before i 0
  pub known : (i : ℕ) → PlaceOf Kept place i ⊎ (PlaceOf Kept place i → ⊥)

-- what was looked up is put, with the left shape's height
abbrev pub FoundKept : Option ℕ → ℕ → ℕ → List ℕ → List ℕ → Type 0
FoundKept found height to before after = Put (λ k. found ≡ Some k) (λ k. to + k) (λ _. height) before after

-- from the last of n bytes down to `end`, every shape is lower than the stop and is put, at the same place from `to` on; `last` is the narrowest
pub record Walks (f : ℕ → ℕ) (end n k : ℕ) : Type 0 where
  pub from : end ≤ k
  pub before : k < n
  pub shape : 1 ≤ f k

pub record WalkedOn (f : ℕ → ℕ) (n stop to : ℕ) (before after : List ℕ) (last : ℕ) : Type 0 where
  pub end : ℕ
  pub within : end ≤ n
  pub over : 1 ≤ end → stop ≤ f (end - 1)
  pub under : (k : ℕ) → end ≤ k → k < n → f k < stop
  pub found : FirstAfter f end n last
  pub put : Put (Walks f end n) (λ k. to + k) f before after

-- the shapes of a run fall
abbrev pub Falls : (ℕ → ℕ) → ℕ → Type 0
Falls f n = (i j : ℕ) → i < j → j < n → 1 ≤ f i → 1 ≤ f j → f j < f i

-- The right shapes of which a vertical cut keeps the box, of n that are narrow enough: lower than the stop, and all narrower ones are higher than
-- the left one. Its box is put at its place behind `to`; `last` is the narrowest of them.
pub record KeptBeside (f : ℕ → ℕ) (n height stop k : ℕ) : Type 0 where
  pub before : k < n
  pub shape : 1 ≤ f k
  pub lower : f k < stop
  pub first : (i : ℕ) → i < k → 1 ≤ f i → height < f i

pub record BesideKept (f : ℕ → ℕ) (n height stop to : ℕ) (before after : List ℕ) (last : ℕ) : Type 0 where
  pub put : Put (KeptBeside f n height stop) (λ k. to + k) (λ k. max height (f k)) before after
  pub within : last ≤ n
  pub kept : last < n → KeptBeside f n height stop last
  pub least : (k : ℕ) → KeptBeside f n height stop k → last ≤ k

-- the widest shape of the first i + 1 bytes is put at byte i, if it stays lower than `low` on top of a height
pub record Widest (f : ℕ → ℕ) (i height low k : ℕ) : Type 0 where
  pub within : k ≤ i
  pub shape : 1 ≤ f k
  pub none : (j : ℕ) → k < j → j ≤ i → f j ≡ 0
  pub lower : height + f k < low

pub record WidestKept (f : ℕ → ℕ) (i height low : ℕ) (before after : List ℕ) (last : ℕ) : Type 0 where
  pub put : Put (Widest f i height low) (λ _. i) (λ k. height + f k) before after
  pub last_of : ((last ≡ low) × ((k : ℕ) → Widest f i height low k → ⊥)) ⊎ ((k : ℕ) × Widest f i height low k × (last ≡ height + f k))

-- from byte a up to n, every shape that stays lower than `low` on top of a height is put, with that height; `last` is that of the last one
pub record Lower (f : ℕ → ℕ) (a n height low k : ℕ) : Type 0 where
  pub from : a ≤ k
  pub before : k < n
  pub shape : 1 ≤ f k
  pub lower : height + f k < low

pub record WalkedUp (f : ℕ → ℕ) (a n height low : ℕ) (before after : List ℕ) (last : ℕ) : Type 0 where
  pub put : Put (Lower f a n height low) (λ k. k) (λ k. height + f k) before after
  pub last_of : ((last ≡ low) × ((k : ℕ) → Lower f a n height low k → ⊥))
      ⊎ ((k : ℕ) × Lower f a n height low k × (last ≡ height + f k) × ((i : ℕ) → Lower f a n height low i → i ≤ k))

-- The right shapes of which a horizontal cut keeps the box with a left shape of width i + 1: narrower than the next left shape, and no other that
-- is no wider than the left one is wider. Its box is as wide as the wider of the two; `last` is the height of the last box kept.
pub record KeptAbove (f : ℕ → ℕ) (i next height low k : ℕ) : Type 0 where
  pub before : k < next
  pub shape : 1 ≤ f k
  pub first : (j : ℕ) → j ≤ i → 1 ≤ f j → j ≤ k
  pub lower : height + f k < low

pub record AboveKept (f : ℕ → ℕ) (i next height low : ℕ) (before after : List ℕ) (last : ℕ) : Type 0 where
  pub put : Put (KeptAbove f i next height low) (λ k. max i k) (λ k. height + f k) before after
  pub within : last ≤ low
  pub kept : (last ≡ low) ⊎ ((k : ℕ) × KeptAbove f i next height low k × (last ≡ height + f k))
  pub least : (k : ℕ) → KeptAbove f i next height low k → last ≤ height + f k

-- the same of a right slot's bytes, where there may be no last one
abbrev pub WalkedOnIn : List ℕ → ℕ → ℕ → List ℕ → List ℕ → Option ℕ → Type 0
WalkedOnIn right stop to before after last = WalkedOn (bytes right) (length right) stop to before after (or_end (length right) last)

abbrev pub BesideKeptIn : List ℕ → ℕ → ℕ → ℕ → List ℕ → List ℕ → Option ℕ → Type 0
BesideKeptIn right height stop to before after last = BesideKept (bytes right) (length right) height stop to before after (or_end (length right) last)
