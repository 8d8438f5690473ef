-- How many bytes the parts of a design take, which are few, since a number takes at most three; and the parts as the rows of the
-- code. Assumes nothing.
use Rattle.std.specs.List.{sum_by, flat_map, All}
use Rattle.std.proofs.lemmas.List.Concat.{length-flat_map}
use Rattle.std.proofs.lemmas.List.{get_or-take, get_or_default, length-take-le}
use Rattle.std.proofs.lemmas.List.Elements.{All-nil, All-cons}
use mathlib.Core.Path.{◌≡◌}
use mathlib.Core.Bool.{Bool, true, false, So}
use mathlib.Core.List.{List, [], ◌∷◌, ◌++◌, append_assoc, append-nil}
use Prim.Native.Nat.{ℕ, zero, suc, ◌+◌, ◌*◌, ◌≤◌, ◌<◌}
use native.Mathlib.Omega.{arith}
use native.Mathlib.Nat.{mul-suc}
use native.Mathlib.Decide.{dec_lt}
use lib.Dec.{ltb}
use lib.ListN.{length, get_or, take, length-append}
use Rattle.rules.specs.declared.Need.{Need}
use Rattle.rules.specs.declared.Design.{Design}
use Rattle.rules.specs.Chip.{kind_at}
use Rattle.rules.specs.Design.{most_number, no_need, need_at, nodes, lawful_need, width_of, height_of, Sized}
use Rattle.rules.specs.Bytes.{number_bytes, need_bytes, row_bytes, design_bytes}
use Rattle.rules.proofs.Numbers.{one_byte, two_bytes, three_bytes}
use Rattle.rules.proofs.Limits.{Limits, need_limits}
use Rattle.writing.specs.Parts.{head_numbers}
use Rattle.writing.proofs.Putting.{row_listed}

either_short : (b : Bool) (x y : List ℕ) → length x ≤ 3 → length y ≤ 3
    → length {A = ℕ} (elim b [ true ↦ x | false ↦ y ]) ≤ 3
either_short true x y h k = h
either_short false x y h k = k

pub number_short : (v : ℕ) → length (number_bytes v) ≤ 3
unfolding number_bytes
number_short v = either_short (ltb v 128) _ _ (omega arith) (either_short (ltb v 16384) _ _ (omega arith) (omega arith))

-- a lesser number takes no more bytes
pub lesser_shorter : (v w : ℕ) → v ≤ w → length (number_bytes v) ≤ length (number_bytes w)
lesser_shorter v w h = go (dec_lt v 128) (dec_lt w 16384)
  where
    at_least_two : 128 ≤ w → 2 ≤ length (number_bytes w)
    at_least_two l = more (dec_lt w 16384)
      where
        more : Dec (w < 16384) → 2 ≤ length (number_bytes w)
        more (yes m) = rw (two_bytes w l m) (omega arith)
        more (no m) = rw (three_bytes w (omega arith)) (omega arith)

    go : Dec (v < 128) → Dec (w < 16384) → length (number_bytes v) ≤ length (number_bytes w)
    go (yes s) _ = rw (one_byte v s) (some (dec_lt w 128))
      where
        some : Dec (w < 128) → 1 ≤ length (number_bytes w)
        some (yes m) = rw (one_byte w m) (omega arith)
        some (no m) = let t = at_least_two (omega arith) in omega arith
    go (no l) (yes m) = rw (two_bytes v (omega arith) (omega arith)) (at_least_two (omega arith))
    go (no l) (no m) = rw (three_bytes w (omega arith)) (number_short v)

pub length_need : (n : Need)
    → length (need_bytes n) ≡ length (number_bytes n.clbs) + (length (number_bytes n.rams) + length (number_bytes n.multipliers))
unfolding need_bytes
length_need n = simp (need_bytes, length-append)

pub need_short : (n : Need) → length (need_bytes n) ≤ 9
need_short n = omega (arith, length_need n, number_short n.clbs, number_short n.rams, number_short n.multipliers)

-- a need's three numbers as a row
pub need_listed : (n : Need) → flat_map number_bytes (n.clbs ∷ n.rams ∷ n.multipliers ∷ []) ≡ need_bytes n
unfolding need_bytes
need_listed n = rw append-nil

pub need_fits : (n : Need) → So (lawful_need n) → All (λ v. v ≤ most_number) (n.clbs ∷ n.rams ∷ n.multipliers ∷ [])
need_fits n t =
    let l = need_limits n t in
    let P = λ (v : ℕ). v ≤ most_number in
    All-cons P n.clbs (n.rams ∷ n.multipliers ∷ []) l.clbs
    (All-cons P n.rams (n.multipliers ∷ []) l.rams (All-cons P n.multipliers [] l.multipliers (All-nil P)))

module _ {A : Type 0} (f : A → List ℕ) (a : ℕ → A) where
  -- a row whose elements take at most k bytes each
  pub row_short : (k n : ℕ) → ((i : ℕ) → i < n → length (f (a i)) ≤ k) → length (row_bytes f a n) ≤ k * n
  unfolding row_bytes
  row_short k zero h = omega arith
  row_short k (suc n) h =
      rw (row_bytes, length-append, mul-suc) (omega (arith, row_short k n (λ i l. h i (omega arith)), h n (omega arith)))

abbrev pub number_sizes : List ℕ → ℕ
number_sizes = sum_by (λ v. length (number_bytes v))

-- the parts of a design are its bytes, which are few
pub record Parts (d : Design) (first : List ℕ) : Type 0 where
  pub bytes : length (design_bytes d)
      ≡ length (flat_map number_bytes first) + (length (flat_map number_bytes (take (width_of d) d.chip.kinds))
      + (length (number_bytes d.modules) + (length (flat_map need_bytes (take d.modules d.needs))
      + length (flat_map number_bytes (take (nodes d) d.tokens)))))
  pub sizes : length (design_bytes d)
      ≡ number_sizes first + (number_sizes (take (width_of d) d.chip.kinds) + (length (number_bytes d.modules)
      + (sum_by (λ n. length (need_bytes n)) (take d.modules d.needs) + number_sizes (take (nodes d) d.tokens))))
  pub few : length (design_bytes d) ≤ 12 + 3 * width_of d + 15 * d.modules

module _ (d : Design) where
  head_listed : flat_map number_bytes (head_numbers d)
      ≡ number_bytes 1 ++ (number_bytes (width_of d) ++ (number_bytes (height_of d) ++ number_bytes d.chip.block.0))
  head_listed = rw append-nil

  pub length_design : length (design_bytes d)
      ≡ length (number_bytes 1) + (length (number_bytes (width_of d)) + (length (number_bytes (height_of d)) + (length (number_bytes d.chip.block.0)
      + (length (row_bytes number_bytes (kind_at d.chip) (width_of d))
      + (length (number_bytes d.modules) + (length (row_bytes need_bytes (need_at d) d.modules)
      + length (row_bytes number_bytes (λ t. get_or d.tokens t 0) (nodes d))))))))
  unfolding design_bytes
  length_design = simp (design_bytes, length-append)

  design_short : 0 < d.modules → length (design_bytes d) ≤ 12 + 3 * width_of d + 15 * d.modules
  design_short h =
      let kinds = row_short number_bytes (kind_at d.chip) 3 (width_of d) (λ x _. number_short _) in
      let needs = row_short need_bytes (need_at d) 9 d.modules (λ k _. need_short _) in
      let tokens = row_short number_bytes (λ t. get_or d.tokens t 0) 3 (nodes d) (λ t _. number_short _) in
      let one = number_short 1 in let w = number_short (width_of d) in let t = number_short (height_of d) in
      let b = number_short d.chip.block.0 in
      omega (arith, length_design, number_short d.modules)

  -- each of its rows is the front of an array
  module _ (sized : Sized d) (l : Limits d) where
    kinds_listed : row_bytes number_bytes (kind_at d.chip) (width_of d) ≡ flat_map number_bytes (take (width_of d) d.chip.kinds)
    kinds_listed = let w = l.chip.width in row_listed number_bytes d.chip.kinds 0 (width_of d) (omega (arith, sized.kinds))

    needs_listed : row_bytes need_bytes (need_at d) d.modules ≡ flat_map need_bytes (take d.modules d.needs)
    needs_listed = row_listed need_bytes d.needs no_need d.modules (omega (arith, sized.needs, l.modules))

    tokens_listed : row_bytes number_bytes (λ t. get_or d.tokens t 0) (nodes d) ≡ flat_map number_bytes (take (nodes d) d.tokens)
    tokens_listed = row_listed number_bytes d.tokens 0 (nodes d) (omega (arith, sized.tokens, l.modules))

    pub needs_fit : All (λ n. So (lawful_need n)) (take d.modules d.needs)
    needs_fit k e h =
        let m = l.modules in
        let small : k < d.modules = omega (arith, length-take-le d.modules d.needs (omega (arith, sized.needs))) in
        let there : k < length d.needs = omega (arith, sized.needs) in
        rw (get_or-take d.modules d.needs k e small, get_or_default d.needs k e no_need there) (l.needs k small)

    -- with these numbers in front
    module _ {first : List ℕ} (e : first ≡ head_numbers d) where
      pub design_listed : design_bytes d
          ≡ flat_map number_bytes first ++ (flat_map number_bytes (take (width_of d) d.chip.kinds)
          ++ (number_bytes d.modules ++ (flat_map need_bytes (take d.modules d.needs) ++ flat_map number_bytes (take (nodes d) d.tokens))))
      unfolding design_bytes
      design_listed = rw (e, head_listed, design_bytes, kinds_listed, needs_listed, tokens_listed) (simp append_assoc)

      pub parts : Parts d first
      parts = record {
        bytes = rw design_listed (simp length-append);
        sizes = rw design_listed (simp (length-append, length-flat_map));
        few = design_short l.some;
      }
