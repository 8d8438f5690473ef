-- A number in groups of seven bits: what is written is read, and what is read, written again, is the bytes that stood there.
-- There are three shortest forms, one for each count of bytes; the rest is division by 128. Assumes nothing.
use mathlib.Core.Path.{◌≡◌, refl, sym, ap, ◌∙◌}
use mathlib.Core.Logic.{◌⊎◌, inl, inr}
use mathlib.Core.Bool.{Bool, true, false, So}
use mathlib.Core.List.{List, [], ◌∷◌, ◌++◌, append_assoc}
use Prim.Native.Nat.{ℕ, ◌+◌, ◌-◌, ◌*◌, ◌/◌, ◌%◌, ◌≤◌, ◌<◌}
use native.Mathlib.Omega.{arith}
use native.Mathlib.Nat.{add-zero}
use native.Mathlib.Numerals.{add-one}
use native.Mathlib.Decide.{dec_lt}
use lib.Dec.{ltb}
use lib.ListN.{length, get_or, take, drop, length-append, length-take, length-drop, get_or-append}
use lib.Seq.{drop-cons, drop-drop, drop-append_seam, get_or-take, get_or-drop}
use borrow.Author.Tests.{ltb-true, ltb-false, leb-true, lt-ltb, le-ltb, le-leb}
use Rattle.rules.specs.declared.Refusal.{Refusal}
use Rattle.rules.specs.declared.Refusal.TheVariants.{Unfinished, Malformed}
use Rattle.rules.specs.Design.{most_number}
use Rattle.rules.specs.Bytes.{AreBytes, Took, took, refuse, judged, number_bytes, number_at, second_byte, third_byte}
use Rattle.rules.proofs.Searching.{same_test, ltb_iff}

-- xs stands in s from one position up to another; what stands end to end stands as one, and back
pub record Stands (s : List ℕ) (at next : ℕ) (xs : List ℕ) : Type 0 where
  pub long : next ≡ at + length xs
  pub bytes : drop at s ≡ xs ++ drop next s

pub none_stands : (s : List ℕ) (at : ℕ) → Stands s at at []
none_stands s at = record { long = omega arith; bytes = refl }

pub both_stand : {s : List ℕ} {at mid next : ℕ} {xs ys : List ℕ} → Stands s at mid xs → Stands s mid next ys
    → Stands s at next (xs ++ ys)
both_stand {xs = xs} {ys} a b = record {
  long = simp length-append (let p = a.long in let q = b.long in omega arith);
  bytes = a.bytes ∙ rw b.bytes (sym (append_assoc xs ys _));
}

pub each_stands : {s : List ℕ} {at next : ℕ} (xs ys : List ℕ) → Stands s at next (xs ++ ys)
    → Stands s at (at + length xs) xs × Stands s (at + length xs) next ys
each_stands {s} {at} {next} xs ys h =
    let l = length-append xs ys in let e = h.bytes ∙ append_assoc xs ys (drop next s) in
    let q : drop (at + length xs) s ≡ ys ++ drop next s = sym (drop-drop (length xs) at s) ∙ ap (drop (length xs)) e ∙ drop-append_seam xs _ in
    (record { long = refl; bytes = rw q e }, record { long = let p = h.long in omega arith; bytes = q })

byte_stands : (s : List ℕ) (at next : ℕ) → next ≡ at + 1 → at < length s → Stands s at next (get_or s at 0 ∷ [])
byte_stands s at next e h = record { long = e; bytes = rw (e, add-one, drop-cons s at 0) }

byte_at : {s : List ℕ} {at next : ℕ} {xs : List ℕ} → Stands s at next xs → (i : ℕ) → i < length xs
    → (at + i < length s) × (get_or s (at + i) 0 ≡ get_or xs i 0)
byte_at {s} {at} {next} {xs} h i l =
    let e = ap length h.bytes in
    (omega (arith, length-drop at s, length-append xs (drop next s)), rw (← get_or-drop at s i 0, h.bytes) (get_or-append xs _ 0 i l))

-- What a reading answers: it took something, up to some position, of which Q holds; or it refused, and E holds of the refusal.
pub data Answers {A : Type 0} (Q : A → ℕ → Type 0) (E : Refusal → Type 0) : Took A → Type 0 where
  takes : {a : A} {n : ℕ} → Q a n → Answers Q E (took a n)
  refuses : {e : Refusal} → E e → Answers Q E (refuse e)

module _ {A : Type 0} {Q : A → ℕ → Type 0} {E : Refusal → Type 0} where
  pub took_so : {t : Took A} (a : A) (n : ℕ) → Answers Q E t → t ≡ took a n → Q a n
  took_so a n (takes {a = b} {n = m} q) e = let x : b ≡ a = cc in let y : m ≡ n = cc in rw (x, y) at q
  took_so a n (refuses q) e = let z : ◌≡◌ {A = ℕ} 0 1 = cc in absurd (omega arith)

  pub if_judged : {c : Bool} {r : Refusal} {t : Took A} → Answers Q E (refuse r) → (So c → Answers Q E t)
      → Answers Q E (judged c r t)
  if_judged {c = true} e f = f refl
  if_judged {c = false} e f = e

  if_either : {c : Bool} {t u : Took A} → (So c → Answers Q E t) → (c ≡ false → Answers Q E u)
      → Answers Q E (elim c [ true ↦ t | false ↦ u ])
  if_either {c = true} f g = f refl
  if_either {c = false} f g = g refl

-- x was read from `at` up to `next`: it passes P, it took no more than k bytes, and they are its own, g x, if s is of bytes.
pub record Read {A : Type 0} (P : A → Type 0) (g : A → List ℕ) (s : List ℕ) (k at : ℕ) (x : A) (next : ℕ) : Type 0 where
  pub passes : P x
  pub short : next ≤ at + k
  pub stands : AreBytes s → Stands s at next (g x)

-- the three shortest forms, written
pub one_byte : (n : ℕ) → n < 128 → number_bytes n ≡ n ∷ []
unfolding number_bytes
one_byte n h = rw (lt-ltb n 128 h, number_bytes)

pub two_bytes : (n : ℕ) → 128 ≤ n → n < 16384 → number_bytes n ≡ (128 + n % 128) ∷ n / 128 ∷ []
unfolding number_bytes
two_bytes n h k = rw (le-ltb n 128 h, lt-ltb n 16384 k, number_bytes)

pub three_bytes : (n : ℕ) → 16384 ≤ n → number_bytes n ≡ (128 + n % 128) ∷ (128 + n / 128 % 128) ∷ n / 16384 ∷ []
unfolding number_bytes
three_bytes n h = let k : 128 ≤ n = omega arith in rw (le-ltb n 128 k, le-ltb n 16384 h, number_bytes)

group : (n a b : ℕ) → n ≡ a + 128 * b → a < 128 → n % 128 ≡ a
group n a b e h = omega arith

module _ (s : List ℕ) (at : ℕ) where
  abbrev low : ℕ
  low = get_or s at 0

  abbrev mid : ℕ
  mid = get_or s (at + 1) 0

  abbrev high : ℕ
  high = get_or s (at + 2) 0

  abbrev whole : ℕ
  whole = low - 128 + 128 * (mid - 128) + 16384 * high

  -- "Only the shortest form is valid, at most three bytes, value at most 65,535."
  abbrev pub Number : ℕ → ℕ → Type 0
  Number = Read (λ v. AreBytes s → v ≤ most_number) number_bytes s 3 at

  one_read : at < length s → low < 128 → Number low (at + 1)
  one_read h l =
      let b = byte_stands s at (at + 1) refl h in
      record { passes = λ _. omega arith; short = omega arith; stands = λ _. rw (one_byte low l) b }

  two_read : at + 1 < length s → 128 ≤ low → mid < 128 → 0 < mid → Number (low - 128 + 128 * mid) (at + 2)
  two_read h l m z = record {
    passes = λ small. let i = small at in omega arith;
    short = omega arith;
    stands = λ small.
        let v = low - 128 + 128 * mid in let i = small at in
        let a = byte_stands s at (at + 1) refl (omega arith) in let b = byte_stands s (at + 1) (at + 2) (omega arith) h in
        let x : 128 + v % 128 ≡ low = omega arith in let y : v / 128 ≡ mid = omega arith in
        rw (two_bytes v (omega arith) (omega arith), x, y) (both_stand a b);
  }

  three_read : at + 2 < length s → 128 ≤ low → 128 ≤ mid → 0 < high → whole ≤ most_number → Number whole (at + 3)
  three_read h l m z w = record {
    passes = λ _. w;
    short = omega arith;
    stands = λ small.
        let i = small at in let j = small (at + 1) in
        let a = byte_stands s at (at + 1) refl (omega arith) in let b = byte_stands s (at + 1) (at + 2) (omega arith) (omega arith) in
        let c = byte_stands s (at + 2) (at + 3) (omega arith) h in
        let g = group (whole / 128) (mid - 128) high (omega arith) (omega arith) in
        let x : 128 + whole % 128 ≡ low = omega arith in let y : 128 + whole / 128 % 128 ≡ mid = omega arith in
        let o : whole / 16384 ≡ high = omega arith in
        rw (three_bytes whole (omega arith), x, y, o) (both_stand a (both_stand b c));
  }

  -- What is read is a number; or it is refused with "the position of the first byte of the number at fault".
  pub number_read : Answers Number (λ e. (e ≡ Unfinished at) ⊎ (e ≡ Malformed at)) (number_at s at)
  unfolding number_at second_byte third_byte
  number_read =
      if_judged (refuses (inl refl)) λ h.
      if_either (λ l. takes (one_read (ltb-true _ _ h) (ltb-true _ _ l))) λ l.
      if_judged (refuses (inl refl)) λ i.
      if_either
      (λ m. if_judged (refuses (inr refl)) λ z.
      takes (two_read (ltb-true _ _ i) (ltb-false _ _ l) (ltb-true _ _ m) (ltb-true _ _ z))) λ m.
      if_judged (refuses (inl refl)) λ j.
      if_judged (refuses (inr refl)) λ z.
      if_judged (refuses (inr refl)) λ w.
      takes (three_read (ltb-true _ _ j) (ltb-false _ _ l) (ltb-false _ _ m) (ltb-true _ _ z) (leb-true _ _ w))

  -- A number that is written is read: where its bytes stand, it is what is taken.
  pub number_written : (n next : ℕ) → n ≤ most_number → Stands s at next (number_bytes n) → number_at s at ≡ took n next
  unfolding number_at second_byte third_byte
  number_written n next most e = go (dec_lt n 128) (dec_lt n 16384)
    where
      go : Dec (n < 128) → Dec (n < 16384) → number_at s at ≡ took n next
      go (yes h) _ =
          let f = rw (one_byte n h) at e in let (i, a) = rw add-zero at (byte_at f 0 (omega arith)) in let p = f.long in
          cc (lt-ltb _ _ i, lt-ltb low 128 (omega arith))
      go (no h) (yes l) =
          let f = rw (two_bytes n (omega arith) l) at e in let (i, a) = rw add-zero at (byte_at f 0 (omega arith)) in
          let (j, b) = byte_at f 1 (omega arith) in let p = f.long in let v : low - 128 + 128 * mid ≡ n = omega arith in
          cc (lt-ltb _ _ i, le-ltb low 128 (omega arith), lt-ltb _ _ j, lt-ltb mid 128 (omega arith), lt-ltb 0 mid (omega arith))
      go (no h) (no l) =
          let f = rw (three_bytes n (omega arith)) at e in let (i, a) = rw add-zero at (byte_at f 0 (omega arith)) in
          let (j, b) = byte_at f 1 (omega arith) in let (k, c) = byte_at f 2 (omega arith) in
          let p = f.long in let v : whole ≡ n = omega arith in
          let x = le-ltb low 128 (omega arith) in let y = le-ltb mid 128 (omega arith) in let z = lt-ltb 0 high (omega arith) in
          cc (lt-ltb _ _ i, lt-ltb _ _ j, lt-ltb _ _ k, le-leb whole most_number (omega arith))

-- A number hangs on three bytes, and on whether they are there.
abbrev pub AlikeAt : List ℕ → List ℕ → ℕ → Type 0
AlikeAt s r i = (get_or s i 0 ≡ get_or r i 0) × (ltb i (length s) ≡ ltb i (length r))

pub number_alike : (s r : List ℕ) (at : ℕ) → AlikeAt s r at → AlikeAt s r (at + 1) → AlikeAt s r (at + 2) → number_at s at ≡ number_at r at
unfolding number_at second_byte third_byte
number_alike s r at a b c = cc

-- the first n bytes are alike with all of them
pub first_alike : (n : ℕ) (s : List ℕ) (i : ℕ) → i < n → AlikeAt (take n s) s i
first_alike n s i h =
    (get_or-take n s i 0 h, same_test (ltb i (length (take n s))) (ltb i (length s)) (simp (ltb_iff, length-take) (omega arith)))
