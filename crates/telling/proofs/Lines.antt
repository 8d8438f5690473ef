-- What printing into bytes puts there. Assumes nothing.
use Rattle.std.proofs.Common.{ℕ, zero, suc, List, [], ◌∷◌, ◌++◌, ◌≡◌, ◌≤◌, ◌+◌, ◌-◌, length, take, drop, refl, sym, ap, subst, ◌∙◌, arith}
use Rattle.std.proofs.lemmas.List.{take_min, length-take, length-take-le, take-append-le, take_all, append_assoc, append-nil}
use Rattle.std.proofs.lemmas.Slice.{take-put_mid}
use Rattle.std.proofs.lemmas.Grind.{common_steps}
use Rattle.std.proofs.Math.Seq.{take-append-add}
use Rattle.std.specs.Fmt.{WritesInCalls}
use Rattle.std.specs.List.{FoldsTo, concat}
use borrow.Rule.Slice.PartMut.{put_mid}
use Prim.Native.Nat.{min}
use Rattle.telling.specs.declared.printing.Line.{Line}
use Rattle.telling.specs.Printed.{Printed}
use Rattle.telling.specs.Said.{Said, with_bytes}

short : (n : ℕ) (l : List ℕ) → length (take n l) ≤ length l
short n l = rw (length-take n l) (grind (arith))

-- what has no room is left out at once or later
twice : (r : ℕ) (xs ys : List ℕ) → take r (take r xs ++ ys) ≡ take r (xs ++ ys)
twice zero xs ys = refl
twice (suc r) [] ys = refl
twice (suc r) (x ∷ xs) ys = ap (λ l. x ∷ l) (twice r xs ys)

-- behind the first a there is room for so many more
behind : (a : ℕ) (xs s : List ℕ) → a ≤ length xs → take a xs ++ take (length xs - a) s ≡ take (length xs) (take a xs ++ s)
behind a xs s below = sym (take-append-add (take a xs) s (length xs - a))
    ∙ ap (λ i. take i (take a xs ++ s)) (ap (λ i. i + (length xs - a)) (length-take-le a xs below) ∙ grind (arith))

-- a copy of so many bytes as there is room for behind the first a
pub put_behind : (a n : ℕ) (xs new more : List ℕ) → a ≤ length xs → n ≡ min (length more) (length xs - a) → new ≡ take n more
    → take (a + n) (put_mid a (a + n - a) xs new) ≡ take (length xs) (take a xs ++ more)
put_behind a n xs new more below e f =
    let m : min (length xs - a) (length more) ≡ n = grind (arith) in
    let k : length new ≡ n = ap length f ∙ length-take-le n more (grind (arith)) in
    take-put_mid a (a + n - a) xs new (a + n) (ap (λ i. a + i) (sym k)) below
    ∙ ap (λ l. take a xs ++ l) (f ∙ (ap (λ i. take i more) (sym m) ∙ take_min (length xs - a) more))
    ∙ behind a xs more below

folded : (w : Line) (xs : List (List ℕ)) (v : Line) → FoldsTo Printed w xs v → Printed w (concat xs) v
folded w [] v p = subst (λ x. Printed w [] x) p (record {
  lent = refl;
  room = refl;
  text = sym (ap (take (length w.bytes.now)) (append-nil (take w.len w.bytes.now)) ∙ take_all (length w.bytes.now) (take w.len w.bytes.now) (short w.len w.bytes.now));
})
folded w (x ∷ xs) v (mid, first, more) = let rest = folded mid xs v more in record {
  lent = rest.lent ∙ first.lent;
  room = rest.room ∙ first.room;
  text = rest.text ∙ ((λ i. take (first.room i) (first.text i ++ concat xs)) ∙ (twice (length w.bytes.now) (take w.len w.bytes.now ++ x) (concat xs)
      ∙ ap (take (length w.bytes.now)) (append_assoc (take w.len w.bytes.now) x (concat xs))));
}

-- so many calls print what one would
pub printed : (w : Line) (s : List ℕ) (v : Line) → WritesInCalls Printed w s v → Printed w s v
printed w s v p = subst (λ l. Printed w l v) p.whole (folded w p.parts v p.calls)

-- what one call of print puts, and what the text then says
pub print_puts : (w : Line) (s : List ℕ) (v : Line) (n : ℕ) (end : List ℕ) → w.len ≡ 0 → n ≡ min v.len (length end)
    → (w.bytes.ghost_name ≡ v.bytes.ghost_name → end ≡ v.bytes.now) → WritesInCalls Printed w s v → take n end ≡ take (length w.bytes.now) s
print_puts w s v n end e m back calls = let p = printed w s v calls in
    ap (λ i. take i end) m ∙ (take_min v.len end ∙ (ap (take v.len) (back (sym p.lent)) ∙ (p.text ∙ ap (λ i. take (length w.bytes.now) (take i w.bytes.now ++ s)) e)))

-- a text whose rest of the room holds what was printed there
pub said_more : (old : Said) (a more : ℕ) (xs new s : List ℕ) → record { text = take a xs; room = length xs } ≡ old → a ≤ length xs
    → length new ≡ length (take (length xs - a) (drop a xs)) → more ≤ length new → take more new ≡ take (length (take (length xs - a) (drop a xs))) s
    → record { text = take (a + more) (put_mid a (length xs - a) xs new); room = length (put_mid a (length xs - a) xs new) } ≡ with_bytes old s
said_more old a more xs new s e below k m t =
    let rest = drop (length xs - a) (drop a xs) in
    let part : length (take (length xs - a) (drop a xs)) ≡ length xs - a = grind (arith, common_steps) in
    let text : take (a + more) (put_mid a (length xs - a) xs new) ≡ take (length xs) (take a xs ++ s) =
    ap (λ i. take (i + more) (take a xs ++ (new ++ rest))) (sym (length-take-le a xs below)) ∙ (take-append-add (take a xs) (new ++ rest) more
    ∙ (ap (λ l. take a xs ++ l) (take-append-le more new rest m ∙ (t ∙ ap (λ i. take i s) part)) ∙ behind a xs s below)) in
    let room : length (put_mid a (length xs - a) xs new) ≡ length xs = grind (arith, common_steps) in
    (λ i. record { text = text i; room = room i }) ∙ ap (λ o. with_bytes o s) e
