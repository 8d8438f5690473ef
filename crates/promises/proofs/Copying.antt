-- Demand 2's round trips: accepted bytes, written again, are the same bytes; a lawful design, written and read, is the same design; and the
-- first bytes that the plan program takes decide a reading. Assumes nothing.
use Rattle.std.specs.Prelude.{Ok, Err}
use mathlib.Core.Path.{◌≡◌, refl, sym, ◌∙◌, ap}
use mathlib.Core.List.{List}
use Prim.Native.Nat.{ℕ, ◌≤◌}
use native.Mathlib.Omega.{arith}
use lib.ListN.{length, take, drop}
use lib.Seq.{take-append_seam}
use Rattle.rules.specs.declared.Design.{Design}
use Rattle.rules.specs.declared.Refusal.{Refusal}
use Rattle.rules.specs.declared.Refusal.TheVariants.{Unfinished, Malformed, WrongForm, BreaksLimits, BadToken, NotOneThing, ExtraBytes, TooShort, Unreliable, NoPlacement, NoSuchEdit, OffTheChip, ShortOfNeed, CutNotKept, BadTerm, BadNet}
use Rattle.rules.specs.Answers.{Reply, Written}
use Rattle.rules.specs.declared.Handed.{Handed}
use Rattle.rules.specs.Design.{LawfulDesign, SameDesign}
use Rattle.rules.specs.Bytes.{AreBytes, Took, took, refuse, design_bytes, design_at}
use Rattle.rules.specs.Reply.{plainly, refusal, answer, written_answer}
use Rattle.rules.specs.Service.{Reads, Writes, handed}
use Rattle.rules.specs.Program.{program_input}
use Rattle.rules.proofs.Reading.{read_lawful, read_written, cleared, written_read, cleared_same}
use Rattle.rules.proofs.Deciding.{first_bytes_decide}

-- no refusal has the number 0, so that a reply with it is done
pub refusal_not_0 : (e : Refusal) → (refusal e).number ≡ 0 → ⊥
refusal_not_0 (Unfinished i) q = omega arith
refusal_not_0 (Malformed i) q = omega arith
refusal_not_0 (WrongForm i) q = omega arith
refusal_not_0 (BreaksLimits i) q = omega arith
refusal_not_0 (BadToken i) q = omega arith
refusal_not_0 (NotOneThing i) q = omega arith
refusal_not_0 (ExtraBytes i) q = omega arith
refusal_not_0 TooShort q = omega arith
refusal_not_0 Unreliable q = omega arith
refusal_not_0 NoPlacement q = omega arith
refusal_not_0 NoSuchEdit q = omega arith
refusal_not_0 (OffTheChip k) q = omega arith
refusal_not_0 (ShortOfNeed k) q = omega arith
refusal_not_0 (CutNotKept t) q = omega arith
refusal_not_0 BadTerm q = omega arith
refusal_not_0 BadNet q = omega arith

pub is_done : (r : Reply) → (answer r).number ≡ 0 → r ≡ (Ok tt)
is_done (Ok tt) q = refl
is_done (Err e) q = absurd (refusal_not_0 e q)

-- a reading that is done took the design that it hands back
pub done_took : (s : List ℕ) (r : Handed) → Reads s r → (answer r.reply).number ≡ 0 → (n : ℕ) × (design_at s ≡ took r.design n)
done_took s r x e = go (design_at s) refl x
  where
    go : (t : Took Design) → design_at s ≡ t → r ≡ handed t → (n : ℕ) × (design_at s ≡ took r.design n)
    go (took d n) q y = (n, q ∙ ap (λ f. took f n) (sym (ap (λ h. h.design) y)))
    go (refuse f) q y = absurd (refusal_not_0 f (rw y at e))

-- "Given room, accepted bytes, written again, are the same bytes"
pub read_then_write : (s before after : List ℕ) (r : Handed) (w : Written) → AreBytes s → Reads s r → (answer r.reply).number ≡ 0
    → Writes r.design before w after → length s ≤ length before → (written_answer w ≡ plainly 0 (length s)) × (take (length s) after ≡ s)
read_then_write s before after r w b x e y h =
    let (n, t) = done_took s r x e in let q = read_written s r.design n b t in
    let (a, c) = y.done (read_lawful s r.design n t).0 (rw q h) in
    (rw (a, q), rw (c, q) (take-append_seam s (drop (length s) before)))

-- what is written and read again is the design, with zeros in the places that are ignored
pub written_then_read : (d : Design) (before after : List ℕ) (w : Written) (r : Handed) → LawfulDesign d → Writes d before w after
    → length (design_bytes d) ≤ length before → Reads (take (written_answer w).value after) r → r ≡ record { reply = (Ok tt); design = cleared d }
written_then_read d before after w r l y h x =
    let (a, c) = y.done l h in
    let e : take (length (design_bytes d)) after ≡ design_bytes d = rw c (take-append_seam (design_bytes d) (drop (length (design_bytes d)) before)) in
    rw (a, e, written_read d l) at x

-- "a lawful design, written and read, is the same design"
pub write_then_read : (d : Design) (before after : List ℕ) (w : Written) (r : Handed) → LawfulDesign d → Writes d before w after
    → length (design_bytes d) ≤ length before → Reads (take (written_answer w).value after) r → ((answer r.reply).number ≡ 0) × SameDesign d r.design
write_then_read d before after w r l y h x = let q = written_then_read d before after w r l y h x in rw q (refl, cleared_same d)

-- 01: the 4,096 bytes that the program reads are "enough to decide every reading"
pub first_4096_decide : (s : List ℕ) (r r' : Handed) → Reads s r → Reads (take program_input s) r' → r ≡ r'
first_4096_decide s r r' x y = x ∙ sym (rw (first_bytes_decide s) at y)
