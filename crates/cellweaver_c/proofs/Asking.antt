-- What is read decides which part of a contract speaks: a refused reading is told from one that is done by its reply. Assumes nothing.
use Rattle.std.specs.Prelude.{Ok, Err}
use mathlib.Core.Path.{◌≡◌, refl, ap}
use mathlib.Core.List.{List}
use Prim.Native.Nat.{ℕ}
use native.Mathlib.Omega.{arith}
use lib.Ieee.{binary64, of_bits}
use Rattle.rules.specs.declared.Design.{Design}
use Rattle.rules.specs.declared.Refusal.{Refusal}
use Rattle.rules.specs.declared.Refusal.TheVariants.{Unfinished, Malformed, WrongForm, BreaksLimits, BadToken, NotOneThing, ExtraBytes, TooShort, Unreliable, NoPlacement, NoSuchEdit, OffTheChip, ShortOfNeed, CutNotKept, BadTerm, BadNet}
use Rattle.rules.specs.declared.Handed.{Handed}
use Rattle.rules.specs.Design.{LawfulDesign}
use Rattle.rules.specs.Bytes.{took, refuse}
use Rattle.rules.specs.Reply.{Answer, ScoreAnswer, plainly, refusal, answer, scored_answer}
use Rattle.rules.specs.Service.{Reads, handed}
use Rattle.rules.proofs.Floats.{zero_is}
use Rattle.rules.proofs.Reading.{read_lawful}
use Rattle.promises.proofs.Copying.{done_took}
use Rattle.cellweaver_c.specs.Asked.{Asked}

-- a refusal has no box
pub refused_plainly : (e : Refusal) → plainly (refusal e).number (refusal e).value ≡ refusal e
refused_plainly (Unfinished at) = refl
refused_plainly (Malformed at) = refl
refused_plainly (WrongForm at) = refl
refused_plainly (BreaksLimits at) = refl
refused_plainly (BadToken at) = refl
refused_plainly (NotOneThing at) = refl
refused_plainly (ExtraBytes at) = refl
refused_plainly TooShort = refl
refused_plainly Unreliable = refl
refused_plainly NoPlacement = refl
refused_plainly NoSuchEdit = refl
refused_plainly (OffTheChip k) = refl
refused_plainly (ShortOfNeed k) = refl
refused_plainly (CutNotKept t) = refl
refused_plainly BadTerm = refl
refused_plainly BadNet = refl

pub said_refused : (e : Refusal) {n v : ℕ} → (n ≡ (refusal e).number) × (v ≡ (refusal e).value) → plainly n v ≡ refusal e
said_refused e s = rw (s.0, s.1) (refused_plainly e)

-- a refused score has zeros, which the code writes out
pub unscored_answer : (e : Refusal) {a : Answer} → a ≡ refusal e
    → ◌≡◌ {A = ScoreAnswer} (record { reply = a; values = record { total = of_bits binary64 0; last = of_bits binary64 0 } }) (scored_answer (Err e))
unscored_answer e q = rw (q, zero_is)

-- what is read is lawful
pub reads_lawful : (bytes : List ℕ) {h : Handed} → Reads bytes h → h.reply ≡ (Ok tt) → LawfulDesign h.design
reads_lawful bytes {h} x q = let (n, t) = done_took bytes h x (ap (λ r. (answer r).number) q) in (read_lawful bytes h.design n t).0

module _ {bytes : List ℕ} {h : Handed} (reading : Reads bytes h) {reply : Answer} {Stands : Type 0} {Served : Design → Type 0} where
  pub unread_asked : {e : Refusal} → h.reply ≡ Err e → reply ≡ refusal e → Stands → Asked bytes reply Stands Served
  unread_asked {e} q s z = record {
    unread = λ f t. let r : h ≡ handed (refuse f) = rw t at reading in let x : e ≡ f = cc (ap (λ g. g.reply) r) in (rw (← x) s, z);
    read = λ d n t. let r : h ≡ handed (took d n) = rw t at reading in let x : ◌≡◌ {A = ℕ} 0 1 = cc (ap (λ g. g.reply) r) in absurd (omega arith);
  }

  pub read_asked : h.reply ≡ (Ok tt) → Served h.design → Asked bytes reply Stands Served
  read_asked q s = record {
    unread = λ f t. let r : h ≡ handed (refuse f) = rw t at reading in let x : ◌≡◌ {A = ℕ} 0 1 = cc (ap (λ g. g.reply) r) in absurd (omega arith);
    read = λ d n t. let r : h ≡ handed (took d n) = rw t at reading in rw (ap (λ g. g.design) r) at s;
  }
