-- "Prove that two replies allowed by it are equal", of the plan program: the bytes are one design or one refusal, plan has one answer
-- for a design, and an answer has one text. Assumes nothing.
use Rattle.std.specs.Prelude.{Ok, Err}
use mathlib.Core.Path.{◌≡◌, refl, sym, ◌∙◌, ap}
use mathlib.Core.List.{List}
use Prim.Native.Nat.{ℕ, ◌+◌}
use lib.ListN.{length}
use lib.Seq.{sets}
use Rattle.rules.specs.Answers.{Reply, Planned}
use Rattle.rules.specs.declared.Handed.{Handed}
use Rattle.rules.specs.Program.{plan_text}
use Rattle.lending.specs.Lent.{lending}
use Rattle.promises.proofs.Unique.{reads_once, plans_once}
use Rattle.program.specs.Run.{Answers, Runs, PlansInput}

pub answers_once : (h : Handed) (work rows : List ℕ) {r r' : Planned} {work' work'' rows' rows'' : List ℕ}
    → Answers h (lending work work') (lending rows rows') r → Answers h (lending work work'') (lending rows rows'') r'
    → (r ≡ r') × (work' ≡ work'') × (rows' ≡ rows'')
answers_once h work rows {r} {r'} {work'} {work''} {rows'} {rows''} x y = go h.reply refl
  where
    go : (t : Reply) → h.reply ≡ t → (r ≡ r') × (work' ≡ work'') × (rows' ≡ rows'')
    go (Ok tt) q = plans_once h.design work rows work' work'' rows' rows'' r r' (x.done q) (y.done q)
    go (Err e) q =
        let (a, b, c) = x.refused e q in let (i, j, k) = y.refused e q in (a ∙ sym i, b ∙ sym j, c ∙ sym k)

-- the text's length, the work, the rows and the lent bytes with the text
pub runs_once : (bytes work rows out : List ℕ) {count count' : ℕ} {work' work'' rows' rows'' out' out'' : List ℕ}
    → Runs bytes (lending work work') (lending rows rows') (lending out out') count
    → Runs bytes (lending work work'') (lending rows rows'') (lending out out'') count'
    → (count ≡ count') × (work' ≡ work'') × (rows' ≡ rows'') × (out' ≡ out'')
runs_once bytes work rows out {rows' = rows'} {rows'' = rows''} x y =
    let h : x.handed ≡ y.handed = reads_once bytes x.handed y.handed x.reads y.reads in
    let (p, w, r) = answers_once x.handed work rows x.answers (rw (← h) at y.answers) in
    let said : Planned → Handed → List ℕ → List ℕ = λ a d rs. plan_text a d.design.modules rs in
    let t : said x.planned x.handed rows' ≡ said y.planned y.handed rows'' = rw (p, h, r) in (
      x.prints.counted ∙ ap (λ s. 0 + length s) t ∙ sym y.prints.counted,
      w,
      r,
      x.prints.stand ∙ ap (sets out 0) t ∙ sym y.prints.stand,
    )

-- of the whole program: one text
pub plans_input_once : (input : List ℕ) (read : ℕ) (out : List ℕ) {count count' : ℕ} {out' out'' : List ℕ}
    → PlansInput input read (lending out out') count → PlansInput input read (lending out out'') count'
    → (count ≡ count') × (out' ≡ out'')
plans_input_once input read out x y = let (c, _, _, o) = runs_once _ _ _ out x.runs y.runs in (c, o)
