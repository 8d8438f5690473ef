-- Order 1's promises of a score. Which outcome of its contract came about is read off its number; a granted one is the score of a
-- lawful floorplan with lawful terms and nets, of which the rules' laws speak, and rows from plan hold plan's floorplan. Assumes nothing.
use Rattle.std.specs.Prelude.{Ok}
use mathlib.Core.Path.{◌≡◌, sym, ◌∙◌, ap}
use mathlib.Core.Logic.{◌⊎◌, inl, inr, ⊎_elim, ◌↔◌}
use mathlib.Core.Bool.{true, false, true≢false}
use mathlib.Core.List.{List}
use Prim.Native.Nat.{ℕ, zero, suc, ◌-◌, ◌≤◌}
use native.Mathlib.Omega.{arith}
use native.Mathlib.Numerals.{unary_clauses}
use lib.Dec.{lit≤}
use lib.ListN.{length, length-append}
use lib.Ieee.{Float, nan, inf, fin}
use Rattle.rules.specs.declared.Design.{Design}
use Rattle.rules.specs.declared.Cost.{Cost}
use Rattle.rules.specs.declared.Term.TheVariants.{Area}
use Rattle.rules.specs.Answers.{Reply, Planned, Scored}
use Rattle.rules.specs.Placement.{Placement, area}
use Rattle.rules.specs.Design.{slots_of}
use Rattle.rules.specs.Score.{NamedAlike, exact, no_score, term_at, area_of, amount_of, score_after, score_of}
use Rattle.rules.specs.Check.{from_rows, verdict}
use Rattle.rules.specs.Reply.{answer, planned_answer, scored_answer}
use Rattle.rules.specs.Service.{Plans, Checks, Scores, Enough, rows_of, TermsLawful, NetsLawful}
use Rattle.rules.proofs.Nodes.{lawful_tree}
use Rattle.rules.proofs.Floorplans.{planned}
use Rattle.rules.proofs.RowsOut.{length_rows}
use Rattle.rules.proofs.Checking.{passes_iff}
use Rattle.rules.proofs.Floats.{UpTo, exact_up_to}
use Rattle.rules.proofs.Scoring.{score_finite}
use Rattle.rules.proofs.Same.{same_refl}
use Rattle.rules.proofs.Costs.{score_alike}
use Rattle.promises.specs.Services.{Services, Keeping}
use Rattle.promises.specs.Demand1.{Refusing}
use Rattle.promises.specs.Demand2.{GoodPlan}
use Rattle.promises.specs.Scoring.{score_number, values_of, NotNegative, finite, AreaLast, ScoredWell}
use Rattle.promises.proofs.Cases.{Scoring, faulty, bad_term, bad_net, scored, scoring}
use Rattle.promises.proofs.Copying.{refusal_not_0, is_done}
use Rattle.promises.proofs.Planning.{planned_well}
use Rattle.promises.proofs.Answering.{passed}

-- at most some number, so finite and not negative
up_to_finite : (n : ℕ) (x : Float) → UpTo n x → NotNegative x
up_to_finite n nan u = absurd u
up_to_finite n (inf s) u = absurd u
up_to_finite n (fin true m e) u = absurd (true≢false u.0)
up_to_finite n (fin false m e) u = finite

zero_finite : NotNegative (exact 0)
zero_finite = up_to_finite 0 (exact 0) (exact_up_to 0 (lit≤ tt))

-- A score that is granted: the checker passes, terms and nets are lawful, and the values are the rules'.
record Granted (d : Design) (rows : List ℕ) (c : Cost) (r : Scored) : Type 0 where
  passes : verdict d rows ≡ (Ok tt)
  terms : TermsLawful c
  nets : NetsLawful d c
  values : values_of r ≡ score_of d (from_rows rows) c

module _ (d : Design) (rows : List ℕ) (c : Cost) (r : Scored) (x : Scores d rows c r) where
  granted : score_number r ≡ 0 → Granted d rows c r
  granted z = go (scoring d rows c)
    where
      go : Scoring d rows c → Granted d rows c r
      go (faulty e v) = absurd (refusal_not_0 e (rw (x.judged e v) at z))
      go (bad_term v f) = let q = rw (x.bad_term v f) at z in absurd (omega arith)
      go (bad_net v t f) = let q = rw (x.bad_net v t f) at z in absurd (omega arith)
      go (scored v t n) = record { passes = v; terms = t; nets = n; values = ap values_of (x.done v t n) }

  -- "0 exactly if the checker passes and terms and nets are lawful"
  exactly : (q : Reply) → Checks d rows q → (score_number r ≡ 0) ↔ (((answer q).number ≡ 0) × TermsLawful c × NetsLawful d c)
  exactly q y = (
    λ z. let g = granted z in (rw (y.judged ∙ g.passes), g.terms, g.nets),
    λ h. rw (x.done (sym y.judged ∙ is_done q h.0) h.1 h.2),
  )

  -- "both values 0" with a refusal
  refused_zero : Refusing (scored_answer r).reply (values_of r ≡ no_score)
  refused_zero o = go (scoring d rows c)
    where
      go : Scoring d rows c → values_of r ≡ no_score
      go (faulty e v) = rw (x.judged e v)
      go (bad_term v f) = rw (x.bad_term v f)
      go (bad_net v t f) = rw (x.bad_net v t f)
      go (scored v t n) = absurd (o (rw (x.done v t n)))

  values_finite : NotNegative (values_of r).total × NotNegative (values_of r).last
  values_finite = go (scoring d rows c)
    where
      go : Scoring d rows c → NotNegative (values_of r).total × NotNegative (values_of r).last
      go (faulty e v) = rw (x.judged e v) (zero_finite, zero_finite)
      go (bad_term v f) = rw (x.bad_term v f) (zero_finite, zero_finite)
      go (bad_net v t f) = rw (x.bad_net v t f) (zero_finite, zero_finite)
      go (scored v t n) =
          let p = passed d rows v in let has = (lawful_tree d p.lawful).modules in
          let (a, b) = score_finite d p.lawful (from_rows rows) (λ k h. p.placement.on_chip k ((has k).1 h)) c t n in
          rw (x.done v t n) (up_to_finite _ _ a, up_to_finite _ _ b)

  -- where the checker passes
  passed_numbers : verdict d rows ≡ (Ok tt) → (score_number r ≡ 0) ⊎ ((score_number r ≡ 15) ⊎ (score_number r ≡ 16))
  passed_numbers w = go (scoring d rows c)
    where
      go : Scoring d rows c → (score_number r ≡ 0) ⊎ ((score_number r ≡ 15) ⊎ (score_number r ≡ 16))
      go (faulty e v) = let z : ◌≡◌ {A = ℕ} 0 1 = cc in absurd (omega arith)
      go (bad_term v f) = inr (inl (rw (x.bad_term v f)))
      go (bad_net v t f) = inr (inr (rw (x.bad_net v t f)))
      go (scored v t n) = inl (rw (x.done v t n))

-- an area term that is the last
area_after : (d : Design) (p : Placement) (c : Cost) (w : Float) (n : ℕ) → 1 ≤ n → term_at c.terms (n - 1) ≡ Area w
    → (score_after d p c n).last ≡ exact (area_of d p)
unfolding score_after
area_after d p c w zero h q = absurd (omega arith)
area_after d p c w (suc n) h q = ap (amount_of d p c) (simp unary_clauses at q)

-- rows from plan: a lawful floorplan, with its box, in as many rows as it takes
module _ (d : Design) (before rows after rows' : List ℕ) (r : Planned) (h : Enough d before rows)
    (x : Plans d before rows r after rows') (z : (planned_answer r).number ≡ 0) where
  good : GoodPlan d (planned_answer r).box rows'
  good = ((planned_well d before rows after rows' r x h).otherwise (λ e. omega arith)).1

  long : rows_of d ≤ length rows'
  long = ⊎_elim
      (λ n. let e = rw (x.none h n.0).0 at z in absurd (omega arith))
      (λ n. let (s, ch, (p, down, _)) = n in let e = (x.done h s p ch down).1 in let l = length_rows d.modules p in
      rw e (simp length-append (omega arith)))
      (planned d h.lawful (slots_of d after) (x.listed h).1)

  planned_passes : verdict d rows' ≡ (Ok tt)
  planned_passes =
      let g = good in let has = (lawful_tree d h.lawful).modules in
      (passes_iff d h.lawful rows').1 (
        long,
        record {
          on_chip = λ k t. g.on_chip k ((has k).0 t);
          suits = λ k t. g.meet k ((has k).0 t);
          follows = g.follow;
        },
      )

  -- "over rows from plan an area term's amount is the area of plan's box"
  planned_area : (c : Cost) (q : Scored) → Scores d rows' c q → score_number q ≡ 0 → AreaLast c
      → (values_of q).last ≡ exact (area (planned_answer r).box)
  unfolding area_of
  planned_area c q y e a =
      let g = granted d rows' c q y e in
      ap (λ s. s.last) g.values ∙ area_after d (from_rows rows') c a.weight c.term_count a.some a.last ∙ rw good.boxed

-- a module named twice in a net counts once
once_each : (d : Design) (rows : List ℕ) (a b : Cost) (r r' : Scored) → NamedAlike a b → Scores d rows a r → Scores d rows b r'
    → score_number r ≡ 0 → score_number r' ≡ 0 → values_of r ≡ values_of r'
once_each d rows a b r r' z x y e f =
    let g = granted d rows a r x e in let k = granted d rows b r' y f in
    g.values ∙ score_alike z (same_refl d) (from_rows rows) g.nets k.nets ∙ sym k.values

-- order 1, of any services that keep their contracts
pub order_1 : (S : Services) → Keeping S → ScoredWell S
order_1 S k = record {
  exactly = λ d rows c r q x y. exactly d rows c r (k.score d rows c r x) q (k.check d rows q y);
  values_finite = λ d rows c r x. values_finite d rows c r (k.score d rows c r x);
  refused_zero = λ d rows c r x. refused_zero d rows c r (k.score d rows c r x);
  planned = λ d before rows after rows' r c q h x z y.
      passed_numbers d rows' c q (k.score d rows' c q y) (planned_passes d before rows after rows' r h (k.plan d before rows after rows' r x) z);
  planned_area = λ d before rows after rows' r c q h x z y e a.
      planned_area d before rows after rows' r h (k.plan d before rows after rows' r x) z c q (k.score d rows' c q y) e a;
  once_each = λ d rows a b r r' z x y e f. once_each d rows a b r r' z (k.score d rows a r x) (k.score d rows b r' y) e f;
}
