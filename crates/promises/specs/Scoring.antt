-- Order 1, a score beside the floorplan: what is promised of it besides its table of numbered replies (demand 1's) and
-- same treatment. It is stated about any services.
use Rattle.std.specs.Prelude.{◌≡◌, ◌⊎◌, ◌↔◌, false, List, ℕ, ◌-◌, ◌≤◌, ℤ, Float}
use Rattle.std.specs.Float.{fin}
use Rattle.rules.specs.declared.Design.{Design}
use Rattle.rules.specs.declared.Term.TheVariants.{Area}
use Rattle.rules.specs.declared.Score.{Score}
use Rattle.rules.specs.declared.Cost.{Cost}
use Rattle.rules.specs.Answers.{Reply, Planned, Scored}
use Rattle.rules.specs.Placement.{area}
use Rattle.rules.specs.Score.{exact, no_score, term_at, NamedAlike}
use Rattle.rules.specs.Reply.{answer, planned_answer, scored_answer}
use Rattle.rules.specs.Service.{Enough, TermsLawful, NetsLawful}
use Rattle.promises.specs.Services.{Services}
use Rattle.promises.specs.Demand1.{Refusing}

-- the number of a score's reply, and its values
abbrev pub score_number : Scored → ℕ
score_number r = (scored_answer r).reply.number

abbrev pub values_of : Scored → Score
values_of r = (scored_answer r).values

-- finite and not negative: m times 2 to the e with the sign plus, so it is not -0.0 either
pub data NotNegative : Float → Type 0 where
  finite : {m : ℕ} {e : ℤ} → NotNegative (fin false m e)

-- the last term is an area term
pub record AreaLast (c : Cost) : Type 0 where
  pub some : 1 ≤ c.term_count
  pub weight : Float
  pub last : term_at c.terms (c.term_count - 1) ≡ Area weight

pub record ScoredWell (S : Services) : Type 0 where
  -- "0 exactly if the checker passes and terms and nets are lawful"
  pub exactly : (d : Design) (rows : List ℕ) (c : Cost) (r : Scored) (q : Reply) → S.score d rows c r
      → S.check d rows q → (score_number r ≡ 0) ↔ (((answer q).number ≡ 0) × TermsLawful c × NetsLawful d c)
  -- both values are finite and not negative; "both values 0" with a refusal
  pub values_finite : (d : Design) (rows : List ℕ) (c : Cost) (r : Scored) → S.score d rows c r
      → NotNegative (values_of r).total × NotNegative (values_of r).last
  pub refused_zero : (d : Design) (rows : List ℕ) (c : Cost) (r : Scored) → S.score d rows c r
      → Refusing (scored_answer r).reply (values_of r ≡ no_score)
  -- the checker never refuses rows from plan: their score is refused for its terms or its nets alone
  pub planned : (d : Design) (before rows after rows' : List ℕ) (r : Planned) (c : Cost) (q : Scored)
      → Enough d before rows → S.plan d before rows r after rows' → (planned_answer r).number ≡ 0 → S.score d rows' c q
      → (score_number q ≡ 0) ⊎ ((score_number q ≡ 15) ⊎ (score_number q ≡ 16))
  -- "over rows from plan an area term's amount is the area of plan's box"
  pub planned_area : (d : Design) (before rows after rows' : List ℕ) (r : Planned) (c : Cost) (q : Scored)
      → Enough d before rows → S.plan d before rows r after rows' → (planned_answer r).number ≡ 0 → S.score d rows' c q
      → score_number q ≡ 0 → AreaLast c → (values_of q).last ≡ exact (area (planned_answer r).box)
  -- a module named twice in a net counts once: the same values, however often and in whatever order nets name theirs
  pub once_each : (d : Design) (rows : List ℕ) (a b : Cost) (r r' : Scored) → NamedAlike a b → S.score d rows a r
      → S.score d rows b r' → score_number r ≡ 0 → score_number r' ≡ 0 → values_of r ≡ values_of r'
