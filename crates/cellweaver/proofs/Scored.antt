-- Each answer of score meets its contract where its condition holds; the conditions of the others contradict it. Assumes nothing.
use Rattle.std.specs.Prelude.{Ok, Err}
use mathlib.Core.Path.{◌≡◌, refl, sym, ◌∙◌, ap}
use mathlib.Core.Bool.{false}
use mathlib.Core.List.{List}
use Prim.Native.Nat.{ℕ}
use Rattle.rules.specs.declared.Design.{Design}
use Rattle.rules.specs.declared.Refusal.{Refusal}
use Rattle.rules.specs.declared.Refusal.TheVariants.{BadTerm, BadNet}
use Rattle.rules.specs.declared.Score.{Score}
use Rattle.rules.specs.declared.Cost.{Cost}
use Rattle.rules.specs.Design.{Sized}
use Rattle.rules.specs.Check.{verdict, from_rows}
use Rattle.rules.specs.Score.{lawful_terms, lawful_nets, score_of}
use Rattle.rules.specs.Service.{TermsLawful, NetsLawful, Scores}
use Rattle.rules.proofs.Searching.{absurd_so}
use Rattle.rules.proofs.Nodes.{not_both, one_refusal}
use Rattle.rules.proofs.Checking.{passed_is_lawful, passes_iff}
use Rattle.rules.proofs.Scoring.{terms_limits}
use Rattle.scoring.specs.Amounts.{Ready}

module _ (d : Design) (sized : Sized d) (rows : List ℕ) (c : Cost) where
  pub score_refuses : {e : Refusal} → verdict d rows ≡ Err e → Scores d rows c (Err e)
  score_refuses u = record {
    sized = sized;
    judged = λ f q. ap Err (one_refusal u q);
    bad_term = λ p _. not_both u p;
    bad_net = λ p _ _. not_both u p;
    done = λ p _ _. not_both u p;
  }

  module _ (passed : verdict d rows ≡ (Ok tt)) where
    pub score_bad_term : lawful_terms c.terms c.term_count ≡ false → Scores d rows c (Err BadTerm)
    score_bad_term f = record {
      sized = sized;
      judged = λ e u. not_both u passed;
      bad_term = λ _ _. refl;
      bad_net = λ _ t _. absurd_so (sym f ∙ t);
      done = λ _ t _. absurd_so (sym f ∙ t);
    }

    module _ (terms : TermsLawful c) where
      pub score_bad_net : lawful_nets d.modules c.nets c.net_count ≡ false → Scores d rows c (Err BadNet)
      score_bad_net f = record {
        sized = sized;
        judged = λ e u. not_both u passed;
        bad_term = λ _ n. absurd (n terms);
        bad_net = λ _ _ _. refl;
        done = λ _ _ t. absurd_so (sym f ∙ t);
      }

      module _ (nets : NetsLawful d c) where
        pub score_ready : Ready d rows c
        score_ready =
            let l = passed_is_lawful d rows passed in record {
              countable = record { design = l; places = ((passes_iff d l rows).0 passed).0; lawful = nets };
              terms = (terms_limits c.terms c.term_count terms).most;
            }

        pub score_done : {s : Score} → s ≡ score_of d (from_rows rows) c → Scores d rows c (Ok s)
        score_done e = record {
          sized = sized;
          judged = λ f u. not_both u passed;
          bad_term = λ _ n. absurd (n terms);
          bad_net = λ _ _ n. absurd (n nets);
          done = λ _ _ _. ap Ok e;
        }
