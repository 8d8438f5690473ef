-- 01: "Places beyond W, m and 2m-1 in it are ignored, also when two designs are called the same." So two designs called the same get the same
-- treatment: the same reply and values, the same bytes and rows; from edit, designs called the same. Read is handed no design. Of a score's terms
-- and nets too, places past a count are ignored.
use Rattle.std.specs.Prelude.{◌≡◌, List, ℕ}
use Rattle.rules.specs.declared.Design.{Design}
use Rattle.rules.specs.declared.Edit.{Edit}
use Rattle.rules.specs.Answers.{Reply, Written, Planned, Scored}
use Rattle.rules.specs.declared.Handed.{Handed}
use Rattle.rules.specs.declared.Cost.{Cost}
use Rattle.rules.specs.Design.{SameDesign}
use Rattle.rules.specs.Score.{SameCost}
use Rattle.promises.specs.Services.{Services}

pub record SameTreatment (S : Services) : Type 0 where
  pub write : (d e : Design) → SameDesign d e → (before after after' : List ℕ) (r r' : Written)
      → S.write d before r after → S.write e before r' after' → (r ≡ r') × (after ≡ after')
  pub list : (d e : Design) → SameDesign d e → (before after after' : List ℕ) (r r' : Reply)
      → S.list d before r after → S.list e before r' after' → (r ≡ r') × (after ≡ after')
  pub plan : (d e : Design) → SameDesign d e → (before rows after after' out out' : List ℕ) (r r' : Planned)
      → S.plan d before rows r after out → S.plan e before rows r' after' out'
      → (r ≡ r') × (after ≡ after') × (out ≡ out')
  pub place : (d e : Design) → SameDesign d e → (work rows out out' : List ℕ) (r r' : Planned)
      → S.place d work rows r out → S.place e work rows r' out' → (r ≡ r') × (out ≡ out')
  pub edit : (d e : Design) → SameDesign d e → (c : Edit) (before after after' : List ℕ) (r r' : Handed)
      → S.edit d c before r after → S.edit e c before r' after'
      → (r.reply ≡ r'.reply) × SameDesign r.design r'.design × (after ≡ after')
  pub check : (d e : Design) → SameDesign d e → (rows : List ℕ) (r r' : Reply) → S.check d rows r
      → S.check e rows r' → r ≡ r'
  pub score : (d e : Design) → SameDesign d e → (a b : Cost) → SameCost a b → (rows : List ℕ) (r r' : Scored)
      → S.score d rows a r → S.score e rows b r' → r ≡ r'
