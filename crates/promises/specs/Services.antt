-- The eight services, by what they answer: of what a service was handed, its reply and what then stands in each buffer that it was lent. A
-- demand is a statement about any such services, right ones and wrong ones.
use Rattle.std.specs.Prelude.{List, ℕ}
use Rattle.rules.specs.declared.Design.{Design}
use Rattle.rules.specs.declared.Edit.{Edit}
use Rattle.rules.specs.Answers.{Reply, Written, Planned, Scored}
use Rattle.rules.specs.declared.Handed.{Handed}
use Rattle.rules.specs.declared.Cost.{Cost}
use Rattle.rules.specs.Service.{Reads, Writes, Lists, Plans, Places, Edits, Checks, Scores}

pub record Services : Type 1 where
  -- bytes; what is handed back
  pub read : List ℕ → Handed → Type 0
  -- design, lent bytes; reply, bytes after
  pub write : Design → List ℕ → Written → List ℕ → Type 0
  -- design, work; reply, work after
  pub list : Design → List ℕ → Reply → List ℕ → Type 0
  -- design, work, rows; reply, work after, rows after
  pub plan : Design → List ℕ → List ℕ → Planned → List ℕ → List ℕ → Type 0
  -- design, work (only read), rows; reply, rows after
  pub place : Design → List ℕ → List ℕ → Planned → List ℕ → Type 0
  -- design, edit, work; what is handed back, work after
  pub edit : Design → Edit → List ℕ → Handed → List ℕ → Type 0
  -- design, rows (only read); reply
  pub check : Design → List ℕ → Reply → Type 0
  -- design, rows (only read), terms and nets; reply
  pub score : Design → List ℕ → Cost → Scored → Type 0

-- They keep the contracts of the rules: those that every service of `cellweaver` is proved to keep.
pub record Keeping (S : Services) : Type 0 where
  pub read : (s : List ℕ) (r : Handed) → S.read s r → Reads s r
  pub write : (d : Design) (before after : List ℕ) (r : Written) → S.write d before r after → Writes d before r after
  pub list : (d : Design) (before after : List ℕ) (r : Reply) → S.list d before r after → Lists d before r after
  pub plan : (d : Design) (before rows after rows' : List ℕ) (r : Planned) → S.plan d before rows r after rows'
      → Plans d before rows r after rows'
  pub place : (d : Design) (work rows rows' : List ℕ) (r : Planned) → S.place d work rows r rows'
      → Places d work rows r rows'
  pub edit : (d : Design) (e : Edit) (before after : List ℕ) (r : Handed) → S.edit d e before r after
      → Edits d e before r after
  pub check : (d : Design) (rows : List ℕ) (r : Reply) → S.check d rows r → Checks d rows r
  pub score : (d : Design) (rows : List ℕ) (c : Cost) (r : Scored) → S.score d rows c r → Scores d rows c r

-- the contracts themselves, as services that answer whatever they allow
abbrev pub contracts : Services
contracts = record {
  read = Reads;
  write = Writes;
  list = Lists;
  plan = Plans;
  place = Places;
  edit = Edits;
  check = Checks;
  score = Scores;
}
