-- The three demands hold of any services that keep their contracts, and so do order 1's promises of a score. Demand 2's parts are put together
-- here; the others have files of their own. Assumes nothing.
use mathlib.Core.Path.{sym, ◌∙◌, ap}
use Rattle.rules.specs.Reply.{answer}
use Rattle.rules.proofs.Checking.{passes_iff}
use Rattle.promises.specs.Services.{Services, Keeping, contracts}
use Rattle.promises.specs.Demand1.{Demand1}
use Rattle.promises.specs.Demand2.{Demand2}
use Rattle.promises.specs.Demand3.{Demand3}
use Rattle.promises.specs.Scoring.{ScoredWell}
use Rattle.promises.proofs.Answering.{demand_1}
use Rattle.promises.proofs.Planning.{own_good, planned_well, placed_well}
use Rattle.promises.proofs.Copying.{is_done, read_then_write, write_then_read}
use Rattle.promises.proofs.Editing.{demand_3}
use Rattle.promises.proofs.Scoring.{order_1}

pub demand_2 : (S : Services) → Keeping S → Demand2 S
demand_2 S k = record {
  listed = λ d before after r x l h. let (a, _, own) = (k.list d before after r x).done l h in (rw a, own_good d after own);
  plan_listed = λ d before rows after rows' r x h. own_good d after ((k.plan d before rows after rows' r x).listed h).1;
  planned = λ d before rows after rows' r x h. planned_well d before rows after rows' r (k.plan d before rows after rows' r x) h;
  placed = λ d work rows rows' r x h own. placed_well d work rows rows' r (k.place d work rows rows' r x) h own;
  checked = λ d rows r x l h. let e = (k.check d rows r x).judged in
      (λ n. ((passes_iff d l rows).0 (sym e ∙ is_done r n)).1, λ p. ap (λ q. (answer q).number) (e ∙ (passes_iff d l rows).1 (h, p)));
  bytes_again = λ s before after r w b x e y h. read_then_write s before after r w b (k.read s r x) e (k.write r.design before after w y) h;
  design_again = λ d before after w r l x h y. write_then_read d before after w r l (k.write d before after w x) h (k.read _ r y);
}

pub demands : (S : Services) → Keeping S → Demand1 S × Demand2 S × Demand3 S
demands S k = (demand_1 S k, demand_2 S k, demand_3 S k)

pub orders : (S : Services) → Keeping S → ScoredWell S
orders S k = order_1 S k

-- the contracts themselves are kept, by whatever they allow
pub contracts_keep : Keeping contracts
contracts_keep = record {
  read = λ s r x. x;
  write = λ d before after r x. x;
  list = λ d before after r x. x;
  plan = λ d before rows after rows' r x. x;
  place = λ d work rows rows' r x. x;
  edit = λ d e before after r x. x;
  check = λ d rows r x. x;
  score = λ d rows c r x. x;
}
