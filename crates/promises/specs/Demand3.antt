-- Demand 3: edits, over runs of any length.
use Rattle.std.specs.Prelude.{◌≡◌, List, ℕ, ◌≤◌, ◌<◌, length, get_or, take}
use Rattle.std.proofs.Math.Bool.{So}
use Rattle.rules.specs.declared.Corner.{Corner}
use Rattle.rules.specs.declared.Need.{Need}
use Rattle.rules.specs.declared.Direction.{Direction}
use Rattle.rules.specs.declared.Token.TheVariants.{Cut}
use Rattle.rules.specs.declared.Design.{Design}
use Rattle.rules.specs.declared.Edit.{Edit}
use Rattle.rules.specs.declared.Edit.TheVariants.{Change, Turn}
use Rattle.rules.specs.Answers.{Reply, Written, Planned}
use Rattle.rules.specs.declared.Handed.{Handed}
use Rattle.rules.specs.Chip.{SameChip}
use Rattle.rules.specs.Tree.{spans}
use Rattle.rules.specs.Slot.{CornerOn, PastKept}
use Rattle.rules.specs.Design.{LawfulDesign, need_at, token_at, nodes, node_at, slots_of, width_of, height_of}
use Rattle.rules.specs.Edit.{names_place, other, changed_node}
use Rattle.rules.specs.Bytes.{design_bytes}
use Rattle.rules.specs.Reply.{answer, written_answer, planned_answer}
use Rattle.rules.specs.Service.{Enough, work_of}
use Rattle.promises.specs.Services.{Services}
use Rattle.promises.specs.Demand2.{GoodLists}

-- "Begin with the full lists of a lawful design and let only edits write to them, each handed the design the last one left." A run from the
-- design `from` and the work bytes `start` has led to a design and bytes. The lists are what list or plan leaves; and between two edits the
-- design may be saved: written, and read again from its bytes.
pub data Run (S : Services) (from : Design) (start : List ℕ) : Design → List ℕ → Type 0 where
  listed : {r : Reply} {work : List ℕ} → LawfulDesign from → work_of from ≤ length start → S.list from start r work
      → Run S from start from work
  planned : {rows rows' : List ℕ} {r : Planned} {work : List ℕ} → Enough from start rows
      → S.plan from start rows r work rows'
      → Run S from start from work
  edited : {d : Design} {work after : List ℕ} {e : Edit} {r : Handed} → Run S from start d work
      → S.edit d e work r after
      → Run S from start r.design after
  saved : {d : Design} {work out out' : List ℕ} {w : Written} {r : Handed} → Run S from start d work
      → S.write d out w out'
      → length (design_bytes d) ≤ length out → S.read (take (written_answer w).value out') r
      → Run S from start r.design work

-- the same chip, and as many modules
pub record SameSizes (d e : Design) : Type 0 where
  pub chip : SameChip d.chip e.chip
  pub modules : d.modules ≡ e.modules

-- "it makes that one change": the need of module k, or the cut at position t turned into the other kind; and all else stays
pub record NeedChanged (d e : Design) (k : ℕ) (n : Need) : Type 0 where
  pub chip : e.chip ≡ d.chip
  pub modules : e.modules ≡ d.modules
  pub need : need_at e k ≡ n
  pub needs : (j : ℕ) → (j ≡ k → ⊥) → need_at e j ≡ need_at d j
  pub tokens : e.tokens ≡ d.tokens

pub record CutTurned (d e : Design) (t : ℕ) : Type 0 where
  pub chip : e.chip ≡ d.chip
  pub modules : e.modules ≡ d.modules
  pub needs : e.needs ≡ d.needs
  pub cut : (c : Direction) × (token_at d t ≡ Cut c) × (token_at e t ≡ Cut (other c))
  pub tokens : (s : ℕ) → (s ≡ t → ⊥) → get_or e.tokens s 0 ≡ get_or d.tokens s 0

abbrev pub OneChange : Design → Edit → Design → Type 0
OneChange d (Change k n) e = NeedChanged d e k n
OneChange d (Turn t) e = CutTurned d e t

-- a node "off the way from the edited node up to the root": its tree does not span the edited node's position
abbrev pub OffWay : Design → ℕ → ℕ → Type 0
OffWay d at t = So (spans (node_at d t) at) → ⊥

-- the design and the work bytes to which a run has led
pub record RunKept (S : Services) (from : Design) (start : List ℕ) (d : Design) (work : List ℕ) : Type 0 where
  -- "An edit is refused only if it names no such module or cut or brings an unlawful need"
  pub refused : (e : Edit) (r : Handed) (after : List ℕ) → S.edit d e work r after
      → ((answer r.reply).number ≡ 0 → ⊥) → ((answer r.reply).number ≡ 11) × (So (names_place d e) → ⊥)
  -- "granted, it makes that one change"
  pub granted : (e : Edit) (r : Handed) (after : List ℕ) → S.edit d e work r after → (answer r.reply).number ≡ 0
      → OneChange d e r.design
  -- "After any run of edits the lists equal, byte for byte, a fresh listing of the design as it now stands"
  pub fresh : (before listed : List ℕ) (r : Reply) → S.list d before r listed → work_of d ≤ length before
      → take (work_of d) work ≡ take (work_of d) listed
  -- "and no granted edit has altered a list off the way from the edited node up to the root"
  pub off : (e : Edit) (r : Handed) (after : List ℕ) → S.edit d e work r after → (answer r.reply).number ≡ 0
      → (t : ℕ) (c : Corner) → t < nodes d → CornerOn (width_of d) (height_of d) c
      → OffWay r.design (changed_node d e) t
      → (j : ℕ) → j < width_of d → slots_of d after t c j ≡ slots_of d work t c j
  -- demand 2's "each list is complete, sorted and free of dominated shapes", after any run too
  pub good : GoodLists d work
  -- 01: "bytes after them are never touched", and sizes stay
  pub past : PastKept (work_of d) start work
  pub sizes : SameSizes from d
  -- 01, place "from lists already filled" gives what plan gives
  pub place : (before rows after rows' out : List ℕ) (r r' : Planned) → Enough d before rows
      → S.plan d before rows r after rows'
      → S.place d work rows r' out → (planned_answer r' ≡ planned_answer r) × (out ≡ rows')

pub record Demand3 (S : Services) : Type 0 where
  pub kept : (from : Design) (start : List ℕ) (d : Design) (work : List ℕ) → Run S from start d work
      → RunKept S from start d work
