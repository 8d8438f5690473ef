-- D's figures from its bytes: a function that exchanges the places of two sizes, of the box's two sides, of a score's two values or of two kinds
-- of term, or takes a net's bytes otherwise, breaks its contract.
-- Assumes nothing.
use Rattle.std.specs.Prelude.{Ok}
use mathlib.Core.Path.{◌≡◌, refl, ◌∙◌, ap}
use mathlib.Core.List.{[], ◌∷◌}
use Prim.Native.Nat.{◌≤◌}
use native.Mathlib.Omega.{arith}
use lib.ListN.{length}
use lib.Ieee.{add, mul, le, of_int}
use Rattle.rules.specs.Search.{all}
use Rattle.rules.specs.Chip.{shape}
use Rattle.rules.specs.Tree.{stands, has, joined, added, standing}
use Rattle.rules.specs.Placement.{furthest}
use Rattle.rules.specs.Design.{slots_of, slot_rows, in_range}
use Rattle.rules.specs.Bytes.{padded, took, design_at, design_bytes}
use Rattle.rules.specs.Check.{from_rows}
use Rattle.rules.specs.Score.{exact, lawful_weight, lawful_terms, lawful_net, lawful_nets, area_of, spread, greatest_to, least_to, wire_of, score_after}
use Rattle.rules.specs.Reply.{Answer, ScoreAnswer, plainly, planned_answer, scored_answer}
use Rattle.rules.specs.Bench.{Says, D}
use Rattle.rules.proofs.Padding.{listed}
use Rattle.rules.proofs.Reading.{cleared, written_read}
use Rattle.rules.proofs.Checking.{passes_iff}
use Rattle.lending.specs.Lent.{Lent}
use Rattle.promises.proofs.Inputs.{D_lawful, D_plan, D_enough, printed, printed_lawful}
use Rattle.costs.specs.Slices.{terms_in, net_there, first_net, past_net, nets_in, cost_in}
use Rattle.cellweaver_c.specs.Asked.{Sizes, AskedSizes, AskedPlan, AskedScore}

D_cleared : cleared D ≡ D
unfolding cleared D padded listed
D_cleared = refl

D_read : design_at (design_bytes D) ≡ took D (length (design_bytes D))
D_read = written_read D D_lawful ∙ ap (λ d. took d (length (design_bytes D))) D_cleared

-- W 5, H 6, m 2, 450 bytes of work and 8 of rows
pub sizes_of_D : (s : Sizes) (reply : Answer) → AskedSizes (design_bytes D) s reply
    → s ≡ record { width = 5; height = 6; modules = 2; work = 450; rows = 8 }
unfolding D slot_rows
sizes_of_D s reply x = (x.read D _ D_read).1

-- a box 4 wide and 3 high
pub box_of_D : (work rows : Lent) (reply : Answer) → 450 ≤ length work.came → 8 ≤ length rows.came
    → AskedPlan (design_bytes D) work rows reply → reply ≡ planned_answer (Ok (shape 4 3))
unfolding Says
box_of_D work rows reply h k x =
    let s = x.read D _ D_read in let enough = D_enough work.came rows.came h k in
    let (ch, (p, down), _) = D_plan (slots_of D work.left) (s.served.listed enough).1 in
    s.said ∙ ap planned_answer (s.served.done enough (shape 4 3) p ch down).0

-- an area term, a wire term of weight 2 and a net of both modules, for D's printed rows: 12 and twice 4 make 20, and the last amount is 4
pub score_of_D : (a : ScoreAnswer) → AskedScore (design_bytes D) printed (cost_in (0 ∷ 2 ∷ []) (exact 1 ∷ exact 2 ∷ []) (2 ∷ 0 ∷ 1 ∷ [])) a
    → a ≡ record { reply = plainly 0 0; values = record { total = exact 20; last = exact 4 } }
unfolding D slot_rows padded all stands has joined added standing from_rows furthest in_range
    lawful_weight lawful_terms lawful_net lawful_nets area_of spread greatest_to least_to wire_of score_after terms_in net_there first_net past_net nets_in
    add mul le of_int
score_of_D a x =
    let (r, s, q) = x.read D _ D_read in let passes = (passes_iff D D_lawful printed).1 (omega arith, printed_lawful) in
    q ∙ ap scored_answer (s.done passes refl refl)
