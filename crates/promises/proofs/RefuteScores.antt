-- Wrong scores that demand 1 rejects, each by an input over D: what its table leaves there is one answer, and the values in it are Python's,
-- whose floats are binary64 too, written by their bits. Then what order 1's own promises reject. Nothing of a service is known here but these.
-- Assumes nothing.
use Rattle.std.specs.Prelude.{Ok}
use mathlib.Core.Path.{◌≡◌, refl, sym, ◌∙◌, ap}
use mathlib.Core.Logic.{◌⊎◌, ⊎_elim}
use mathlib.Core.Bool.{Bool, true, false, true≢false, false≢true}
use mathlib.Core.List.{List, [], ◌∷◌, ◌++◌}
use Prim.Native.Nat.{ℕ, zero, suc, ◌<◌}
use native.Mathlib.Omega.{arith}
use lib.ListN.{length, get_or, replicate}
use lib.IntN.{ℤ}
use lib.Ieee.{Float, nan, inf, fin, binary64, of_bits, of_int, add, mul, div, le}
use Rattle.rules.specs.declared.Design.{Design}
use Rattle.rules.specs.declared.Term.{Term}
use Rattle.rules.specs.declared.Term.TheVariants.{Area, Ratio, Wire}
use Rattle.rules.specs.declared.Net.{Net}
use Rattle.rules.specs.declared.Score.{Score}
use Rattle.rules.specs.declared.Cost.{Cost}
use Rattle.rules.specs.Answers.{Reply, Planned, Scored}
use Rattle.rules.specs.Search.{all, least, count, total}
use Rattle.rules.specs.Chip.{OnChip, shape, column, column_of, covers_block, held_between, holds}
use Rattle.rules.specs.Tree.{has, stands, joined, added, standing}
use Rattle.rules.specs.Placement.{furthest}
use Rattle.rules.specs.Design.{value_test, within_limits, lawful_chip, in_range, lawful_need, slot_rows}
use Rattle.rules.specs.Bytes.{padded}
use Rattle.rules.specs.Check.{from_rows, is_on_chip, is_at_most, is_kept, judged_cuts, judged_rows, verdict}
use Rattle.rules.specs.Score.{NamedAlike, Names, cost, no_net, no_score, lawful_weight, lawful_terms, lawful_net, lawful_nets, area_of, ratio_of, greatest_to, least_to, spread, wire_of, score_after, score_of}
use Rattle.rules.specs.Reply.{Answer, ScoreAnswer, plainly, answer, planned_answer, scored_answer}
use Rattle.rules.specs.Service.{Enough, TermsLawful, NetsLawful}
use Rattle.rules.specs.Bench.{D}
use Rattle.rules.proofs.Searching.{absurd_so}
use Rattle.rules.proofs.Nodes.{lawful_iff, lawful_tree, follows_by_nodes}
use Rattle.promises.specs.Services.{Services}
use Rattle.promises.specs.Demand1
use Rattle.promises.specs.Demand1.{Tested, CheckNumbered, ScoreNumbered, Passed}
use Rattle.promises.specs.Scoring.{score_number, values_of, NotNegative, finite, AreaLast, ScoredWell}
use Rattle.promises.proofs.Answering.{passed}
use Rattle.promises.proofs.Inputs.{D_lawful, tall, tall_breaks_limits, twice, twice_bad_token, printed, half_block, over_the_side, printed_lawful, of_lawful, gets_4, gets_5}
use Rattle.promises.proofs.RefuteAnswers.{half_not_suited}

-- a float by its bits, and some that are used as weights: 1, 2, 2 to the -54 and 0.037
abbrev pub f64 : ℕ → Float
f64 bits = of_bits binary64 bits

abbrev pub one : Float
one = f64 0x3ff0000000000000

abbrev pub two : Float
two = f64 0x4000000000000000

abbrev pub tiny : Float
tiny = f64 0x3c90000000000000

abbrev pub odd_weight : Float
odd_weight = f64 0x3fa2f1a9fbe76c8b

-- terms and nets, with whatever stands in the places past their counts; and a net's members
abbrev pub asked : List Term → List Term → List Net → List Net → Cost
asked terms more nets others = cost (terms ++ more) (length terms) (nets ++ others) (length nets)

abbrev pub net : List ℕ → List ℕ → Net
net members rest = record { count = length members; modules = members ++ rest }

-- the answers: a total and a last amount, by their bits; or a refusal, "both values 0"
abbrev pub values : ℕ → ℕ → Score
values total last = record { total = f64 total; last = f64 last }

abbrev pub grants : ℕ → ℕ → ScoreAnswer
grants total last = record { reply = plainly 0 0; values = values total last }

abbrev pub refuses : ℕ → ℕ → ScoreAnswer
refuses number name = record { reply = plainly number name; values = values 0 0 }

zero_values : no_score ≡ values 0 0
unfolding of_int of_bits
zero_values = refl

-- lawful rows of D besides those that 01 prints: two that round otherwise in another order of sums; both modules three rows up; module 1 alone so
abbrev pub uneven : List ℕ
uneven = 0 ∷ 0 ∷ 2 ∷ 5 ∷ 2 ∷ 0 ∷ 3 ∷ 5 ∷ []

abbrev pub higher : List ℕ
higher = 0 ∷ 0 ∷ 2 ∷ 6 ∷ 2 ∷ 0 ∷ 3 ∷ 4 ∷ []

abbrev pub raised : List ℕ
raised = 0 ∷ 3 ∷ 2 ∷ 3 ∷ 2 ∷ 3 ∷ 2 ∷ 3 ∷ []

abbrev pub staggered : List ℕ
staggered = 0 ∷ 0 ∷ 2 ∷ 3 ∷ 2 ∷ 3 ∷ 2 ∷ 3 ∷ []

all_pass : (verdict D printed ≡ (Ok tt)) × (verdict D uneven ≡ (Ok tt)) × (verdict D higher ≡ (Ok tt)) × (verdict D raised ≡ (Ok tt)) × (verdict D staggered ≡ (Ok tt))
unfolding D slot_rows padded all least count total stands has joined added standing value_test within_limits lawful_chip in_range lawful_need
    column_of covers_block held_between holds column from_rows is_on_chip is_at_most is_kept judged_cuts judged_rows verdict
all_pass = (refl, refl, refl, refl, refl)

-- ---- the table of a score, read where the checker passes the rows: none of its refusals is left, and terms and nets decide
module _ {d : Design} {rows : List ℕ} (p : Passed d rows) where
  not_refused : {a : Answer} → Tested d (CheckNumbered d rows) a → (a.number ≡ 0 → ⊥) → ⊥
  not_refused t o = go (of_lawful p.lawful t) o
    where
      go : {a : Answer} → CheckNumbered d rows a → (a.number ≡ 0 → ⊥) → ⊥
      go (Demand1.short h) o = let l = p.places in omega arith
      go (Demand1.off_the_chip {k = k} _ f) o = f.fault (p.placement.on_chip k (((lawful_tree d p.lawful).modules k).1 f.below))
      go (Demand1.short_of_need {k = k} _ f) o = f.fault (p.placement.suits k (((lawful_tree d p.lawful).modules k).1 f.below))
      go (Demand1.cut_not_kept {t = t} _ f) o = f.fault ((follows_by_nodes d p.lawful (from_rows rows)).0 p.placement.follows t f.below)
      go (Demand1.done _ _) o = o refl

  module _ {c : Cost} where
    gets_15 : {a : ScoreAnswer} → (TermsLawful c → ⊥) → ScoreNumbered d rows c a → a ≡ refuses 15 0
    gets_15 f (Demand1.not_passed t o) = absurd (not_refused t o)
    gets_15 f (Demand1.bad_term _ _) = rw zero_values
    gets_15 f (Demand1.bad_net _ t _) = absurd (f t)
    gets_15 f (Demand1.done _ t _) = absurd (f t)

    gets_16 : {a : ScoreAnswer} → TermsLawful c → (NetsLawful d c → ⊥) → ScoreNumbered d rows c a → a ≡ refuses 16 0
    gets_16 t f (Demand1.not_passed u o) = absurd (not_refused u o)
    gets_16 t f (Demand1.bad_term _ g) = absurd (g t)
    gets_16 t f (Demand1.bad_net _ _ _) = rw zero_values
    gets_16 t f (Demand1.done _ _ n) = absurd (f n)

    gets_values : {a : ScoreAnswer} {s : Score} → TermsLawful c → NetsLawful d c → score_of d (from_rows rows) c ≡ s → ScoreNumbered d rows c a
        → a ≡ record { reply = plainly 0 0; values = s }
    gets_values t n e (Demand1.not_passed u o) = absurd (not_refused u o)
    gets_values t n e (Demand1.bad_term _ g) = absurd (g t)
    gets_values t n e (Demand1.bad_net _ _ g) = absurd (g n)
    gets_values t n e (Demand1.done _ _ _) = rw e

-- and where it does not pass them: the checker's own refusal, with what it names, and no value
gets_refusal : {d : Design} {rows : List ℕ} {c : Cost} {a : ScoreAnswer} → (Passed d rows → ⊥) → ScoreNumbered d rows c a
    → (b : Answer) × (a ≡ record { reply = b; values = values 0 0 }) × Tested d (CheckNumbered d rows) b × (b.number ≡ 0 → ⊥)
gets_refusal f (Demand1.not_passed {a = b} t o) = (b, rw zero_values, t, o)
gets_refusal f (Demand1.bad_term p _) = absurd (f p)
gets_refusal f (Demand1.bad_net p _ _) = absurd (f p)
gets_refusal f (Demand1.done p _ _) = absurd (f p)

module _ (S : Services) (demand : Demand1.Demand1 S) where
  -- rows of D that pass, with lawful terms and nets; with bad terms; with lawful terms and bad nets
  module _ {rows : List ℕ} {c : Cost} {r : Scored} (v : verdict D rows ≡ (Ok tt)) where
    right : {s : Score} → TermsLawful c → NetsLawful D c → score_of D (from_rows rows) c ≡ s → S.score D rows c r
        → scored_answer r ≡ record { reply = plainly 0 0; values = s }
    right t n e x = gets_values (passed D rows v) t n e (demand.numbered.score D rows c r x)

    wrong_terms : (TermsLawful c → ⊥) → S.score D rows c r → scored_answer r ≡ refuses 15 0
    wrong_terms f x = gets_15 (passed D rows v) f (demand.numbered.score D rows c r x)

    wrong_nets : TermsLawful c → (NetsLawful D c → ⊥) → S.score D rows c r → scored_answer r ≡ refuses 16 0
    wrong_nets t f x = gets_16 (passed D rows v) t f (demand.numbered.score D rows c r x)

  module _ (more : List Term) (others : List Net) (rest : List ℕ) (r : Scored) where
    -- The values. No term is needed, and a score is not always 0: 12, the area of 4 columns and 3 rows.
    pub scorer_wants_a_term : S.score D printed (asked [] more [] others) r
        → scored_answer r ≡ grants 0 0
    unfolding D all lawful_terms lawful_nets score_after of_int of_bits
    scorer_wants_a_term = right all_pass.0 refl refl refl

    pub scorer_gives_0 : S.score D printed (asked (Area one ∷ []) more [] others) r
        → scored_answer r ≡ grants 0x4028000000000000 0x4028000000000000
    unfolding D slot_rows padded stands has joined added standing from_rows area_of furthest
        all lawful_weight lawful_terms lawful_nets score_after add mul le of_int of_bits
    scorer_gives_0 = right all_pass.0 refl refl refl

    -- the rectangles' own box, or their cells, 12, for "the box from the chip's lower left corner": 24
    pub scorer_boxes_the_rectangles : S.score D raised (asked (Area one ∷ []) more [] others) r
        → scored_answer r ≡ grants 0x4038000000000000 0x4038000000000000
    unfolding D slot_rows padded stands has joined added standing from_rows area_of furthest
        all lawful_weight lawful_terms lawful_nets score_after add mul le of_int of_bits
    scorer_boxes_the_rectangles = right all_pass.3 refl refl refl

    -- terms in another order. An area and a wire term: the last amount is the wire's, 4, and the other way round the area's; three area terms with
    -- the weights 1 and twice 2 to the -54: the total is 12, and from the end it would be the next number
    pub scorer_keeps_the_first_amount : S.score D printed (asked (Area one ∷ Wire two ∷ []) more (net (0 ∷ 1 ∷ []) rest ∷ []) others) r
        → scored_answer r ≡ grants 0x4034000000000000 0x4010000000000000
    unfolding D slot_rows padded stands has joined added standing from_rows area_of furthest greatest_to least_to spread wire_of
        all in_range lawful_weight lawful_terms lawful_net lawful_nets score_after add mul le of_int of_bits
    scorer_keeps_the_first_amount = right all_pass.0 refl refl refl

    pub scorer_sorts_the_terms : S.score D printed (asked (Wire two ∷ Area one ∷ []) more (net (0 ∷ 1 ∷ []) rest ∷ []) others) r
        → scored_answer r ≡ grants 0x4034000000000000 0x4028000000000000
    unfolding D slot_rows padded stands has joined added standing from_rows area_of furthest greatest_to least_to spread wire_of
        all in_range lawful_weight lawful_terms lawful_net lawful_nets score_after add mul le of_int of_bits
    scorer_sorts_the_terms = right all_pass.0 refl refl refl

    pub scorer_adds_from_the_end : S.score D printed (asked (Area one ∷ Area tiny ∷ Area tiny ∷ []) more [] others) r
        → scored_answer r ≡ grants 0x4028000000000000 0x4028000000000000
    unfolding D slot_rows padded stands has joined added standing from_rows area_of furthest
        all lawful_weight lawful_terms lawful_nets score_after add mul le of_int of_bits
    scorer_adds_from_the_end = right all_pass.0 refl refl refl

    -- the weighted amount, 24, kept as the last; a product that is not rounded before it is added (0.037 times 12, to 12)
    pub scorer_keeps_the_weighted_amount : S.score D printed (asked (Area two ∷ []) more [] others) r
        → scored_answer r ≡ grants 0x4038000000000000 0x4028000000000000
    unfolding D slot_rows padded stands has joined added standing from_rows area_of furthest
        all lawful_weight lawful_terms lawful_nets score_after add mul le of_int of_bits
    scorer_keeps_the_weighted_amount = right all_pass.0 refl refl refl

    pub scorer_rounds_product_and_sum_at_once : S.score D printed (asked (Area one ∷ Area odd_weight ∷ []) more [] others) r
        → scored_answer r ≡ grants 0x4028e353f7ced916 0x4028000000000000
    unfolding D slot_rows padded stands has joined added standing from_rows area_of furthest
        all lawful_weight lawful_terms lawful_nets score_after add mul le of_int of_bits
    scorer_rounds_product_and_sum_at_once = right all_pass.0 refl refl refl

    -- h/w before w/h, the two quotients summed first, or the last module first; all modules' w/h before any h/w
    pub scorer_turns_the_quotients : S.score D uneven (asked (Ratio one ∷ []) more [] others) r
        → scored_answer r ≡ grants 0x4014aaaaaaaaaaab 0x4014aaaaaaaaaaab
    unfolding D from_rows ratio_of all lawful_weight lawful_terms lawful_nets score_after add mul div le of_int of_bits
    scorer_turns_the_quotients = right all_pass.1 refl refl refl

    pub scorer_parts_the_quotients : S.score D higher (asked (Ratio one ∷ []) more [] others) r
        → scored_answer r ≡ grants 0x4015aaaaaaaaaaab 0x4015aaaaaaaaaaab
    unfolding D from_rows ratio_of all lawful_weight lawful_terms lawful_nets score_after add mul div le of_int of_bits
    scorer_parts_the_quotients = right all_pass.2 refl refl refl

    -- a ratio term that goes on from the sum of the ratio term before it: each is 13/3, from zero
    pub scorer_goes_on_summing : S.score D printed (asked (Ratio one ∷ Ratio one ∷ []) more [] others) r
        → scored_answer r ≡ grants 0x4021555555555555 0x4011555555555555
    unfolding D from_rows ratio_of all lawful_weight lawful_terms lawful_nets score_after add mul div le of_int of_bits
    scorer_goes_on_summing = right all_pass.0 refl refl refl

    -- undoubled centres, 2 for 4; columns alone, or rows alone, 4 or 6 for 10; one of two nets alone, 4 for 8, or the way from
    -- member to member, 12
    pub scorer_halves_the_centres : S.score D printed (asked (Wire one ∷ []) more (net (0 ∷ 1 ∷ []) rest ∷ []) others) r
        → scored_answer r ≡ grants 0x4010000000000000 0x4010000000000000
    unfolding D from_rows greatest_to least_to spread wire_of all in_range lawful_weight lawful_terms lawful_net lawful_nets
        score_after add mul le of_int of_bits
    scorer_halves_the_centres = right all_pass.0 refl refl refl

    pub scorer_forgets_a_direction : S.score D staggered (asked (Wire one ∷ []) more (net (1 ∷ 0 ∷ []) rest ∷ []) others) r
        → scored_answer r ≡ grants 0x4024000000000000 0x4024000000000000
    unfolding D from_rows greatest_to least_to spread wire_of all in_range lawful_weight lawful_terms lawful_net lawful_nets
        score_after add mul le of_int of_bits
    scorer_forgets_a_direction = right all_pass.4 refl refl refl

    pub scorer_forgets_a_net : S.score D printed (asked (Wire one ∷ []) more (net (0 ∷ 1 ∷ 0 ∷ []) rest ∷ net (1 ∷ 0 ∷ []) rest ∷ []) others) r
        → scored_answer r ≡ grants 0x4020000000000000 0x4020000000000000
    unfolding D from_rows greatest_to least_to spread wire_of all in_range lawful_weight lawful_terms lawful_net lawful_nets
        score_after add mul le of_int of_bits
    scorer_forgets_a_net = right all_pass.0 refl refl refl

    -- Refused: the eighth term, the 32nd net or the 16th member, though there are places for them
    pub scorer_refuses_8_terms : S.score D printed (asked (replicate 8 (Area one)) more [] others) r
        → scored_answer r ≡ grants 0x4058000000000000 0x4028000000000000
    unfolding D slot_rows padded stands has joined added standing from_rows area_of furthest
        all lawful_weight lawful_terms lawful_nets score_after add mul le of_int of_bits
    scorer_refuses_8_terms = right all_pass.0 refl refl refl

    pub scorer_refuses_32_nets : S.score D printed (asked (Wire one ∷ []) more (replicate 32 (net (0 ∷ 1 ∷ []) rest)) others) r
        → scored_answer r ≡ grants 0x4060000000000000 0x4060000000000000
    unfolding D from_rows greatest_to least_to spread wire_of all in_range lawful_weight lawful_terms lawful_net lawful_nets
        score_after add mul le of_int of_bits
    scorer_refuses_32_nets = right all_pass.0 refl refl refl

    pub scorer_refuses_16_members : S.score D printed (asked (Wire one ∷ []) more (net (1 ∷ replicate 15 0) rest ∷ []) others) r
        → scored_answer r ≡ grants 0x4010000000000000 0x4010000000000000
    unfolding D from_rows greatest_to least_to spread wire_of all in_range lawful_weight lawful_terms lawful_net lawful_nets
        score_after add mul le of_int of_bits
    scorer_refuses_16_members = right all_pass.0 refl refl refl

    -- Weights: 0 to 1,000,000. Both ends refused; -0.0 refused, or let into the total, which is +0.0
    pub scorer_refuses_weight_1000000 : S.score D printed (asked (Area (f64 0x412e848000000000) ∷ []) more [] others) r
        → scored_answer r ≡ grants 0x4166e36000000000 0x4028000000000000
    unfolding D slot_rows padded stands has joined added standing from_rows area_of furthest
        all lawful_weight lawful_terms lawful_nets score_after add mul le of_int of_bits
    scorer_refuses_weight_1000000 = right all_pass.0 refl refl refl

    pub scorer_refuses_weight_0 : S.score D printed (asked (Area (f64 0) ∷ []) more [] others) r
        → scored_answer r ≡ grants 0 0x4028000000000000
    unfolding D slot_rows padded stands has joined added standing from_rows area_of furthest
        all lawful_weight lawful_terms lawful_nets score_after add mul le of_int of_bits
    scorer_refuses_weight_0 = right all_pass.0 refl refl refl

    pub scorer_refuses_minus_0 : S.score D printed (asked (Area (f64 0x8000000000000000) ∷ []) more [] others) r
        → scored_answer r ≡ grants 0 0x4028000000000000
    unfolding D slot_rows padded stands has joined added standing from_rows area_of furthest
        all lawful_weight lawful_terms lawful_nets score_after add mul le of_int of_bits
    scorer_refuses_minus_0 = right all_pass.0 refl refl refl

    -- let through: what is not a number; infinity; 1,000,001, and the next number after 1,000,000; -1, and the greatest number below 0; what is
    -- wrong behind the first weight; and a ninth term, of whatever eight there are and none
    pub scorer_takes_nan : S.score D printed (asked (Area (f64 0x7ff8000000000000) ∷ []) more [] others) r
        → scored_answer r ≡ refuses 15 0
    unfolding all lawful_weight lawful_terms le of_int of_bits
    scorer_takes_nan = wrong_terms all_pass.0 absurd_so

    pub scorer_takes_infinity : S.score D printed (asked (Area (f64 0x7ff0000000000000) ∷ []) more [] others) r
        → scored_answer r ≡ refuses 15 0
    unfolding all lawful_weight lawful_terms le of_int of_bits
    scorer_takes_infinity = wrong_terms all_pass.0 absurd_so

    pub scorer_takes_1000001 : S.score D printed (asked (Area (f64 0x412e848200000000) ∷ []) more [] others) r
        → scored_answer r ≡ refuses 15 0
    unfolding all lawful_weight lawful_terms le of_int of_bits
    scorer_takes_1000001 = wrong_terms all_pass.0 absurd_so

    pub scorer_takes_the_next_weight : S.score D printed (asked (Area (f64 0x412e848000000001) ∷ []) more [] others) r
        → scored_answer r ≡ refuses 15 0
    unfolding all lawful_weight lawful_terms le of_int of_bits
    scorer_takes_the_next_weight = wrong_terms all_pass.0 absurd_so

    pub scorer_takes_minus_1 : S.score D printed (asked (Area (f64 0xbff0000000000000) ∷ []) more [] others) r
        → scored_answer r ≡ refuses 15 0
    unfolding all lawful_weight lawful_terms le of_int of_bits
    scorer_takes_minus_1 = wrong_terms all_pass.0 absurd_so

    pub scorer_takes_a_little_below_0 : S.score D printed (asked (Area (f64 0x8000000000000001) ∷ []) more [] others) r
        → scored_answer r ≡ refuses 15 0
    unfolding all lawful_weight lawful_terms le of_int of_bits
    scorer_takes_a_little_below_0 = wrong_terms all_pass.0 absurd_so

    pub scorer_tests_the_first_weight : S.score D printed (asked (Area one ∷ Ratio (f64 0x7ff8000000000000) ∷ []) more [] others) r
        → scored_answer r ≡ refuses 15 0
    unfolding all lawful_weight lawful_terms le of_int of_bits
    scorer_tests_the_first_weight = wrong_terms all_pass.0 absurd_so

    pub scorer_takes_a_ninth_term : S.score D printed (cost more 9 others 0) r
        → scored_answer r ≡ refuses 15 0
    unfolding all lawful_weight lawful_terms le of_int of_bits
    scorer_takes_a_ninth_term = wrong_terms all_pass.0 absurd_so

    -- 15 and 16 both: 16 said
    pub scorer_tests_nets_first : S.score D printed (asked (Area (f64 0x7ff8000000000000) ∷ []) more (net [] rest ∷ []) others) r
        → scored_answer r ≡ refuses 15 0
    unfolding all lawful_weight lawful_terms le of_int of_bits
    scorer_tests_nets_first = wrong_terms all_pass.0 absurd_so

    -- Nets, of a score without a wire term too. Let through: an empty net; a module that D has not, behind one that it has; what is wrong behind
    -- the first net; a net with more members than it has places; and a 33rd net, of whatever nets there are
    pub scorer_takes_an_empty_net : S.score D printed (asked (Wire one ∷ []) more (net [] rest ∷ []) others) r
        → scored_answer r ≡ refuses 16 0
    unfolding D all in_range lawful_weight lawful_terms lawful_net lawful_nets le of_int of_bits
    scorer_takes_an_empty_net = wrong_nets all_pass.0 refl absurd_so

    pub scorer_skips_the_nets : S.score D printed (asked (Area one ∷ []) more (net [] rest ∷ []) others) r
        → scored_answer r ≡ refuses 16 0
    unfolding D all in_range lawful_weight lawful_terms lawful_net lawful_nets le of_int of_bits
    scorer_skips_the_nets = wrong_nets all_pass.0 refl absurd_so

    pub scorer_takes_module_m : S.score D printed (asked (Wire one ∷ []) more (net (0 ∷ 2 ∷ []) rest ∷ []) others) r
        → scored_answer r ≡ refuses 16 0
    unfolding D all in_range lawful_weight lawful_terms lawful_net lawful_nets le of_int of_bits
    scorer_takes_module_m = wrong_nets all_pass.0 refl absurd_so

    pub scorer_skips_the_members : S.score D printed (asked [] more (net (2 ∷ []) rest ∷ []) others) r
        → scored_answer r ≡ refuses 16 0
    unfolding D all in_range lawful_weight lawful_terms lawful_net lawful_nets le of_int of_bits
    scorer_skips_the_members = wrong_nets all_pass.0 refl absurd_so

    pub scorer_tests_the_first_net : S.score D printed (asked (Wire one ∷ []) more (net (0 ∷ 1 ∷ []) rest ∷ net [] rest ∷ []) others) r
        → scored_answer r ≡ refuses 16 0
    unfolding D all in_range lawful_weight lawful_terms lawful_net lawful_nets le of_int of_bits
    scorer_tests_the_first_net = wrong_nets all_pass.0 refl absurd_so

    pub scorer_takes_17_members : S.score D printed (asked (Wire one ∷ []) more (record { count = 17; modules = rest } ∷ []) others) r
        → scored_answer r ≡ refuses 16 0
    unfolding D all in_range lawful_weight lawful_terms lawful_net lawful_nets le of_int of_bits
    scorer_takes_17_members = wrong_nets all_pass.0 refl absurd_so

    pub scorer_takes_a_33rd_net : S.score D printed (cost (Wire one ∷ more) 1 others 33) r
        → scored_answer r ≡ refuses 16 0
    unfolding D all in_range lawful_weight lawful_terms lawful_net lawful_nets le of_int of_bits
    scorer_takes_a_33rd_net = wrong_nets all_pass.0 refl absurd_so

  -- The checker skipped, or its refusal given without what it names, or with values: rows too few for D; a RAM block in part; module 1 over the
  -- chip's right side; and a block higher than the chip. Whatever the terms and nets are, bad ones too.
  module _ (c : Cost) (r : Scored) where
    pub scorer_takes_few_rows : (rows : List ℕ) → length rows < 8 → S.score D rows c r → scored_answer r ≡ refuses 8 0
    unfolding D slot_rows
    scorer_takes_few_rows rows h x =
        let (b, e, t, o) = gets_refusal (λ p. let l = p.places in omega arith) (demand.numbered.score D rows c r x) in
        e ∙ rw (go (of_lawful D_lawful t))
      where
        go : {a : Answer} → CheckNumbered D rows a → a ≡ plainly 8 0
        go (Demand1.short _) = refl
        go (Demand1.off_the_chip l _) = absurd (omega arith)
        go (Demand1.short_of_need l _) = absurd (omega arith)
        go (Demand1.cut_not_kept l _) = absurd (omega arith)
        go (Demand1.done l _) = absurd (omega arith)

    pub scorer_skips_the_checker : S.score D half_block c r → scored_answer r ≡ refuses 13 0
    unfolding D slot_rows padded stands has joined added standing from_rows
    scorer_skips_the_checker x =
        let (b, e, t, o) = gets_refusal (λ p. half_not_suited (p.placement.suits 0 refl)) (demand.numbered.score D half_block c r x) in
        e ∙ rw (go (of_lawful D_lawful t))
      where
        on : OnChip 5 6 (from_rows half_block 0)
        on = record { wide = omega arith; high = omega arith; columns = omega arith; rows = omega arith }

        go : {a : Answer} → CheckNumbered D half_block a → a ≡ plainly 13 0
        go (Demand1.short l) = absurd (omega arith)
        go (Demand1.off_the_chip {k = zero} _ f) = absurd (f.fault on)
        go (Demand1.off_the_chip {k = suc k} _ f) = absurd (half_not_suited (f.before 0 (omega arith)).suits)
        go (Demand1.short_of_need {k = zero} _ _) = refl
        go (Demand1.short_of_need {k = suc k} _ f) = absurd (half_not_suited (f.before 0 (omega arith)).suits)
        go (Demand1.cut_not_kept _ f) = absurd (half_not_suited (f.fine 0 (omega arith)).suits)
        go (Demand1.done _ l) = absurd (half_not_suited (l.suits 0 refl))

    pub scorer_loses_the_name : S.score D over_the_side c r → scored_answer r ≡ refuses 12 1
    unfolding D slot_rows padded stands has joined added standing from_rows
    scorer_loses_the_name x =
        let (b, e, t, o) = gets_refusal (λ p. let h = (p.placement.on_chip 1 refl).columns in omega arith) (demand.numbered.score D over_the_side c r x) in
        e ∙ rw (go (of_lawful D_lawful t))
      where
        go : {a : Answer} → CheckNumbered D over_the_side a → a ≡ plainly 12 1
        go (Demand1.short l) = absurd (omega arith)
        go (Demand1.off_the_chip {k = zero} _ f) = absurd (f.fault (printed_lawful.on_chip 0 refl))
        go (Demand1.off_the_chip {k = suc zero} _ _) = refl
        go (Demand1.off_the_chip {k = suc (suc k)} _ f) = let h = f.below in absurd (omega arith)
        go (Demand1.short_of_need {k = zero} _ f) = absurd (f.fault (printed_lawful.suits 0 refl))
        go (Demand1.short_of_need {k = suc zero} _ f) = let h = f.on_chip.columns in absurd (omega arith)
        go (Demand1.short_of_need {k = suc (suc k)} _ f) = let h = f.below in absurd (omega arith)
        go (Demand1.cut_not_kept _ f) = let h = (f.fine 1 (omega arith)).on_chip.columns in absurd (omega arith)
        go (Demand1.done _ l) = let h = (l.on_chip 1 refl).columns in absurd (omega arith)

    pub scorer_takes_a_tall_block : (rows : List ℕ) → S.score tall rows c r → scored_answer r ≡ refuses 4 0
    scorer_takes_a_tall_block rows x =
        let (b, e, t, o) = gets_refusal (λ p. tall_breaks_limits ((lawful_iff tall).0 p.lawful).0) (demand.numbered.score tall rows c r x) in
        e ∙ rw (gets_4 tall_breaks_limits t)

    pub scorer_takes_a_module_twice : (rows : List ℕ) → S.score twice rows c r → scored_answer r ≡ refuses 5 0
    scorer_takes_a_module_twice rows x =
        let (b, e, t, o) = gets_refusal unlawful (demand.numbered.score twice rows c r x) in e ∙ rw (gets_5 twice_bad_token t)
      where
        unlawful : Passed twice rows → ⊥
        unlawful p = let s = ((lawful_iff twice).0 p.lawful).1 in let q = twice_bad_token.1 in let z : ◌≡◌ {A = ℕ} 0 1 = cc in omega arith

-- ---- Order 1's own promises reject what breaks each of them, over any design.
-- what is finite and not negative is no such number
not_infinite : {x : Float} (s : Bool) → NotNegative x → x ≡ inf s → ⊥
not_infinite s finite e = let z : ◌≡◌ {A = ℕ} 0 1 = cc in omega arith

not_nan : {x : Float} → NotNegative x → x ≡ nan → ⊥
not_nan finite e = let z : ◌≡◌ {A = ℕ} 0 1 = cc in omega arith

not_minus : {x : Float} {m : ℕ} {e : ℤ} → NotNegative x → x ≡ fin true m e → ⊥
not_minus finite q = let z : true ≡ false = cc in true≢false z

-- a net of two modules, and one that names them in the other order, and one of them twice
named : (k j : ℕ) (rest more : List ℕ) → Names (net (k ∷ j ∷ []) rest) (net (j ∷ k ∷ k ∷ []) more)
named k j rest more zero h = (1, omega arith, refl)
named k j rest more (suc zero) h = (0, omega arith, refl)
named k j rest more (suc (suc i)) h = absurd (omega arith)

named_back : (k j : ℕ) (rest more : List ℕ) → Names (net (j ∷ k ∷ k ∷ []) more) (net (k ∷ j ∷ []) rest)
named_back k j rest more zero h = (1, omega arith, refl)
named_back k j rest more (suc zero) h = (0, omega arith, refl)
named_back k j rest more (suc (suc zero)) h = (0, omega arith, refl)
named_back k j rest more (suc (suc (suc i))) h = absurd (omega arith)

module _ (S : Services) (well : ScoredWell S) where
  module _ (d : Design) (rows : List ℕ) (c : Cost) (r : Scored) (x : S.score d rows c r) where
    -- an infinity, what is not a number, -0.0 or less, as the total or as the last amount
    pub scorer_gives_infinity : (s : Bool) → ((values_of r).total ≡ inf s) ⊎ ((values_of r).last ≡ inf s) → ⊥
    scorer_gives_infinity s e = let (a, b) = well.values_finite d rows c r x in ⊎_elim (not_infinite s a) (not_infinite s b) e

    pub scorer_gives_nan : ((values_of r).total ≡ nan) ⊎ ((values_of r).last ≡ nan) → ⊥
    scorer_gives_nan e = let (a, b) = well.values_finite d rows c r x in ⊎_elim (not_nan a) (not_nan b) e

    pub scorer_gives_minus_0 : (m : ℕ) (e : ℤ) → ((values_of r).total ≡ fin true m e) ⊎ ((values_of r).last ≡ fin true m e) → ⊥
    scorer_gives_minus_0 m e q = let (a, b) = well.values_finite d rows c r x in ⊎_elim (not_minus a) (not_minus b) q

    -- the values so far beside a refusal
    pub scorer_keeps_the_values : (score_number r ≡ 0 → ⊥) → (values_of r).last ≡ f64 0x4028000000000000 → ⊥
    unfolding le of_int of_bits
    scorer_keeps_the_values o e = false≢true (ap (λ y. le y (f64 0)) (sym e ∙ ap (λ s. s.last) (well.refused_zero d rows c r x o)))

    -- 0 where the checker refuses, and a refusal where nothing is wrong
    pub scorer_asks_another_checker : (q : Reply) → S.check d rows q → ((answer q).number ≡ 0 → ⊥) → score_number r ≡ 0 → ⊥
    scorer_asks_another_checker q y o e = o ((well.exactly d rows c r q x y).0 e).0

    pub scorer_refuses_all : (q : Reply) → S.check d rows q → (answer q).number ≡ 0 → TermsLawful c → NetsLawful d c → score_number r ≡ 0
    scorer_refuses_all q y e t n = (well.exactly d rows c r q x y).1 (e, t, n)

  -- rows from plan refused by what the checker says; and another area than that of plan's box, which is 4 by 3 for D
  module _ (d : Design) (before rows after rows' : List ℕ) (r : Planned) (c : Cost) (q : Scored) (h : Enough d before rows)
      (x : S.plan d before rows r after rows') (e : (planned_answer r).number ≡ 0) (y : S.score d rows' c q) where
    pub scorer_refuses_a_plan : score_number q ≡ 13 → ⊥
    scorer_refuses_a_plan z =
        ⊎_elim (λ u. omega arith) (λ u. ⊎_elim (λ v. omega arith) (λ v. omega arith) u) (well.planned d before rows after rows' r c q h x e y)

    pub scorer_draws_another_box : (planned_answer r).box ≡ shape 4 3 → score_number q ≡ 0 → AreaLast c → (values_of q).last ≡ f64 0x4028000000000000
    unfolding of_int of_bits
    scorer_draws_another_box b z a = well.planned_area d before rows after rows' r c q h x e y z a ∙ rw b

  -- a module named twice that counts twice
  pub scorer_counts_a_module_twice : (d : Design) (rows : List ℕ) (terms : List Term) (n k j : ℕ) (rest more : List ℕ) (r r' : Scored)
      → S.score d rows (cost terms n (net (k ∷ j ∷ []) rest ∷ []) 1) r → S.score d rows (cost terms n (net (j ∷ k ∷ k ∷ []) more ∷ []) 1) r'
      → score_number r ≡ 0 → score_number r' ≡ 0 → values_of r ≡ values_of r'
  scorer_counts_a_module_twice d rows terms n k j rest more r r' x y = well.once_each d rows _ _ r r' alike x y
    where
      both : (i : ℕ) → i < 1 → let a = get_or (net (k ∷ j ∷ []) rest ∷ []) i no_net in let b = get_or (net (j ∷ k ∷ k ∷ []) more ∷ []) i no_net in Names a b × Names b a
      both zero h = (named k j rest more, named_back k j rest more)
      both (suc i) h = absurd (omega arith)

      alike : NamedAlike (cost terms n (net (k ∷ j ∷ []) rest ∷ []) 1) (cost terms n (net (j ∷ k ∷ k ∷ []) more ∷ []) 1)
      alike = record { term_count = refl; terms = λ i h. refl; net_count = refl; nets = both }
