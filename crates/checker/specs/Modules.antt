-- The judgement of one module: its rectangle from four bytes, 12 before 13.
use Rattle.std.specs.Prelude.{Bool, true, false, ℕ, Ok, Err}
use Rattle.rules.specs.declared.Design.{Design}
use Rattle.rules.specs.declared.Refusal.TheVariants.{OffTheChip, ShortOfNeed}
use Rattle.rules.specs.Answers.{Reply}
use Rattle.rules.specs.Placement.{Placement}
use Rattle.rules.specs.Check.{is_on, is_suited}

-- "(12 before 13 for each)": the reply to a module that is on the chip or not, and suited or not
abbrev pub module_reply : ℕ → Bool → Bool → Reply
module_reply k true true = (Ok tt)
module_reply k true false = Err (ShortOfNeed k)
module_reply k false suited = Err (OffTheChip k)

unfoldable pub judged_module : Design → Placement → ℕ → Reply
judged_module d p k = module_reply k (is_on d (p k)) (is_suited d k (p k))
