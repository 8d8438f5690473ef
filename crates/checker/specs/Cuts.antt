-- The pass over the tokens: the extents of the things that stand; it ends at a cut that is not kept.
use Rattle.std.specs.Prelude.{Bool, true, false, Option, Some, None, List, ℕ, ◌+◌, ◌-◌, ◌*◌, ◌≤◌, ◌<◌, leb, length, get_or, set, replicate}
use Rattle.rules.specs.declared.Direction.{Direction}
use Rattle.rules.specs.declared.Token.{Token}
use Rattle.rules.specs.declared.Token.TheVariants.{Cut, Module, Beyond}
use Rattle.rules.specs.Placement.{Placement}
use Rattle.rules.specs.Design.{most_tokens}
use Rattle.rules.proofs.Test.{across}
use Rattle.extents.specs.declared.Extent.{Extent}
use Rattle.extents.specs.Sides.{extent, extent_of, together}
use Rattle.checker.specs.declared.Pass.{Pass}

-- one thing ends at or before the place where the other begins
abbrev pub ends_before : Direction → Extent → Extent → Bool
ends_before d l r = leb (across d l.far.x.0 l.far.y.0) (across d r.low.x.0 r.low.y.0)

-- nothing stands yet
abbrev pub nowhere : Extent
nowhere = extent 0 0 0 0

unfoldable pub at_start : Pass
at_start = record { extents = replicate most_tokens nowhere; standing = 0 }

-- a module stands
abbrev pub after_module : Pass → Extent → Pass
after_module s e = record { extents = set s.extents s.standing e; standing = s.standing + 1 }

-- the pass goes on where a cut is kept, and ends where it is not
abbrev pub while_kept : Bool → Pass → Option Pass
while_kept true s = Some s
while_kept false s = None

-- "A cut joins the two things standing last, the earlier being its left child."
abbrev pub after_cut : Pass → Direction → Option Pass
after_cut s d =
    let l = get_or s.extents (s.standing - 2) nowhere in let r = get_or s.extents (s.standing - 1) nowhere in
    while_kept (ends_before d l r) (record { extents = set s.extents (s.standing - 2) (together l r); standing = s.standing - 1 })

abbrev pub after_token : Placement → Pass → Token → Option Pass
after_token p s (Cut d) = after_cut s d
after_token p s (Module k) = Some (after_module s (extent_of (p k)))
after_token p s Beyond = Some s

-- there is room for what the token adds, and what it joins stands
abbrev pub Ready : List ℕ → ℕ → Token → Type 0
Ready rows standing (Cut d) = (2 ≤ standing) × (standing ≤ most_tokens)
Ready rows standing (Module k) = (standing < most_tokens) × (4 * k + 4 ≤ length rows)
Ready rows standing Beyond = Unit {0}
