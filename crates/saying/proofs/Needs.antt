-- What each module of a lawful design needs is within the limits. Assumes nothing.
use Prim.Native.Nat.{ℕ, ◌<◌}
use lib.ListN.{get_or, take}
use lib.Seq.{get_or-take}
use Rattle.rules.specs.declared.Design.{Design}
use Rattle.rules.specs.Design.{no_need, LawfulDesign}
use Rattle.rules.proofs.Limits.{NeedLimits, limits, need_limits}

pub need_within : (d : Design) (k : ℕ) → LawfulDesign d → k < d.modules → NeedLimits (get_or (take d.modules d.needs) k no_need)
need_within d k e h = let l = limits d e in rw (get_or-take d.modules d.needs k no_need h) (need_limits _ (l.needs k h))
