-- What a program says is what is taken: the terms and nets that slices are made from are those that a score is asked with, as long as there are
-- no more than there may be. And what is taken and lawful is what was said: slices that say no terms or nets are refused. Assumes nothing.
use mathlib.Core.Path.{◌≡◌, refl, ap}
use mathlib.Core.Bool.{Bool, true, false, So}
use mathlib.Core.List.{List, [], ◌∷◌, ◌++◌, map}
use Prim.Native.Nat.{ℕ, zero, suc, ◌≤◌, ◌<◌}
use native.Mathlib.Omega.{arith}
use lib.ListN.{length, length-append, take-append-drop}
use lib.Seq.{length-take-le, take_at, drop_at}
use lib.Ieee.{Float, nan, le, of_int}
use borrow.Author.Tests.{le-leb}
use Rattle.rules.specs.declared.Design.{Design}
use Rattle.rules.specs.declared.Term.{Term}
use Rattle.rules.specs.declared.Term.TheVariants.{Area, Ratio, Wire}
use Rattle.rules.specs.declared.Net.{Net}
use Rattle.rules.specs.Design.{most_modules}
use Rattle.rules.specs.Service.{TermsLawful, NetsLawful}
use Rattle.rules.specs.Score.{most_terms, most_nets, term_at, no_net, net_at, weight_of, lawful_weight}
use Rattle.rules.proofs.Searching.{absurd_so, test-iffs}
use Rattle.rules.proofs.Scoring.{NetLimits, terms_limits, nets_limits}
use Rattle.costs.specs.Slices.{term_of, terms_in, net_there, first_net, past_net, nets_in, cost_in, kind_number, nets_bytes, Said}
use Rattle.costs.proofs.Netting.{first_there, first_none, past_there}

of_kind : (t : Term) → term_of (kind_number t) (weight_of t) ≡ t
of_kind (Area w) = refl
of_kind (Ratio w) = refl
of_kind (Wire w) = refl

pub terms_said : (most : ℕ) (terms : List Term) → length terms ≤ most → terms_in most (map kind_number terms) (map weight_of terms) ≡ terms
unfolding terms_in
terms_said most [] h = refl
terms_said zero (t ∷ ts) h = absurd (omega arith)
terms_said (suc most) (t ∷ ts) h = rw (of_kind t, terms_said most ts (omega arith))

module _ (net : Net) (said : Said net) (rest : List ℕ) where
  there : net_there (net.count ∷ (net.modules ++ rest)) ≡ true
  unfolding net_there
  there =
      let l = length-append net.modules rest in let m = said.members in
      rw (le-leb net.count most_modules said.few, le-leb net.count (length (net.modules ++ rest)) (omega arith))

  first_said : first_net (net.count ∷ (net.modules ++ rest)) ≡ net
  unfolding first_net
  first_said = rw (first_net, there) (λ i. record { count = net.count; modules = take_at net.modules rest net.count said.members i })

  past_said : past_net (net.count ∷ (net.modules ++ rest)) ≡ rest
  unfolding past_net
  past_said = rw (past_net, there) (drop_at net.modules rest net.count said.members)

unfoldable pub AllSaid : List Net → Type 0
AllSaid [] = Unit {0}
AllSaid (net ∷ nets) = Said net × AllSaid nets

pub nets_said : (most : ℕ) (nets : List Net) → AllSaid nets → length nets ≤ most → nets_in most (nets_bytes nets) ≡ nets
unfolding nets_in nets_bytes AllSaid
nets_said zero [] s h = refl
nets_said (suc most) [] s h = refl
nets_said zero (net ∷ nets) s h = absurd (omega arith)
nets_said (suc most) (net ∷ nets) s h =
    rw (first_said net s.0 (nets_bytes nets), past_said net s.0 (nets_bytes nets), nets_said most nets s.1 (omega arith))

-- what is no term has no lawful weight, and what is no net has no members
not_lawful : So (lawful_weight nan) → ⊥
unfolding lawful_weight le of_int
not_lawful = absurd_so

abbrev pub EachLawful : List Term → Type 0
EachLawful terms = (i : ℕ) → i < length terms → So (lawful_weight (weight_of (term_at terms i)))

kind_back : (k : ℕ) (w : Float) → So (lawful_weight (weight_of (term_of k w))) → (kind_number (term_of k w) ≡ k) × (weight_of (term_of k w) ≡ w)
kind_back zero w l = (refl, refl)
kind_back (suc zero) w l = (refl, refl)
kind_back (suc (suc zero)) w l = (refl, refl)
kind_back (suc (suc (suc k))) w l = absurd (not_lawful l)

pub terms_back : (most : ℕ) (ks : List ℕ) (ws : List Float) → EachLawful (terms_in most ks ws)
    → (map kind_number (terms_in most ks ws) ≡ ks) × (map weight_of (terms_in most ks ws) ≡ ws)
unfolding terms_in
terms_back most [] [] f = (refl, refl)
terms_back most [] (w ∷ ws) f = absurd (not_lawful (f 0 (omega arith)))
terms_back most (k ∷ ks) [] f = absurd (not_lawful (f 0 (omega arith)))
terms_back zero (k ∷ ks) (w ∷ ws) f = absurd (not_lawful (f 0 (omega arith)))
terms_back (suc most) (k ∷ ks) (w ∷ ws) f =
    let (a, b) = kind_back k w (f 0 (omega arith)) in let (x, y) = terms_back most ks ws (λ i h. f (suc i) (omega arith)) in
    (rw (a, x), rw (b, y))

-- a net that is there, in the bytes that begin with it
there_back : (s : List ℕ) → net_there s ≡ true → Said (first_net s) × ((first_net s).count ∷ ((first_net s).modules ++ past_net s) ≡ s)
unfolding net_there
there_back [] t = absurd (absurd_so t)
there_back (n ∷ s) t =
    let z = simp test-iffs at t in let few = z.0 in let rest = z.1 in
    rw (first_there (n ∷ s) t, past_there (n ∷ s) t)
    (record { members = length-take-le n s rest; few = few }, ap (λ l. n ∷ l) (take-append-drop n s))

abbrev pub EachNet : ℕ → List Net → Type 0
EachNet m nets = (i : ℕ) → i < length nets → NetLimits m (net_at nets i)

none_lawful : {m : ℕ} {A : Type 0} → NetLimits m no_net → A
none_lawful l = let h = l.some in absurd (omega arith)

pub nets_back : (m most : ℕ) (s : List ℕ) → EachNet m (nets_in most s) → AllSaid (nets_in most s) × (nets_bytes (nets_in most s) ≡ s)
unfolding nets_in nets_bytes AllSaid
nets_back m zero [] f = (tt, refl)
nets_back m zero (n ∷ s) f = none_lawful (f 0 (omega arith))
nets_back m (suc most) [] f = (tt, refl)
nets_back m (suc most) (n ∷ s) f =
    go (net_there (n ∷ s)) refl (f 0 (omega arith)) (nets_back m most (past_net (n ∷ s)) (λ i h. f (suc i) (omega arith)))
  where
    go : (b : Bool) → net_there (n ∷ s) ≡ b → NetLimits m (first_net (n ∷ s))
        → AllSaid (nets_in most (past_net (n ∷ s))) × (nets_bytes (nets_in most (past_net (n ∷ s))) ≡ past_net (n ∷ s))
        → (Said (first_net (n ∷ s)) × AllSaid (nets_in most (past_net (n ∷ s))))
        × ((first_net (n ∷ s)).count ∷ ((first_net (n ∷ s)).modules ++ nets_bytes (nets_in most (past_net (n ∷ s)))) ≡ n ∷ s)
    go true t l z = let (a, b) = there_back (n ∷ s) t in ((a, z.0), rw z.1 b)
    go false e l z = none_lawful (rw (first_none (n ∷ s) e) at l)

-- So a score is granted (0: "exactly if the checker passes and terms and nets are lawful") only where the slices say the terms and nets that it is
-- asked with; all else is 15 or 16.
module _ (d : Design) (kinds : List ℕ) (weights : List Float) (bytes : List ℕ) where
  pub said_terms : TermsLawful (cost_in kinds weights bytes) → let terms = terms_in most_terms kinds weights in
      (map kind_number terms ≡ kinds) × (map weight_of terms ≡ weights)
  said_terms t = terms_back most_terms kinds weights (terms_limits _ _ t).each

  pub said_nets : NetsLawful d (cost_in kinds weights bytes) → let nets = nets_in most_nets bytes in AllSaid nets × (nets_bytes nets ≡ bytes)
  said_nets t = nets_back d.modules most_nets bytes (nets_limits _ _ _ t).each
