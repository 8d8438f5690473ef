-- What rounding once leaves of numbers that are finite and not negative. Rounding keeps the order, and whole numbers up to 2 to the 53
-- are left as they are: so where a sum, a product or a quotient is at most such a number before rounding, it is after. Assumes nothing.
use mathlib.Core.Path.{◌≡◌, refl, sym, ◌∙◌, ap, subst}
use mathlib.Core.Logic.{◌⊎◌, inl, inr}
use mathlib.Core.Bool.{Bool, true, false, ◌&&◌, ◌||◌, cond, So, true≢false, false≢true}
use Prim.Native.Nat.{ℕ, suc, ◌+◌, ◌-◌, ◌*◌, ◌^◌, ◌≤◌, ◌<◌, zero-le}
use native.Mathlib.Omega.{arith}
use native.Mathlib.Nat.{le_trans, le_of_eq, eq-zero-or-pos, mul-one, zero-mul, mul_comm, mul_assoc, mul-pos, mul-le-mul, mul-le-mul_right, mul-mul-mul_comm, add-mul}
use lib.Dec.{T, ltb, eqb, ltb→lt, eqb→eq, lit≤}
use lib.Ieee.{Float, nan, inf, fin, Format, binary64, prec, emax, low, up, down, odd, units, round, sum, add, mul, div, le, of_int, of_bits}
use lib.Ieee.Fits.{up_pos, down_pos, and_l, and_r, round_is}
use lib.Ieee.Exact.{HasValue, odd_sign}
use lib.Ieee.Back.{round_whole}
use lib.Ieee.Order.{round_mono}
use lib.Ieee.Scale.{round_same}
use lib.Ieee.Positive.{first_pos, through}
use borrow.Author.Tests.{le-ltb, ne_eqb}
use Rattle.rules.specs.Score.{plus, times, over, exact, most_weight, lawful_weight}
use Rattle.rules.proofs.Searching.{and_iff}

-- finite, with the sign plus, and at most n
abbrev pub UpTo : ℕ → Float → Type 0
UpTo n nan = ⊥
UpTo n (inf s) = ⊥
UpTo n (fin s m e) = (s ≡ false) × (m * up e ≤ n * down e)

-- the same, but a zero may have the sign minus
abbrev pub NearlyUpTo : ℕ → Float → Type 0
NearlyUpTo n nan = ⊥
NearlyUpTo n (inf s) = ⊥
NearlyUpTo n (fin s m e) = (s ≡ true → m ≡ 0) × (m * up e ≤ n * down e)

pub nearly : (n : ℕ) (x : Float) → UpTo n x → NearlyUpTo n x
nearly n nan u = absurd u
nearly n (inf s) u = absurd u
nearly n (fin true m e) u = absurd (true≢false u.0)
nearly n (fin false m e) u = (λ q. absurd (false≢true q), u.1)

-- what is at most n is at most any number above
pub up_to_more : (n k : ℕ) (x : Float) → n ≤ k → UpTo n x → UpTo k x
up_to_more n k nan h u = absurd u
up_to_more n k (inf s) h u = absurd u
up_to_more n k (fin s m e) h u = (u.0, le_trans u.1 (mul-le-mul_right (down e) h))

-- ---- the sign that a number is rounded with is the sign that it has
abbrev HasSign : Bool → Float → Type 0
HasSign s nan = ⊥
HasSign s (inf t) = t ≡ s
HasSign s (fin t m e) = t ≡ s

value_sign : (x : Float) (s : Bool) (a c : ℕ) → HasValue x s a c → HasSign s x
value_sign nan s a c v = absurd v
value_sign (inf t) s a c v = absurd v
value_sign (fin t m e) s a c v = v.0

units_sign : (f : Format) (s : Bool) (q k : ℕ) → HasSign s (units f s q k)
unfolding units
units_sign f s q k = go (ltb (q * 2 ^ k) (2 ^ (low f + suc (emax f))))
  where
    go : (b : Bool) → HasSign s (cond b (odd (suc (prec f)) s q k (low f)) (inf s))
    go true = value_sign (odd (suc (prec f)) s q k (low f)) s (q * 2 ^ k) (2 ^ low f) (odd_sign (suc (prec f)) s q k (low f))
    go false = refl

round_sign : (f : Format) (s : Bool) (a c : ℕ) → HasSign s (round f s a c)
round_sign f s a c = subst (HasSign s) (sym (round_is f s a c)) (units_sign f s _ _)

-- ---- what is not above a whole number
or_split : (a b : Bool) → T (a || b) → T a ⊎ T b
or_split true b t = inl tt
or_split false b t = inr t

lt_or_eq : (a b : ℕ) → T (ltb a b || (eqb a b && true)) → a ≤ b
lt_or_eq a b t = go (or_split (ltb a b) (eqb a b && true) t)
  where
    go : T (ltb a b) ⊎ T (eqb a b && true) → a ≤ b
    go (inl u) = omega (arith, ltb→lt a b u)
    go (inr u) = omega (arith, eqb→eq a b (and_l (eqb a b) true u))

not_above : (x y : Float) (n : ℕ) → HasSign false x → HasValue y false n 1 → T (le x y) → UpTo n x
unfolding le
not_above nan y n s v h = absurd s
not_above (inf true) y n s v h = absurd (true≢false s)
not_above (inf false) nan n s v h = absurd v
not_above (inf false) (inf t) n s v h = absurd v
not_above (inf false) (fin t k d) n s v h = absurd h
not_above (fin true m e) y n s v h = absurd (true≢false s)
not_above (fin false m e) nan n s v h = absurd v
not_above (fin false m e) (inf t) n s v h = absurd v
not_above (fin false m e) (fin true k d) n s v h = absurd (true≢false v.0)
not_above (fin false m e) (fin false k d) n s v h =
    let c = lt_or_eq (m * up e * down d) (k * up d * down e) h in
    let q = through (m * up e) (k * up d) n (down e) (down d) 1 (down_pos d) c (le_of_eq v.1) in (refl, rw mul-one at q)

-- a fraction that is at most n, rounded
round_up_to : (n a c : ℕ) → 0 < c → n ≤ 2 ^ 53 → a ≤ n * c → UpTo n (round binary64 false a c)
round_up_to n a c C N h =
    not_above (round binary64 false a c) (round binary64 false n 1) n (round_sign binary64 false a c) (round_whole binary64 false n N)
    (round_mono binary64 a c n 1 C (lit≤ tt) (rw mul-one h))

-- ---- zero, with either sign
no_factor : (m u : ℕ) → 0 < u → m * u ≡ 0 → m ≡ 0
no_factor m u U e = go (eq-zero-or-pos m)
  where
    go : (m ≡ 0) ⊎ (0 < m) → m ≡ 0
    go (inl z) = z
    go (inr p) = absurd (omega (arith, mul-pos p U))

zero_nearly : (n : ℕ) (x : Float) (s : Bool) → HasValue x s 0 1 → NearlyUpTo n x
zero_nearly n nan s v = absurd v
zero_nearly n (inf t) s v = absurd v
zero_nearly n (fin t m e) s v =
    let z : m * up e ≡ 0 = sym (mul-one (m * up e)) ∙ v.1 ∙ zero-mul (down e) in (λ q. no_factor m (up e) (up_pos e) z, omega arith)

round_zero : (n : ℕ) (s : Bool) (a c : ℕ) → 0 < c → a ≡ 0 → NearlyUpTo n (round binary64 s a c)
round_zero n s a c C e =
    let q : a * 1 ≡ 0 * c = rw e (simp zero-mul) in
    subst (NearlyUpTo n) (sym (round_same binary64 s a c 0 1 C (lit≤ tt) q)) (zero_nearly n (round binary64 s 0 1) s (round_whole binary64 s 0 (lit≤ tt)))

-- ---- whole numbers
pub exact_value : (n : ℕ) → n ≤ 2 ^ 53 → HasValue (exact n) false n 1
unfolding of_int
exact_value n h = round_whole binary64 false n h

-- a literal 0.0 is the number 0
pub zero_is : of_bits binary64 0 ≡ exact 0
unfolding of_bits of_int
zero_is = refl

value_up_to : (n : ℕ) (x : Float) → HasValue x false n 1 → UpTo n x
value_up_to n nan v = absurd v
value_up_to n (inf s) v = absurd v
value_up_to n (fin s m e) v = (v.0, le_of_eq (sym (mul-one (m * up e)) ∙ v.1))

pub exact_up_to : (n : ℕ) → n ≤ 2 ^ 53 → UpTo n (exact n)
exact_up_to n h = value_up_to n (exact n) (exact_value n h)

-- ---- a quotient: by what is 1 at least, an infinity included
abbrev FromOne : Float → Type 0
FromOne nan = ⊥
FromOne (inf s) = s ≡ false
FromOne (fin s m e) = (s ≡ false) × (down e ≤ m * up e)

not_below_one : (x y : Float) → HasValue x false 1 1 → HasSign false y → T (le x y) → FromOne y
unfolding le
not_below_one nan y v s h = absurd v
not_below_one (inf t) y v s h = absurd v
not_below_one (fin true m e) y v s h = absurd (true≢false v.0)
not_below_one (fin false m e) nan v s h = absurd s
not_below_one (fin false m e) (inf t) v s h = s
not_below_one (fin false m e) (fin true k d) v s h = absurd (true≢false s)
not_below_one (fin false m e) (fin false k d) v s h =
    let c = lt_or_eq (m * up e * down d) (k * up d * down e) h in
    let q = through 1 (m * up e) (k * up d) 1 (down e) (down d) (down_pos e) (le_of_eq (sym v.1)) c in (refl, omega arith)

exact_from_one : (n : ℕ) → 1 ≤ n → FromOne (exact n)
unfolding of_int
exact_from_one n h =
    not_below_one (round binary64 false 1 1) (round binary64 false n 1) (round_whole binary64 false 1 (lit≤ tt)) (round_sign binary64 false n 1)
    (round_mono binary64 1 1 n 1 (lit≤ tt) (lit≤ tt) (omega arith))

over_from_one : (n : ℕ) (x y : Float) → n ≤ 2 ^ 53 → UpTo n x → FromOne y → UpTo n (over x y)
unfolding div
over_from_one n nan y N u v = absurd u
over_from_one n (inf s) y N u v = absurd u
over_from_one n (fin true m e) y N u v = absurd (true≢false u.0)
over_from_one n (fin false m e) nan N u v = absurd v
over_from_one n (fin false m e) (inf true) N u v = absurd (true≢false v)
over_from_one n (fin false m e) (inf false) N u v = (refl, zero-le)
over_from_one n (fin false m e) (fin true k d) N u v = absurd (true≢false v.0)
over_from_one n (fin false m e) (fin false k d) N u v =
    let some : 0 < k * up d = le_trans (down_pos d) v.1 in let K = first_pos k (up d) some in
    rw (ne_eqb k 0 (λ z. omega arith))
    (round_up_to n (m * up e * down d) (k * up d * down e) (mul-pos some (down_pos e)) N
    (le_trans (mul-le-mul u.1 v.1) (le_of_eq (mul_assoc n (down e) (k * up d) ∙ ap (λ z. n * z) (mul_comm (down e) (k * up d))))))

pub over_up_to : (n w h : ℕ) → 1 ≤ h → w ≤ n → n ≤ 2 ^ 53 → UpTo n (over (exact w) (exact h))
over_up_to n w h H W N =
    over_from_one n (exact w) (exact h) N (up_to_more w n (exact w) W (exact_up_to w (le_trans W N))) (exact_from_one h H)

-- ---- a sum
plus_fraction : (a b m e n d : ℕ) → m ≤ a * e → n ≤ b * d → m * d + n * e ≤ (a + b) * (e * d)
plus_fraction a b m e n d h k =
    let p : m * d ≤ a * (e * d) = le_trans (mul-le-mul_right d h) (le_of_eq (mul_assoc a e d)) in
    let q : n * e ≤ b * (e * d) = le_trans (mul-le-mul_right e k) (le_of_eq (mul_assoc b d e ∙ ap (λ z. b * z) (mul_comm d e))) in
    omega (arith, add-mul a b (e * d))

pub plus_nearly : (a b : ℕ) (x y : Float) → a + b ≤ 2 ^ 53 → UpTo a x → NearlyUpTo b y → UpTo (a + b) (plus x y)
unfolding add sum
plus_nearly a b nan y N u v = absurd u
plus_nearly a b (inf s) y N u v = absurd u
plus_nearly a b (fin true m e) y N u v = absurd (true≢false u.0)
plus_nearly a b (fin false m e) nan N u v = absurd v
plus_nearly a b (fin false m e) (inf t) N u v = absurd v
plus_nearly a b (fin false m e) (fin false n d) N u v =
    round_up_to (a + b) (m * up e * down d + n * up d * down e) (down e * down d) (mul-pos (down_pos e) (down_pos d)) N
    (plus_fraction a b (m * up e) (down e) (n * up d) (down d) u.1 v.1)
plus_nearly a b (fin false m e) (fin true n d) N u v =
    let z : n * up d * down e ≡ 0 = rw (v.0 refl) (simp zero-mul) in
    let both = plus_fraction a b (m * up e) (down e) (n * up d) (down d) u.1 v.1 in
    rw (le-ltb (m * up e * down d) (n * up d * down e) (omega arith))
    (round_up_to (a + b) (m * up e * down d - n * up d * down e) (down e * down d) (mul-pos (down_pos e) (down_pos d)) N (omega arith))

pub plus_up_to : (a b : ℕ) (x y : Float) → a + b ≤ 2 ^ 53 → UpTo a x → UpTo b y → UpTo (a + b) (plus x y)
plus_up_to a b x y N u v = plus_nearly a b x y N u (nearly b y v)

-- ---- a product
pub times_nearly : (a b : ℕ) (x y : Float) → a * b ≤ 2 ^ 53 → UpTo a x → NearlyUpTo b y → NearlyUpTo (a * b) (times x y)
unfolding mul
times_nearly a b nan y N u v = absurd u
times_nearly a b (inf s) y N u v = absurd u
times_nearly a b (fin true m e) y N u v = absurd (true≢false u.0)
times_nearly a b (fin false m e) nan N u v = absurd v
times_nearly a b (fin false m e) (inf t) N u v = absurd v
times_nearly a b (fin false m e) (fin false n d) N u v =
    let x = m * up e * (n * up d) in let c = down e * down d in
    nearly (a * b) (round binary64 false x c) (round_up_to (a * b) x c (mul-pos (down_pos e) (down_pos d)) N
    (le_trans (mul-le-mul u.1 v.1) (le_of_eq (mul-mul-mul_comm a (down e) b (down d)))))
times_nearly a b (fin false m e) (fin true n d) N u v =
    round_zero (a * b) true (m * up e * (n * up d)) (down e * down d) (mul-pos (down_pos e) (down_pos d)) (rw (v.0 refl) (simp (zero-mul, mul_comm)))

-- ---- a lawful weight, from 0 to the most, by the two tests
weight_between : (n : ℕ) (o w y : Float) → HasValue o false 0 1 → HasValue y false n 1 → T (le o w) → T (le w y) → NearlyUpTo n w
unfolding le
weight_between n nan w y u v h k = absurd u
weight_between n (inf s) w y u v h k = absurd u
weight_between n (fin true m e) w y u v h k = absurd (true≢false u.0)
weight_between n (fin false m e) nan y u v h k = absurd h
weight_between n (fin false m e) (inf true) y u v h k = absurd h
weight_between n (fin false m e) (inf false) y u v h k = absurd (not_above (inf false) y n refl v k)
weight_between n (fin false m e) (fin false j d) y u v h k = nearly n (fin false j d) (not_above (fin false j d) y n refl v k)
weight_between n (fin false m e) (fin true j d) y u v h k =
    let a = m * up e * down d in let b = j * up d * down e in
    let same = eqb→eq a b (and_l (eqb a b) (eqb a 0) h) in let none = eqb→eq a 0 (and_r (eqb a b) (eqb a 0) h) in
    let z = no_factor (j * up d) (down e) (down_pos e) (sym same ∙ none) in
    (λ q. no_factor j (up d) (up_pos d) z, omega arith)

passed : (b : Bool) → So b → T b
passed b t = subst T (sym t) tt

pub weight_nearly : (w : Float) → So (lawful_weight w) → NearlyUpTo most_weight w
unfolding lawful_weight
weight_nearly w t =
    let (above, below) = (and_iff (le (exact 0) w) (le w (exact most_weight))).0 t in
    weight_between most_weight (exact 0) w (exact most_weight) (exact_value 0 (lit≤ tt)) (exact_value most_weight (lit≤ tt))
    (passed (le (exact 0) w) above) (passed (le w (exact most_weight)) below)
