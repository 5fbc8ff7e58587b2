-- The powers of ten: 10^k is exact, and 10^-k is the nearest float, for both kinds and every k up to E, each by one computed test over the
-- whole table. So both are finite and above zero; by such factors no NaN arises, and no infinity on the way back. Assumes nothing.
use Prim.Native.Nat.{ℕ, zero, suc, ◌+◌, ◌-◌, ◌*◌, ◌/◌, ◌^◌, ◌≤◌, ◌<◌, zero-le, compare}
use mathlib.Core.Path.{◌≡◌, refl, sym, ap, ◌∙◌, subst}
use mathlib.Core.Logic.{inl, inr}
use mathlib.Core.Bool.{Bool, true, false, not, ◌&&◌, cond}
use native.Mathlib.Nat.{lt_irrefl, add-zero, le-add_right, le_refl, le_trans, le_of_eq, lt_of_lt_of_le, lt_of_le_of_lt, le_of_suc-le-suc, le_of_mul-le-mul_right, mul-le-mul, mul_assoc, mul_comm, mul_right_comm, mul-mul-mul_comm, mod-one, div-one, eq-or-lt_of_le, one-le-pow, mul-pos, mul-one, one-mul, pow-le-pow_right, mul-le-mul_right}
use native.Mathlib.Omega.{arith}
use lib.Dec.{T, not_T, leb, ltb, eqb, leb→le, ltb→lt, eqb→eq, lit<, lit≤}
use lib.Pow.{pow-add, pow_pos, pow-lt}
use lib.IntN.{ℤ, pos, negsuc, nat_abs}
use lib.Signed.{mag, nat_abs-le}
use mir.Val.{hbits}
use lib.Ieee.{Float, nearest, nan, inf, fin, Format, binary32, binary64, low, prec, emax, size, odd, units, round, mul, of_int, of_bits, is_nan, unlike, up, down, nan_bits}
use lib.Ieee.Fits.{round_is, and_l, and_r, down_pos, mul-fits, two}
use lib.Ieee.Bits.{of_bits-to_bits, cond_no, is_false, nan_bits_is}
use lib.Ieee.Exact.{HasValue, units_val}
use lib.Ieee.Nearest.{closest, closest_mono, div_mono}
use lib.Ieee.Digits.{size-le}
use lib.Ieee.Scale.{finite}
use lib.Ieee.Order.{drop, kept}
use lib.Ieee.Positive.{positive, positive_of_value}
use Rattle.rules.specs.Kind.{max_exponent, word}
use Rattle.rules.specs.Decimal.{Pair, power, neg_power, scaled, back}
use Rattle.rules.specs.Write.{Allowed}
use Rattle.rules.specs.Floats.{NearestToInverse, brought_back}

-- ---- a test of a table, and the law that turns it into a rule at each entry

-- the test passes at each of 0 to n
abbrev up_to : ℕ → (ℕ → Bool) → Bool
up_to zero test = test 0
up_to (suc n) test = up_to n test && test (suc n)

at_each : (n : ℕ) (test : ℕ → Bool) → T (up_to n test) → (k : ℕ) → k ≤ n → T (test k)
at_each zero test t k h = subst (λ (i : ℕ). T (test i)) (zero_is k h) t
  where
    zero_is : (k : ℕ) → k ≤ 0 → 0 ≡ k
    zero_is k h = omega arith
at_each (suc n) test t k h =
    elim (eq-or-lt_of_le h) [
      | inl e ↦ subst (λ (i : ℕ). T (test i)) (sym e) (and_r (up_to n test) (test (suc n)) t)
      | inr l ↦ at_each n test (and_l (up_to n test) (test (suc n)) t) k (le_of_suc-le-suc l)
    ]

-- ---- `HasValue x false a b` as a test
abbrev equals : Float → ℕ → ℕ → Bool
equals nan a b = false
equals (inf s) a b = false
equals (fin true m e) a b = false
equals (fin false m e) a b = eqb (m * up e * b) (a * down e)

equals_value : (x : Float) (a b : ℕ) → T (equals x a b) → HasValue x false a b
equals_value nan a b t = absurd t
equals_value (inf s) a b t = absurd t
equals_value (fin true m e) a b t = absurd t
equals_value (fin false m e) a b t = (refl, eqb→eq (m * up e * b) (a * down e) t)

-- ---- 10^k
exact_test : Format → ℕ → Bool
exact_test fmt k = equals (power fmt k) (10 ^ k) 1

powers_tested : (fmt : Format) → T (up_to (max_exponent fmt) (exact_test fmt))
unfolding exact_test power round
powers_tested binary32 = tt
powers_tested binary64 = tt

pub power-exact : (fmt : Format) (k : ℕ) → k ≤ max_exponent fmt → HasValue (power fmt k) false (10 ^ k) 1
unfolding exact_test
power-exact fmt k h = equals_value (power fmt k) (10 ^ k) 1 (at_each (max_exponent fmt) (exact_test fmt) (powers_tested fmt) k h)

-- ---- 10^-k
-- the place of the unit, and how many units make the float nearest to 1 / c, as rounding finds them
abbrev place_of : Format → ℕ → ℕ
place_of fmt c = low fmt - drop (prec fmt) (2 ^ low fmt) c

abbrev units_of : Format → ℕ → ℕ
units_of fmt c = kept (prec fmt) (2 ^ low fmt) c

near_test : Format → Float → ℕ → ℕ → ℕ → Bool
near_test fmt x c m t =
    equals x m (2 ^ t) && (leb (2 ^ (prec fmt - 1)) m && (ltb m (2 ^ prec fmt) && (leb (2 ^ (prec fmt - 1) * c) (2 ^ t) && (ltb (2 * (m * c)) (2 * 2 ^ t + c) && ltb (2 * 2 ^ t) (2 * (m * c) + c)))))

inverse_test : Format → ℕ → Bool
inverse_test fmt k = near_test fmt (neg_power fmt k) (10 ^ k) (units_of fmt (10 ^ k)) (place_of fmt (10 ^ k))

inverses_tested : (fmt : Format) → T (up_to (max_exponent fmt) (inverse_test fmt))
unfolding inverse_test near_test neg_power round
inverses_tested binary32 = tt
inverses_tested binary64 = tt

nearest_by_test : (fmt : Format) (x : Float) (c m t : ℕ) → T (near_test fmt x c m t) → NearestToInverse fmt x c
unfolding near_test
nearest_by_test fmt x c m t passed =
    let least = 2 ^ (prec fmt - 1) in
    let a : Bool = equals x m (2 ^ t) in
    let b : Bool = leb least m in
    let d : Bool = ltb m (2 ^ prec fmt) in
    let e : Bool = leb (least * c) (2 ^ t) in
    let f : Bool = ltb (2 * (m * c)) (2 * 2 ^ t + c) in
    let g : Bool = ltb (2 * 2 ^ t) (2 * (m * c) + c) in
    let from-b : T (b && (d && (e && (f && g)))) = and_r a (b && (d && (e && (f && g)))) passed in
    let from-d : T (d && (e && (f && g))) = and_r b (d && (e && (f && g))) from-b in
    let from-e : T (e && (f && g)) = and_r d (e && (f && g)) from-d in
    let from-f : T (f && g) = and_r e (f && g) from-e in
    record {
      units = m;
      place = t;
      value = equals_value x m (2 ^ t) (and_l a (b && (d && (e && (f && g)))) passed);
      all_digits = leb→le least m (and_l b (d && (e && (f && g))) from-b);
      no_more = ltb→lt m (2 ^ prec fmt) (and_l d (e && (f && g)) from-d);
      whole_there = leb→le (least * c) (2 ^ t) (and_l e (f && g) from-e);
      low_enough = ltb→lt (2 * (m * c)) (2 * 2 ^ t + c) (and_l f g from-f);
      high_enough = ltb→lt (2 * 2 ^ t) (2 * (m * c) + c) (and_r f g from-f);
    }

pub neg_power-nearest : (fmt : Format) (k : ℕ) → k ≤ max_exponent fmt → NearestToInverse fmt (neg_power fmt k) (10 ^ k)
unfolding inverse_test
neg_power-nearest fmt k h = nearest_by_test fmt (neg_power fmt k) (10 ^ k) (units_of fmt (10 ^ k)) (place_of fmt (10 ^ k)) (at_each (max_exponent fmt) (inverse_test fmt) (inverses_tested fmt) k h)

-- ---- so both are finite and above zero
pub power-positive : (fmt : Format) (k : ℕ) → k ≤ max_exponent fmt → T (positive (power fmt k))
power-positive fmt k h = positive_of_value (power fmt k) (10 ^ k) 1 (power-exact fmt k h) (one-le-pow k 10 (lit< tt))

pub neg_power-positive : (fmt : Format) (k : ℕ) → k ≤ max_exponent fmt → T (positive (neg_power fmt k))
neg_power-positive fmt k h =
    let n = neg_power-nearest fmt k h in
    positive_of_value (neg_power fmt k) n.units (2 ^ n.place) n.value (lt_of_lt_of_le (pow_pos (prec fmt - 1)) n.all_digits)

-- ---- no NaN
abbrev pub NoNan : Float → Type 0
NoNan x = T (not (is_nan x))

odd_real : (d : ℕ) (s : Bool) (q k l : ℕ) → NoNan (odd d s q k l)
unfolding odd is_nan
odd_real d s zero k l = tt
odd_real d s (suc q) k l = tt

units-real : (fmt : Format) (s : Bool) (q k : ℕ) → NoNan (units fmt s q k)
unfolding units is_nan
units-real fmt s q k = go (ltb (q * 2 ^ k) (2 ^ (low fmt + suc (emax fmt))))
  where
    go : (b : Bool) → NoNan (cond b (odd (suc (prec fmt)) s q k (low fmt)) (inf s))
    go true = odd_real (suc (prec fmt)) s q k (low fmt)
    go false = tt

pub round_real : (fmt : Format) (s : Bool) (a b : ℕ) → NoNan (round fmt s a b)
round_real fmt s a b = subst NoNan (sym (round_is fmt s a b)) (units-real fmt s (kept (prec fmt) (a * 2 ^ low fmt) b) (drop (prec fmt) (a * 2 ^ low fmt) b))

not_zero : (n : ℕ) → T (ltb 0 n) → T (not (eqb n 0))
not_zero n t = not_T (eqb n 0) (λ e. lt_irrefl 0 (subst (λ (m : ℕ). 0 < m) (eqb→eq n 0 e) (ltb→lt 0 n t)))

-- a product of anything but a NaN with a number above zero
mul_real : (fmt : Format) (x y : Float) → NoNan x → T (positive y) → NoNan (mul fmt x y)
unfolding mul is_nan
mul_real fmt nan y h k = absurd h
mul_real fmt (inf s) nan h k = absurd k
mul_real fmt (inf s) (inf t) h k = absurd k
mul_real fmt (inf s) (fin true n d) h k = absurd k
mul_real fmt (inf s) (fin false n d) h k = subst NoNan (sym (cond_no (eqb n 0) nan (inf (unlike s false)) (not_zero n k))) tt
mul_real fmt (fin s m e) nan h k = absurd k
mul_real fmt (fin s m e) (inf t) h k = absurd k
mul_real fmt (fin s m e) (fin true n d) h k = absurd k
mul_real fmt (fin s m e) (fin false n d) h k = round_real fmt (unlike s false) (m * up e * (n * up d)) (down e * down d)

of_int-real : (fmt : Format) (z : ℤ) → NoNan (of_int fmt z)
unfolding of_int
of_int-real fmt (pos n) = round_real fmt false n 1
of_int-real fmt (negsuc n) = round_real fmt true (suc n) 1

module _ (fmt : Format) (p : Pair) (inside : Allowed fmt p) where
  exponent-in : p.exponent ≤ max_exponent fmt
  exponent-in = inside.exponent

  factor-in : p.factor ≤ max_exponent fmt
  factor-in = le_trans inside.factor inside.exponent

  -- the scaled value of a value that is no NaN is none
  pub scaled_no_nan : (x : Float) → is_nan x ≡ false → is_nan (scaled fmt p x) ≡ false
  unfolding scaled
  scaled_no_nan x h =
      let real : NoNan x = subst (λ (b : Bool). T (not b)) (sym h) tt in
      is_false (is_nan (scaled fmt p x))
      (mul_real fmt (mul fmt x (power fmt p.exponent)) (neg_power fmt p.factor) (mul_real fmt x (power fmt p.exponent) real (power-positive fmt p.exponent exponent-in)) (neg_power-positive fmt p.factor factor-in))

  pub scaled_bits_no_nan : (b : ℕ) → nan_bits fmt b ≡ false → is_nan (scaled fmt p (of_bits fmt b)) ≡ false
  scaled_bits_no_nan b h = scaled_no_nan (of_bits fmt b) (sym (nan_bits_is fmt b) ∙ h)

  -- no whole number comes back as a NaN
  pub back_no_nan : (z : ℤ) → is_nan (brought_back fmt p z) ≡ false
  back_no_nan z =
      is_false (is_nan (brought_back fmt p z))
      (mul_real fmt (mul fmt (of_int fmt z) (power fmt p.factor)) (neg_power fmt p.exponent) (mul_real fmt (of_int fmt z) (power fmt p.factor) (of_int-real fmt z) (power-positive fmt p.factor factor-in)) (neg_power-positive fmt p.exponent exponent-in))

-- the bits that come back are those of the float
pub back-bits : (fmt : Format) (p : Pair) (z : ℤ) → of_bits fmt (back fmt p z) ≡ brought_back fmt p z
unfolding back
back-bits fmt p z = of_bits-to_bits fmt (brought_back fmt p z) (mul-fits fmt (mul fmt (of_int fmt z) (power fmt p.factor)) (neg_power fmt p.exponent))

-- and never those of a NaN
pub back_no_nan_bits : (fmt : Format) (p : Pair) → Allowed fmt p → (z : ℤ) → nan_bits fmt (back fmt p z) ≡ false
back_no_nan_bits fmt p inside z = nan_bits_is fmt (back fmt p z) ∙ ap is_nan (back-bits fmt p z) ∙ back_no_nan fmt p inside z

-- ---- no infinity
-- finite, and at most 2 ^ h in size
abbrev AtMost : ℕ → Float → Type 0
AtMost h nan = ⊥
AtMost h (inf s) = ⊥
AtMost h (fin s m e) = m * up e ≤ 2 ^ h * down e

value_at_most : (h : ℕ) (x : Float) (s : Bool) (a b : ℕ) → 0 < b → HasValue x s a b → a ≤ 2 ^ h * b → AtMost h x
value_at_most h nan s a b B v l = v
value_at_most h (inf t) s a b B v l = v
value_at_most h (fin t m e) s a b B v l =
    le_of_mul-le-mul_right (le_trans (le_of_eq v.1) (le_trans (mul-le-mul_right (down e) l) (le_of_eq (mul_right_comm (2 ^ h) b (down e))))) B

at_most_finite : (h : ℕ) (x : Float) → AtMost h x → T (finite x)
at_most_finite h nan l = l
at_most_finite h (inf s) l = l
at_most_finite h (fin s m e) l = tt

pub closest_whole : (n : ℕ) → closest n 1 ≡ n
closest_whole n = ap (λ (r : ℕ). nearest (n / 1) (compare (r * 2) 1)) (mod-one n) ∙ div-one n

-- rounding does not pass a power of two that the kind holds
module _ (fmt : Format) (s : Bool) (a b h : ℕ) (B : 0 < b) (H : h ≤ emax fmt) (l : a ≤ 2 ^ h * b) where
  abbrev n : ℕ
  n = a * 2 ^ low fmt

  abbrev k : ℕ
  k = drop (prec fmt) n b

  n_le : n ≤ 2 ^ (h + low fmt) * b
  n_le = le_trans (mul-le-mul_right (2 ^ low fmt) l) (le_of_eq (mul_right_comm (2 ^ h) b (2 ^ low fmt) ∙ ap (λ (x : ℕ). x * b) (sym (pow-add 2 h (low fmt)))))

  k_le : k ≤ h + low fmt
  k_le =
      let top = h + low fmt in
      let whole_part : n / b ≤ 2 ^ top = le_trans (div_mono n b (2 ^ top) 1 B (lit< tt) (le_trans (le_of_eq (mul-one n)) n_le)) (le_of_eq (div-one (2 ^ top))) in
      let digits : size (n / b) ≤ suc top = size-le (n / b) (suc top) (lt_of_le_of_lt whole_part (pow-lt (le_refl (suc top)))) in
      let p = two fmt in
      omega arith

  joined : 2 ^ (h + low fmt - k) * 2 ^ k ≡ 2 ^ (h + low fmt)
  joined = sym (pow-add 2 (h + low fmt - k) k) ∙ ap (λ (x : ℕ). 2 ^ x) (back_to (h + low fmt) k k_le)
    where
      back_to : (m k : ℕ) → k ≤ m → m - k + k ≡ m
      back_to m k h = omega arith

  kept_le : kept (prec fmt) n b ≤ 2 ^ (h + low fmt - k)
  kept_le =
      le_trans
      (closest_mono n (b * 2 ^ k) (2 ^ (h + low fmt - k)) 1 (mul-pos B (pow_pos k)) (lit< tt)
      (le_trans (le_of_eq (mul-one n)) (le_trans n_le (le_of_eq (ap (λ (x : ℕ). x * b) (sym joined) ∙ mul_assoc (2 ^ (h + low fmt - k)) (2 ^ k) b ∙ ap (λ (x : ℕ). 2 ^ (h + low fmt - k) * x) (mul_comm (2 ^ k) b))))))
      (le_of_eq (closest_whole (2 ^ (h + low fmt - k))))

  result_le : kept (prec fmt) n b * 2 ^ k ≤ 2 ^ (h + low fmt)
  result_le = le_trans (mul-le-mul_right (2 ^ k) kept_le) (le_of_eq joined)

  round_at_most : AtMost h (round fmt s a b)
  round_at_most =
      let q = kept (prec fmt) n b in
      let under : q * 2 ^ k < 2 ^ (low fmt + suc (emax fmt)) = lt_of_le_of_lt result_le (pow-lt (below h (low fmt) (emax fmt) H)) in
      value_at_most h (round fmt s a b) s (q * 2 ^ k) (2 ^ low fmt) (pow_pos (low fmt))
      (subst (λ (x : Float). HasValue x s (q * 2 ^ k) (2 ^ low fmt)) (sym (round_is fmt s a b)) (units_val fmt s q k under))
      (le_trans result_le (le_of_eq (pow-add 2 h (low fmt))))
    where
      below : (h l m : ℕ) → h ≤ m → h + l < l + suc m
      below h l m le = omega arith

mul_at_most : (fmt : Format) (i j : ℕ) (x y : Float) → i + j ≤ emax fmt → AtMost i x → AtMost j y → AtMost (i + j) (mul fmt x y)
unfolding mul
mul_at_most fmt i j nan y r h k = absurd h
mul_at_most fmt i j (inf s) y r h k = absurd h
mul_at_most fmt i j (fin s m e) nan r h k = absurd k
mul_at_most fmt i j (fin s m e) (inf t) r h k = absurd k
mul_at_most fmt i j (fin s m e) (fin t n d) r h k =
    round_at_most fmt (unlike s t) (m * up e * (n * up d)) (down e * down d) (i + j) (mul-pos (down_pos e) (down_pos d)) r
    (le_trans (mul-le-mul h k) (le_of_eq (mul-mul-mul_comm (2 ^ i) (down e) (2 ^ j) (down d) ∙ ap (λ (x : ℕ). x * (down e * down d)) (sym (pow-add 2 i j)))))

-- 10 ^ k is at most 2 ^ (4 * E)
abbrev reach : Format → ℕ
reach fmt = 4 * max_exponent fmt

power_at_most : (fmt : Format) (k : ℕ) → k ≤ max_exponent fmt → AtMost (reach fmt) (power fmt k)
power_at_most fmt k h = value_at_most (reach fmt) (power fmt k) false (10 ^ k) 1 (lit< tt) (power-exact fmt k h) (le_trans (pow-le-pow_right (lit< tt) h) (most fmt))
  where
    most : (fmt : Format) → 10 ^ max_exponent fmt ≤ 2 ^ reach fmt * 1
    most binary32 = lit≤ tt
    most binary64 = lit≤ tt

roomy : (fmt : Format) → hbits (word fmt) + reach fmt + 0 ≤ emax fmt
roomy binary32 = lit≤ tt
roomy binary64 = lit≤ tt

neg_power_at_most : (fmt : Format) (k : ℕ) → AtMost 0 (neg_power fmt k)
unfolding neg_power
neg_power_at_most fmt k = round_at_most fmt false 1 (10 ^ k) 0 (one-le-pow k 10 (lit< tt)) zero-le (le_trans (one-le-pow k 10 (lit< tt)) (le_of_eq (sym (one-mul (10 ^ k)))))

of_int-at-most : (fmt : Format) (h : ℕ) (z : ℤ) → h ≤ emax fmt → nat_abs z ≤ 2 ^ h → AtMost h (of_int fmt z)
unfolding of_int
of_int-at-most fmt h (pos n) H l = round_at_most fmt false n 1 h (lit< tt) H (le_trans l (le_of_eq (sym (mul-one (2 ^ h)))))
of_int-at-most fmt h (negsuc n) H l = round_at_most fmt true (suc n) 1 h (lit< tt) H (le_trans l (le_of_eq (sym (mul-one (2 ^ h)))))

-- a whole number of the kind's signed range comes back finite
pub back-finite : (fmt : Format) (p : Pair) → Allowed fmt p → (z : ℤ) → mag z < 2 ^ hbits (word fmt) → T (finite (brought_back fmt p z))
back-finite fmt p inside z h =
    let H = hbits (word fmt) in
    let first : H + reach fmt ≤ emax fmt = le_trans (le_of_eq (sym (add-zero (H + reach fmt)))) (roomy fmt) in
    let whole : AtMost H (of_int fmt z) = of_int-at-most fmt H z (le_trans (le-add_right H (reach fmt)) first) (nat_abs-le z h) in
    let up : AtMost (H + reach fmt) (mul fmt (of_int fmt z) (power fmt p.factor)) =
    mul_at_most fmt H (reach fmt) (of_int fmt z) (power fmt p.factor) first whole (power_at_most fmt p.factor (factor-in fmt p inside)) in
    at_most_finite (H + reach fmt + 0) (brought_back fmt p z)
    (mul_at_most fmt (H + reach fmt) 0 (mul fmt (of_int fmt z) (power fmt p.factor)) (neg_power fmt p.exponent) (roomy fmt) up (neg_power_at_most fmt p.exponent))
