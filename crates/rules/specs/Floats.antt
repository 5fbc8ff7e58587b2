-- What the theorems on rounding and on the powers of ten speak of: what it is to be nearest, said over whole numbers, of a whole number to
-- a fraction, of a float to a fraction, and of a float to 1 / c; and the float that a whole number is brought back as. Assumes nothing.
use Rattle.std.specs.Prelude.{ℕ, ◌+◌, ◌-◌, ◌*◌, ◌%◌, ◌^◌, ◌≤◌, ◌<◌, ◌≡◌, ◌⊎◌, Bool, true, false, ltb, ℤ, Float}
use Rattle.std.specs.Float.{Format, nan, inf, fin}
use Rattle.std.specs.Float.Ieee.{prec, low, emax, up, down, mul, of_int}
use Rattle.std.specs.Float.Ieee.Exact.{HasValue}
use Rattle.std.specs.Float.Ieee.Positive.{den}
use Rattle.rules.specs.Decimal.{Pair, power, neg_power}

-- (`HasValue x s a b`, of the toolchain, says that x is finite, has the sign s, and is a / b in size.)

-- n is the whole number nearest to a / b, and the even one at a tie: twice the distance of n * b from a is at most b, and n is even where
-- it is b
pub record NearestEven (a b n : ℕ) : Type 0 where
  pub low_enough : 2 * (n * b) ≤ 2 * a + b
  pub high_enough : 2 * a ≤ 2 * (n * b) + b
  pub even_at_tie : (2 * (n * b) ≡ 2 * a + b) ⊎ (2 * a ≡ 2 * (n * b) + b) → n % 2 ≡ 0

-- x is a / b with the sign s, rounded once to the nearest float of the kind, ties to even. The unit is 2 ^ shift times the kind's smallest
-- value 1 / 2 ^ low: the one in which a / b has just as many binary digits before its point as the kind keeps, or the smallest value itself
-- where there are fewer. Then x is the nearest whole number of units, ties to even; and infinite from 2 ^ (emax + 1) on.
pub record RoundedOnce (fmt : Format) (s : Bool) (a b : ℕ) (x : Float) : Type 0 where
  pub units : ℕ
  pub shift : ℕ
  pub all_digits : (shift ≡ 0) ⊎ (2 ^ (prec fmt - 1) * (b * 2 ^ shift) ≤ a * 2 ^ low fmt)
  pub no_more : a * 2 ^ low fmt < 2 ^ prec fmt * (b * 2 ^ shift)
  pub nearest : NearestEven (a * 2 ^ low fmt) (b * 2 ^ shift) units
  pub value : units * 2 ^ shift < 2 ^ (emax fmt + 1) * 2 ^ low fmt → HasValue x s (units * 2 ^ shift) (2 ^ low fmt)
  pub infinite : 2 ^ (emax fmt + 1) * 2 ^ low fmt ≤ units * 2 ^ shift → x ≡ inf s

-- x is the float of the kind nearest to 1 / c. It is `units` times the unit 1 / 2 ^ place, a number of units with just as many binary
-- digits as the kind keeps, and is less than half a unit away from 1 / c. From 2 ^ (prec - 1) units on every float of the kind is a whole
-- number of units, and 1 / c lies there too.
pub record NearestToInverse (fmt : Format) (x : Float) (c : ℕ) : Type 0 where
  pub units : ℕ
  pub place : ℕ
  pub value : HasValue x false units (2 ^ place)
  pub all_digits : 2 ^ (prec fmt - 1) ≤ units
  pub no_more : units < 2 ^ prec fmt
  pub whole_there : 2 ^ (prec fmt - 1) * c ≤ 2 ^ place
  pub low_enough : 2 * (units * c) < 2 * 2 ^ place + c
  pub high_enough : 2 * 2 ^ place < 2 * (units * c) + c

-- the distance of two whole numbers: one of the two differences is 0
abbrev pub apart : ℕ → ℕ → ℕ
apart a b = (a - b) + (b - a)

-- the size and the sign of the sum of two numbers a and b with the signs s and t, negative where a sign is true: a sum of 0 is negative
-- only where both numbers are
abbrev pub sum_size : Bool → ℕ → Bool → ℕ → ℕ
sum_size true a true b = a + b
sum_size false a false b = a + b
sum_size true a false b = apart a b
sum_size false a true b = apart a b

abbrev pub sum_sign : Bool → ℕ → Bool → ℕ → Bool
sum_sign true a true b = true
sum_sign false a false b = false
sum_sign true a false b = ltb b a
sum_sign false a true b = ltb a b

-- how far a finite float is from 1 / c, as a fraction of c and the float's own denominator: for a / d that is apart (a * c) d / (d * c)
abbrev pub off : ℕ → Float → ℕ
off c nan = 0
off c (inf s) = 0
off c (fin false m e) = apart (m * up e * c) (down e)
off c (fin true m e) = m * up e * c + down e

-- y, finite, is as near to 1 / c as x is, or nearer
abbrev pub AsNear : ℕ → Float → Float → Type 0
AsNear c y x = off c y * den x ≤ off c x * den y

-- the float whose bits are `back`
abbrev pub brought_back : Format → Pair → ℤ → Float
brought_back fmt p z = mul fmt (mul fmt (of_int fmt z) (power fmt p.factor)) (neg_power fmt p.exponent)

-- finite, and of magnitude at most a quarter of 2 ^ prec: 2^22 or 2^51. As far as that the fast rounding is the nearest whole number
abbrev pub Small : Format → Float → Type 0
Small fmt nan = ⊥
Small fmt (inf s) = ⊥
Small fmt (fin s m e) = m * up e ≤ 2 ^ (prec fmt - 2) * down e
