-- From a value to a whole number and back (document 01, "From a value to a whole number", rounded as document 02, T-05 says). A value comes
-- as its bit pattern b; the floats and their operations are the toolchain's reading of IEEE 754 (lib.Ieee). Assumes nothing.
use Rattle.std.specs.Prelude.{ℕ, ◌*◌, ◌/◌, ◌^◌, Bool, true, false, not, ◌&&◌, ◌||◌, cond, ltb, eqb, ℤ, pos, neg_ℤ, Float}
use Rattle.std.proofs.Math.Option.{Option, none, some}
use Rattle.std.specs.Float.{Format, nan, inf, fin}
use Rattle.std.specs.Float.Ieee.{up, down, is_nan, round, add, sub, mul, of_int, of_bits, to_bits}
use Rattle.rules.specs.Kind.{max_scaled, rounding_constant}

-- exponent and factor of a vector
pub record Pair : Type 0 where
  pub exponent : ℕ
  pub factor : ℕ

-- 10^k, and the float of the kind nearest to 10^-k. That the first is exact and the second nearest is a theorem (rules/proofs/Powers)
unfoldable pub power : Format → ℕ → Float
power fmt k = round fmt false (10 ^ k) 1

unfoldable pub neg_power : Format → ℕ → Float
neg_power fmt k = round fmt false 1 (10 ^ k)

-- scaled value: the value times 10^e, then times 10^-f; two multiplications, each rounded once to nearest, ties to even
unfoldable pub scaled : Format → Pair → Float → Float
scaled fmt p x = mul fmt (mul fmt x (power fmt p.exponent)) (neg_power fmt p.factor)

abbrev pub signed : Bool → ℕ → ℤ
signed true n = neg_ℤ (pos n)
signed false n = pos n

-- rounded value: the scaled value plus the constant, then minus the constant, each rounded once. Near zero that is the nearest whole
-- number, ties to even; from 2^22 or 2^51 on it need not be, and below zero a fraction may be left (theorems/proofs/Fast)
unfoldable pub rounded : Format → Float → Float
rounded fmt y = let c = of_int fmt (pos (rounding_constant fmt)) in sub fmt (add fmt y c) c

-- a float without its fraction (0 where there is no number: such a value is an exception)
unfoldable pub truncated : Float → ℤ
truncated nan = pos 0
truncated (inf s) = pos 0
truncated (fin s m e) = signed s (m * up e / down e)

-- whole number: the rounded value, any fraction dropped
unfoldable pub whole : Format → Float → ℤ
whole fmt y = truncated (rounded fmt y)

-- back: the whole number as the nearest float of the kind, times 10^f, then times 10^-e, each rounded once; its bits
unfoldable pub back : Format → Pair → ℤ → ℕ
back fmt p z = to_bits fmt (mul fmt (mul fmt (of_int fmt z) (power fmt p.factor)) (neg_power fmt p.exponent))

abbrev pub is_infinite : Float → Bool
is_infinite nan = false
is_infinite (inf s) = true
is_infinite (fin s m e) = false

abbrev pub is_negative_zero : Float → Bool
is_negative_zero nan = false
is_negative_zero (inf s) = false
is_negative_zero (fin s m e) = s && eqb m 0

-- infinite or of magnitude above L. (A scaled value inside the limits is a NaN only where the value is one: rules/proofs/Powers.)
unfoldable pub beyond : Format → Float → Bool
beyond fmt nan = true
beyond fmt (inf s) = true
beyond fmt (fin s m e) = ltb (max_scaled fmt * down e) (m * up e)

-- the exception rule: the value is a NaN, is infinite, is negative zero, has a scaled value that is infinite or of magnitude above L, has
-- a rounded value that is, or does not come back with the same bits
unfoldable pub exception : Format → Pair → ℕ → Bool
exception fmt p b =
    let x = of_bits fmt b in
    let y = scaled fmt p x in
    is_nan x || is_infinite x || is_negative_zero x || beyond fmt y || beyond fmt (rounded fmt y) || not (eqb (back fmt p (whole fmt y)) b)

-- the whole number of a value, or none where the value is an exception
unfoldable pub tried : Format → Pair → ℕ → Option ℤ
tried fmt p b = cond (exception fmt p b) none (some (whole fmt (scaled fmt p (of_bits fmt b))))

-- to unfold this is to unfold all of the above
unfoldable pub all_decimal : Unit {0}
unfolding power neg_power scaled rounded truncated whole back beyond exception tried is_nan round add sub mul of_int of_bits to_bits
all_decimal = tt
