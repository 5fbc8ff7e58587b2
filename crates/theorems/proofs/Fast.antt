-- The fast rounding near zero: of a scaled value of at most 2^22 or 2^51 it makes the nearest whole number, ties to even. The sum with the
-- constant lies where neighbouring floats are whole numbers one apart, so it is rounded to a whole number; and taking the constant off is
-- exact. Assumes nothing.
use Prim.Native.Nat.{ℕ, suc, ◌+◌, ◌-◌, ◌*◌, ◌/◌, ◌%◌, ◌^◌, ◌≤◌, ◌<◌}
use mathlib.Core.Path.{◌≡◌, refl, sym, ap, ap₂, ◌∙◌, subst}
use mathlib.Core.Logic.{inl, inr}
use mathlib.Core.Bool.{Bool, true, false, true≢false}
use native.Mathlib.Nat.{le_trans, le_of_eq, le_refl, lt_of_lt_of_le, lt_of_le_of_lt, lt_irrefl, lt_of_not-le, le_antisymm, eq-or-lt_of_le, mul-le-mul_right, mul_assoc, mul_comm, mul_right_comm, mul-one, mul-pos, mul-sub, add_comm, add-mul, le_of_lt, mul-lt-mul_of_pos_right, eq_of_mul-eq-mul_right, div-one, div-lt_iff_lt-mul, le-div_iff_mul-le}
use native.Mathlib.Omega.{arith}
use lib.IntN.{ℤ, pos, neg_ℤ}
use lib.Dec.{lit<, lit≤}
use lib.Pow.{pow-add, pow_pos, pow_mono, pow-lt}
use lib.Ieee.{Format, binary32, binary64, Float, nan, inf, fin, prec, low, emax, size, units, up, down, round, add, sub, neg, sum, of_int}
use lib.Ieee.Digits.{size-lt, size-le}
use lib.Ieee.Exact.{HasValue, units_val}
use lib.Ieee.Fits.{down_pos, core, round_is, two}
use lib.Ieee.Back.{round_whole}
use lib.Ieee.Scale.{round_same}
use lib.Ieee.Nearest.{closest, closest_mono, closest_same}
use borrow.Author.Tests.{lt-ltb, le-ltb}
use Rattle.rules.specs.Kind.{rounding_constant, max_scaled}
use Rattle.rules.specs.Decimal.{signed, rounded, whole, beyond}
use Rattle.rules.specs.Floats.{NearestEven, Small}
use Rattle.rules.specs.Older.{older_whole}
use Rattle.rules.proofs.Powers.{closest_whole}
use Rattle.rules.proofs.Tries.{beyond-val, constant_is, truncated-val}
use Rattle.theorems.proofs.Rounding.{lt_or_le, closest_nearest, only_nearest, older-nearest, older-only}

-- ---- what is nearest to a fraction and a whole number more, or less

module _ (a b n K : ℕ) (B : 0 < b) (even : K % 2 ≡ 0) (near : NearestEven a b n) where
  pub nearest-more : NearestEven (K * b + a) b (K + n)
  nearest-more =
      let e : (K + n) * b ≡ K * b + n * b = add-mul K n b in
      let u = near.low_enough in
      let v = near.high_enough in
      record {
        low_enough = omega arith;
        high_enough = omega arith;
        even_at_tie = λ t. let o : n % 2 ≡ 0 = near.even_at_tie (elim t [ inl h ↦ inl (omega arith) | inr h ↦ inr (omega arith) ]) in omega arith;
      }

  pub nearest-less : n ≤ K → a ≤ K * b → NearestEven (K * b - a) b (K - n)
  nearest-less under room =
      let e : (K - n) * b + n * b ≡ K * b = sym (add-mul (K - n) n b) ∙ ap (λ (x : ℕ). x * b) (omega arith) in
      let u = near.low_enough in
      let v = near.high_enough in
      record {
        low_enough = omega arith;
        high_enough = omega arith;
        even_at_tie = λ t. let o : n % 2 ≡ 0 = near.even_at_tie (elim t [ inl h ↦ inr (omega arith) | inr h ↦ inl (omega arith) ]) in omega arith;
      }

-- ---- small things

-- q * u over u is q
rescaled : (x : Float) (q u : ℕ) → 0 < u → HasValue x false (q * u) u → HasValue x false q 1
rescaled nan q u U h = h
rescaled (inf s) q u U h = h
rescaled (fin s m e) q u U h = (h.0, mul-one (m * up e) ∙ eq_of_mul-eq-mul_right u U (m * up e) (q * down e) (h.1 ∙ mul_right_comm q u (down e)))

-- ---- a sum that lies from 2 ^ (prec - 1) to 2 ^ prec is rounded to a whole number

-- a number from 2 ^ j on, below 2 ^ (j + 1), has j + 1 digits
digits_are : (n j : ℕ) → 2 ^ j ≤ n → n < 2 ^ suc j → size n ≡ suc j
digits_are n j l h = le_antisymm (size-le n (suc j) h) (lt_of_not-le (λ (k : size n ≤ j). lt_irrefl n (lt_of_lt_of_le (size-lt n) (le_trans (pow_mono k) l))))

module _ (fmt : Format) (N b : ℕ) (B : 0 < b) (least : 2 ^ (prec fmt - 1) * b ≤ N) where
  -- in units of the kind's smallest value
  abbrev many : ℕ
  many = N * 2 ^ low fmt

  -- of the fraction in units of the smallest value, just the digits behind the point are dropped
  dropped : N < 2 ^ prec fmt * b → size (many / b) - prec fmt ≡ low fmt
  dropped h = omega (arith, digits_are (many / b) (prec fmt - 1 + low fmt) ((le-div_iff_mul-le B).1 below) ((div-lt_iff_lt-mul B).1 above), two fmt)
    where
      below : 2 ^ (prec fmt - 1 + low fmt) * b ≤ many
      below =
          le_trans (le_of_eq (ap (λ (x : ℕ). x * b) (pow-add 2 (prec fmt - 1) (low fmt)) ∙ mul_right_comm (2 ^ (prec fmt - 1)) (2 ^ low fmt) b)) (mul-le-mul_right (2 ^ low fmt) least)

      next : (p l : ℕ) → 2 ≤ p → p + l ≡ suc (p - 1 + l)
      next p l h = omega arith

      above : many < 2 ^ suc (prec fmt - 1 + low fmt) * b
      above =
          lt_of_lt_of_le (mul-lt-mul_of_pos_right h (pow_pos (low fmt)))
          (le_of_eq (mul_right_comm (2 ^ prec fmt) b (2 ^ low fmt) ∙ ap (λ (x : ℕ). x * b) (sym (pow-add 2 (prec fmt) (low fmt)) ∙ ap (λ (x : ℕ). 2 ^ x) (next (prec fmt) (low fmt) (two fmt)))))

  -- so what is kept is the nearest whole number
  kept_is : closest many (b * 2 ^ low fmt) ≡ closest N b
  kept_is = closest_same many (b * 2 ^ low fmt) N b (mul-pos B (pow_pos (low fmt))) B (mul_right_comm N (2 ^ low fmt) b ∙ mul_assoc N b (2 ^ low fmt))

  inner : N < 2 ^ prec fmt * b → HasValue (round fmt false N b) false (closest N b) 1
  inner h =
      let q = closest N b in
      let is : round fmt false N b ≡ units fmt false q (low fmt) = round_is fmt false N b ∙ ap (core fmt false many b) (dropped h) ∙ ap (λ (x : ℕ). units fmt false x (low fmt)) kept_is in
      let most : q ≤ 2 ^ prec fmt = le_trans (closest_mono N b (2 ^ prec fmt) 1 B (lit< tt) (le_trans (le_of_eq (mul-one N)) (le_of_lt h))) (le_of_eq (closest_whole (2 ^ prec fmt))) in
      rescaled (round fmt false N b) q (2 ^ low fmt) (pow_pos (low fmt))
      (subst (λ (x : Float). HasValue x false (q * 2 ^ low fmt) (2 ^ low fmt)) (sym is)
      (units_val fmt false q (low fmt) (lt_of_le_of_lt (mul-le-mul_right (2 ^ low fmt) most) (subst (λ (x : ℕ). x < 2 ^ (low fmt + suc (emax fmt))) (pow-add 2 (prec fmt) (low fmt)) (pow-lt (room fmt))))))
    where
      room : (fmt : Format) → prec fmt + low fmt < low fmt + suc (emax fmt)
      room binary32 = lit< tt
      room binary64 = lit< tt

  pub whole_sum : N ≤ 2 ^ prec fmt * b → HasValue (round fmt false N b) false (closest N b) 1
  whole_sum h = elim (eq-or-lt_of_le h) [ inl e ↦ exact e | inr l ↦ inner l ]
    where
      -- at the upper end it is a power of two
      exact : N ≡ 2 ^ prec fmt * b → HasValue (round fmt false N b) false (closest N b) 1
      exact e =
          let same : N * 1 ≡ 2 ^ prec fmt * b = mul-one N ∙ e in
          subst (λ (q : ℕ). HasValue (round fmt false N b) false q 1) (sym (closest_same N b (2 ^ prec fmt) 1 B (lit< tt) same ∙ closest_whole (2 ^ prec fmt)))
          (subst (λ (x : Float). HasValue x false (2 ^ prec fmt) 1) (sym (round_same fmt false N b (2 ^ prec fmt) 1 B (lit< tt) same)) (round_whole fmt false (2 ^ prec fmt) (le_refl (2 ^ prec fmt))))

-- ---- the constant

abbrev quarter : Format → ℕ
quarter fmt = 2 ^ (prec fmt - 2)

pub constant_exact : (fmt : Format) → HasValue (of_int fmt (pos (rounding_constant fmt))) false (rounding_constant fmt) 1
constant_exact fmt = subst (λ (x : Float). HasValue x false (rounding_constant fmt) 1) (sym (constant_is fmt)) (there fmt)
  where
    there : (fmt : Format) → HasValue (fin false 3 (pos (prec fmt - 2))) false (rounding_constant fmt) 1
    there binary32 = (refl, refl)
    there binary64 = (refl, refl)

-- three quarters of 2 ^ prec; even; below L
record Numbers (fmt : Format) : Type 0 where
  half : 2 ^ (prec fmt - 1) ≡ 2 * quarter fmt
  all : 2 ^ prec fmt ≡ 4 * quarter fmt
  even : 3 * quarter fmt % 2 ≡ 0
  under : quarter fmt ≤ max_scaled fmt

numbers : (fmt : Format) → Numbers fmt
numbers binary32 = record { half = refl; all = refl; even = refl; under = lit≤ tt }
numbers binary64 = record { half = refl; all = refl; even = refl; under = lit≤ tt }

-- ---- taken off a whole number

taken : (a b c : ℕ) → a * c - b * c ≡ (a - b) * c
taken a b c = ap₂ (λ (x y : ℕ). x - y) (mul_comm a c) (mul_comm b c) ∙ sym (mul-sub c a b) ∙ mul_comm c (a - b)

module _ (fmt : Format) (k : ℕ) where
  abbrev constant : ℕ
  constant = 3 * 2 ^ k

  less_constant : (x : Float) (q : ℕ) → HasValue x false q 1 → q < constant → sub fmt x (fin false 3 (pos k)) ≡ round fmt true (constant - q) 1
  unfolding sub neg add sum
  less_constant nan q x h = absurd x
  less_constant (inf s) q x h = absurd x
  less_constant (fin true m e) q (s, v) h = absurd (true≢false s)
  less_constant (fin false m e) q (s, v) h =
      let d = down e in
      let l : q * d < constant * d = mul-lt-mul_of_pos_right h (down_pos e) in
      rw (v, lt-ltb (q * d) (constant * d) l, mul-one d) (round_same fmt true (constant * d - q * d) d (constant - q) 1 (down_pos e) (lit< tt) (mul-one (constant * d - q * d) ∙ taken constant q d))

  more_constant : (x : Float) (q : ℕ) → HasValue x false q 1 → constant ≤ q → sub fmt x (fin false 3 (pos k)) ≡ round fmt false (q - constant) 1
  unfolding sub neg add sum
  more_constant nan q x h = absurd x
  more_constant (inf s) q x h = absurd x
  more_constant (fin true m e) q (s, v) h = absurd (true≢false s)
  more_constant (fin false m e) q (s, v) h =
      let d = down e in
      let l : constant * d ≤ q * d = mul-le-mul_right d h in
      rw (v, le-ltb (q * d) (constant * d) l, mul-one d) (round_same fmt false (q * d - constant * d) d (q - constant) 1 (down_pos e) (lit< tt) (mul-one (q * d - constant * d) ∙ taken q constant d))

-- ---- added to a small value

module _ (fmt : Format) (m : ℕ) (e : ℤ) (k : ℕ) where
  raised_up : add fmt (fin false m e) (fin false 3 (pos k)) ≡ round fmt false (3 * 2 ^ k * down e + m * up e) (down e)
  unfolding add sum
  raised_up = rw (mul-one (m * up e), mul-one (down e), add_comm (m * up e) (3 * 2 ^ k * down e))

  raised_down : m * up e < 3 * 2 ^ k * down e → add fmt (fin true m e) (fin false 3 (pos k)) ≡ round fmt false (3 * 2 ^ k * down e - m * up e) (down e)
  unfolding add sum
  raised_down h = rw (mul-one (m * up e), mul-one (down e), lt-ltb (m * up e) (3 * 2 ^ k * down e) h)

-- ---- a value of at most a quarter of 2 ^ prec

-- what is left when the constant is gone: the nearest whole number, which is no more than a quarter
record Left (fmt : Format) (s : Bool) (n : ℕ) (r : Float) : Type 0 where
  sign : Bool
  value : HasValue r sign n 1
  same : signed sign n ≡ signed s n
  small : n ≤ quarter fmt

module _ (fmt : Format) (m : ℕ) (e : ℤ) (h : m * up e ≤ quarter fmt * down e) where
  abbrev H : ℕ
  H = quarter fmt

  abbrev K : ℕ
  K = 3 * quarter fmt

  abbrev a : ℕ
  a = m * up e

  abbrev b : ℕ
  b = down e

  abbrev n : ℕ
  n = closest a b

  abbrev c : Float
  c = fin false 3 (pos (prec fmt - 2))

  n_small : n ≤ H
  n_small = le_trans (closest_mono a b H 1 (down_pos e) (lit< tt) (le_trans (le_of_eq (mul-one a)) h)) (le_of_eq (closest_whole H))

  n_exact : (s : Bool) → HasValue (round fmt s n 1) s n 1
  n_exact s = round_whole fmt s n (omega (arith, n_small, (numbers fmt).all))

  -- the sum, and that it is a whole number
  summed : (N q : ℕ) → 2 * H * b ≤ N → N ≤ 4 * H * b → NearestEven N b q → HasValue (round fmt false N b) false q 1
  summed N q l u near =
      subst (λ (x : ℕ). HasValue (round fmt false N b) false x 1) (only_nearest N b (closest N b) q (down_pos e) (closest_nearest N b (down_pos e)) near)
      (whole_sum fmt N b (down_pos e) (le_trans (le_of_eq (ap (λ (x : ℕ). x * b) (numbers fmt).half)) l) (le_trans u (le_of_eq (ap (λ (x : ℕ). x * b) (sym (numbers fmt).all)))))

  near : NearestEven a b n
  near = closest_nearest a b (down_pos e)

  left_up : Left fmt false n (sub fmt (add fmt (fin false m e) c) c)
  left_up =
      let S = add fmt (fin false m e) c in
      let sum-value : HasValue S false (K + n) 1 =
      subst (λ (x : Float). HasValue x false (K + n) 1) (sym (raised_up fmt m e (prec fmt - 2)))
      (summed (K * b + a) (K + n) (omega arith) (omega (arith, h)) (nearest-more a b n K (down_pos e) (numbers fmt).even near)) in
      let is : sub fmt S c ≡ round fmt false n 1 = more_constant fmt (prec fmt - 2) S (K + n) sum-value (omega arith) ∙ ap (λ (x : ℕ). round fmt false x 1) (omega arith) in
      record { sign = false; value = subst (λ (x : Float). HasValue x false n 1) (sym is) (n_exact false); same = refl; small = n_small }

  left_down : Left fmt true n (sub fmt (add fmt (fin true m e) c) c)
  left_down =
      let S = add fmt (fin true m e) c in
      let B = down_pos e in
      let H-pos : 0 < H = pow_pos (prec fmt - 2) in
      let Hb : 0 < H * b = mul-pos H-pos B in
      let sum-value : HasValue S false (K - n) 1 =
      subst (λ (x : Float). HasValue x false (K - n) 1) (sym (raised_down fmt m e (prec fmt - 2) (omega (arith, h, Hb))))
      (summed (K * b - a) (K - n) (omega (arith, h)) (omega (arith, h)) (nearest-less a b n K B (numbers fmt).even near (omega (arith, n_small)) (omega (arith, h)))) in
      elim (lt_or_le 0 n) [
        | inl some ↦
            let is : sub fmt S c ≡ round fmt true n 1 =
            less_constant fmt (prec fmt - 2) S (K - n) sum-value (omega (arith, n_small, some)) ∙ ap (λ (x : ℕ). round fmt true x 1) (omega (arith, n_small)) in
            record { sign = true; value = subst (λ (x : Float). HasValue x true n 1) (sym is) (n_exact true); same = refl; small = n_small }
        | inr none ↦
            let zero : n ≡ 0 = omega (arith, none) in
            let is : sub fmt S c ≡ round fmt false n 1 =
            more_constant fmt (prec fmt - 2) S (K - n) sum-value (omega (arith, zero)) ∙ ap (λ (x : ℕ). round fmt false x 1) (omega (arith, zero)) in
            record { sign = false; value = subst (λ (x : Float). HasValue x false n 1) (sym is) (n_exact false); same = ap pos zero ∙ sym (ap (λ (x : ℕ). neg_ℤ (pos x)) zero); small = n_small }
      ]

small_left : (fmt : Format) (s : Bool) (m : ℕ) (e : ℤ) → m * up e ≤ quarter fmt * down e → Left fmt s (closest (m * up e) (down e)) (rounded fmt (fin s m e))
unfolding rounded
small_left fmt false m e h = subst (λ (c : Float). Left fmt false (closest (m * up e) (down e)) (sub fmt (add fmt (fin false m e) c) c)) (sym (constant_is fmt)) (left_up fmt m e h)
small_left fmt true m e h = subst (λ (c : Float). Left fmt true (closest (m * up e) (down e)) (sub fmt (add fmt (fin true m e) c) c)) (sym (constant_is fmt)) (left_down fmt m e h)

-- so the whole number is the older one, the nearest
pub small_whole : (fmt : Format) (y : Float) → Small fmt y → whole fmt y ≡ older_whole y
unfolding whole older_whole
small_whole fmt nan h = absurd h
small_whole fmt (inf s) h = absurd h
small_whole fmt (fin s m e) h =
    let l = small_left fmt s m e h in
    truncated-val (rounded fmt (fin s m e)) l.sign (closest (m * up e) (down e)) 1 (lit< tt) l.value ∙ ap (signed l.sign) (div-one (closest (m * up e) (down e))) ∙ l.same

-- and the second test of the range never refuses
pub small_inside : (fmt : Format) (y : Float) → Small fmt y → beyond fmt (rounded fmt y) ≡ false
small_inside fmt nan h = absurd h
small_inside fmt (inf s) h = absurd h
small_inside fmt (fin s m e) h =
    let l = small_left fmt s m e h in
    (beyond-val fmt (rounded fmt (fin s m e)) l.sign (closest (m * up e) (down e)) 1 (lit< tt) l.value).1 (le_trans l.small (le_trans (numbers fmt).under (le_of_eq (sym (mul-one (max_scaled fmt))))))

-- both over whole numbers
pub small_nearest : (fmt : Format) (s : Bool) (m : ℕ) (e : ℤ) → Small fmt (fin s m e) → (n : ℕ) × (whole fmt (fin s m e) ≡ signed s n) × NearestEven (m * up e) (down e) n
small_nearest fmt s m e h = let o = older-nearest s m e in (o.0, small_whole fmt (fin s m e) h ∙ o.1, o.2)

pub small_only : (fmt : Format) (s : Bool) (m : ℕ) (e : ℤ) (n : ℕ) → Small fmt (fin s m e) → NearestEven (m * up e) (down e) n → whole fmt (fin s m e) ≡ signed s n
small_only fmt s m e n h near = small_whole fmt (fin s m e) h ∙ older-only s m e n near
