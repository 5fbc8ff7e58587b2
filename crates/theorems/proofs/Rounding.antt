-- Rounding to a whole number gives the nearest, ties to even, and no other number is that; and a product of floats is the exact product,
-- rounded once to the nearest float, ties to even. Both over whole numbers. Assumes nothing.
use Prim.Native.Nat.{ℕ, suc, ◌+◌, ◌-◌, ◌*◌, ◌/◌, ◌%◌, ◌^◌, ◌≤◌, ◌<◌, compare, Ordering}
use mathlib.Core.Path.{◌≡◌, refl, sym, ap, ◌∙◌, subst}
use mathlib.Core.Logic.{◌⊎◌, inl, inr}
use mathlib.Core.Bool.{Bool, true, false, not, cond}
use native.Mathlib.Nat.{le_trans, le_of_eq, le_antisymm, le_of_suc-le-suc, lt_of_not-le, le_of_lt, div-add-mod', mod-lt, mul-le-mul_right, suc-mul, add-mul, mul-pos, mul_assoc, mul_comm, lt_of_lt_of_le, eq-zero-or-pos, div-lt_iff_lt-mul, le-div_iff_mul-le}
use native.Mathlib.Decide.{dec_le}
use native.Mathlib.Omega.{arith}
use lib.IntN.{ℤ, pos, negsuc, nat_abs}
use lib.Signed.{non_neg}
use lib.Pow.{pow-add, pow_pos, pow_mono}
use lib.Dec.{T, lit<, ltb, is_le, compare_is_eq, eqb, leb→le, nleb→lt, eqb→eq, eqb_refl}
use lib.Arith.{lt_of_le-ne}
use lib.Ieee.{Format, Float, inf, fin, prec, low, emax, size, unlike, up, down, nearest, odd, units, round, sum, add, sub, neg, mul, of_int}
use lib.Ieee.Digits.{size-lt, size_reaches}
use lib.Ieee.Exact.{HasValue, units_val}
use lib.Ieee.Order.{drop, kept}
use borrow.Author.Tests.{lt-ltb, le-ltb}
use lib.Ieee.Fits.{down_pos, round_is, two}
use lib.Ieee.Nearest.{closest}
use Rattle.rules.specs.Decimal.{signed, truncated}
use Rattle.rules.specs.Older.{older_whole}
use Rattle.rules.specs.Floats.{NearestEven, RoundedOnce, sum_size, sum_sign}

-- one of two numbers is the smaller
pub lt_or_le : (a b : ℕ) → (a < b) ⊎ (b ≤ a)
lt_or_le a b = elim (dec_le b a) [ yes h ↦ inr h | no h ↦ inl (lt_of_not-le h) ]

-- ---- `closest` is nearest

-- what the comparison that `closest` asks for says
abbrev Compared : Ordering → ℕ → ℕ → Type 0
Compared Ordering.lt a b = a < b
Compared Ordering.eq a b = a ≡ b
Compared Ordering.gt a b = b < a

compared : (a b : ℕ) → Compared (compare a b) a b
compared a b = go (compare a b) (leb→le a b) (nleb→lt a b) (eqb→eq a b) (λ (e : a ≡ b). subst (λ (x : ℕ). T (eqb a x)) e (eqb_refl a))
  where
    go : (o : Ordering) → (T (is_le o) → a ≤ b) → (T (not (is_le o)) → b < a) → (T (compare_is_eq o) → a ≡ b) → (a ≡ b → T (compare_is_eq o)) → Compared o a b
    go Ordering.lt h k e n = lt_of_le-ne (h tt) n
    go Ordering.eq h k e n = e tt
    go Ordering.gt h k e n = k tt

-- by the whole part w and the remainder r, the next number up where the comparison says so
module _ (a b w r : ℕ) (split : w * b + r ≡ a) (less : r < b) where
  stay : r * 2 < b → NearestEven a b w
  stay h =
      record {
        low_enough = omega arith;
        high_enough = omega arith;
        even_at_tie = λ t. absurd (elim t [ inl e ↦ omega arith | inr e ↦ omega arith ]);
      }

  step : b < r * 2 → NearestEven a b (suc w)
  step h =
      let more : suc w * b ≡ w * b + b = suc-mul w b in
      record {
        low_enough = omega arith;
        high_enough = omega arith;
        even_at_tie = λ t. absurd (elim t [ inl e ↦ omega arith | inr e ↦ omega arith ]);
      }

  -- at a tie w and w + 1 are equally near, and w + w % 2 is the even one of them
  tie : r * 2 ≡ b → NearestEven a b (w + w % 2)
  tie h =
      let more : (w + w % 2) * b ≡ w * b + w % 2 * b = add-mul w (w % 2) b in
      let most : w % 2 * b ≤ 1 * b = mul-le-mul_right b (omega arith) in
      record { low_enough = omega arith; high_enough = omega arith; even_at_tie = λ t. omega arith }

  by_order : (o : Ordering) → Compared o (r * 2) b → NearestEven a b (nearest w o)
  by_order Ordering.lt h = stay h
  by_order Ordering.eq h = tie h
  by_order Ordering.gt h = step h

pub closest_nearest : (a b : ℕ) → 0 < b → NearestEven a b (closest a b)
closest_nearest a b B = by_order a b (a / b) (a % b) (div-add-mod' a b) (mod-lt a B) (compare (a % b * 2) b) (compared (a % b * 2) b)

-- ---- and nothing else is

-- if m and a larger n are both nearest, a / b is the tie between them; both are even then, and there is no room for that
no_larger : (a b m n : ℕ) → 0 < b → NearestEven a b m → NearestEven a b n → m < n → ⊥
no_larger a b m n B x y h =
    let above : suc m * b ≤ n * b = mul-le-mul_right b h in
    let more : suc m * b ≡ m * b + b = suc-mul m b in
    let u = x.high_enough in
    let v = y.low_enough in
    let even-m : m % 2 ≡ 0 = x.even_at_tie (inr (omega arith)) in
    let even-n : n % 2 ≡ 0 = y.even_at_tie (inl (omega arith)) in
    let two : suc (suc m) * b ≤ n * b = mul-le-mul_right b (omega arith) in
    let twice : suc (suc m) * b ≡ suc m * b + b = suc-mul (suc m) b in
    omega arith

pub only_nearest : (a b m n : ℕ) → 0 < b → NearestEven a b m → NearestEven a b n → m ≡ n
only_nearest a b m n B x y =
    le_antisymm
    (le_of_suc-le-suc (lt_of_not-le (λ (h : n < m). no_larger a b n m B y x h)))
    (le_of_suc-le-suc (lt_of_not-le (λ (h : m < n). no_larger a b m n B x y h)))

-- ---- the older whole number of a finite float

pub older-nearest : (s : Bool) (m : ℕ) (e : ℤ) → (n : ℕ) × (older_whole (fin s m e) ≡ signed s n) × NearestEven (m * up e) (down e) n
unfolding older_whole
older-nearest s m e = (closest (m * up e) (down e), refl, closest_nearest (m * up e) (down e) (down_pos e))

pub older-only : (s : Bool) (m : ℕ) (e : ℤ) (n : ℕ) → NearestEven (m * up e) (down e) n → older_whole (fin s m e) ≡ signed s n
unfolding older_whole
older-only s m e n h = ap (signed s) (only_nearest (m * up e) (down e) (closest (m * up e) (down e)) n (down_pos e) (closest_nearest (m * up e) (down e) (down_pos e)) h)

-- ---- a float without its fraction

pub truncated-under : (s : Bool) (m : ℕ) (e : ℤ) → (n : ℕ) × (truncated (fin s m e) ≡ signed s n) × (n * down e ≤ m * up e) × (m * up e < suc n * down e)
unfolding truncated
truncated-under s m e =
    let a = m * up e in
    let d = down e in
    let split : a / d * d + a % d ≡ a = div-add-mod' a d in
    let less : a % d < d = mod-lt a (down_pos e) in
    let more : suc (a / d) * d ≡ a / d * d + d = suc-mul (a / d) d in
    (a / d, refl, omega arith, omega arith)

-- ---- `round` rounds once

units-over : (fmt : Format) (s : Bool) (q k : ℕ) → 2 ^ (low fmt + suc (emax fmt)) ≤ q * 2 ^ k → units fmt s q k ≡ inf s
unfolding units
units-over fmt s q k h = ap (λ (b : Bool). cond b (odd (suc (prec fmt)) s q k (low fmt)) (inf s)) (le-ltb (q * 2 ^ k) (2 ^ (low fmt + suc (emax fmt))) h)

overflow_is : (fmt : Format) → 2 ^ (emax fmt + 1) * 2 ^ low fmt ≡ 2 ^ (low fmt + suc (emax fmt))
overflow_is fmt = sym (pow-add 2 (emax fmt + 1) (low fmt)) ∙ ap (λ (x : ℕ). 2 ^ x) (swap (emax fmt) (low fmt))
  where
    swap : (e l : ℕ) → e + 1 + l ≡ l + suc e
    swap e l = omega arith

-- n / b is the fraction in units of the smallest value, and k the count of digits that `round` drops
module _ (p n b : ℕ) (B : 0 < b) (P : 2 ≤ p) where
  abbrev k : ℕ
  k = drop p n b

  grouped : (i : ℕ) → 2 ^ (i + k) * b ≡ 2 ^ i * (b * 2 ^ k)
  grouped i = ap (λ (x : ℕ). x * b) (pow-add 2 i k) ∙ mul_assoc (2 ^ i) (2 ^ k) b ∙ ap (λ (x : ℕ). 2 ^ i * x) (mul_comm (2 ^ k) b)

  digits_most : n < 2 ^ p * (b * 2 ^ k)
  digits_most =
      let cover : size (n / b) ≤ p + k = omega arith in
      lt_of_lt_of_le ((div-lt_iff_lt-mul B).0 (lt_of_lt_of_le (size-lt (n / b)) (pow_mono cover))) (le_of_eq (grouped p))

  digits_least : (k ≡ 0) ⊎ (2 ^ (p - 1) * (b * 2 ^ k) ≤ n)
  digits_least =
      elim (eq-zero-or-pos k) [
        | inl z ↦ inl z
        | inr h ↦ inr (le_trans (le_of_eq (sym (grouped (p - 1)))) ((le-div_iff_mul-le B).0 (size_reaches (n / b) (p - 1 + k) (in_use (size (n / b)) p P h))))
      ]
    where
      in_use : (z p : ℕ) → 2 ≤ p → 0 < z - p → p - 1 + (z - p) < z
      in_use z p P h = omega arith

pub round_once : (fmt : Format) (s : Bool) (a b : ℕ) → 0 < b → RoundedOnce fmt s a b (round fmt s a b)
round_once fmt s a b B =
    let n = a * 2 ^ low fmt in
    let d = drop (prec fmt) n b in
    let q = kept (prec fmt) n b in
    record {
      units = q;
      shift = d;
      all_digits = digits_least (prec fmt) n b B (two fmt);
      no_more = digits_most (prec fmt) n b B (two fmt);
      nearest = closest_nearest n (b * 2 ^ d) (mul-pos B (pow_pos d));
      value = λ h. subst (λ (x : Float). HasValue x s (q * 2 ^ d) (2 ^ low fmt)) (sym (round_is fmt s a b)) (units_val fmt s q d (subst (λ (x : ℕ). q * 2 ^ d < x) (overflow_is fmt) h));
      infinite = λ h. round_is fmt s a b ∙ units-over fmt s q d (subst (λ (x : ℕ). x ≤ q * 2 ^ d) (overflow_is fmt) h);
    }

-- a product of finite floats: numerators and denominators multiplied exactly, and one rounding
pub product_is : (fmt : Format) (s t : Bool) (m n : ℕ) (e d : ℤ) → mul fmt (fin s m e) (fin t n d) ≡ round fmt (unlike s t) (m * up e * (n * up d)) (down e * down d)
unfolding mul
product_is fmt s t m n e d = refl

pub product_once : (fmt : Format) (s t : Bool) (m n : ℕ) (e d : ℤ) → RoundedOnce fmt (unlike s t) (m * up e * (n * up d)) (down e * down d) (mul fmt (fin s m e) (fin t n d))
unfolding mul
product_once fmt s t m n e d = round_once fmt (unlike s t) (m * up e * (n * up d)) (down e * down d) (mul-pos (down_pos e) (down_pos d))

-- a whole number as a float
pub of_int-once : (fmt : Format) (z : ℤ) → RoundedOnce fmt (not (non_neg z)) (nat_abs z) 1 (of_int fmt z)
unfolding of_int
of_int-once fmt (pos n) = round_once fmt false n 1 (lit< tt)
of_int-once fmt (negsuc n) = round_once fmt true (suc n) 1 (lit< tt)

-- a sum of finite floats: the exact sum over the product of the denominators, and one rounding
pub sum-once : (fmt : Format) (s t : Bool) (a b c : ℕ) → 0 < c → RoundedOnce fmt (sum_sign s a t b) (sum_size s a t b) c (sum fmt s a t b c)
unfolding sum
sum-once fmt true true a b c C = round_once fmt true (a + b) c C
sum-once fmt false false a b c C = round_once fmt false (a + b) c C
sum-once fmt true false a b c C =
    elim (lt_or_le a b) [
      | inl l ↦ rw (lt-ltb a b l, le-ltb b a (le_of_lt l)) (subst (λ (n : ℕ). RoundedOnce fmt false n c (round fmt false (b - a) c)) (omega arith) (round_once fmt false (b - a) c C))
      | inr l ↦ rw (le-ltb a b l) (subst (λ (n : ℕ). RoundedOnce fmt (ltb b a) n c (round fmt (ltb b a) (a - b) c)) (omega arith) (round_once fmt (ltb b a) (a - b) c C))
    ]
sum-once fmt false true a b c C =
    elim (lt_or_le a b) [
      | inl l ↦ rw (lt-ltb a b l) (subst (λ (n : ℕ). RoundedOnce fmt true n c (round fmt true (b - a) c)) (omega arith) (round_once fmt true (b - a) c C))
      | inr l ↦ rw (le-ltb a b l) (subst (λ (n : ℕ). RoundedOnce fmt false n c (round fmt false (a - b) c)) (omega arith) (round_once fmt false (a - b) c C))
    ]

pub add_once : (fmt : Format) (s t : Bool) (m n : ℕ) (e d : ℤ)
    → RoundedOnce fmt (sum_sign s (m * up e * down d) t (n * up d * down e)) (sum_size s (m * up e * down d) t (n * up d * down e)) (down e * down d) (add fmt (fin s m e) (fin t n d))
unfolding add
add_once fmt s t m n e d = sum-once fmt s t (m * up e * down d) (n * up d * down e) (down e * down d) (mul-pos (down_pos e) (down_pos d))

-- a difference is the sum with the sign of what is taken off turned round
pub sub_is : (fmt : Format) (x : Float) (t : Bool) (n : ℕ) (d : ℤ) → sub fmt x (fin t n d) ≡ add fmt x (fin (not t) n d)
unfolding sub neg
sub_is fmt x t n d = refl
