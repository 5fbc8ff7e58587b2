-- Which bit patterns are beyond L, by the pattern's fields; and what rounding and dropping the fraction make of those that are not.
-- Assumes nothing.
use Rattle.std.proofs.Common.{◌≡◌, ℕ, zero, suc, ◌+◌, ◌-◌, ◌*◌, ◌/◌, ◌%◌, ◌^◌, ◌<◌, ◌≤◌, Bool, true, false, cond, not, ◌&&◌, T, eqb, ltb, leb, ℤ, pos, ◌-ℤ◌, neg_ℤ, sym, refl, ap, ◌∙◌, subst, zero-le, le_trans, lt_trans, lt-suc_self, lt_of_lt_of_le, lt_of_le_of_lt, lt_irrefl, mod-lt, mul_assoc, mul_comm, mul-le-mul, mul-one, mul_right_comm, div-one, mul-div_cancel, mul_left_comm, arith, lit<, lit≤, pow_pos, pow_mono, pow-add, w64, SFits, to_z, of_z, ne_eqb, le-leb}
use mathlib.Core.Bool.{beq}
use native.Mathlib.Nat.{div-eq_of_lt, pow-succ'}
use lib.Ieee.{Float, nan, inf, fin, Format, binary32, binary64, prec, low, hid, ones, top, up, down, odd, round, sum, add, sub, neg, is_nan, nan_bits, of_int, of_fields, of_bits, to_bits}
use lib.Ieee.Exact.{HasValue, odd_sign}
use lib.Ieee.Bits.{nan_bits_is}
use lib.Ieee.Nearest.{div_mono, div_same}
use borrow.Author.Tests.{lt-leb}
use lib.IntN.{+ℤ_idl}
use lib.Signed.{mag}
use mir.Syntax.{Width}
use mir.Val.{hbits}
use mir.ValLaws.{to_z-of_z, to_z_pos}
use Rattle.decimal.specs.Fields.{cap}
use Rattle.rules.specs.Kind.{word, max_scaled, rounding_constant}
use Rattle.rules.specs.Decimal.{signed, rounded, truncated, beyond}
use Rattle.rules.proofs.Powers.{NoNan, round_real}
use Rattle.rules.proofs.Tries.{max-held, beyond-val, constant_is, truncated-val}

-- ---- fields
pub normal : (fmt : Format) (s : Bool) (x t : ℕ) → suc x < ones fmt → of_fields fmt s (suc x) t ≡ odd (prec fmt) s (hid fmt + t) x (low fmt)
unfolding of_fields
normal fmt s x t h =
    ap (λ (b : Bool). cond b (cond (eqb t 0) (inf s) nan) (odd (prec fmt) s (hid fmt + t) x (low fmt))) (ne_eqb (suc x) (ones fmt) (λ e. lt_irrefl (ones fmt) (subst (λ (y : ℕ). y < ones fmt) e h)))

normal_val : (fmt : Format) (s : Bool) (x t : ℕ) → suc x < ones fmt → HasValue (of_fields fmt s (suc x) t) s ((hid fmt + t) * 2 ^ x) (2 ^ low fmt)
normal_val fmt s x t h = subst (λ (v : Float). HasValue v s ((hid fmt + t) * 2 ^ x) (2 ^ low fmt)) (sym (normal fmt s x t h)) (odd_sign (prec fmt) s (hid fmt + t) x (low fmt))

small_val : (fmt : Format) (s : Bool) (t : ℕ) → HasValue (of_fields fmt s 0 t) s (t * 2 ^ 0) (2 ^ low fmt)
unfolding of_fields
small_val fmt s t = odd_sign (prec fmt) s t 0 (low fmt)

-- numbers of the two formats
small_under : (fmt : Format) (t : ℕ) → t < hid fmt → t * 2 ^ 0 ≤ max_scaled fmt * 2 ^ low fmt
small_under fmt t h = le_trans (less t (hid fmt) h) (most fmt)
  where
    less : (t h : ℕ) → t < h → t * 2 ^ 0 ≤ h
    less t h l = omega arith

    most : (fmt : Format) → hid fmt ≤ max_scaled fmt * 2 ^ low fmt
    most binary32 = lit≤ tt
    most binary64 = lit≤ tt

kept : (fmt : Format) (t : ℕ) → t < hid fmt → hid fmt + t ≤ 2 ^ prec fmt - 1
kept binary32 t h = omega arith
kept binary64 t h = omega arith

top-is : (fmt : Format) → (2 ^ prec fmt - 1) * 2 ^ (cap fmt - 2) ≡ max_scaled fmt * 2 ^ low fmt
top-is binary32 = refl
top-is binary64 = refl

past : (fmt : Format) → max_scaled fmt * 2 ^ low fmt < hid fmt * 2 ^ (cap fmt - 1)
past binary32 = lit< tt
past binary64 = lit< tt

within : (fmt : Format) (x : ℕ) → x < cap fmt → x < ones fmt
within binary32 x h = omega arith
within binary64 x h = omega arith

-- a field below emax + half: at most L
fields-under : (fmt : Format) (x t : ℕ) → suc x < cap fmt → t < hid fmt → (hid fmt + t) * 2 ^ x ≤ max_scaled fmt * 2 ^ low fmt
fields-under fmt x t X H = subst (λ (y : ℕ). (hid fmt + t) * 2 ^ x ≤ y) (top-is fmt) (mul-le-mul (kept fmt t H) (pow_mono (less x (cap fmt) X)))
  where
    less : (x n : ℕ) → suc x < n → x ≤ n - 2
    less x n h = omega arith

fields-over : (fmt : Format) (x t : ℕ) → cap fmt ≤ suc x → max_scaled fmt * 2 ^ low fmt < (hid fmt + t) * 2 ^ x
fields-over fmt x t X = lt_of_lt_of_le (past fmt) (mul-le-mul (more (hid fmt) t) (pow_mono (less x (cap fmt) X)))
  where
    less : (x n : ℕ) → n ≤ suc x → n - 1 ≤ x
    less x n h = omega arith

    more : (a b : ℕ) → a ≤ a + b
    more a b = omega arith

-- ---- of the bits
-- an infinity, a NaN or a large number
high : (fmt : Format) (b c s : Bool) (v : Float) → beyond fmt v ≡ true → beyond fmt (cond b (cond c (inf s) nan) v) ≡ true
unfolding beyond
high fmt true true s v p = refl
high fmt true false s v p = refl
high fmt false c s v p = p

over-fields : (fmt : Format) (s : Bool) (x t : ℕ) → cap fmt ≤ suc x → beyond fmt (of_fields fmt s (suc x) t) ≡ true
unfolding of_fields
over-fields fmt s x t h =
    high fmt (eqb (suc x) (ones fmt)) (eqb t 0) s (odd (prec fmt) s (hid fmt + t) x (low fmt))
    ((beyond-val fmt (odd (prec fmt) s (hid fmt + t) x (low fmt)) s ((hid fmt + t) * 2 ^ x) (2 ^ low fmt) (pow_pos (low fmt)) (odd_sign (prec fmt) s (hid fmt + t) x (low fmt))).0 (fields-over fmt x t h))

beyond-fields : (fmt : Format) (s : Bool) (x t : ℕ) → t < hid fmt → (x < cap fmt → beyond fmt (of_fields fmt s x t) ≡ false) × (cap fmt ≤ x → beyond fmt (of_fields fmt s x t) ≡ true)
beyond-fields fmt s zero t H = (
  (λ h. (beyond-val fmt (of_fields fmt s 0 t) s (t * 2 ^ 0) (2 ^ low fmt) (pow_pos (low fmt)) (small_val fmt s t)).1 (small_under fmt t H)),
  (λ h. absurd (no fmt h)),
)
  where
    no : (fmt : Format) → cap fmt ≤ 0 → ⊥
    no binary32 h = omega arith
    no binary64 h = omega arith
beyond-fields fmt s (suc x) t H = (
  (λ h. (beyond-val fmt (of_fields fmt s (suc x) t) s ((hid fmt + t) * 2 ^ x) (2 ^ low fmt) (pow_pos (low fmt)) (normal_val fmt s x t (within fmt (suc x) h))).1 (fields-under fmt x t h H)),
  (λ h. over-fields fmt s x t h),
)

pub beyond-bits : (fmt : Format) (b : ℕ) → (b % top fmt / hid fmt < cap fmt → beyond fmt (of_bits fmt b) ≡ false) × (cap fmt ≤ b % top fmt / hid fmt → beyond fmt (of_bits fmt b) ≡ true)
unfolding of_bits
beyond-bits fmt b = beyond-fields fmt (leb (top fmt) b) (b % top fmt / hid fmt) (b % hid fmt) (mod-lt b (pow_pos (prec fmt - 1)))

-- ---- no NaN

-- a pattern that is not beyond L is no NaN's
pub under_real : (fmt : Format) (b : ℕ) → b % top fmt / hid fmt < cap fmt → T (not (nan_bits fmt b))
unfolding beyond is_nan
under_real fmt b h = subst (λ (t : Bool). T (not t)) (sym (nan_bits_is fmt b)) (real (of_bits fmt b) ((beyond-bits fmt b).0 h))
  where
    real : (x : Float) → beyond fmt x ≡ false → NoNan x
    real nan e = subst (λ (t : Bool). T (not t)) (sym e) tt
    real (inf s) e = tt
    real (fin s m d) e = tt

-- a sum with a finite number is none
sum-real : (fmt : Format) (s : Bool) (a : ℕ) (t : Bool) (b c : ℕ) → NoNan (sum fmt s a t b c)
unfolding sum
sum-real fmt s a t b c =
    let same = round fmt s (a + b) c in
    let above = round fmt t (b - a) c in
    let below = round fmt (s && ltb b a) (a - b) c in
    either (beq s t) same (cond (ltb a b) above below) (round_real fmt s (a + b) c)
    (either (ltb a b) above below (round_real fmt t (b - a) c) (round_real fmt (s && ltb b a) (a - b) c))
  where
    either : (o : Bool) (x y : Float) → NoNan x → NoNan y → NoNan (cond o x y)
    either true x y h k = h
    either false x y h k = k

add_real : (fmt : Format) (x : Float) (t : Bool) (n : ℕ) (d : ℤ) → NoNan x → NoNan (add fmt x (fin t n d))
unfolding add is_nan
add_real fmt nan t n d h = absurd h
add_real fmt (inf s) t n d h = tt
add_real fmt (fin s m e) t n d h = sum-real fmt s (m * up e * down d) t (n * up d * down e) (down e * down d)

-- so neither is what rounding makes of a value
rounded-real : (fmt : Format) (x : Float) → NoNan x → NoNan (rounded fmt x)
unfolding rounded sub neg
rounded-real fmt x h =
    let k = pos (prec fmt - 2) in
    subst (λ (y : Float). NoNan (add fmt (add fmt x y) (neg y))) (sym (constant_is fmt)) (add_real fmt (add fmt x (fin false 3 k)) true 3 k (add_real fmt x false 3 k h))

-- ---- what the code makes of the value with the bits b: c is its literal for the constant

module _ (fmt : Format) (b : ℕ) (under : b % top fmt / hid fmt < cap fmt) (c : Float) (constant : c ≡ of_int fmt (pos (rounding_constant fmt))) where
  abbrev made : Float
  made = sub fmt (add fmt (of_bits fmt b) c) c

  made_is : made ≡ rounded fmt (of_bits fmt b)
  unfolding rounded
  made_is = ap (λ (y : Float). sub fmt (add fmt (of_bits fmt b) y) y) constant

  pub made_real : NoNan made
  made_real = subst NoNan (sym made_is) (rounded-real fmt (of_bits fmt b) (subst (λ (t : Bool). T (not t)) (nan_bits_is fmt b) (under_real fmt b under)))

  pub made_bits : to_bits fmt made ≡ to_bits fmt (rounded fmt (of_bits fmt b))
  made_bits = ap (to_bits fmt) made_is

rejoin : (d x z : ℕ) → z ≤ x → d * 2 ^ (x - z) * 2 ^ z ≡ d * 2 ^ x
rejoin d x z h = mul_assoc d (2 ^ (x - z)) (2 ^ z) ∙ ap (λ (y : ℕ). d * y) (sym (pow-add 2 (x - z) z) ∙ ap (λ (y : ℕ). 2 ^ y) (omega arith))

-- ---- a value without its fraction

-- a field of 0, with a leading one or without it: below 1
below_one : (fmt : Format) (t : ℕ) → t < hid fmt → (t * 2 ^ 0 < 2 ^ low fmt) × ((hid fmt + t) * 2 ^ 0 < 2 ^ suc (low fmt))
below_one fmt t h = (lt_of_lt_of_le (a t (hid fmt) h) (big fmt).0, lt_of_lt_of_le (b t (hid fmt) h) (big fmt).1)
  where
    a : (t h : ℕ) → t < h → t * 2 ^ 0 < h * 2
    a t h l = omega arith

    b : (t h : ℕ) → t < h → (h + t) * 2 ^ 0 < h * 2
    b t h l = omega arith

    big : (fmt : Format) → (hid fmt * 2 ≤ 2 ^ low fmt) × (hid fmt * 2 ≤ 2 ^ suc (low fmt))
    big binary32 = (lit≤ tt, lit≤ tt)
    big binary64 = (lit≤ tt, lit≤ tt)

-- the digits times 2 ^ x, as the code shifts them, for the fraction that the fields stand for
abbrev cut : Format → ℕ → ℕ → ℕ
cut fmt x t = (hid fmt + t) * 2 ^ x / 2 ^ suc (low fmt)

cut_suc : (fmt : Format) (x t : ℕ) → (hid fmt + t) * 2 ^ x / 2 ^ low fmt ≡ cut fmt (suc x) t
cut_suc fmt x t =
    div_same ((hid fmt + t) * 2 ^ x) (2 ^ low fmt) ((hid fmt + t) * 2 ^ suc x) (2 ^ suc (low fmt)) (pow_pos (low fmt)) (pow_pos (suc (low fmt))) (simp (pow-succ', mul_assoc, mul_comm, mul_left_comm))

truncated-fields : (fmt : Format) (s : Bool) (x t : ℕ) → x < ones fmt → t < hid fmt → truncated (of_fields fmt s x t) ≡ signed s (cut fmt x t)
truncated-fields fmt s zero t X H =
    truncated-val (of_fields fmt s 0 t) s (t * 2 ^ 0) (2 ^ low fmt) (pow_pos (low fmt)) (small_val fmt s t)
    ∙ ap (signed s) (div-eq_of_lt (below_one fmt t H).0 ∙ sym (div-eq_of_lt (below_one fmt t H).1))
truncated-fields fmt s (suc x) t X H =
    truncated-val (of_fields fmt s (suc x) t) s ((hid fmt + t) * 2 ^ x) (2 ^ low fmt) (pow_pos (low fmt)) (normal_val fmt s x t X) ∙ ap (signed s) (cut_suc fmt x t)

cut_under : (fmt : Format) (x t : ℕ) → x < cap fmt → t < hid fmt → cut fmt x t ≤ max_scaled fmt
cut_under fmt zero t X H = subst (λ (y : ℕ). y ≤ max_scaled fmt) (sym (div-eq_of_lt (below_one fmt t H).1)) zero-le
cut_under fmt (suc x) t X H =
    let n = (hid fmt + t) * 2 ^ x in
    subst (λ (y : ℕ). y ≤ max_scaled fmt) (cut_suc fmt x t)
    (subst (λ (y : ℕ). n / 2 ^ low fmt ≤ y) (div-one (max_scaled fmt))
    (div_mono n (2 ^ low fmt) (max_scaled fmt) 1 (pow_pos (low fmt)) (lit< tt) (subst (λ (y : ℕ). y ≤ max_scaled fmt * 2 ^ low fmt) (sym (mul-one n)) (fields-under fmt x t X H))))

truncated-bits : (fmt : Format) (b : ℕ) → b % top fmt / hid fmt < cap fmt → truncated (of_bits fmt b) ≡ signed (leb (top fmt) b) (cut fmt (b % top fmt / hid fmt) (b % hid fmt))
unfolding of_bits
truncated-bits fmt b h = truncated-fields fmt (leb (top fmt) b) (b % top fmt / hid fmt) (b % hid fmt) (within fmt (b % top fmt / hid fmt) h) (mod-lt b (pow_pos (prec fmt - 1)))

-- of a magnitude in range
module _ (w : Width) (n : ℕ) (h : n < 2 ^ hbits w) where
  minus_is : pos 0 -ℤ to_z w n ≡ neg_ℤ (pos n)
  minus_is = ap (λ (z : ℤ). pos 0 -ℤ z) (to_z_pos w n h) ∙ +ℤ_idl (neg_ℤ (pos n))

  mag_neg : (n c : ℕ) → n < c → mag (neg_ℤ (pos n)) < c
  mag_neg zero c h = h
  mag_neg (suc n) c h = lt_trans (lt-suc_self n) h

  minus_fits : SFits w (pos 0 -ℤ to_z w n)
  minus_fits = record { sfits = subst (λ (z : ℤ). mag z < 2 ^ hbits w) (sym minus_is) (mag_neg n (2 ^ hbits w) h) }

  signed_fits : (s : Bool) → SFits w (signed s n)
  signed_fits true = record { sfits = mag_neg n (2 ^ hbits w) h }
  signed_fits false = record { sfits = h }

  minus_back : to_z w (of_z w (pos 0 -ℤ to_z w n)) ≡ neg_ℤ (pos n)
  minus_back = to_z-of_z w (pos 0 -ℤ to_z w n) minus_fits ∙ minus_is

-- the whole number fits the kind's word
held : (fmt : Format) (b : ℕ) → b % top fmt / hid fmt < cap fmt → cut fmt (b % top fmt / hid fmt) (b % hid fmt) < 2 ^ hbits (word fmt)
held fmt b h = lt_of_le_of_lt (cut_under fmt (b % top fmt / hid fmt) (b % hid fmt) h (mod-lt b (pow_pos (prec fmt - 1)))) (max-held fmt)

pub truncated-held : (fmt : Format) (b : ℕ) → b % top fmt / hid fmt < cap fmt → SFits (word fmt) (truncated (of_bits fmt b))
truncated-held fmt b h =
    subst (λ (z : ℤ). SFits (word fmt) z) (sym (truncated-bits fmt b h))
    (signed_fits (word fmt) (cut fmt (b % top fmt / hid fmt) (b % hid fmt)) (held fmt b h) (leb (top fmt) b))

wide : (fmt : Format) → 2 ^ hbits (word fmt) ≤ 2 ^ hbits w64
wide binary32 = lit≤ tt
wide binary64 = lit≤ tt

-- what the code computes, n, as the magnitude of the value with the bits b: n is a signed number of 64 bits, and so is 0 less n; with the
-- sign it is the value without its fraction
pub record Cut (fmt : Format) (b n : ℕ) : Type 0 where
  pub fits : SFits w64 (pos n)
  pub minus : SFits w64 (pos 0 -ℤ to_z w64 n)
  pub plus : b < top fmt → to_z w64 n ≡ truncated (of_bits fmt b)
  pub less : top fmt ≤ b → to_z w64 (of_z w64 (pos 0 -ℤ to_z w64 n)) ≡ truncated (of_bits fmt b)

pub cut_is : (fmt : Format) (b n : ℕ) → b % top fmt / hid fmt < cap fmt → n ≡ (hid fmt + b % hid fmt) * 2 ^ (b % top fmt / hid fmt) / 2 ^ suc (low fmt) → Cut fmt b n
cut_is fmt b n h e =
    let c = cut fmt (b % top fmt / hid fmt) (b % hid fmt) in
    let l : n < 2 ^ hbits w64 = lt_of_lt_of_le (subst (λ (y : ℕ). y < 2 ^ hbits (word fmt)) (sym e) (held fmt b h)) (wide fmt) in
    record {
      fits = record { sfits = l };
      minus = minus_fits w64 n l;
      plus = (λ k. to_z_pos w64 n l ∙ ap pos e ∙ ap (λ (s : Bool). signed s c) (sym (lt-leb (top fmt) b k)) ∙ sym (truncated-bits fmt b h));
      less = (λ k. minus_back w64 n l ∙ ap (λ (y : ℕ). neg_ℤ (pos y)) e ∙ ap (λ (s : Bool). signed s c) (sym (le-leb (top fmt) b k)) ∙ sym (truncated-bits fmt b h));
    }

-- ---- as the code shifts

pub shift-up : (d x z : ℕ) → z ≤ x → d * 2 ^ (x - z) ≡ d * 2 ^ x / 2 ^ z
shift-up d x z h = sym (ap (λ (y : ℕ). y / 2 ^ z) (sym (rejoin d x z h)) ∙ mul-div_cancel (d * 2 ^ (x - z)) (pow_pos z))

pub shift-down : (d x z : ℕ) → x ≤ z → d / 2 ^ (z - x) ≡ d * 2 ^ x / 2 ^ z
shift-down d x z h = div_same d (2 ^ (z - x)) (d * 2 ^ x) (2 ^ z) (pow_pos (z - x)) (pow_pos z) (sym (rejoin d z x h) ∙ mul_right_comm d (2 ^ (z - x)) (2 ^ x))

pub shift-out : (d x z : ℕ) → d < 2 ^ 53 → 64 ≤ z - x → 0 ≡ d * 2 ^ x / 2 ^ z
shift-out d x z h k =
    let most : 53 ≤ z - x = omega arith in
    sym (div-eq_of_lt (lt_of_lt_of_le h (pow_mono most))) ∙ shift-down d x z (omega arith)
