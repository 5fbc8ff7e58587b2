-- The exception rule by the tests that the code makes on bit patterns: a NaN or an infinity by the exponent's field, a scaled or a rounded
-- value beyond L by its own, and the bits that come back, which are not those of negative zero. Assumes nothing.
use Rattle.std.proofs.Common.{◌≡◌, ℕ, zero, suc, ◌+◌, ◌-◌, ◌*◌, ◌/◌, ◌%◌, ◌^◌, ◌<◌, ◌≤◌, Bool, true, false, cond, not, ◌||◌, T, eqb, ltb, leb, ltb→lt, nltb→le, ℤ, pos, sym, refl, ap, ◌∙◌, subst, zero-le, le_trans, le_of_lt, mul-pos, zero-mul, arith, lit<, w64, SFits, to_z, of_z, le-ltb, eq-eqb, ne_eqb}
use mathlib.Core.Bool.{false≢true}
use mathlib.Core.Option.{none, some}
use native.Mathlib.Nat.{zero-div}
use lib.Ieee.{Float, nan, inf, fin, Format, binary32, binary64, top, hid, ones, low, prec, size, up, down, odd, round, add, sub, mul, of_int, is_nan, fits, to_bits, of_bits, of_fields, nan_bits}
use lib.Ieee.Bits.{nan_bits_above, of_bits-to_bits, to_bits-of_bits}
use lib.Ieee.Fits.{mul-fits, sub-fits}
use lib.Ieee.Exact.{HasValue}
use lib.Ieee.Back.{round_whole, whole_unique}
use lib.Ieee.Scale.{round_same}
use lib.Ieee.Positive.{num, den, den_pos, positive, own_value}
use mir.ValLaws.{to_z-of_z}
use Rattle.rules.specs.Kind.{word, word_bytes, max_exponent, rounding_constant}
use Rattle.rules.specs.Decimal.{Pair, power, neg_power, scaled, rounded, truncated, whole, back, is_infinite, is_negative_zero, beyond, exception, tried}
use Rattle.rules.specs.Write.{Allowed}
use Rattle.rules.specs.Floats.{brought_back}
use Rattle.rules.proofs.Rows.{neither}
use Rattle.rules.proofs.Tries.{tried-is, tried-none}
use Rattle.rules.proofs.Powers.{power-positive, neg_power-positive, back-bits}
use Rattle.decimal.proofs.Products.{like, product_of}
use Rattle.decimal.specs.Fields.{cap}
use Rattle.decimal.proofs.Rounding.{normal, beyond-bits, truncated-held}

-- ---- tests

-- a test of m < n that failed
pub failed : (b : Bool) (m n : ℕ) → (m < n → b ≡ true) → b ≡ false → n ≤ m
failed b m n h e = nltb→le m n (refused (ltb m n) (ltb→lt m n))
  where
    refused : (t : Bool) → (T t → m < n) → T (not t)
    refused true k = absurd (false≢true (sym e ∙ h (k tt)))
    refused false k = tt

-- a word of the kind
pub word_under : (fmt : Format) (n v : ℕ) → n ≡ word_bytes fmt → v < 2 ^ (8 * n) → v < 2 * top fmt
word_under binary32 n v e h = let k : v < 2 ^ 32 = subst (λ (m : ℕ). v < 2 ^ (8 * m)) e h in omega (arith, k)
word_under binary64 n v e h = let k : v < 2 ^ 64 = subst (λ (m : ℕ). v < 2 ^ (8 * m)) e h in omega (arith, k)

-- joined by ||

or_l : (a b : Bool) → a ≡ true → (a || b) ≡ true
or_l a b e = cc

or_r : (a b : Bool) → b ≡ true → (a || b) ≡ true
or_r true b e = refl
or_r false b e = e

-- ---- a NaN or an infinity: the exponent's field is all ones

abbrev not_finite : Float → Bool
not_finite x = is_nan x || is_infinite x

all_ones : (fmt : Format) (v : ℕ) → ones fmt * hid fmt ≤ v % top fmt → v % top fmt / hid fmt ≡ ones fmt
all_ones binary32 v h = omega arith
all_ones binary64 v h = omega arith

fewer : (fmt : Format) (v : ℕ) → v % top fmt < ones fmt * hid fmt → v % top fmt / hid fmt < ones fmt
fewer binary32 v h = omega arith
fewer binary64 v h = omega arith

cut : (s b : Bool) → not_finite (cond b (inf s) nan) ≡ true
unfolding is_nan
cut s true = refl
cut s false = refl

full : (fmt : Format) (s : Bool) (t : ℕ) → not_finite (of_fields fmt s (ones fmt) t) ≡ true
unfolding of_fields
full binary32 s t = cut s (eqb t 0)
full binary64 s t = cut s (eqb t 0)

large : (fmt : Format) (v : ℕ) → ones fmt * hid fmt ≤ v % top fmt → not_finite (of_bits fmt v) ≡ true
unfolding of_bits
large fmt v h = let s = leb (top fmt) v in ap (λ (x : ℕ). not_finite (of_fields fmt s x (v % hid fmt))) (all_ones fmt v h) ∙ full fmt s (v % hid fmt)

odd_finite : (d : ℕ) (s : Bool) (q k l : ℕ) → not_finite (odd d s q k l) ≡ false
unfolding odd is_nan
odd_finite d s zero k l = refl
odd_finite d s (suc q) k l = refl

fields-finite : (fmt : Format) (s : Bool) (x t : ℕ) → x < ones fmt → not_finite (of_fields fmt s x t) ≡ false
unfolding of_fields
fields-finite fmt s zero t h = odd_finite (prec fmt) s t 0 (low fmt)
fields-finite fmt s (suc x) t h = ap not_finite (normal fmt s x t h) ∙ odd_finite (prec fmt) s (hid fmt + t) x (low fmt)

small : (fmt : Format) (v : ℕ) → v % top fmt < ones fmt * hid fmt → not_finite (of_bits fmt v) ≡ false
unfolding of_bits
small fmt v h = fields-finite fmt _ (v % top fmt / hid fmt) (v % hid fmt) (fewer fmt v h)

pub no_nan : (fmt : Format) (v : ℕ) → v % top fmt < ones fmt * hid fmt → nan_bits fmt v ≡ false
no_nan fmt v h = nan_bits_above fmt v ∙ le-ltb (ones fmt * hid fmt) (v % top fmt) (le_of_lt h)

-- ---- negative zero: the sign alone

zero_there : (fmt : Format) → HasValue (of_bits fmt (top fmt)) true 0 1
unfolding of_bits
zero_there binary32 = (refl, refl)
zero_there binary64 = (refl, refl)

zero_bits : (fmt : Format) (e : ℤ) → to_bits fmt (fin true 0 e) ≡ to_bits fmt (fin true 0 (pos 0))
unfolding to_bits
zero_bits fmt e =
    let z : (x y : ℕ) → 0 * x * 2 ^ low fmt / y ≡ 0 = λ x y. ap (λ (n : ℕ). n * 2 ^ low fmt / y) (zero-mul x) ∙ ap (λ (n : ℕ). n / y) (zero-mul (2 ^ low fmt)) ∙ zero-div y in
    ap (λ (n : ℕ). cond true (top fmt) 0 + (size n - prec fmt) * hid fmt + n / 2 ^ (size n - prec fmt)) (z (up e) (down e) ∙ sym (z (up (pos 0)) (down (pos 0))))

zero_top : (fmt : Format) → to_bits fmt (fin true 0 (pos 0)) ≡ top fmt
unfolding to_bits
zero_top binary32 = refl
zero_top binary64 = refl

zero_only : (fmt : Format) (v : ℕ) → v < 2 * top fmt → (v ≡ top fmt → ⊥) → is_negative_zero (of_bits fmt v) ≡ false
unfolding is_nan
zero_only fmt v h o = go (of_bits fmt v) refl
  where
    go : (x : Float) → of_bits fmt v ≡ x → is_negative_zero x ≡ false
    go nan e = refl
    go (inf s) e = refl
    go (fin false m d) e = refl
    go (fin true (suc m) d) e = ne_eqb (suc m) 0 (λ q. omega arith)
    go (fin true zero d) e =
        let real : T (not (is_nan (of_bits fmt v))) = subst (λ (x : Float). T (not (is_nan x))) (sym e) tt in
        absurd (o (sym (to_bits-of_bits fmt v h real) ∙ ap (to_bits fmt) e ∙ zero_bits fmt d ∙ zero_top fmt))

whole-zero : (fmt : Format) → whole fmt (fin true 0 (pos 0)) ≡ pos 0
unfolding whole rounded truncated round add sub of_int
whole-zero binary32 = refl
whole-zero binary64 = refl

-- a zero of either sign, times a positive number, is that zero
zero_times : (fmt : Format) (s : Bool) (x y : Float) → HasValue x s 0 1 → T (positive y) → HasValue (mul fmt x y) s 0 1
zero_times fmt s x y h k =
    let d = den y in
    let none : 0 * num y * 1 ≡ 0 * (1 * d) = ap (λ (n : ℕ). n * 1) (zero-mul (num y)) ∙ sym (zero-mul (1 * d)) in
    let e : mul fmt x y ≡ round fmt s 0 1 =
    product_of fmt x y s false 0 1 (num y) d (lit< tt) (den_pos y) h (own_value y k)
    ∙ ap (λ (t : Bool). round fmt t (0 * num y) (1 * d)) (like s)
    ∙ round_same fmt s (0 * num y) (1 * d) 0 1 (mul-pos (lit< tt) (den_pos y)) (lit< tt) none in
    subst (λ (z : Float). HasValue z s 0 1) (sym e) (round_whole fmt s 0 zero-le)

module _ (fmt : Format) (p : Pair) (inside : Allowed fmt p) where
  factor-in : p.factor ≤ max_exponent fmt
  factor-in = le_trans inside.factor inside.exponent

  -- negative zero is its own scaled value
  zero_scaled : scaled fmt p (of_bits fmt (top fmt)) ≡ fin true 0 (pos 0)
  unfolding scaled
  zero_scaled =
      let x = mul fmt (of_bits fmt (top fmt)) (power fmt p.exponent) in
      whole_unique fmt (mul fmt x (neg_power fmt p.factor)) (fin true 0 (pos 0)) true 0 (mul-fits fmt x (neg_power fmt p.factor)) (unfold fits in tt)
      (zero_times fmt true x (neg_power fmt p.factor) (zero_times fmt true (of_bits fmt (top fmt)) (power fmt p.exponent) (zero_there fmt) (power-positive fmt p.exponent inside.exponent)) (neg_power-positive fmt p.factor factor-in))
      (refl, refl)

  -- so its whole number is 0
  zero_whole : whole fmt (scaled fmt p (of_bits fmt (top fmt))) ≡ pos 0
  zero_whole = ap (whole fmt) zero_scaled ∙ whole-zero fmt

  -- which comes back with another sign
  zero_back : HasValue (brought_back fmt p (pos 0)) false 0 1
  unfolding of_int
  zero_back =
      zero_times fmt false (mul fmt (round fmt false 0 1) (power fmt p.factor)) (neg_power fmt p.exponent)
      (zero_times fmt false (round fmt false 0 1) (power fmt p.factor) (round_whole fmt false 0 zero-le) (power-positive fmt p.factor factor-in))
      (neg_power-positive fmt p.exponent inside.exponent)

  zero_lost : back fmt p (whole fmt (scaled fmt p (of_bits fmt (top fmt)))) ≡ top fmt → ⊥
  zero_lost e =
      let same : brought_back fmt p (pos 0) ≡ of_bits fmt (top fmt) = sym (back-bits fmt p (pos 0)) ∙ ap (of_bits fmt) (sym (ap (back fmt p) zero_whole) ∙ e) in
      two-signs (brought_back fmt p (pos 0)) zero_back (subst (λ (x : Float). HasValue x true 0 1) (sym same) (zero_there fmt))
    where
      two-signs : (x : Float) → HasValue x false 0 1 → HasValue x true 0 1 → ⊥
      two-signs nan h k = elim h [ ]
      two-signs (inf _) h k = elim h [ ]
      two-signs (fin s m e) h k = false≢true (sym h.0 ∙ k.0)

-- ---- the rule, at a pair p and a value's bits v

abbrev scaled_of : Format → Pair → ℕ → Float
scaled_of fmt p v = scaled fmt p (of_bits fmt v)

module _ (fmt : Format) (p : Pair) (v : ℕ) where
  -- the tests from the first to the range's, and the last
  special : Bool
  special = not_finite (of_bits fmt v) || is_negative_zero (of_bits fmt v)

  differs : Bool
  differs = not (eqb (back fmt p (whole fmt (scaled_of fmt p v))) v)

  -- the scaled value and the rounded value beyond L
  far : Bool
  far = beyond fmt (scaled_of fmt p v)

  farther : Bool
  farther = beyond fmt (rounded fmt (scaled_of fmt p v))

  exception-is : exception fmt p v ≡ (special || far || farther || differs)
  unfolding exception special far farther differs
  exception-is = refl

  excepted : (special || far || farther || differs) ≡ true → none ≡ tried fmt p v
  excepted e = sym (tried-none fmt p v (exception-is ∙ e))

  pub by_large : ones fmt * hid fmt ≤ v % top fmt → none ≡ tried fmt p v
  unfolding special
  by_large h =
      excepted
      (or_l (special || far || farther) differs
      (or_l (special || far) farther (or_l special far (or_l (not_finite (of_bits fmt v)) (is_negative_zero (of_bits fmt v)) (large fmt v h)))))

  -- b, the scaled value's bits
  module _ (b : ℕ) (at : b ≡ to_bits fmt (scaled_of fmt p v)) where
    is : of_bits fmt b ≡ scaled_of fmt p v
    unfolding scaled
    is =
        let x = mul fmt (of_bits fmt v) (power fmt p.exponent) in
        ap (of_bits fmt) at ∙ of_bits-to_bits fmt (mul fmt x (neg_power fmt p.factor)) (mul-fits fmt x (neg_power fmt p.factor))

    pub by_scaled : cap fmt ≤ b % top fmt / hid fmt → none ≡ tried fmt p v
    unfolding far
    by_scaled h = excepted (or_l (special || far || farther) differs (or_l (special || far) farther (or_r special far (ap (beyond fmt) (sym is) ∙ (beyond-bits fmt b).1 h))))

    -- r, the rounded value's bits
    module _ (r : ℕ) (rounded-at : r ≡ to_bits fmt (rounded fmt (of_bits fmt b))) where
      rounded-is : of_bits fmt r ≡ rounded fmt (scaled_of fmt p v)
      unfolding rounded
      rounded-is =
          let c = of_int fmt (pos (rounding_constant fmt)) in
          ap (of_bits fmt) rounded-at
          ∙ of_bits-to_bits fmt (sub fmt (add fmt (of_bits fmt b) c) c) (sub-fits fmt (add fmt (of_bits fmt b) c) c)
          ∙ ap (rounded fmt) is

      pub by_rounded : cap fmt ≤ r % top fmt / hid fmt → none ≡ tried fmt p v
      unfolding farther
      by_rounded h = excepted (or_l (special || far || farther) differs (or_r (special || far) farther (ap (beyond fmt) (sym rounded-is) ∙ (beyond-bits fmt r).1 h)))

      -- past these tests, with the whole number z in hand and the bits c that it, as the word x, comes back as
      module _ (near : r % top fmt / hid fmt < cap fmt) (z : ℤ) (wide : SFits w64 z) (cut : z ≡ truncated (of_bits fmt r)) where
        pub number_held : SFits (word fmt) (to_z w64 (of_z w64 z))
        number_held = subst (λ (y : ℤ). SFits (word fmt) y) (sym (to_z-of_z w64 z wide ∙ cut)) (truncated-held fmt r near)

        number_is : to_z w64 (of_z w64 z) ≡ whole fmt (scaled_of fmt p v)
        unfolding whole
        number_is = to_z-of_z w64 z wide ∙ cut ∙ ap truncated rounded-is

        module _ (x c : ℕ) (as-word : x ≡ of_z (word fmt) (to_z w64 (of_z w64 z))) (came : c ≡ back fmt p (to_z (word fmt) x)) where
          came_is : c ≡ back fmt p (whole fmt (scaled_of fmt p v))
          came_is = came ∙ ap (back fmt p) (ap (to_z (word fmt)) as-word ∙ to_z-of_z (word fmt) (to_z w64 (of_z w64 z)) number_held ∙ number_is)

          pub by_back : (c ≡ v → ⊥) → none ≡ tried fmt p v
          unfolding differs
          by_back h = excepted (or_r (special || far || farther) differs (ap not (ne_eqb (back fmt p (whole fmt (scaled_of fmt p v))) v (λ e. h (came_is ∙ e)))))

          pub kept : Allowed fmt p → v < 2 * top fmt → v % top fmt < ones fmt * hid fmt → b % top fmt / hid fmt < cap fmt → c ≡ v → some (to_z w64 (of_z w64 z)) ≡ tried fmt p v
          unfolding special far farther differs
          kept inside fits low under h =
              let comes : back fmt p (whole fmt (scaled_of fmt p v)) ≡ v = sym came_is ∙ h in
              let other : v ≡ top fmt → ⊥ = λ e. zero_lost fmt p inside (ap (λ (n : ℕ). back fmt p (whole fmt (scaled_of fmt p n))) (sym e) ∙ comes ∙ e) in
              let plain : special ≡ false = neither (not_finite (of_bits fmt v)) (is_negative_zero (of_bits fmt v)) (small fmt v low) (zero_only fmt v fits other) in
              let inner : far ≡ false = ap (beyond fmt) (sym is) ∙ (beyond-bits fmt b).0 under in
              let outer : farther ≡ false = ap (beyond fmt) (sym rounded-is) ∙ (beyond-bits fmt r).0 near in
              let same : differs ≡ false = ap not (eq-eqb (back fmt p (whole fmt (scaled_of fmt p v))) v comes) in
              let e : exception fmt p v ≡ false =
              exception-is ∙ neither (special || far || farther) differs (neither (special || far) farther (neither special far plain inner) outer) same in
              ap some number_is ∙ sym (tried-is fmt p v e)
