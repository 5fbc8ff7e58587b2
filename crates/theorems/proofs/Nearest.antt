-- What the records of rounding pin: a float of a kind is known by its value; one float only is a fraction rounded once; and no other float
-- of the kind is as near to 10^-k as the one of the table. Assumes nothing.
use Prim.Native.Nat.{ℕ, zero, suc, ◌+◌, ◌-◌, ◌*◌, ◌/◌, ◌%◌, ◌^◌, ◌≤◌, ◌<◌}
use mathlib.Core.Path.{◌≡◌, refl, sym, ap, ◌∙◌, subst}
use mathlib.Core.Logic.{◌⊎◌, inl, inr}
use mathlib.Core.Bool.{Bool, true, false, ◌&&◌, cond, true≢false}
use native.Mathlib.Nat.{lt_irrefl, le_trans, le_of_eq, le_of_lt, lt_of_lt_of_le, le_of_suc-le-suc, lt_of_not-le, le_of_mul-le-mul_right, le_antisymm, one-le-pow, mul-pos, mul-one, one-mul, mul_assoc, mul_comm, mul_right_comm, mul-le-mul_right, mul-lt-mul_of_pos_right, suc-mul, mul-sub, add-mul, le-add_left, eq_of_mul-eq-mul_right}
use native.Mathlib.Decide.{dec_le}
use native.Mathlib.Omega.{arith}
use lib.Dec.{T, leb, ltb, eqb, ltb→lt, lit<}
use lib.Pow.{pow-add, pow_pos, pow_mono}
use lib.IntN.{ℤ, pos, negsuc}
use lib.Ieee.{Float, nan, inf, fin, Format, low, prec, emax, size, of_bits, to_bits, fits, up, down, hid, top}
use lib.Ieee.Fits.{round-fits, and_l, and_r, down_pos, two}
use lib.Ieee.Bits.{of_bits-to_bits}
use lib.Ieee.Exact.{HasValue}
use lib.Ieee.Nearest.{div_same}
use lib.Ieee.Scale.{finite}
use lib.Ieee.Positive.{num, den, den_pos}
use Rattle.rules.specs.Kind.{max_exponent}
use Rattle.rules.specs.Decimal.{neg_power}
use Rattle.rules.specs.Floats.{NearestEven, RoundedOnce, NearestToInverse, apart, off, AsNear}
use Rattle.theorems.proofs.Rounding.{only_nearest}
use Rattle.rules.proofs.Powers.{neg_power-nearest}

-- ---- two floats of a kind with the same value are the same
bits_of : Format → Bool → ℕ → ℕ
bits_of fmt s n = let k = size n - prec fmt in cond s (top fmt) 0 + k * hid fmt + n / 2 ^ k

to_bits-fin : (fmt : Format) (s : Bool) (m : ℕ) (e : ℤ) → to_bits fmt (fin s m e) ≡ bits_of fmt s (m * up e * 2 ^ low fmt / down e)
unfolding to_bits bits_of
to_bits-fin fmt s m e = refl

-- X / d and Y / f are both a / b
cross : (X Y d f a b : ℕ) → 0 < b → X * b ≡ a * d → Y * b ≡ a * f → X * f ≡ Y * d
cross X Y d f a b B p q =
    eq_of_mul-eq-mul_right b B (X * f) (Y * d)
    (mul_right_comm X f b ∙ ap (λ (z : ℕ). z * f) p ∙ mul_right_comm a d f ∙ ap (λ (z : ℕ). z * d) (sym q) ∙ mul_right_comm Y b d)

same_bits : (fmt : Format) (x y : Float) (s : Bool) (a b : ℕ) → 0 < b → HasValue x s a b → HasValue y s a b → to_bits fmt x ≡ to_bits fmt y
same_bits fmt nan y s a b B v w = absurd v
same_bits fmt (inf t) y s a b B v w = absurd v
same_bits fmt (fin t m e) nan s a b B v w = absurd w
same_bits fmt (fin t m e) (inf r) s a b B v w = absurd w
same_bits fmt (fin t m e) (fin r n d) s a b B v w =
    let X = m * up e in
    let Y = n * up d in
    let l = 2 ^ low fmt in
    let same : X * l * down d ≡ Y * l * down e = mul_right_comm X l (down d) ∙ ap (λ (z : ℕ). z * l) (cross X Y (down e) (down d) a b B v.1 w.1) ∙ mul_right_comm Y (down e) l in
    to_bits-fin fmt t m e
    ∙ ap (λ (z : Bool). bits_of fmt z (X * l / down e)) (v.0 ∙ sym w.0)
    ∙ ap (bits_of fmt r) (div_same (X * l) (down e) (Y * l) (down d) (down_pos e) (down_pos d) same)
    ∙ sym (to_bits-fin fmt r n d)

pub same-value : (fmt : Format) (x y : Float) (s : Bool) (a b : ℕ) → 0 < b → T (fits fmt x) → T (fits fmt y) → HasValue x s a b → HasValue y s a b → x ≡ y
same-value fmt x y s a b B F G v w = sym (of_bits-to_bits fmt x F) ∙ ap (of_bits fmt) (same_bits fmt x y s a b B v w) ∙ of_bits-to_bits fmt y G

-- ---- `RoundedOnce` allows one float only

-- of two shifts the larger is not 0, so its unit is coarse enough to need a digit more than the smaller one's
no_larger_shift : (p n b i j : ℕ) → 2 ≤ p → (j ≡ 0) ⊎ (2 ^ (p - 1) * (b * 2 ^ j) ≤ n) → n < 2 ^ p * (b * 2 ^ i) → i < j → ⊥
no_larger_shift p n b i j P (inl z) h l = omega arith
no_larger_shift p n b i j P (inr g) h l =
    lt_irrefl n
    (lt_of_lt_of_le h
    (le_trans (le_of_eq (grouped p i)) (le_trans (mul-le-mul_right b (pow_mono (room p i j P l))) (le_trans (le_of_eq (sym (grouped (p - 1) j))) g))))
  where
    grouped : (q k : ℕ) → 2 ^ q * (b * 2 ^ k) ≡ 2 ^ (q + k) * b
    grouped q k = ap (λ (x : ℕ). 2 ^ q * x) (mul_comm b (2 ^ k)) ∙ sym (mul_assoc (2 ^ q) (2 ^ k) b) ∙ ap (λ (x : ℕ). x * b) (sym (pow-add 2 q k))

    room : (p i j : ℕ) → 2 ≤ p → i < j → p + i ≤ p - 1 + j
    room p i j P l = omega arith

module _ (fmt : Format) (s : Bool) (a b : ℕ) (B : 0 < b) (x y : Float) (X : RoundedOnce fmt s a b x) (Y : RoundedOnce fmt s a b y) where
  same-shift : X.shift ≡ Y.shift
  same-shift =
      le_antisymm
      (le_of_suc-le-suc (lt_of_not-le (λ (l : Y.shift < X.shift). no_larger_shift (prec fmt) (a * 2 ^ low fmt) b Y.shift X.shift (two fmt) X.all_digits Y.no_more l)))
      (le_of_suc-le-suc (lt_of_not-le (λ (l : X.shift < Y.shift). no_larger_shift (prec fmt) (a * 2 ^ low fmt) b X.shift Y.shift (two fmt) Y.all_digits X.no_more l)))

  same_units : X.units ≡ Y.units
  same_units =
      only_nearest (a * 2 ^ low fmt) (b * 2 ^ Y.shift) X.units Y.units (mul-pos B (pow_pos Y.shift))
      (subst (λ (k : ℕ). NearestEven (a * 2 ^ low fmt) (b * 2 ^ k) X.units) same-shift X.nearest) Y.nearest

  same_size : X.units * 2 ^ X.shift ≡ Y.units * 2 ^ Y.shift
  same_size = ap (λ (q : ℕ). q * 2 ^ X.shift) same_units ∙ ap (λ (k : ℕ). Y.units * 2 ^ k) same-shift

  pub rounded_once_same : T (fits fmt x) → T (fits fmt y) → x ≡ y
  rounded_once_same F G =
      let most = 2 ^ (emax fmt + 1) * 2 ^ low fmt in
      elim (dec_le most (X.units * 2 ^ X.shift)) [
        | yes h ↦ X.infinite h ∙ sym (Y.infinite (subst (λ (q : ℕ). most ≤ q) same_size h))
        | no h ↦
            let under : X.units * 2 ^ X.shift < most = lt_of_not-le h in
            same-value fmt x y s (Y.units * 2 ^ Y.shift) (2 ^ low fmt) (pow_pos (low fmt)) F G
            (subst (λ (q : ℕ). HasValue x s q (2 ^ low fmt)) same_size (X.value under)) (Y.value (subst (λ (q : ℕ). q < most) same_size under))
      ]

-- ---- distances
less_mul : (a b z : ℕ) → (a - b) * z ≡ a * z - b * z
less_mul a b z = mul_comm (a - b) z ∙ mul-sub z a b ∙ ap (λ (x : ℕ). x - z * b) (mul_comm z a) ∙ ap (λ (x : ℕ). a * z - x) (mul_comm z b)

apart-mul : (a b z : ℕ) → apart a b * z ≡ apart (a * z) (b * z)
apart-mul a b z = add-mul (a - b) (b - a) z ∙ ap (λ (x : ℕ). x + (b - a) * z) (less_mul a b z) ∙ ap (λ (x : ℕ). (a * z - b * z) + x) (less_mul b a z)

-- of the multiples of c the one that is less than half of c away from T is nearer than any other
module _ (M c T : ℕ) (low_enough : 2 * (M * c) < 2 * T + c) (high_enough : 2 * T < 2 * (M * c) + c) where
  further : (N : ℕ) → (N < M) ⊎ (M < N) → apart (N * c) T ≤ apart (M * c) T → ⊥
  further N (inl l) h =
      let step : N * c + c ≤ M * c = le_trans (le_of_eq (sym (suc-mul N c))) (mul-le-mul_right c l) in
      omega arith
  further N (inr l) h =
      let step : M * c + c ≤ N * c = le_trans (le_of_eq (sym (suc-mul M c))) (mul-le-mul_right c l) in
      omega arith

  only_multiple : (N : ℕ) → apart (N * c) T ≤ apart (M * c) T → N ≡ M
  only_multiple N h =
      le_antisymm
      (le_of_suc-le-suc (lt_of_not-le (λ (l : M < N). further N (inr l) h)))
      (le_of_suc-le-suc (lt_of_not-le (λ (l : N < M). further N (inl l) h)))

  nearer : (N : ℕ) → apart (M * c) T ≤ apart (N * c) T
  nearer N =
      le_of_suc-le-suc
      (lt_of_not-le (λ (l : apart (N * c) T < apart (M * c) T). lt_irrefl (apart (M * c) T) (subst (λ (n : ℕ). apart (n * c) T < apart (M * c) T) (only_multiple N (le_of_lt l)) l)))

-- ---- from 2 ^ (prec - 1) units of 1 / 2 ^ t on, a float of the kind is a whole number of units
abbrev Placed : Format → ℕ → Float → Type 0
Placed fmt t y = (num y * 2 ^ t < 2 ^ (prec fmt - 1) * den y) ⊎ ((n : ℕ) × (num y * 2 ^ t ≡ n * den y))

fits_digits : (fmt : Format) (s : Bool) (m : ℕ) (e : ℤ) → T (fits fmt (fin s m e)) → m < 2 ^ prec fmt
unfolding fits
fits_digits fmt s zero e h = pow_pos (prec fmt)
fits_digits fmt s (suc m) e h =
    let a : Bool = eqb (suc m % 2) 1 in
    let b : Bool = ltb (suc m) (2 ^ prec fmt) in
    let c : Bool = leb (down e) (2 ^ low fmt) in
    let d : Bool = ltb (suc m * up e) (2 ^ suc (emax fmt) * down e) in
    ltb→lt (suc m) (2 ^ prec fmt) (and_r a b (and_l (a && b) c (and_l (a && b && c) d h)))

rejoin : (m t j : ℕ) → j ≤ t → m * 1 * 2 ^ t ≡ m * 2 ^ (t - j) * 2 ^ j
rejoin m t j h =
    ap (λ (x : ℕ). x * 2 ^ t) (mul-one m)
    ∙ ap (λ (x : ℕ). m * 2 ^ x) (parts t j h)
    ∙ ap (λ (x : ℕ). m * x) (pow-add 2 (t - j) j)
    ∙ sym (mul_assoc m (2 ^ (t - j)) (2 ^ j))
  where
    parts : (t j : ℕ) → j ≤ t → t ≡ t - j + j
    parts t j h = omega arith

-- a finer unit: then m of it, with no more digits than the kind keeps, is less
finer : (p m t j : ℕ) → 2 ≤ p → m < 2 ^ p → t < j → m * 1 * 2 ^ t < 2 ^ (p - 1) * 2 ^ j
finer p m t j P h l =
    lt_of_lt_of_le (subst (λ (x : ℕ). x * 2 ^ t < 2 ^ p * 2 ^ t) (sym (mul-one m)) (mul-lt-mul_of_pos_right h (pow_pos t)))
    (le_trans (le_of_eq (sym (pow-add 2 p t))) (le_trans (pow_mono (room p t j P l)) (le_of_eq (pow-add 2 (p - 1) j))))
  where
    room : (p t j : ℕ) → 2 ≤ p → t < j → p + t ≤ p - 1 + j
    room p t j P l = omega arith

placed : (fmt : Format) (t : ℕ) (s : Bool) (m : ℕ) (e : ℤ) → T (fits fmt (fin s m e)) → Placed fmt t (fin s m e)
placed fmt t s m (pos i) h = inr (m * 2 ^ i * 2 ^ t, sym (mul-one (m * 2 ^ i * 2 ^ t)))
placed fmt t s m (negsuc i) h =
    elim (dec_le (suc i) t) [
      | yes l ↦ inr (m * 2 ^ (t - suc i), rejoin m t (suc i) l)
      | no l ↦ inl (finer (prec fmt) m t (suc i) (two fmt) (fits_digits fmt s m (negsuc i) h) (lt_of_not-le l))
    ]

-- ---- no other float is as near
module _ (fmt : Format) (c : ℕ) (C : 0 < c) (x : Float) (near : NearestToInverse fmt x c) where
  abbrev M : ℕ
  M = near.units

  abbrev U : ℕ
  U = 2 ^ near.place

  abbrev least : ℕ
  least = 2 ^ (prec fmt - 1)

  -- the distance of a float of n units, in units
  off-units : (n : ℕ) (y : Float) → HasValue y false n U → off c y * U ≡ apart (n * c) U * den y
  off-units n nan v = absurd v
  off-units n (inf s) v = absurd v
  off-units n (fin true m e) v = absurd (true≢false v.0)
  off-units n (fin false m e) v =
      apart-mul (m * up e * c) (down e) U
      ∙ ap (λ (z : ℕ). apart z (down e * U)) (mul_right_comm (m * up e) c U ∙ ap (λ (z : ℕ). z * c) v.1 ∙ mul_right_comm n (down e) c)
      ∙ ap (λ (z : ℕ). apart (n * c * down e) z) (mul_comm (down e) U)
      ∙ sym (apart-mul (n * c) U (down e))

  in_units : (y : Float) → AsNear c y x → off c y * U ≤ apart (M * c) U * den y
  in_units y h =
      le_of_mul-le-mul_right
      (le_trans (le_of_eq (mul_right_comm (off c y) U (den x)))
      (le_trans (mul-le-mul_right U h)
      (le_of_eq (mul_right_comm (off c x) (den y) U ∙ ap (λ (z : ℕ). z * den y) (off-units M x near.value) ∙ mul_right_comm (apart (M * c) U) (den x) (den y)))))
      (den_pos x)

  -- a float of n whole units
  whole-units : (m : ℕ) (e : ℤ) (n : ℕ) → m * up e * U ≡ n * down e → AsNear c (fin false m e) x → HasValue (fin false m e) false M U
  whole-units m e n v h =
      let off-y : off c (fin false m e) * U ≡ apart (n * c) U * down e = off-units n (fin false m e) (refl, v) in
      let le : apart (n * c) U ≤ apart (M * c) U = le_of_mul-le-mul_right (le_trans (le_of_eq (sym off-y)) (in_units (fin false m e) h)) (down_pos e) in
      (refl, v ∙ ap (λ (z : ℕ). z * down e) (only_multiple M c U near.low_enough near.high_enough n le))

  -- one below 2 ^ (prec - 1) units
  too_small : (m : ℕ) (e : ℤ) → m * up e * U < least * down e → AsNear c (fin false m e) x → ⊥
  too_small m e l h =
      let d = down e in
      let Y = m * up e * U * c in
      let L = least * c * d in
      let off-y : off c (fin false m e) * U ≡ apart Y (U * d) =
      apart-mul (m * up e * c) d U ∙ ap (λ (z : ℕ). apart z (d * U)) (mul_right_comm (m * up e) c U) ∙ ap (λ (z : ℕ). apart Y z) (mul_comm d U) in
      let smaller : Y < L = lt_of_lt_of_le (mul-lt-mul_of_pos_right l C) (le_of_eq (mul_right_comm least d c)) in
      let under : L ≤ U * d = mul-le-mul_right d near.whole_there in
      let bound : apart Y (U * d) ≤ apart L (U * d) =
      le_trans (le_of_eq (sym off-y)) (le_trans (in_units (fin false m e) h) (le_trans (mul-le-mul_right d (nearer M c U near.low_enough near.high_enough least)) (le_of_eq (apart-mul (least * c) U d)))) in
      clash Y L (U * d) smaller under bound
    where
      clash : (y l u : ℕ) → y < l → l ≤ u → apart y u ≤ apart l u → ⊥
      clash y l u a b h = omega arith

  -- and one below zero
  negative : (m : ℕ) (e : ℤ) → AsNear c (fin true m e) x → ⊥
  negative m e h =
      let d = down e in
      let far : d * U ≤ (m * up e * c + d) * U = mul-le-mul_right U (le-add_left d (m * up e * c)) in
      let one : U ≤ apart (M * c) U = le_of_mul-le-mul_right (le_trans (le_of_eq (mul_comm U d)) (le_trans far (in_units (fin true m e) h))) (down_pos e) in
      let unit : c ≤ U = le_trans (le_trans (le_of_eq (sym (one-mul c))) (mul-le-mul_right c (pow_pos (prec fmt - 1)))) near.whole_there in
      clash (M * c) U c near.low_enough near.high_enough C one unit
    where
      clash : (a u c : ℕ) → 2 * a < 2 * u + c → 2 * u < 2 * a + c → 0 < c → u ≤ apart a u → c ≤ u → ⊥
      clash a u c p q z h k = omega arith

  pub no_other_nearest : (y : Float) → T (fits fmt x) → T (fits fmt y) → T (finite y) → AsNear c y x → y ≡ x
  no_other_nearest nan F G f h = absurd f
  no_other_nearest (inf s) F G f h = absurd f
  no_other_nearest (fin true m e) F G f h = absurd (negative m e h)
  no_other_nearest (fin false m e) F G f h =
      elim (placed fmt near.place false m e G) [
        | inl l ↦ absurd (too_small m e l h)
        | inr v ↦ same-value fmt (fin false m e) x false M U (pow_pos near.place) G F (whole-units m e v.0 v.1 h) near.value
      ]

-- a float of the kind that is as near to 10^-k is the one of the table
pub neg_power_only_nearest : (fmt : Format) (k : ℕ) → k ≤ max_exponent fmt → (y : Float) → T (fits fmt y) → T (finite y) → AsNear (10 ^ k) y (neg_power fmt k) → y ≡ neg_power fmt k
unfolding neg_power
neg_power_only_nearest fmt k h y G f near = no_other_nearest fmt (10 ^ k) (one-le-pow k 10 (lit< tt)) (neg_power fmt k) (neg_power-nearest fmt k h) y (round-fits fmt false 1 (10 ^ k)) G f near
