-- A word read as signed, made a float from its halves: the upper half, signed, times 2 ^ h, plus the lower half. Only the sum rounds.
-- Assumes nothing.
use Rattle.std.proofs.Common.{◌≡◌, ℕ, suc, ◌+◌, ◌-◌, ◌*◌, ◌/◌, ◌%◌, ◌^◌, ◌<◌, ◌≤◌, Bool, true, false, cond, not, ◌&&◌, T, ltb, ◌⊎◌, ℤ, pos, negsuc, sym, refl, ap, ◌∙◌, subst, ap₂, inl, inr, true≢false, lt_of_lt_of_le, le_of_lt, mul_assoc, mul_comm, add-mul, mul-lt-mul_of_pos_right, mul-pos, mul-one, arith, lit<, lit≤, ltb→lt, nltb→le, pow_mono, pow-add, shl_lt, w16, w32, SFits, to_z, of_z, le-ltb, lt-ltb}
use native.Mathlib.Nat.{mul-sub}
use mathlib.Core.Bool.{false≢true}
use lib.Ieee.{Float, fin, Format, binary32, binary64, prec, emax, low, up, down, round, sum, add, mul, of_int}
use lib.Ieee.Fits.{down_pos}
use lib.Ieee.Exact.{HasValue, round_exact}
use lib.Ieee.Back.{round_whole}
use lib.Ieee.Scale.{round_same}
use mir.Syntax.{Width}
use mir.Val.{bits, hbits, sel}
use mir.ValLaws.{to_z_pos, to_z-of_z}
use Rattle.rules.specs.Kind.{word, word_bits}
use Rattle.decimal.proofs.Products.{like, product_of}

-- ---- half of a word

abbrev pub half : Format → Width
half binary32 = w16
half binary64 = w32

abbrev pub places : Format → ℕ
places fmt = bits (half fmt)

-- 2 ^ h
abbrev pub unit : Format → Float
unit fmt = fin false 1 (pos (places fmt))

-- ---- the upper half, times 2 ^ h: exact

reaches : (fmt : Format) → prec fmt + (places fmt + low fmt) ≤ low fmt + suc (emax fmt)
reaches binary32 = lit≤ tt
reaches binary64 = lit≤ tt

moved : (fmt : Format) (s : Bool) (a : ℕ) → a < 2 ^ prec fmt → HasValue (round fmt s (a * 2 ^ places fmt) 1) s (a * 2 ^ places fmt) 1
moved fmt s a h =
    round_exact fmt s (a * 2 ^ places fmt) 1 a (places fmt + low fmt) (lit< tt) h (lt_of_lt_of_le (shl_lt (prec fmt) (places fmt + low fmt) h) (pow_mono (reaches fmt)))
    (mul_assoc a (2 ^ places fmt) (2 ^ low fmt) ∙ ap (λ (y : ℕ). a * y) (sym (pow-add 2 (places fmt) (low fmt))) ∙ sym (mul-one (a * 2 ^ (places fmt + low fmt))))

unit_value : (fmt : Format) → HasValue (unit fmt) false (2 ^ places fmt) 1
unit_value binary32 = (refl, refl)
unit_value binary64 = (refl, refl)

mul_unit : (fmt : Format) (x : Float) (s : Bool) (a : ℕ) → a < 2 ^ prec fmt → HasValue x s a 1 → HasValue (mul fmt x (unit fmt)) s (a * 2 ^ places fmt) 1
mul_unit fmt x s a h v =
    let e : mul fmt x (unit fmt) ≡ round fmt s (a * 2 ^ places fmt) 1 =
    product_of fmt x (unit fmt) s false a 1 (2 ^ places fmt) 1 (lit< tt) (lit< tt) v (unit_value fmt) ∙ ap (λ (t : Bool). round fmt t (a * 2 ^ places fmt) 1) (like s) in
    subst (λ (y : Float). HasValue y s (a * 2 ^ places fmt) 1) (sym e) (moved fmt s a h)

-- ---- the sum: rounded once

-- m * u over d is a, brought to the common divisor d * c
over : (p a d c : ℕ) → p * 1 ≡ a * d → p * c ≡ a * (d * c)
over p a d c v = ap (λ (y : ℕ). y * c) (sym (mul-one p) ∙ v) ∙ mul_assoc a d c

add_up : (fmt : Format) (x y : Float) (a b : ℕ) → HasValue x false a 1 → HasValue y false b 1 → add fmt x y ≡ round fmt false (a + b) 1
unfolding add sum
add_up fmt lib.Ieee.nan y a b x3 _ = elim x3 [ ]
add_up fmt (lib.Ieee.inf _) y a b x5 _ = elim x5 [ ]
add_up fmt (fin false m e) lib.Ieee.nan a b _ x11 = elim x11 [ ]
add_up fmt (fin false m e) (lib.Ieee.inf _) a b _ x13 = elim x13 [ ]
add_up fmt (fin true m e) lib.Ieee.nan a b _ x12 = elim x12 [ ]
add_up fmt (fin true m e) (lib.Ieee.inf _) a b _ x14 = elim x14 [ ]
add_up fmt (fin true m e) (fin u n d) a b (p, v) (q, w) = absurd (true≢false p)
add_up fmt (fin false m e) (fin true n d) a b (p, v) (q, w) = absurd (true≢false q)
add_up fmt (fin false m e) (fin false n d) a b (p, v) (q, w) =
    let c = down e * down d in
    round_same fmt false (m * up e * down d + n * up d * down e) c (a + b) 1 (mul-pos (down_pos e) (down_pos d)) (lit< tt)
    (mul-one (m * up e * down d + n * up d * down e)
    ∙ ap (λ (y : ℕ). y + n * up d * down e) (over (m * up e) a (down e) (down d) v)
    ∙ ap (λ (y : ℕ). a * c + y) (over (n * up d) b (down d) (down e) w ∙ ap (λ (y : ℕ). b * y) (mul_comm (down d) (down e)))
    ∙ sym (add-mul a b c))

-- the difference of two fractions over one divisor
apart : (p q a b c : ℕ) → p ≡ a * c → q ≡ b * c → (p - q) * 1 ≡ (a - b) * c
apart p q a b c e g =
    mul-one (p - q) ∙ ap (λ (y : ℕ). y - q) e ∙ ap (λ (y : ℕ). a * c - y) g
    ∙ ap (λ (y : ℕ). y - b * c) (mul_comm a c) ∙ ap (λ (y : ℕ). c * a - y) (mul_comm b c) ∙ sym (mul-sub c a b) ∙ mul_comm c (a - b)

-- which arm of `sum` a larger negative and a smaller positive take
arm : (fmt : Format) (p q c : ℕ) → q < p → cond (ltb p q) (round fmt false (q - p) c) (round fmt (true && ltb q p) (p - q) c) ≡ round fmt true (p - q) c
arm fmt p q c h =
    ap (λ (t : Bool). cond t (round fmt false (q - p) c) (round fmt (true && ltb q p) (p - q) c)) (le-ltb p q (omega arith))
    ∙ ap (λ (t : Bool). round fmt (true && t) (p - q) c) (lt-ltb q p h)

add_down : (fmt : Format) (x y : Float) (a b : ℕ) → b < a → HasValue x true a 1 → HasValue y false b 1 → add fmt x y ≡ round fmt true (a - b) 1
unfolding add sum
add_down fmt lib.Ieee.nan y a b h x4 _ = elim x4 [ ]
add_down fmt (lib.Ieee.inf _) y a b h x6 _ = elim x6 [ ]
add_down fmt (fin false m e) lib.Ieee.nan a b h _ x14 = elim x14 [ ]
add_down fmt (fin false m e) (lib.Ieee.inf _) a b h _ x16 = elim x16 [ ]
add_down fmt (fin true m e) lib.Ieee.nan a b h _ x15 = elim x15 [ ]
add_down fmt (fin true m e) (lib.Ieee.inf _) a b h _ x17 = elim x17 [ ]
add_down fmt (fin false m e) (fin u n d) a b h (p, v) (q, w) = absurd (false≢true p)
add_down fmt (fin true m e) (fin true n d) a b h (p, v) (q, w) = absurd (true≢false q)
add_down fmt (fin true m e) (fin false n d) a b h (p, v) (q, w) =
    let c = down e * down d in
    let P = m * up e * down d in
    let Q = n * up d * down e in
    let eP : P ≡ a * c = over (m * up e) a (down e) (down d) v in
    let eQ : Q ≡ b * c = over (n * up d) b (down d) (down e) w ∙ ap (λ (y : ℕ). b * y) (mul_comm (down d) (down e)) in
    let cp : 0 < c = mul-pos (down_pos e) (down_pos d) in
    let less : b * c < a * c = mul-lt-mul_of_pos_right h cp in
    arm fmt P Q c (subst (λ (y : ℕ). y < P) (sym eQ) (subst (λ (y : ℕ). b * c < y) (sym eP) less))
    ∙ round_same fmt true (P - Q) c (a - b) 1 cp (lit< tt) (apart P Q a b c eP eQ)

-- ---- the numbers of the two kinds

abbrev upper : Format → ℕ → ℕ
upper fmt s = s / 2 ^ places fmt

abbrev lower : Format → ℕ → ℕ
lower fmt s = s % 2 ^ places fmt

-- how far the upper half is below 0, less 1
abbrev depth : Format → ℕ → ℕ
depth fmt s = 2 ^ places fmt - suc (upper fmt s)

low_small : (fmt : Format) (s : ℕ) → lower fmt s ≤ 2 ^ prec fmt
low_small binary32 s = omega arith
low_small binary64 s = omega arith

-- of a word whose upper half is not negative: the halves join to it
record Positive (fmt : Format) (s : ℕ) : Type 0 where
  pub small : upper fmt s < 2 ^ prec fmt
  pub joined : upper fmt s * 2 ^ places fmt + lower fmt s ≡ s
  pub inside : s < 2 ^ hbits (word fmt)

positive : (fmt : Format) (s : ℕ) → upper fmt s < 2 ^ hbits (half fmt) → Positive fmt s
positive binary32 s h = record { small = omega arith; joined = omega arith; inside = omega arith }
positive binary64 s h = record { small = omega arith; joined = omega arith; inside = omega arith }

-- of one whose upper half is negative: the lower half takes off what the upper half's depth overshoots
record Negative (fmt : Format) (s : ℕ) : Type 0 where
  pub small : suc (depth fmt s) < 2 ^ prec fmt
  pub under : lower fmt s < suc (depth fmt s) * 2 ^ places fmt
  pub joined : suc (depth fmt s) * 2 ^ places fmt - lower fmt s ≡ suc (2 ^ word_bits fmt - suc s)
  pub above : 2 ^ hbits (word fmt) ≤ s

negative : (fmt : Format) (s : ℕ) → s < 2 ^ word_bits fmt → 2 ^ hbits (half fmt) ≤ upper fmt s → Negative fmt s
negative binary32 s l h = record { small = omega arith; under = omega arith; joined = omega arith; above = omega arith }
negative binary64 s l h = record { small = omega arith; under = omega arith; joined = omega arith; above = omega arith }

-- ---- the float of the word

-- what the halves h and n make
abbrev made : Format → ℤ → ℕ → Float
made fmt h n = add fmt (mul fmt (of_int fmt h) (unit fmt)) (of_int fmt (pos n))

low_value : (fmt : Format) (s : ℕ) → HasValue (of_int fmt (pos (lower fmt s))) false (lower fmt s) 1
unfolding of_int
low_value fmt s = round_whole fmt false (lower fmt s) (low_small fmt s)

at_pos : (fmt : Format) (s : ℕ) → Positive fmt s → made fmt (pos (upper fmt s)) (lower fmt s) ≡ of_int fmt (pos s)
unfolding of_int
at_pos fmt s n =
    add_up fmt (mul fmt (round fmt false (upper fmt s) 1) (unit fmt)) (round fmt false (lower fmt s) 1) (upper fmt s * 2 ^ places fmt) (lower fmt s)
    (mul_unit fmt (round fmt false (upper fmt s) 1) false (upper fmt s) n.small (round_whole fmt false (upper fmt s) (le_of_lt n.small))) (low_value fmt s)
    ∙ ap (λ (y : ℕ). round fmt false y 1) n.joined

at_neg : (fmt : Format) (s : ℕ) → Negative fmt s → made fmt (negsuc (depth fmt s)) (lower fmt s) ≡ of_int fmt (negsuc (2 ^ word_bits fmt - suc s))
unfolding of_int
at_neg fmt s n =
    let k = suc (depth fmt s) in
    add_down fmt (mul fmt (round fmt true k 1) (unit fmt)) (round fmt false (lower fmt s) 1) (k * 2 ^ places fmt) (lower fmt s) n.under
    (mul_unit fmt (round fmt true k 1) true k n.small (round_whole fmt true k (le_of_lt n.small))) (low_value fmt s)
    ∙ ap (λ (y : ℕ). round fmt true y 1) n.joined

to_z-high : (w : Width) (n : ℕ) → 2 ^ hbits w ≤ n → to_z w n ≡ negsuc (2 ^ bits w - suc n)
to_z-high w n h = ap (λ (t : Bool). sel t (pos n) (negsuc (2 ^ bits w - suc n))) (le-ltb n (2 ^ hbits w) h)

lt_or_ge : (n m : ℕ) → (n < m) ⊎ (m ≤ n)
lt_or_ge n m = go (ltb n m) (ltb→lt n m) (nltb→le n m)
  where
    go : (b : Bool) → (T b → n < m) → (T (not b) → m ≤ n) → (n < m) ⊎ (m ≤ n)
    go true f g = inl (f tt)
    go false f g = inr (g tt)

-- the float nearest to the word s read as signed, as the code makes it: r is the upper half read as signed, u the literal 2 ^ h
pub halves_nearest : (fmt : Format) (s : ℕ) (r : ℤ) (u : Float) → s < 2 ^ word_bits fmt → SFits (half fmt) r → r ≡ to_z (half fmt) (s / 2 ^ bits (half fmt)) → u ≡ unit fmt
    → add fmt (mul fmt (of_int fmt (to_z (half fmt) (of_z (half fmt) r))) u) (of_int fmt (pos (s % 2 ^ bits (half fmt)))) ≡ of_int fmt (to_z (word fmt) s)
halves_nearest fmt s r u l f e g =
    ap₂ (λ (z : ℤ) (x : Float). add fmt (mul fmt (of_int fmt z) x) (of_int fmt (pos (lower fmt s)))) (to_z-of_z (half fmt) r f ∙ e) g ∙ go (lt_or_ge (upper fmt s) (2 ^ hbits (half fmt)))
  where
    go : (upper fmt s < 2 ^ hbits (half fmt)) ⊎ (2 ^ hbits (half fmt) ≤ upper fmt s) → made fmt (to_z (half fmt) (upper fmt s)) (lower fmt s) ≡ of_int fmt (to_z (word fmt) s)
    go (inl k) =
        let n = positive fmt s k in
        ap (λ (z : ℤ). made fmt z (lower fmt s)) (to_z_pos (half fmt) (upper fmt s) k) ∙ at_pos fmt s n ∙ sym (ap (of_int fmt) (to_z_pos (word fmt) s n.inside))
    go (inr k) =
        let n = negative fmt s l k in
        ap (λ (z : ℤ). made fmt z (lower fmt s)) (to_z-high (half fmt) (upper fmt s) k) ∙ at_neg fmt s n ∙ sym (ap (of_int fmt) (to_z-high (word fmt) s n.above))
