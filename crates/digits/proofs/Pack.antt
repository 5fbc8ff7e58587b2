-- Packing and unpacking are inverse, and agree with document 01's sentence on bits, for fields packed and for any bytes read. Assumes nothing.
use mathlib.Core.Path.{◌≡◌, refl, sym, ap, ap₂, ◌∙◌, subst}
use mathlib.Core.List.{List}
use Prim.Native.Nat.{ℕ, zero, suc, ◌+◌, ◌-◌, ◌*◌, ◌/◌, ◌%◌, ◌^◌, ◌≤◌, ◌<◌}
use native.Mathlib.Nat.{mod-eq_of_lt, lt_of_lt_of_le, mul_comm, le_of_eq, lt_of_le_of_lt, mul-le-mul_right, lt_of_not-le, le-div_iff_mul-le, div-lt_iff_lt-mul, one-mul, zero-mod, div-eq_of_lt, pow-suc}
use native.Mathlib.Omega.{arith}
use lib.Arith.{digits_div, digits_mod}
use lib.Dec.{lit<}
use lib.ListN.{length, get_or}
use lib.Pow.{pow_pos, pow_mono}
use lib.Ieee.{size}
use lib.Ieee.Digits.{size-lt, size_reaches, size-le}
use Rattle.digits.specs.Digits.{of_digits, to_digits, packed_size, pack, unpack, Below, bit, bit_of}
use Rattle.digits.proofs.Laws.{of_lt, of_to, to-of, length_to, to_below, pow_mul}
use Rattle.digits.proofs.Windows.{bit-of, inside}
use Rattle.digits.proofs.Stores.{pow_lt_cancel}
use native.Mathlib.Decide.{dec_le}

pow_fields : (w n : ℕ) → (2 ^ w) ^ n ≡ 2 ^ (n * w)
pow_fields w n = pow_mul 2 w n ∙ ap (λ (x : ℕ). 2 ^ x) (mul_comm w n)

-- ---- there and back

pub fields-lt : (w : ℕ) (fs : List ℕ) → Below (2 ^ w) fs → of_digits (2 ^ w) fs < 2 ^ (length fs * w)
fields-lt w fs h = subst (λ (x : ℕ). of_digits (2 ^ w) fs < x) (pow_fields w (length fs)) (of_lt (2 ^ w) fs h)

-- the packed part holds the fields' number
pub of_pack : (w : ℕ) (fs : List ℕ) → Below (2 ^ w) fs → of_digits 256 (pack w fs) ≡ of_digits (2 ^ w) fs
of_pack w fs h =
    let size : ℕ = packed_size (length fs) w in
    of_to 256 size (of_digits (2 ^ w) fs) (lit< tt)
    ∙ mod-eq_of_lt (lt_of_lt_of_le (fields-lt w fs h) (subst (λ (x : ℕ). 2 ^ (length fs * w) ≤ x) (sym (pow_mul 2 8 size)) (pow_mono (omega arith))))

pub length-pack : (w : ℕ) (fs : List ℕ) → length (pack w fs) ≡ packed_size (length fs) w
length-pack w fs = length_to 256 (packed_size (length fs) w) (of_digits (2 ^ w) fs)

pub unpack-pack : (w : ℕ) (fs : List ℕ) → Below (2 ^ w) fs → unpack w (length fs) (pack w fs) ≡ fs
unpack-pack w fs h = ap (to_digits (2 ^ w) (length fs)) (of_pack w fs h) ∙ to-of (2 ^ w) fs h

-- bytes are those packed for the fields that they hold, if the unused bits are 0
pub pack-unpack : (w n : ℕ) (bs : List ℕ) → Below 256 bs → length bs ≡ packed_size n w → of_digits 256 bs < 2 ^ (n * w) → pack w (unpack w n bs) ≡ bs
pack-unpack w n bs h l lt =
    ap₂ (λ (k N : ℕ). to_digits 256 (packed_size k w) N) (length_to (2 ^ w) n (of_digits 256 bs))
    (of_to (2 ^ w) n (of_digits 256 bs) (pow_pos w) ∙ mod-eq_of_lt (subst (λ (x : ℕ). of_digits 256 bs < x) (sym (pow_fields w n)) lt))
    ∙ ap (λ (k : ℕ). to_digits 256 k (of_digits 256 bs)) (sym l) ∙ to-of 256 bs h

-- and only then
pub unused_clear : (w n : ℕ) (bs : List ℕ) → pack w (unpack w n bs) ≡ bs → of_digits 256 bs < 2 ^ (n * w)
unused_clear w n bs e =
    let fs : List ℕ = unpack w n bs in
    let below : Below (2 ^ w) fs = to_below (2 ^ w) n (of_digits 256 bs) (pow_pos w) in
    subst (λ (N : ℕ). N < 2 ^ (n * w)) (sym (of_pack w fs below) ∙ ap (of_digits 256) e)
    (subst (λ (k : ℕ). of_digits (2 ^ w) fs < 2 ^ (k * w)) (length_to (2 ^ w) n (of_digits 256 bs)) (fields-lt w fs below))

-- ---- the sentence on bits

-- bit k of some bytes is bit k of the number that they spell
pub bit-number : (bs : List ℕ) (k : ℕ) → Below 256 bs → bit_of bs k ≡ bit (of_digits 256 bs) k
bit-number bs k h = bit-of 8 bs k (lit< tt) h

-- bit j of field i is bit i * w + j of the number that the fields spell
field_bit : (w : ℕ) (fs : List ℕ) (i j : ℕ) → j < w → Below (2 ^ w) fs → bit (of_digits (2 ^ w) fs) (i * w + j) ≡ bit (get_or fs i 0) j
field_bit w fs i j hj h =
    sym (bit-of w fs (i * w + j) (omega arith) h) ∙ ap₂ (λ (q r : ℕ). get_or fs q 0 / 2 ^ r % 2) (digits_div i hj) (digits_mod i hj)

-- packed: bit j of field i is bit i * w + j of the packed part, bit 0 being the lowest of the first byte
pub packed-bit : (w : ℕ) (fs : List ℕ) (i j : ℕ) → j < w → Below (2 ^ w) fs → bit_of (pack w fs) (i * w + j) ≡ bit (get_or fs i 0) j
packed-bit w fs i j hj h =
    bit-number (pack w fs) (i * w + j) (to_below 256 (packed_size (length fs) w) (of_digits (2 ^ w) fs) (lit< tt))
    ∙ ap (λ (N : ℕ). bit N (i * w + j)) (of_pack w fs h)
    ∙ field_bit w fs i j hj h

-- read: so it is of any bytes, also where an unused bit is 1
low_bit : (N m k : ℕ) → k < m → bit (N % 2 ^ m) k ≡ bit N k
low_bit N m k h = inside N m k 1 (omega arith)

pub read_bit : (w n : ℕ) (bs : List ℕ) (i j : ℕ) → i < n → j < w → Below 256 bs → bit (get_or (unpack w n bs) i 0) j ≡ bit_of bs (i * w + j)
read_bit w n bs i j hi hj h =
    let N : ℕ = of_digits 256 bs in
    sym (field_bit w (unpack w n bs) i j hj (to_below (2 ^ w) n N (pow_pos w)))
    ∙ ap (λ (x : ℕ). bit x (i * w + j)) (of_to (2 ^ w) n N (pow_pos w) ∙ ap (λ (x : ℕ). N % x) (pow_fields w n))
    ∙ low_bit N (n * w) (i * w + j) (next i n w j hi hj)
    ∙ sym (bit-number bs (i * w + j) h)
  where
    next : (i n w j : ℕ) → i < n → j < w → i * w + j < n * w
    next i n w j a b = let m = mul-le-mul_right w a in omega (arith, m)

-- an unused bit is 1 exactly where the number is too large for the fields
module _ (bs : List ℕ) (m : ℕ) (h : Below 256 bs) where
  abbrev N : ℕ
  N = of_digits 256 bs

  pub large_of_bit : (k : ℕ) → m ≤ k → bit_of bs k ≡ 1 → 2 ^ m ≤ N
  large_of_bit k l e = go (dec_le (2 ^ m) N)
    where
      zero_bit : N < 2 ^ m → bit N k ≡ 0
      zero_bit lt = ap (λ (x : ℕ). x % 2) (div-eq_of_lt (lt_of_lt_of_le lt (pow_mono l))) ∙ zero-mod 2

      go : Dec (2 ^ m ≤ N) → 2 ^ m ≤ N
      go (yes p) = p
      go (no p) = absurd (let z = zero_bit (lt_of_not-le p) in let b = sym (bit-number bs k h) ∙ e in omega (arith, z, b))

  pub bit_of_large : 2 ^ m ≤ N → (k : ℕ) × (m ≤ k) × (k < 8 * length bs) × (bit_of bs k ≡ 1)
  bit_of_large l =
      let s : ℕ = size N in
      let a : m < s = pow_lt_cancel 2 {i = m} {n = s} (lit< tt) (lt_of_le_of_lt l (size-lt N)) in
      let b : s ≤ 8 * length bs = size-le N (8 * length bs) (subst (λ (x : ℕ). N < x) (pow_mul 2 8 (length bs)) (of_lt 256 bs h)) in
      (s - 1, omega arith, omega arith, bit-number bs (s - 1) h ∙ top s (omega arith) refl)
    where
      top : (s : ℕ) → 0 < s → size N ≡ s → bit N (s - 1) ≡ 1
      top zero p e = absurd (omega (arith, p))
      top (suc k) p e =
          let r : 2 ^ k ≤ N = size_reaches N k (le_of_eq (sym e)) in
          let t : N < 2 ^ k * 2 = subst (λ (x : ℕ). N < x) (pow-suc 2 k) (subst (λ (x : ℕ). N < 2 ^ x) e (size-lt N)) in
          let lo : 1 ≤ N / 2 ^ k = (le-div_iff_mul-le (pow_pos k)).1 (rw one-mul r) in
          let hi : N / 2 ^ k < 2 = (div-lt_iff_lt-mul (pow_pos k)).1 (rw (mul_comm 2 (2 ^ k)) t) in
          let q : N / 2 ^ k ≡ 1 = omega arith in
          ap (λ (x : ℕ). N / 2 ^ x % 2) (let z : suc k - 1 ≡ k = omega arith in z) ∙ ap (λ (x : ℕ). x % 2) q
