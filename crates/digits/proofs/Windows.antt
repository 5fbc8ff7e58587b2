-- Windows of a number: N / 2 ^ p % 2 ^ m is the m bits from p on; as bits, as bytes, and as a field put at a bit. Assumes nothing.
use mathlib.Core.Path.{◌≡◌, sym, ap, ap₂, ◌∙◌, subst}
use mathlib.Core.List.{List}
use Prim.Native.Nat.{ℕ, zero, suc, ◌+◌, ◌-◌, ◌*◌, ◌/◌, ◌%◌, ◌^◌, ◌≤◌, ◌<◌}
use native.Mathlib.Nat.{mod-lt, add-zero, mul_assoc, add_assoc, add-mul, mul-suc, div-add-mod, mod-eq_of_lt, div-eq_of_lt, lt_of_le_of_lt, lt_of_lt_of_le, le_trans, mul_comm, le_of_eq, mul-le-mul_right, mul-div_cancel, mul-mod_left, add_comm, one-mul, le-div_iff_mul-le, div-add-mod', div-mul-le_self, mod-le}
use native.Mathlib.Decide.{dec_lt}
use native.Mathlib.Omega.{arith}
use lib.Arith.{digits_lt}
use lib.Dec.{eqb, ltb}
use borrow.Author.Tests.{lt-ltb, le-ltb, ne_eqb}
use mathlib.Core.Logic.{◌⊎◌, inl, inr, ⊎_elim}
use lib.ListN.{get_or, take, drop}
use lib.Pow.{pow_pos, pow_mono, pow-lt, pow-add, shr-shr, field, mod-mod-pow, mod-pow-add, shr_mod, shr_lt, shl_lt}
use Rattle.digits.specs.Digits.{of_digits, Below}
use Rattle.digits.proofs.Laws.{of_drop, of_take, get_or-of, below_drop, pow_mul}

-- the next field ends by the end of all
pub next_le : (w i n : ℕ) → i < n → w * i + w ≤ n * w
next_le w i n h = le_trans (le_of_eq (sym (mul-suc w i) ∙ mul_comm w (suc i))) (mul-le-mul_right w h)

-- `1 << k` of a u64
pub one_shl : (k : ℕ) → k < 64 → (1 * 2 ^ k) % 2 ^ 64 ≡ 2 ^ k
one_shl k h = ap (λ (x : ℕ). x % 2 ^ 64) (one-mul (2 ^ k)) ∙ mod-eq_of_lt (pow-lt h)

-- ---- windows of a number: N / 2 ^ p % 2 ^ m is the m bits from p on

pub window_lt : (N p m w : ℕ) → m ≤ w → N / 2 ^ p % 2 ^ m < 2 ^ w
window_lt N p m w h = lt_of_lt_of_le (mod-lt (N / 2 ^ p) (pow_pos m)) (pow_mono h)

-- ---- the words: what 8 bytes from start / 8 on and a ninth give

-- the bytes from q on, n of them
pub of_bytes : (s : List ℕ) (q n : ℕ) → Below 256 s → of_digits 256 (take n (drop q s)) ≡ of_digits 256 s / 2 ^ (8 * q) % 2 ^ (8 * n)
of_bytes s q n h =
    of_take 256 (drop q s) n (below_drop 256 s q h)
    ∙ ap₂ (λ (x y : ℕ). x % y) (of_drop 256 s q h ∙ ap (λ (x : ℕ). of_digits 256 s / x) (pow_mul 2 8 q)) (pow_mul 2 8 n)

-- a window inside a digit
pub inside : (n u r m : ℕ) → r + m ≤ u → n % 2 ^ u / 2 ^ r % 2 ^ m ≡ n / 2 ^ r % 2 ^ m
inside n u r m h =
    let j : ℕ = u - (r + m) in
    let e : u ≡ (j + m) + r = omega arith in
    ap (λ (x : ℕ). n % 2 ^ x / 2 ^ r % 2 ^ m) e ∙ ap (λ (x : ℕ). x % 2 ^ m) (field n (j + m) r) ∙ mod-mod-pow (n / 2 ^ r) j m

pub byte_of : (s : List ℕ) (q : ℕ) → Below 256 s → get_or s q 0 ≡ of_digits 256 s / 2 ^ (8 * q) % 2 ^ 8
byte_of s q h = get_or-of 256 s q h ∙ ap (λ (x : ℕ). of_digits 256 s / x % 256) (pow_mul 2 8 q)

-- a shorter mask after a longer one
pub mod_low : (n w m : ℕ) → m ≤ w → n % 2 ^ w % 2 ^ m ≡ n % 2 ^ m
mod_low n w m h =
    let e : w ≡ (w - m) + m = omega arith in
    ap (λ (x : ℕ). n % 2 ^ x % 2 ^ m) e ∙ mod-mod-pow n (w - m) m

lt_or_ge : (a b : ℕ) → (a < b) ⊎ (b ≤ a)
lt_or_ge a b = pick (dec_lt a b)
  where
    pick : Dec (a < b) → (a < b) ⊎ (b ≤ a)
    pick (yes h) = inl h
    pick (no h) = inr (omega arith)

-- the bits from k on, p of them and the last, are 0 just where N is below 2 ^ k
pub high_zero : (N k p : ℕ) → N < 2 ^ (p + k) → eqb (N / 2 ^ k % 2 ^ p) 0 ≡ ltb N (2 ^ k)
high_zero N k p h =
    ap (λ (x : ℕ). eqb x 0) (shr_mod p k h) ∙ ⊎_elim
    (λ (l : N < 2 ^ k). ap (λ (x : ℕ). eqb x 0) (div-eq_of_lt l) ∙ sym (lt-ltb N (2 ^ k) l))
    (λ (l : 2 ^ k ≤ N). ne_eqb (N / 2 ^ k) 0 (λ e. let m : 1 ≤ N / 2 ^ k = (le-div_iff_mul-le (pow_pos k)).1 (rw one-mul l) in omega arith) ∙ sym (le-ltb N (2 ^ k) l))
    (lt_or_ge N (2 ^ k))

-- a product cut to m digits above a run of zeros
pub shl_mod : (t m k : ℕ) → (t * 2 ^ k) % 2 ^ (m + k) ≡ (t % 2 ^ m) * 2 ^ k
shl_mod t m k =
    mod-pow-add (t * 2 ^ k) m k
    ∙ ap₂ (λ (x y : ℕ). x % 2 ^ m * 2 ^ k + y) (mul-div_cancel t (pow_pos k)) (mul-mod_left t (2 ^ k))
    ∙ add-zero (t % 2 ^ m * 2 ^ k)

-- the word from byte q on, shifted: the window from bit 8 * q + r on, of at most 64 - r bits
pub word_low : (N q r m : ℕ) → r + m ≤ 64 → N / 2 ^ (8 * q) % 2 ^ 64 / 2 ^ r % 2 ^ m ≡ N / 2 ^ (8 * q + r) % 2 ^ m
word_low N q r m h = inside (N / 2 ^ (8 * q)) 64 r m h ∙ ap (λ (x : ℕ). x % 2 ^ m) (shr-shr N (8 * q) r)

-- with the ninth byte t above it: the whole 64 bits
pub word-high : (N q r t : ℕ) → r ≤ 8 → t ≡ N / 2 ^ (8 * (q + 8)) % 2 ^ 8
    → N / 2 ^ (8 * q) % 2 ^ 64 / 2 ^ r + (t * 2 ^ (64 - r)) % 2 ^ 64 ≡ N / 2 ^ (8 * q + r) % 2 ^ 64
word-high N q r t hr et =
    let k : ℕ = 64 - r in
    let M : ℕ = N / 2 ^ (8 * q + r) in
    let e₁ : 64 ≡ k + r = omega arith in
    let e₂ : 64 ≡ r + k = omega arith in
    let e₃ : 8 ≡ (8 - r) + r = omega arith in
    let e₄ : 8 * (q + 8) ≡ (8 * q + r) + k = omega arith in
    let lo : N / 2 ^ (8 * q) % 2 ^ 64 / 2 ^ r ≡ M % 2 ^ k =
    ap (λ (x : ℕ). N / 2 ^ (8 * q) % 2 ^ x / 2 ^ r) e₁ ∙ field (N / 2 ^ (8 * q)) k r ∙ ap (λ (x : ℕ). x % 2 ^ k) (shr-shr N (8 * q) r) in
    let th : t % 2 ^ r ≡ M / 2 ^ k % 2 ^ r =
    ap (λ (x : ℕ). x % 2 ^ r) (et ∙ ap₂ (λ (x y : ℕ). N / 2 ^ x % 2 ^ y) e₄ e₃) ∙ mod-mod-pow (N / 2 ^ (8 * q + r + k)) (8 - r) r
    ∙ ap (λ (x : ℕ). x % 2 ^ r) (sym (shr-shr N (8 * q + r) k)) in
    let hi : (t * 2 ^ k) % 2 ^ 64 ≡ M / 2 ^ k % 2 ^ r * 2 ^ k =
    ap (λ (x : ℕ). (t * 2 ^ k) % 2 ^ x) e₂ ∙ shl_mod t r k ∙ ap (λ (x : ℕ). x * 2 ^ k) th in
    ap₂ (λ (x y : ℕ). x + y) lo hi ∙ add_comm (M % 2 ^ k) (M / 2 ^ k % 2 ^ r * 2 ^ k) ∙ sym (mod-pow-add M r k) ∙ ap (λ (x : ℕ). M % 2 ^ x) (sym e₂)

-- a window inside element q of a list of digits of u bits
pub window_of : (u : ℕ) (xs : List ℕ) (q r m : ℕ) → Below (2 ^ u) xs → r + m ≤ u → get_or xs q 0 / 2 ^ r % 2 ^ m ≡ of_digits (2 ^ u) xs / 2 ^ (u * q + r) % 2 ^ m
window_of u xs q r m h l =
    ap (λ (x : ℕ). x / 2 ^ r % 2 ^ m) (get_or-of (2 ^ u) xs q h ∙ ap (λ (x : ℕ). of_digits (2 ^ u) xs / x % 2 ^ u) (pow_mul 2 u q))
    ∙ inside (of_digits (2 ^ u) xs / 2 ^ (u * q)) u r m l
    ∙ ap (λ (x : ℕ). x % 2 ^ m) (shr-shr (of_digits (2 ^ u) xs) (u * q) r)

-- bit k of a list of digits of u bits: bit k % u of element k / u
pub bit-of : (u : ℕ) (xs : List ℕ) (k : ℕ) → zero < u → Below (2 ^ u) xs → get_or xs (k / u) 0 / 2 ^ (k % u) % 2 ≡ of_digits (2 ^ u) xs / 2 ^ k % 2
bit-of u xs k hu h =
    let l : k % u < u = mod-lt k hu in
    window_of u xs (k / u) (k % u) 1 h (omega arith) ∙ ap (λ (x : ℕ). of_digits (2 ^ u) xs / 2 ^ x % 2) (div-add-mod k u)

-- ---- a field put at bit 8 * q + r

-- the low part of v that goes into byte q, as the code takes it
pub low_part : (v r : ℕ) → r < 8 → (v * 2 ^ r) % 2 ^ 64 % 256 ≡ v % 2 ^ (8 - r) * 2 ^ r
low_part v r h =
    let e : 8 ≡ (8 - r) + r = omega arith in
    mod_low (v * 2 ^ r) 64 8 (omega arith) ∙ ap (λ (x : ℕ). (v * 2 ^ r) % 2 ^ x) e ∙ shl_mod v (8 - r) r

-- it fits above what the byte has
pub low_fits : (N q r v d : ℕ) → r < 8 → N < 2 ^ (8 * q + r) → d ≡ N / 2 ^ (8 * q) % 2 ^ 8 → d + v % 2 ^ (8 - r) * 2 ^ r < 2 ^ 8
low_fits N q r v d hr hN ed =
    let e : (8 - r) + r ≡ 8 = omega arith in
    let dl : d < 2 ^ r = lt_of_le_of_lt (le_trans (le_of_eq ed) (mod-le (N / 2 ^ (8 * q)) (2 ^ 8))) (shr_lt r (8 * q) (subst (λ (x : ℕ). N < 2 ^ x) (add_comm (8 * q) r) hN)) in
    subst (λ (x : ℕ). d + v % 2 ^ (8 - r) * 2 ^ r < x) (sym (pow-add 2 (8 - r) r) ∙ ap (λ (x : ℕ). 2 ^ x) e)
    (subst (λ (x : ℕ). x < 2 ^ (8 - r) * 2 ^ r) (add_comm (v % 2 ^ (8 - r) * 2 ^ r) d) (digits_lt (mod-lt v (pow_pos (8 - r))) dl))

next-byte : (q r : ℕ) → r < 8 → 256 ^ (q + 1) ≡ 2 ^ (8 - r) * 2 ^ (8 * q + r)
next-byte q r h =
    let e : 8 * (q + 1) ≡ (8 - r) + (8 * q + r) = omega arith in
    pow_mul 2 8 (q + 1) ∙ ap (λ (x : ℕ). 2 ^ x) e ∙ pow-add 2 (8 - r) (8 * q + r)

this_byte : (t q r : ℕ) → t * 2 ^ r * 256 ^ q ≡ t * 2 ^ (8 * q + r)
this_byte t q r = mul_assoc t (2 ^ r) (256 ^ q) ∙ ap (λ (x : ℕ). t * x) (mul_comm (2 ^ r) (256 ^ q) ∙ ap (λ (x : ℕ). x * 2 ^ r) (pow_mul 2 8 q) ∙ sym (pow-add 2 (8 * q) r))

-- after it the number has no digit from byte q + 1 on
pub first-lt : (N q r v : ℕ) → r < 8 → N < 2 ^ (8 * q + r) → v % 2 ^ (8 - r) * 2 ^ r * 256 ^ q + N < 256 ^ (q + 1)
first-lt N q r v hr hN = rw (next-byte q r hr, this_byte) (digits_lt (mod-lt v (pow_pos (8 - r))) hN)

-- the rest is no more than the whole
pub rest_fits : (q r v w n : ℕ) → r < 8 → v < 2 ^ w → 8 * q + r + w ≤ 8 * n → v / 2 ^ (8 - r) * 256 ^ (q + 1) < 256 ^ n
rest_fits q r v w n hr hv h =
    rw (next-byte q r hr, pow_mul 2 8 n, ← mul_assoc)
    (lt_of_le_of_lt (mul-le-mul_right (2 ^ (8 * q + r)) (div-mul-le_self v (2 ^ (8 - r))))
    (lt_of_lt_of_le (shl_lt w (8 * q + r) hv) (pow_mono (omega arith))))

-- and the two are v, where it belongs
pub put_whole : (q r v N : ℕ) → r < 8 → v / 2 ^ (8 - r) * 256 ^ (q + 1) + (v % 2 ^ (8 - r) * 2 ^ r * 256 ^ q + N) ≡ v * 2 ^ (8 * q + r) + N
put_whole q r v N hr =
    let P : ℕ = 2 ^ (8 * q + r) in
    let D : ℕ = 2 ^ (8 - r) in
    ap₂ (λ (x y : ℕ). v / D * x + (y + N)) (next-byte q r hr) (this_byte (v % D) q r)
    ∙ sym (add_assoc (v / D * (D * P)) (v % D * P) N)
    ∙ ap (λ (x : ℕ). x + N) (ap (λ (x : ℕ). x + v % D * P) (sym (mul_assoc (v / D) D P)) ∙ sym (add-mul (v / D * D) (v % D) P) ∙ ap (λ (x : ℕ). x * P) (div-add-mod' v D))
