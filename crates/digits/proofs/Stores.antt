-- Digits stored into a list one after the other, and a number put into a list of digits. Assumes nothing.
use mathlib.Core.Path.{◌≡◌, refl, sym, ap, ap₂, ◌∙◌, subst}
use mathlib.Core.List.{List, [], ◌∷◌, ◌++◌, append_assoc}
use Prim.Native.Nat.{ℕ, zero, suc, ◌+◌, ◌*◌, ◌/◌, ◌%◌, ◌^◌, ◌≤◌, ◌<◌}
use native.Mathlib.Nat.{le_of_suc-le-suc, not-suc-le-zero, mod-lt, pow-zero, pow-suc, pow-succ', one-le-pow, zero-add, add-zero, mul-one, mul_assoc, add_assoc, add-mul, lt_of_le_of_lt, zero-mul, suc-add, add-suc, mul-le-mul_right, pow-le-pow_right, le-add_right, lt_of_mul-lt-mul_right, div-add-mod', div-mul-le_self, lt_of_not-le, not-le_of_lt, le_of_suc-le}
use native.Mathlib.Numerals.{add-one}
use native.Mathlib.Omega.{arith}
use lib.Arith.{digits_lt}
use lib.ListN.{length, get_or, take, drop, set, replicate}
use lib.Seq.{length-take-le, sets, sets-eq, take-suc}
use lib.Pow.{pow_pos}
use Rattle.digits.specs.Digits.{of_digits, to_digits, Below}
use Rattle.digits.specs.Lists.{put_at}
use Rattle.digits.proofs.Laws.{length_to, to-snoc, of_take, of_append, to-add, pow_mul}

pub sets_append : (l : List ℕ) (i : ℕ) (xs ys : List ℕ) → sets l i (xs ++ ys) ≡ sets (sets l i xs) (i + length xs) ys
sets_append l i [] ys = ap (λ (k : ℕ). sets l k ys) (sym (add-zero i))
sets_append l i (x ∷ xs) ys = sets_append (set l i x) (suc i) xs ys ∙ ap (λ (k : ℕ). sets (sets (set l i x) (suc i) xs) k ys) (suc-add i (length xs) ∙ sym (add-suc i (length xs)))

-- digits stored one by one are put as one stretch
pub sets_put : (vs l : List ℕ) (i : ℕ) → i + length vs ≤ length l → sets l i vs ≡ put_at i vs l
sets_put vs l i h = sets-eq vs l i h ∙ append_assoc (take i l) vs (drop (i + length vs) l)

-- a number stored in two halves, m digits and n
pub sets_add : (b m n N : ℕ) (l : List ℕ) (i : ℕ) → zero < b → sets (sets l i (to_digits b m (N % b ^ m))) (i + m) (to_digits b n (N / b ^ m)) ≡ sets l i (to_digits b (m + n) N)
sets_add b m n N l i hb =
    let lo : List ℕ = to_digits b m (N % b ^ m) in
    ap (λ (k : ℕ). sets (sets l i lo) (i + k) (to_digits b n (N / b ^ m))) (sym (length_to b m (N % b ^ m)))
    ∙ sym (sets_append l i lo (to_digits b n (N / b ^ m))) ∙ ap (sets l i) (sym (to-add b m n N hb))

-- a loop that stores digit after digit of u bits: one more
pub store_next : (u n N : ℕ) (l : List ℕ) (start : ℕ) {v : ℕ} → start ≡ u * n → v ≡ N / 2 ^ start % 2 ^ u → set (sets l 0 (to_digits (2 ^ u) n N)) n v ≡ sets l 0 (to_digits (2 ^ u) (n + 1) N)
store_next u n N l start {v} es ev =
    let d : ℕ = N / (2 ^ u) ^ n % 2 ^ u in
    let e : v ≡ d = ev ∙ ap (λ (x : ℕ). N / x % 2 ^ u) (ap (λ (x : ℕ). 2 ^ x) es ∙ sym (pow_mul 2 u n)) in
    ap₂ (λ (k x : ℕ). set (sets l 0 (to_digits (2 ^ u) n N)) k x) (sym (zero-add n ∙ refl)) e
    ∙ ap (λ (k : ℕ). set (sets l 0 (to_digits (2 ^ u) n N)) (0 + k) d) (sym (length_to (2 ^ u) n N))
    ∙ sym (sets_append l 0 (to_digits (2 ^ u) n N) (d ∷ []))
    ∙ ap (sets l 0) (sym (to-snoc (2 ^ u) n N) ∙ ap (λ (k : ℕ). to_digits (2 ^ u) k N) (sym (add-one n)))

-- ---- a digit stored where the number has none yet

pub of_set : (b : ℕ) (l : List ℕ) (i d : ℕ) → i < length l → of_digits b l < b ^ i → of_digits b (set l i d) ≡ d * b ^ i + of_digits b l
unfolding of_digits
of_set b [] i d h lt = absurd (not-suc-le-zero h)
of_set b (x ∷ xs) zero d h lt =
    let e : b ^ 0 ≡ 1 = pow-zero b in
    rw (pow-zero, mul-one) (omega arith)
of_set b (x ∷ xs) (suc i) d h lt =
    let m : of_digits b xs * b < b ^ i * b = lt_of_le_of_lt (le-add_right (of_digits b xs * b) x) (rw pow-suc at lt) in
    ap (λ (k : ℕ). k * b + x) (of_set b xs i d (le_of_suc-le-suc h) (lt_of_mul-lt-mul_right b m))
    ∙ ap (λ (k : ℕ). k + x) (add-mul (d * b ^ i) (of_digits b xs) b ∙ ap (λ (k : ℕ). k + of_digits b xs * b) (mul_assoc d (b ^ i) b ∙ ap (λ (k : ℕ). d * k) (sym (pow-suc b i))))
    ∙ add_assoc (d * b ^ suc i) (of_digits b xs * b) x

-- a digit raised by e
pub of_raise : (b : ℕ) (l : List ℕ) (i e : ℕ) → i < length l → of_digits b (set l i (get_or l i 0 + e)) ≡ e * b ^ i + of_digits b l
unfolding of_digits
of_raise b [] i e h = absurd (not-suc-le-zero h)
of_raise b (x ∷ xs) zero e h = rw (pow-zero, mul-one) (omega arith)
of_raise b (x ∷ xs) (suc i) e h =
    ap (λ (k : ℕ). k * b + x) (of_raise b xs i e (le_of_suc-le-suc h))
    ∙ ap (λ (k : ℕ). k + x) (add-mul (e * b ^ i) (of_digits b xs) b ∙ ap (λ (k : ℕ). k + of_digits b xs * b) (mul_assoc e (b ^ i) b ∙ ap (λ (k : ℕ). e * k) (sym (pow-suc b i))))
    ∙ add_assoc (e * b ^ suc i) (of_digits b xs * b) x

-- a turn of a loop that stores a number digit by digit
pub put_step : (b R i : ℕ) (l : List ℕ) → i < length l → of_digits b l < b ^ i → R / b * b ^ (i + 1) + of_digits b (set l i (R % b)) ≡ R * b ^ i + of_digits b l
put_step b R i l h lt =
    let p : ℕ = b ^ i in
    ap₂ (λ (x y : ℕ). R / b * x + y) (ap (λ (x : ℕ). b ^ x) (add-one i) ∙ pow-succ' b i) (of_set b l i (R % b) h lt)
    ∙ sym (add_assoc (R / b * (b * p)) (R % b * p) (of_digits b l))
    ∙ ap (λ (x : ℕ). x + R % b * p + of_digits b l) (sym (mul_assoc (R / b) b p))
    ∙ ap (λ (x : ℕ). x + of_digits b l) (sym (add-mul (R / b * b) (R % b) p) ∙ ap (λ (x : ℕ). x * p) (div-add-mod' R b))

pub put_lt : (b d i : ℕ) (l : List ℕ) → d < b → i < length l → of_digits b l < b ^ i → of_digits b (set l i d) < b ^ (i + 1)
put_lt b d i l hd h lt = rw (of_set b l i d h lt, add-one, pow-succ') (digits_lt hd lt)

-- what is left is no larger
pub rest_le : (b R i : ℕ) → R / b * b ^ (i + 1) ≤ R * b ^ i
rest_le b R i = rw (add-one, pow-succ', ← mul_assoc) (mul-le-mul_right (b ^ i) (div-mul-le_self R b))

pub pow_lt_cancel : (b : ℕ) {i n : ℕ} → zero < b → b ^ i < b ^ n → i < n
pow_lt_cancel b hb h = lt_of_not-le (λ g. not-le_of_lt h (pow-le-pow_right hb g))

-- ---- field after field

pub of_zeros : (b n : ℕ) → of_digits b (replicate n 0) ≡ 0
unfolding of_digits
of_zeros b zero = refl
of_zeros b (suc n) = ap (λ (x : ℕ). x * b + 0) (of_zeros b n) ∙ ap (λ (x : ℕ). x + 0) (zero-mul b)

pub of_take_next : (b : ℕ) (s : List ℕ) (i : ℕ) → i < length s → of_digits b (take (i + 1) s) ≡ get_or s i 0 * b ^ i + of_digits b (take i s)
unfolding of_digits
of_take_next b s i h =
    ap (λ (k : ℕ). of_digits b (take k s)) (add-one i) ∙ ap (of_digits b) (take-suc s i 0 h) ∙ of_append b (take i s) (get_or s i 0 ∷ [])
    ∙ ap₂ (λ (x k : ℕ). x * b ^ k + of_digits b (take i s)) (ap (λ (x : ℕ). x + get_or s i 0) (zero-mul b) ∙ zero-add (get_or s i 0)) (length-take-le i s (le_of_suc-le h))

pub of_take_lt : (w : ℕ) (s : List ℕ) (i start : ℕ) → Below (2 ^ w) s → start ≡ w * i → of_digits (2 ^ w) (take i s) < 2 ^ start
of_take_lt w s i start h e =
    subst (λ (x : ℕ). of_digits (2 ^ w) (take i s) < x) (pow_mul 2 w i ∙ ap (λ (x : ℕ). 2 ^ x) (sym e))
    (subst (λ (x : ℕ). x < (2 ^ w) ^ i) (sym (of_take (2 ^ w) s i h)) (mod-lt (of_digits (2 ^ w) s) (one-le-pow i (2 ^ w) (pow_pos w))))
