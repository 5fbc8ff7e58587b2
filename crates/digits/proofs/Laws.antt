-- The laws of digits: a number's digits spell it, and digits are those of the number that they spell. Assumes nothing.
use mathlib.Core.Path.{◌≡◌, refl, sym, ap, ap₂, ◌∙◌}
use mathlib.Core.List.{List, [], ◌∷◌, ◌++◌}
use Prim.Native.Nat.{ℕ, zero, suc, ◌+◌, ◌-◌, ◌*◌, ◌/◌, ◌%◌, ◌^◌, ◌≤◌, ◌<◌, zero-le}
use native.Mathlib.Nat.{le_of_suc-le-suc, not-suc-le-zero, mod-one, mod-lt, div-one, zero-div, zero-mod, pow-zero, pow-suc, pow-succ', div-div-eq-div-mul, one-le-pow, zero-add, add-zero, mul-one, mul-zero, mul_assoc, add_assoc, add-mul, mul-suc, lt_of_le_of_lt, lt_of_lt_of_le, zero-mul, suc-add, pow-le-pow_right}
use native.Mathlib.Omega.{arith}
use lib.Arith.{digits_lt, digits_div, digits_mod, mod-mul}
use lib.Dec.{lit<}
use lib.ListN.{length, get_or, take, drop, length-drop}
use lib.Seq.{length-take-le, take-add, drop-drop, drop-cons, get_or-drop}
use lib.Pow.{pow-add}
use Rattle.digits.specs.Digits.{of_digits, to_digits, Below}

pub of_lt : (b : ℕ) (ds : List ℕ) → Below b ds → of_digits b ds < b ^ length ds
unfolding of_digits
of_lt b [] h = rw pow-zero (lit< tt)
of_lt b (d ∷ ds) h = rw pow-suc (digits_lt (of_lt b ds (λ i. h (suc i))) (h zero))

pub length_to : (b n N : ℕ) → length (to_digits b n N) ≡ n
unfolding to_digits
length_to b zero N = refl
length_to b (suc n) N = ap suc (length_to b n (N / b))

-- the first law: the digits of a number that was made of digits
pub to-of : (b : ℕ) (ds : List ℕ) → Below b ds → to_digits b (length ds) (of_digits b ds) ≡ ds
unfolding of_digits to_digits
to-of b [] h = refl
to-of b (d ∷ ds) h = ap₂ ◌∷◌ (digits_mod (of_digits b ds) (h zero)) (ap (to_digits b (length ds)) (digits_div (of_digits b ds) (h zero)) ∙ to-of b ds (λ i. h (suc i)))

-- the second: the number made of the n lowest digits
pub of_to : (b n N : ℕ) → zero < b → of_digits b (to_digits b n N) ≡ N % b ^ n
unfolding of_digits to_digits
of_to b zero N hb = sym (ap (λ (x : ℕ). N % x) (pow-zero b) ∙ mod-one N)
of_to b (suc n) N hb = ap (λ (x : ℕ). x * b + N % b) (of_to b n (N / b) hb) ∙ sym (ap (λ (x : ℕ). N % x) (pow-suc b n) ∙ mod-mul N (one-le-pow n b hb) hb)

pub get_or-to : (b n N i : ℕ) → i < n → get_or (to_digits b n N) i 0 ≡ N / b ^ i % b
unfolding to_digits
get_or-to b zero N i h = absurd (not-suc-le-zero h)
get_or-to b (suc n) N zero h = sym (ap (λ (x : ℕ). N / x % b) (pow-zero b) ∙ ap (λ (x : ℕ). x % b) (div-one N))
get_or-to b (suc n) N (suc i) h =
    get_or-to b n (N / b) i (le_of_suc-le-suc h) ∙ ap (λ (x : ℕ). x % b) (div-div-eq-div-mul N b (b ^ i) ∙ ap (λ (x : ℕ). N / x) (sym (pow-succ' b i)))

pub to_below : (b n N : ℕ) → zero < b → Below b (to_digits b n N)
unfolding to_digits
to_below b zero N hb i = hb
to_below b (suc n) N hb zero = mod-lt N hb
to_below b (suc n) N hb (suc i) = to_below b n (N / b) hb i

pub to-snoc : (b n N : ℕ) → to_digits b (suc n) N ≡ to_digits b n N ++ (N / b ^ n % b ∷ [])
unfolding to_digits
to-snoc b zero N = ap (λ (x : ℕ). x % b ∷ []) (sym (ap (λ (x : ℕ). N / x) (pow-zero b) ∙ div-one N))
to-snoc b (suc n) N =
    ap (λ (l : List ℕ). N % b ∷ l) (to-snoc b n (N / b) ∙ ap (λ (x : ℕ). to_digits b n (N / b) ++ (x % b ∷ [])) (div-div-eq-div-mul N b (b ^ n) ∙ ap (λ (x : ℕ). N / x) (sym (pow-succ' b n))))

-- past the lowest digit
tail_div : (b d q m : ℕ) → d < b → (q * b + d) / b ^ suc m ≡ q / b ^ m
tail_div b d q m h = ap (λ (x : ℕ). (q * b + d) / x) (pow-succ' b m) ∙ sym (div-div-eq-div-mul (q * b + d) b (b ^ m)) ∙ ap (λ (x : ℕ). x / b ^ m) (digits_div q h)

pub of_drop : (b : ℕ) (ds : List ℕ) (i : ℕ) → Below b ds → of_digits b (drop i ds) ≡ of_digits b ds / b ^ i
unfolding of_digits
of_drop b ds zero h = sym (ap (λ (x : ℕ). of_digits b ds / x) (pow-zero b) ∙ div-one (of_digits b ds))
of_drop b [] (suc i) h = sym (zero-div (b ^ suc i))
of_drop b (d ∷ ds) (suc i) h = of_drop b ds i (λ k. h (suc k)) ∙ sym (tail_div b d (of_digits b ds) i (h zero))

pub of_take : (b : ℕ) (ds : List ℕ) (i : ℕ) → Below b ds → of_digits b (take i ds) ≡ of_digits b ds % b ^ i
unfolding of_digits
of_take b ds zero h = sym (ap (λ (x : ℕ). of_digits b ds % x) (pow-zero b) ∙ mod-one (of_digits b ds))
of_take b [] (suc i) h = sym (zero-mod (b ^ suc i))
of_take b (d ∷ ds) (suc i) h =
    let hb : zero < b = lt_of_le_of_lt zero-le (h zero) in
    ap (λ (x : ℕ). x * b + d) (of_take b ds i (λ k. h (suc k)))
    ∙ sym (ap (λ (x : ℕ). (of_digits b ds * b + d) % x) (pow-suc b i) ∙ mod-mul (of_digits b ds * b + d) (one-le-pow i b hb) hb
    ∙ ap₂ (λ (x y : ℕ). x % b ^ i * b + y) (digits_div (of_digits b ds) (h zero)) (digits_mod (of_digits b ds) (h zero)))

-- a digit of the number is the list's element, 0 past its end
pub get_or-of : (b : ℕ) (ds : List ℕ) (i : ℕ) → Below b ds → get_or ds i 0 ≡ of_digits b ds / b ^ i % b
unfolding of_digits
get_or-of b [] i h = sym (ap (λ (x : ℕ). x % b) (zero-div (b ^ i)) ∙ zero-mod b)
get_or-of b (d ∷ ds) zero h = sym (ap (λ (x : ℕ). (of_digits b ds * b + d) / x % b) (pow-zero b) ∙ ap (λ (x : ℕ). x % b) (div-one (of_digits b ds * b + d)) ∙ digits_mod (of_digits b ds) (h zero))
get_or-of b (d ∷ ds) (suc i) h = get_or-of b ds i (λ k. h (suc k)) ∙ ap (λ (x : ℕ). x % b) (sym (tail_div b d (of_digits b ds) i (h zero)))

pub of_append : (b : ℕ) (xs ys : List ℕ) → of_digits b (xs ++ ys) ≡ of_digits b ys * b ^ length xs + of_digits b xs
unfolding of_digits
of_append b [] ys = sym (ap (λ (x : ℕ). of_digits b ys * x + 0) (pow-zero b) ∙ add-zero (of_digits b ys * 1) ∙ mul-one (of_digits b ys))
of_append b (x ∷ xs) ys =
    ap (λ (k : ℕ). k * b + x) (of_append b xs ys)
    ∙ ap (λ (k : ℕ). k + x) (add-mul (of_digits b ys * b ^ length xs) (of_digits b xs) b ∙ ap (λ (k : ℕ). k + of_digits b xs * b) (mul_assoc (of_digits b ys) (b ^ length xs) b ∙ ap (λ (k : ℕ). of_digits b ys * k) (sym (pow-suc b (length xs)))))
    ∙ add_assoc (of_digits b ys * b ^ suc (length xs)) (of_digits b xs * b) x

-- ---- parts of a list, and stores

pub below_drop : (b : ℕ) (s : List ℕ) (q : ℕ) → Below b s → Below b (drop q s)
below_drop b s q h i = rw get_or-drop (h (q + i))

-- n digits, or fewer, from i on
pub of_drop_lt : (b : ℕ) (s : List ℕ) (i n : ℕ) → Below b s → length s - i ≤ n → of_digits b (drop i s) < b ^ n
of_drop_lt b s i n h l =
    lt_of_lt_of_le (of_lt b (drop i s) (below_drop b s i h)) (pow-le-pow_right (lt_of_le_of_lt zero-le (h 0)) (rw length-drop l))

-- the m + n digits from `at` on: the first m are the low part
pub of_part : (b : ℕ) (s : List ℕ) (at m n : ℕ) → at + m ≤ length s → of_digits b (take (m + n) (drop at s)) ≡ of_digits b (take n (drop (at + m) s)) * b ^ m + of_digits b (take m (drop at s))
of_part b s at m n h =
    let l : length (take m (drop at s)) ≡ m = length-take-le m (drop at s) (rw length-drop (omega arith)) in
    ap (of_digits b) (take-add m n (drop at s)) ∙ of_append b (take m (drop at s)) (take n (drop m (drop at s)))
    ∙ ap₂ (λ (t : List ℕ) (k : ℕ). of_digits b (take n t) * b ^ k + of_digits b (take m (drop at s))) (drop-drop m at s) l

pub of_one : (b : ℕ) (s : List ℕ) (at : ℕ) → at < length s → of_digits b (take 1 (drop at s)) ≡ get_or s at 0
unfolding of_digits
of_one b s at h = ap (λ (t : List ℕ). of_digits b (take 1 t)) (drop-cons s at 0 h) ∙ ap (λ (x : ℕ). x + get_or s at 0) (zero-mul b) ∙ zero-add (get_or s at 0)

-- the digits of the low part and of the high part
pub to-add : (b m n N : ℕ) → zero < b → to_digits b (m + n) N ≡ to_digits b m (N % b ^ m) ++ to_digits b n (N / b ^ m)
unfolding to_digits
to-add b zero n N hb = ap (λ (k : ℕ). to_digits b k N) (zero-add n) ∙ ap (to_digits b n) (sym (ap (λ (x : ℕ). N / x) (pow-zero b) ∙ div-one N))
to-add b (suc m) n N hb =
    let q : ℕ = N / b % b ^ m in
    let e : N % b ^ suc m ≡ q * b + N % b = ap (λ (x : ℕ). N % x) (pow-suc b m) ∙ mod-mul N (one-le-pow m b hb) hb in
    ap (λ (k : ℕ). to_digits b k N) (suc-add m n)
    ∙ ap₂ (λ (x : ℕ) (l : List ℕ). x ∷ l) (sym (ap (λ (x : ℕ). x % b) e ∙ digits_mod q (mod-lt N hb)))
    (to-add b m n (N / b) hb
    ∙ ap₂ (λ (x y : ℕ). to_digits b m x ++ to_digits b n y) (sym (ap (λ (x : ℕ). x / b) e ∙ digits_div q (mod-lt N hb))) (div-div-eq-div-mul N b (b ^ m) ∙ ap (λ (x : ℕ). N / x) (sym (pow-succ' b m))))

pub pow_mul : (b m n : ℕ) → (b ^ m) ^ n ≡ b ^ (m * n)
pow_mul b m zero = pow-zero (b ^ m) ∙ sym (ap (λ (x : ℕ). b ^ x) (mul-zero m) ∙ pow-zero b)
pow_mul b m (suc n) = pow-suc (b ^ m) n ∙ ap (λ (x : ℕ). x * b ^ m) (pow_mul b m n) ∙ sym (ap (λ (x : ℕ). b ^ x) (mul-suc m n) ∙ pow-add b (m * n) m)
