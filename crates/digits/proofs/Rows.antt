-- Little-endian numbers, one and several in a row: written and read back, read and written back. Assumes nothing.
use mathlib.Core.Path.{◌≡◌, refl, sym, ap, ap₂, ◌∙◌}
use Prim.Native.Nat.{ℕ, zero, suc, ◌+◌, ◌-◌, ◌*◌, ◌/◌, ◌%◌, ◌^◌, ◌<◌, ◌≤◌}
use native.Mathlib.Nat.{suc-mul, zero-mul, mul-suc, mul-zero, add_comm, add_assoc, add-zero, sub-zero, mod-eq_of_lt, le_of_suc-le-suc}
use native.Mathlib.Numerals.{add-one}
use native.Mathlib.Omega.{arith}
use mathlib.Core.List.{List, [], ◌∷◌, ◌++◌, append_assoc}
use lib.ListN.{length, get_or, take, drop, set, length-append, length-drop}
use lib.Seq.{take_at, drop_at, drop-drop, take-add, length-take-le}
use lib.Dec.{lit<}
use Rattle.digits.specs.Lists.{Each, put_at}
use Rattle.digits.specs.Digits.{to_digits, of_digits, le, number, les, numbers}
use Rattle.digits.proofs.Lists.{each_below, each_take, each_drop, put_put}
use Rattle.digits.proofs.Stores.{sets_put}
use Rattle.digits.proofs.Laws.{length_to, of_to, to-of, of_lt, to-add}

-- ---- one number

pub length-le : (k n : ℕ) → length (le k n) ≡ k
length-le k n = length_to 256 k n

pub number-le : (k n : ℕ) → n < 256 ^ k → number (le k n) ≡ n
number-le k n l = of_to 256 k n (lit< tt) ∙ mod-eq_of_lt l

-- two bytes stored one by one
pub put_two_bytes : (v at : ℕ) (d : List ℕ) → v < 65536 → at + 2 ≤ length d → set (set d at (v % 256)) (at + 1) (v / 256) ≡ put_at at (le 2 v) d
unfolding to_digits
put_two_bytes v at d hv h =
    let high : v / 256 < 256 = omega arith in
    rw (← (sets_put (le 2 v) d at (omega arith))) (simp (add-one, mod-eq_of_lt high))

-- a number put in two parts, its m low bytes and the n above them
pub put_parts : (m n v at : ℕ) (d : List ℕ) → at ≤ length d → put_at (at + m) (le n (v / 256 ^ m)) (put_at at (le m (v % 256 ^ m)) d) ≡ put_at at (le (m + n) v) d
put_parts m n v at d h =
    let low = le m (v % 256 ^ m) in
    ap (λ (k : ℕ). put_at (at + k) (le n (v / 256 ^ m)) (put_at at low d)) (sym (length-le m (v % 256 ^ m)))
    ∙ put_put at low (le n (v / 256 ^ m)) d h
    ∙ ap (λ (w : List ℕ). put_at at w d) (sym (to-add 256 m n v (lit< tt)))

module _ (bs : List ℕ) (h : Each (λ (b : ℕ). b < 256) bs) where
  pub le-number : (k : ℕ) → length bs ≡ k → le k (number bs) ≡ bs
  le-number k e = ap (λ (n : ℕ). to_digits 256 n (of_digits 256 bs)) (sym e) ∙ to-of 256 bs (each_below 256 bs (lit< tt) h)

  pub number_lt : (k : ℕ) → length bs ≡ k → number bs < 256 ^ k
  number_lt k e = rw (← e) (of_lt 256 bs (each_below 256 bs (lit< tt) h))

-- the k bytes at the front of some bytes
module _ (k : ℕ) (bs : List ℕ) (l : k ≤ length bs) (h : Each (λ (b : ℕ). b < 256) bs) where
  pub front-le : le k (number (take k bs)) ≡ take k bs
  front-le = le-number (take k bs) (each_take (λ (b : ℕ). b < 256) k bs h) k (length-take-le k bs l)

  pub front-lt : number (take k bs) < 256 ^ k
  front-lt = number_lt (take k bs) (each_take (λ (b : ℕ). b < 256) k bs h) k (length-take-le k bs l)

-- ---- several in a row

pub length-les : (k : ℕ) (ns : List ℕ) → length (les k ns) ≡ length ns * k
unfolding les
length-les k [] = sym (zero-mul k)
length-les k (n ∷ ns) = length-append (le k n) (les k ns) ∙ ap₂ (λ (x y : ℕ). x + y) (length-le k n) (length-les k ns) ∙ add_comm k (length ns * k) ∙ sym (suc-mul (length ns) k)

pub les-append : (k : ℕ) (ms ns : List ℕ) → les k (ms ++ ns) ≡ les k ms ++ les k ns
unfolding les
les-append k [] ns = refl
les-append k (m ∷ ms) ns = ap (λ (x : List ℕ). le k m ++ x) (les-append k ms ns) ∙ sym (append_assoc (le k m) (les k ms) (les k ns))

pub length-numbers : (k c : ℕ) (bs : List ℕ) → length (numbers k c bs) ≡ c
unfolding numbers
length-numbers k zero bs = refl
length-numbers k (suc c) bs = ap suc (length-numbers k c (drop k bs))

-- what was written is read back, whatever follows
pub numbers-les : (k : ℕ) (ns rest : List ℕ) → Each (λ (n : ℕ). n < 256 ^ k) ns → numbers k (length ns) (les k ns ++ rest) ≡ ns
unfolding les numbers
numbers-les k [] rest e = refl
numbers-les k (n ∷ ns) rest e =
    rw (append_assoc (le k n) (les k ns) rest, take_at (le k n) (les k ns ++ rest) k (length-le k n), drop_at (le k n) (les k ns ++ rest) k (length-le k n), number-le k n e.0, numbers-les k ns rest e.1)

-- what was read is written back
rest_room : (k c : ℕ) (bs : List ℕ) → suc c * k ≤ length bs → (k ≤ length bs) × (c * k ≤ length (drop k bs))
rest_room k c bs l = let e = suc-mul c k in (omega arith, rw length-drop (omega arith))

pub les-numbers : (k c : ℕ) (bs : List ℕ) → c * k ≤ length bs → Each (λ (b : ℕ). b < 256) bs → les k (numbers k c bs) ≡ take (c * k) bs
unfolding les numbers
les-numbers k zero bs l h = rw zero-mul
les-numbers k (suc c) bs l h =
    let r = rest_room k c bs l in
    ap₂ (λ (x y : List ℕ). x ++ y) (front-le k bs r.0 h) (les-numbers k c (drop k bs) r.1 (each_drop (λ (b : ℕ). b < 256) k bs h))
    ∙ sym (take-add k (c * k) bs) ∙ ap (λ (n : ℕ). take n bs) (add_comm k (c * k) ∙ sym (suc-mul c k))

pub numbers-lt : (k c : ℕ) (bs : List ℕ) → c * k ≤ length bs → Each (λ (b : ℕ). b < 256) bs → Each (λ (n : ℕ). n < 256 ^ k) (numbers k c bs)
unfolding numbers
numbers-lt k zero bs l h = tt
numbers-lt k (suc c) bs l h =
    let r = rest_room k c bs l in
    (front-lt k bs r.0 h, numbers-lt k c (drop k bs) r.1 (each_drop (λ (b : ℕ). b < 256) k bs h))

-- ---- numbers read one after the other: the one at place i, and those behind it

pub numbers-next : (k many i at : ℕ) (bs : List ℕ) → i < many → numbers k (many - i) (drop at bs) ≡ number (take k (drop at bs)) ∷ numbers k (many - (i + 1)) (drop (at + k) bs)
unfolding numbers
numbers-next k many i at bs h =
    let c : many - i ≡ suc (many - (i + 1)) = omega arith in
    ap (λ (x : ℕ). numbers k x (drop at bs)) c ∙ ap (λ (x : List ℕ). number (take k (drop at bs)) ∷ numbers k (many - (i + 1)) x) (drop-drop k at bs)

pub numbers-at : (k many i at : ℕ) (bs : List ℕ) → i < many
    → numbers k (many - i) (drop (at + k * i) bs) ≡ number (take k (drop (at + k * i) bs)) ∷ numbers k (many - (i + 1)) (drop (at + k * (i + 1)) bs)
numbers-at k many i at bs h =
    let e : at + k * i + k ≡ at + k * (i + 1) = add_assoc at (k * i) k ∙ ap (λ (x : ℕ). at + x) (sym (mul-suc k i) ∙ ap (λ (x : ℕ). k * x) (sym (add-one i))) in
    numbers-next k many i (at + k * i) bs h ∙ ap (λ (x : ℕ). number (take k (drop (at + k * i) bs)) ∷ numbers k (many - (i + 1)) (drop x bs)) e

pub numbers-end : (k many i : ℕ) (bs : List ℕ) → many ≤ i → numbers k (many - i) bs ≡ []
unfolding numbers
numbers-end k many i bs h = let c : many - i ≡ 0 = omega arith in ap (λ (x : ℕ). numbers k x bs) c

pub numbers-start : (k many at : ℕ) (bs : List ℕ) → numbers k many (drop at bs) ≡ numbers k (many - 0) (drop (at + k * 0) bs)
numbers-start k many at bs =
    let e : drop (at + k * 0) bs ≡ drop at bs = ap (λ (x : ℕ). drop (at + x) bs) (mul-zero k) ∙ ap (λ (x : ℕ). drop x bs) (add-zero at) in
    ap₂ (λ (x : ℕ) (y : List ℕ). numbers k x y) (sym (sub-zero many)) (sym e)

-- the number at place j
pub get_or-numbers : (k c : ℕ) (bs : List ℕ) (j : ℕ) → j < c → get_or (numbers k c bs) j 0 ≡ number (take k (drop (k * j) bs))
unfolding numbers
get_or-numbers k zero bs j h = absurd (omega arith)
get_or-numbers k (suc c) bs zero h = ap (λ (x : ℕ). number (take k (drop x bs))) (sym (mul-zero k))
get_or-numbers k (suc c) bs (suc j) h =
    get_or-numbers k c (drop k bs) j (le_of_suc-le-suc h)
    ∙ ap (λ (x : List ℕ). number (take k x)) (drop-drop (k * j) k bs ∙ ap (λ (x : ℕ). drop x bs) (add_comm k (k * j) ∙ sym (mul-suc k j)))
