-- Frame plus field gives the whole number back, a field is its whole number less the frame, and a sum that the word holds is the words'
-- sum: once over the machine width. Assumes nothing.
use mathlib.Core.Path.{◌≡◌, refl, sym, ap, ◌∙◌, subst}
use Prim.Native.Nat.{ℕ, zero, suc, ◌+◌, ◌-◌, ◌*◌, ◌%◌, ◌^◌, ◌<◌, ◌≤◌}
use native.Mathlib.Nat.{le_trans, mod-eq_of_lt, add-mul-mod_self_left, lt_of_not-le}
use native.Mathlib.Omega.{arith}
use lib.Dec.{T, ltb, leb→le}
use lib.Arith.{le→nltb}
use lib.IntN.{ℤ, pos, negsuc, nat_abs, sub_ℕ, ◌+ℤ◌, ◌-ℤ◌, +ℤ_comm, +ℤ-neg_ℤ_cancel}
use lib.Signed.{mag, le_z}
use lib.Ieee.Bits.{cond_no}
use mir.Syntax.{Width, w8, w16, w32, w64, w128}
use mir.Val.{bits, hbits, of_z, to_z}
use mir.Facts.{to_z_pos, to_z-neg, of_z-to_z, sfits_to_z, Fits-of_lt}
use borrow.Author.Tests.{lt-ltb}
use native.Mathlib.Decide.{dec_le}

-- a difference of two numbers is one, or below 0
pub sub_ge : (a b : ℕ) → b ≤ a → sub_ℕ a b ≡ pos (a - b)
sub_ge a b h = cond_no (ltb a b) (negsuc (b - suc a)) (pos (a - b)) (le→nltb a b h)

pub sub_lt : (a b : ℕ) → a < b → sub_ℕ a b ≡ negsuc (b - suc a)
sub_lt a b h = rw (lt-ltb a b h)

sub_abs : (a b : ℕ) → b ≤ a → nat_abs (sub_ℕ a b) ≡ a - b
sub_abs a b h = ap nat_abs (sub_ge a b h)

pub double : (w : Width) → 2 ^ bits w ≡ 2 ^ hbits w * 2
double w8 = refl
double w16 = refl
double w32 = refl
double w64 = refl
double w128 = refl

nat_abs-minus : (a b : ℕ) → b ≤ a → nat_abs (pos a -ℤ pos b) ≡ a - b
nat_abs-minus a zero h = omega arith
nat_abs-minus a (suc b) h = sub_abs a (suc b) h

pub field_back : (m z : ℤ) → T (le_z m z) → m +ℤ pos (nat_abs (z -ℤ m)) ≡ z
field_back (pos b) (pos a) t =
    let l : b ≤ a = leb→le b a t in
    let e : b + (a - b) ≡ a = omega arith in
    ap (λ (x : ℕ). pos (b + x)) (nat_abs-minus a b l) ∙ ap pos e
field_back (pos b) (negsuc a) t = absurd t
field_back (negsuc b) (pos a) t = let e : a + suc b - suc b ≡ a = omega arith in sub_ge (a + suc b) (suc b) (omega arith) ∙ ap pos e
field_back (negsuc b) (negsuc a) t =
    let l : a ≤ b = leb→le a b t in
    let e : suc b - suc (suc b - suc a) ≡ a = omega arith in
    ap (λ (x : ℕ). sub_ℕ x (suc b)) (sub_abs (suc b) (suc a) (omega arith)) ∙ sub_lt (suc b - suc a) (suc b) (omega arith) ∙ ap negsuc e

-- the other way: the field is that whole number less the frame
pub field_forth : (m : ℤ) (d : ℕ) → nat_abs ((m +ℤ pos d) -ℤ m) ≡ d
field_forth m d = ap nat_abs (ap (λ (z : ℤ). z -ℤ m) (+ℤ_comm m (pos d)) ∙ +ℤ-neg_ℤ_cancel (pos d) m)

-- a sum that the word holds is that of the words, read as signed: what code may do once row 17 has passed
sum-held : (w : Width) (m : ℤ) (d : ℕ) → mag m < 2 ^ hbits w → mag (m +ℤ pos d) < 2 ^ hbits w → to_z w ((of_z w m + d) % 2 ^ bits w) ≡ m +ℤ pos d
sum-held w (pos b) d hm hz = let e = double w in ap (to_z w) (mod-eq_of_lt (omega arith)) ∙ to_z_pos w hz
sum-held w (negsuc b) d hm hz = elim (dec_le (suc b) d) [ yes h ↦ above h | no h ↦ below (lt_of_not-le h) ]
  where
    above : suc b ≤ d → to_z w ((2 ^ bits w - suc b + d) % 2 ^ bits w) ≡ sub_ℕ d (suc b)
    above h =
        let e = double w in
        let s = sub_ge d (suc b) h in
        let k : d - suc b < 2 ^ hbits w = subst (λ (z : ℤ). mag z < 2 ^ hbits w) s hz in
        let f : 2 ^ bits w - suc b + d ≡ d - suc b + 2 ^ bits w * 1 = omega arith in
        ap (λ (x : ℕ). to_z w (x % 2 ^ bits w)) f ∙ ap (to_z w) (add-mul-mod_self_left (d - suc b) (2 ^ bits w) 1 ∙ mod-eq_of_lt (omega arith)) ∙ to_z_pos w k ∙ sym s

    below : d < suc b → to_z w ((2 ^ bits w - suc b + d) % 2 ^ bits w) ≡ sub_ℕ d (suc b)
    below h =
        let e = double w in
        let f : 2 ^ bits w - suc b + d ≡ 2 ^ bits w - suc (suc b - suc d) = omega arith in
        ap (λ (x : ℕ). to_z w (x % 2 ^ bits w)) f ∙ ap (to_z w) (mod-eq_of_lt (omega arith)) ∙ to_z-neg w (suc b - suc d) (omega arith) ∙ sym (sub_lt d (suc b) h)

pub sum_of_words : (w : Width) (a d : ℕ) → a < 2 ^ bits w → mag (to_z w a +ℤ pos d) < 2 ^ hbits w → to_z w ((a + d) % 2 ^ bits w) ≡ to_z w a +ℤ pos d
sum_of_words w a d h k =
    let f = Fits-of_lt {w = w} h in
    ap (λ (x : ℕ). to_z w ((x + d) % 2 ^ bits w)) (sym (of_z-to_z f)) ∙ sum-held w (to_z w a) d (sfits_to_z f).sfits k

-- a field fits the word
pub field_lt : (w : Width) (m z : ℤ) → T (le_z m z) → mag m < 2 ^ hbits w → mag z < 2 ^ hbits w → nat_abs (z -ℤ m) < 2 ^ bits w
field_lt w (pos b) (pos a) t hm hz =
    let l : b ≤ a = leb→le b a t in
    let d = double w in
    rw (nat_abs-minus a b l) (omega arith)
field_lt w (pos b) (negsuc a) t hm hz = absurd t
field_lt w (negsuc b) (pos a) t hm hz = let d = double w in omega arith
field_lt w (negsuc b) (negsuc a) t hm hz =
    let l : a ≤ b = leb→le a b t in
    let d = double w in
    rw (sub_abs (suc b) (suc a) (omega arith)) (omega arith)

-- a larger whole number has a larger field
pub field_mono : (m a b : ℤ) → T (le_z m a) → T (le_z a b) → nat_abs (a -ℤ m) ≤ nat_abs (b -ℤ m)
field_mono (pos m) (pos a) (pos b) h k =
    let x : m ≤ a = leb→le m a h in
    let y : a ≤ b = leb→le a b k in
    rw (nat_abs-minus a m x, nat_abs-minus b m (le_trans x y)) (omega arith)
field_mono (pos m) (pos a) (negsuc b) h k = absurd k
field_mono (pos m) (negsuc a) b h k = absurd h
field_mono (negsuc m) (pos a) (pos b) h k = let y = leb→le a b k in omega arith
field_mono (negsuc m) (pos a) (negsuc b) h k = absurd k
field_mono (negsuc m) (negsuc a) (pos b) h k =
    let x = leb→le a m h in
    rw (sub_abs (suc m) (suc a) (omega arith)) (omega arith)
field_mono (negsuc m) (negsuc a) (negsuc b) h k =
    let x = leb→le a m h in
    let y = leb→le b a k in
    rw (sub_abs (suc m) (suc a) (omega arith), sub_abs (suc m) (suc b) (omega arith)) (omega arith)

-- and above a lower frame
pub field_lower : (m n a : ℤ) → T (le_z n m) → T (le_z m a) → nat_abs (a -ℤ m) ≤ nat_abs (a -ℤ n)
field_lower (pos m) (pos n) (pos a) h k =
    let x : n ≤ m = leb→le n m h in
    let y : m ≤ a = leb→le m a k in
    rw (nat_abs-minus a m y, nat_abs-minus a n (le_trans x y)) (omega arith)
field_lower (pos m) (negsuc n) (pos a) h k =
    let y : m ≤ a = leb→le m a k in
    rw (nat_abs-minus a m y) (omega arith)
field_lower (pos m) n (negsuc a) h k = absurd k
field_lower (negsuc m) (pos n) a h k = absurd h
field_lower (negsuc m) (negsuc n) (pos a) h k = let x = leb→le m n h in omega arith
field_lower (negsuc m) (negsuc n) (negsuc a) h k =
    let x = leb→le m n h in
    let y = leb→le a m k in
    rw (sub_abs (suc m) (suc a) (omega arith), sub_abs (suc n) (suc a) (omega arith)) (omega arith)
