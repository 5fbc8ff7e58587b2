-- The smallest of whole numbers, the largest of fields, and the width. Assumes nothing.
use mathlib.Core.Bool.{Bool, true, false, not, cond}
use Prim.Native.Nat.{ℕ, ◌^◌, ◌<◌, ◌≤◌, max}
use native.Mathlib.Nat.{le_trans, le_refl, lt_of_le_of_lt, le_of_lt}
use native.Mathlib.Omega.{arith}
use mathlib.Core.List.{List, [], ◌∷◌}
use lib.Dec.{T, leb→le, le→leb, nleb→lt}
use lib.Pow.{pow_pos}
use lib.IntN.{ℤ, pos, negsuc}
use lib.Signed.{le_z}
use lib.Ieee.{size}
use lib.Ieee.Digits.{size-lt, size-le}
use Rattle.digits.specs.Lists.{Each}
use Rattle.digits.proofs.Lists.{each_map}
use Rattle.rules.specs.Vector.{lesser, least_of, least, greatest, width_of}

pub greatest-ge : (ns : List ℕ) → Each (λ (n : ℕ). n ≤ greatest ns) ns
unfolding greatest
greatest-ge [] = tt
greatest-ge (n ∷ ns) = (omega arith, each_map (λ (k : ℕ). k ≤ greatest ns) (λ (k : ℕ). k ≤ max n (greatest ns)) (λ k h. omega arith) ns (greatest-ge ns))

pub greatest-lt : (c : ℕ) (ns : List ℕ) → 0 < c → Each (λ (n : ℕ). n < c) ns → greatest ns < c
unfolding greatest
greatest-lt c [] o h = o
greatest-lt c (n ∷ ns) o h = let a = h.0 in let b = greatest-lt c ns o h.1 in omega arith

-- the width holds every field, and no fewer bits hold the largest
pub width-holds : (ns : List ℕ) → Each (λ (n : ℕ). n < 2 ^ width_of ns) ns
unfolding width_of
width-holds ns = each_map (λ (n : ℕ). n ≤ greatest ns) (λ (n : ℕ). n < 2 ^ size (greatest ns)) (λ n h. lt_of_le_of_lt h (size-lt (greatest ns))) ns (greatest-ge ns)

pub width-fewest : (ns : List ℕ) (w : ℕ) → Each (λ (n : ℕ). n < 2 ^ w) ns → width_of ns ≤ w
unfolding width_of
width-fewest ns w h = size-le (greatest ns) w (greatest-lt (2 ^ w) ns (pow_pos w) h)

pub le_z-refl : (a : ℤ) → T (le_z a a)
le_z-refl (pos a) = le→leb a a (le_refl a)
le_z-refl (negsuc a) = le→leb a a (le_refl a)

pub le_z-trans : (a b c : ℤ) → T (le_z a b) → T (le_z b c) → T (le_z a c)
le_z-trans (pos a) (pos b) (pos c) h k = le→leb a c (le_trans (leb→le a b h) (leb→le b c k))
le_z-trans (pos a) (pos b) (negsuc c) h k = absurd k
le_z-trans (pos a) (negsuc b) c h k = absurd h
le_z-trans (negsuc a) b (pos c) h k = tt
le_z-trans (negsuc a) (pos b) (negsuc c) h k = absurd k
le_z-trans (negsuc a) (negsuc b) (negsuc c) h k = le→leb c a (le_trans (leb→le c b k) (leb→le b a h))

pub le_z-other : (a b : ℤ) → T (not (le_z a b)) → T (le_z b a)
le_z-other (pos a) (pos b) h = le→leb b a (le_of_lt (nleb→lt a b h))
le_z-other (pos a) (negsuc b) h = tt
le_z-other (negsuc a) (pos b) h = absurd h
le_z-other (negsuc a) (negsuc b) h = le→leb a b (le_of_lt (nleb→lt b a h))

-- `lesser a b` is below both, and is one of them
pub lesser-cases {ℓ} : (P : ℤ → Type ℓ) (a b : ℤ) → (T (le_z a b) → P a) → (T (le_z b a) → P b) → P (lesser a b)
lesser-cases P a b f g = go (le_z a b) f (λ h. g (le_z-other a b h))
  where
    go : (t : Bool) → (T t → P a) → (T (not t) → P b) → P (cond t a b)
    go true f g = f tt
    go false f g = g tt

-- m is at most z
abbrev pub AtMost : ℤ → ℤ → Type 0
AtMost m z = T (le_z m z)

pub least_of-below : (z : ℤ) (ys : List ℤ) → AtMost (least_of z ys) z × Each (AtMost (least_of z ys)) ys
unfolding least_of
least_of-below z [] = (le_z-refl z, tt)
least_of-below z (y ∷ ys) =
    let r = least_of-below (lesser z y) ys in
    let m : ℤ = least_of (lesser z y) ys in (
      le_z-trans m (lesser z y) z r.0 (lesser-cases (λ (x : ℤ). AtMost x z) z y (λ h. le_z-refl z) (λ h. h)),
      (le_z-trans m (lesser z y) y r.0 (lesser-cases (λ (x : ℤ). AtMost x y) z y (λ h. h) (λ h. le_z-refl y)), r.1),
    )

pub least-below : (zs : List ℤ) → Each (AtMost (least zs)) zs
unfolding least
least-below [] = tt
least-below (z ∷ zs) = least_of-below z zs

least_of-one : (P : ℤ → Type 0) (z : ℤ) (ys : List ℤ) → P z → Each P ys → P (least_of z ys)
unfolding least_of
least_of-one P z [] h k = h
least_of-one P z (y ∷ ys) h k = least_of-one P (lesser z y) ys (lesser-cases P z y (λ t. h) (λ t. k.0)) k.1

pub least-one : (P : ℤ → Type 0) (zs : List ℤ) → P (pos 0) → Each P zs → P (least zs)
unfolding least
least-one P [] o k = o
least-one P (z ∷ zs) o k = least_of-one P z zs k.0 k.1
