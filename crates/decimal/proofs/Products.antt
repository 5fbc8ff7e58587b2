-- What a float multiplication promises, over whole numbers: the exact product of the two values as a fraction, rounded once. (What it is to
-- be rounded once, to nearest and ties to even, is said over whole numbers too: theorems/Rounding, `product_once`.) Assumes nothing.
use Rattle.std.proofs.Common.{◌≡◌, ℕ, ◌*◌, ◌<◌, Bool, true, false, ℤ, refl, ◌∙◌, ap₂, mul_assoc, mul_comm, mul-pos, mul_left_comm}
use lib.Ieee.{Float, fin, Format, round, mul, unlike, up, down}
use lib.Ieee.Fits.{down_pos}
use lib.Ieee.Exact.{HasValue}
use lib.Ieee.Scale.{round_same}

-- fin s m e is m * up e / down e, negative where s is true; `round` takes a fraction of whole numbers to the nearest float of the kind
pub product : (fmt : Format) (s t : Bool) (m n : ℕ) (e d : ℤ) → mul fmt (fin s m e) (fin t n d) ≡ round fmt (unlike s t) (m * up e * (n * up d)) (down e * down d)
unfolding mul
product fmt s t m n e d = refl

-- with a factor that is not negative
pub like : (t : Bool) → unlike t false ≡ t
like true = refl
like false = refl

swap : (a b c d : ℕ) → a * b * (c * d) ≡ a * c * (b * d)
swap a b c d = simp (mul_assoc, mul_comm, mul_left_comm)

-- of values a / c and b / d, however they are written
pub product_of : (fmt : Format) (x y : Float) (s t : Bool) (a c b d : ℕ) → 0 < c → 0 < d → HasValue x s a c → HasValue y t b d → mul fmt x y ≡ round fmt (unlike s t) (a * b) (c * d)
product_of fmt lib.Ieee.nan y s t a c b d C D x5 _ = elim x5 [ ]
product_of fmt (lib.Ieee.inf _) y s t a c b d C D x7 _ = elim x7 [ ]
product_of fmt (fin s' m e) lib.Ieee.nan s t a c b d C D _ x12 = elim x12 [ ]
product_of fmt (fin s' m e) (lib.Ieee.inf _) s t a c b d C D _ x14 = elim x14 [ ]
product_of fmt (fin s' m e) (fin t' n g) s t a c b d C D (ps, pv) (qs, qv) =
    product fmt s' t' m n e g
    ∙ ap₂ (λ (u v : Bool). round fmt (unlike u v) (m * up e * (n * up g)) (down e * down g)) ps qs
    ∙ round_same fmt (unlike s t) (m * up e * (n * up g)) (down e * down g) (a * b) (c * d) (mul-pos (down_pos e) (down_pos g)) (mul-pos C D)
    (swap (m * up e) (n * up g) c d ∙ ap₂ (λ (u v : ℕ). u * v) pv qv ∙ swap a (down e) b (down g))

-- three factors, each known by another name
pub two_products : (fmt : Format) {x x' p p' n n' : Float} → x ≡ x' → p ≡ p' → n ≡ n' → mul fmt (mul fmt x p) n ≡ mul fmt (mul fmt x' p') n'
two_products fmt a b c = cc
