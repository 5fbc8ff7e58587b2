-- The exception rule: exactly the values without a whole number are exceptions; any other comes back, and its whole number is held by
-- the kind's word. Assumes nothing.
use mathlib.Core.Path.{◌≡◌, refl, sym, ap, ap₂, ◌∙◌, subst}
use mathlib.Core.Bool.{◌||◌, Bool, true, false, not, cond}
use Prim.Native.Nat.{ℕ, zero, suc, ◌-◌, ◌*◌, ◌/◌, ◌^◌, ◌<◌, ◌≤◌}
use native.Mathlib.Nat.{le_trans, lt_of_le_of_lt, le_of_eq, le-suc, mul-one, div-one, mul_right_comm, mul-le-mul_right, mul-lt-mul_of_pos_right, le_of_mul-le-mul_right, lt_of_mul-lt-mul_right}
use native.Mathlib.Omega.{arith}
use mathlib.Core.Option.{none, some}
use lib.Dec.{eqb, ltb, lit<}
use lib.IntN.{ℤ, pos}
use lib.Signed.{mag}
use lib.Ieee.{Format, binary32, binary64, Float, nan, inf, fin, up, down, prec, round, of_int, of_bits}
use lib.Ieee.Fits.{down_pos}
use lib.Ieee.Exact.{HasValue}
use lib.Ieee.Nearest.{div_mono, div_same}
use mir.Val.{hbits}
use Rattle.rules.specs.Kind.{word, max_scaled, rounding_constant}
use Rattle.rules.specs.Decimal.{Pair, exception, tried, back, scaled, rounded, truncated, whole, beyond, signed}
use borrow.Author.Tests.{lt-ltb, le-ltb, ltb-false, eqb-true, not-false}
use Rattle.rules.proofs.Rows.{or_false}

-- a whole number that the kind's word holds
abbrev pub Held : Format → ℤ → Type 0
Held fmt z = mag z < 2 ^ hbits (word fmt)

pub max-held : (fmt : Format) → max_scaled fmt < 2 ^ hbits (word fmt)
max-held binary32 = lit< tt
max-held binary64 = lit< tt

pub signed-mag : (s : Bool) (n c : ℕ) → n < c → mag (signed s n) < c
signed-mag true zero c h = h
signed-mag true (suc n) c h = lt_of_le_of_lt (le-suc n) h
signed-mag false n c h = h

-- the constant, as the kind holds it
pub constant_is : (fmt : Format) → of_int fmt (pos (rounding_constant fmt)) ≡ fin false 3 (pos (prec fmt - 2))
unfolding of_int round
constant_is binary32 = refl
constant_is binary64 = refl

-- whether a value of this size is beyond L
cross : (l d m c a : ℕ) → 0 < d → 0 < c → m * c ≡ a * d → (l * c < a → ltb (l * d) m ≡ true) × (a ≤ l * c → ltb (l * d) m ≡ false)
cross l d m c a D C e = (
  (λ h. lt-ltb (l * d) m (lt_of_mul-lt-mul_right c (subst (λ (x : ℕ). l * d * c < x) (sym e) (subst (λ (x : ℕ). x < a * d) (mul_right_comm l c d) (mul-lt-mul_of_pos_right h D))))),
  (λ h. le-ltb (l * d) m (le_of_mul-le-mul_right (subst (λ (x : ℕ). x ≤ l * d * c) (sym e) (subst (λ (x : ℕ). a * d ≤ x) (mul_right_comm l c d) (mul-le-mul_right d h))) C)),
)

pub beyond-val : (fmt : Format) (v : Float) (s : Bool) (a c : ℕ) → 0 < c → HasValue v s a c → (max_scaled fmt * c < a → beyond fmt v ≡ true) × (a ≤ max_scaled fmt * c → beyond fmt v ≡ false)
unfolding beyond
beyond-val fmt nan s a c C h = absurd h
beyond-val fmt (inf t) s a c C h = absurd h
beyond-val fmt (fin t m e) s a c C h = cross (max_scaled fmt) (down e) (m * up e) c a (down_pos e) C h.1

-- a value of this size without its fraction
pub truncated-val : (v : Float) (s : Bool) (a c : ℕ) → 0 < c → HasValue v s a c → truncated v ≡ signed s (a / c)
unfolding truncated
truncated-val nan s a c C h = absurd h
truncated-val (inf t) s a c C h = absurd h
truncated-val (fin t m e) s a c C h = ap₂ (λ (u : Bool) (q : ℕ). signed u q) h.0 (div_same (m * up e) (down e) a c (down_pos e) C h.1)

-- what is not beyond L is at most L, and so held, without its fraction
under_limit : (fmt : Format) (s : Bool) (m : ℕ) (e : ℤ) → beyond fmt (fin s m e) ≡ false → m * up e / down e ≤ max_scaled fmt
unfolding beyond
under_limit fmt s m e h =
    let l : m * up e ≤ max_scaled fmt * down e = ltb-false (max_scaled fmt * down e) (m * up e) h in
    le_trans (div_mono (m * up e) (down e) (max_scaled fmt) 1 (down_pos e) (omega arith) (rw mul-one l)) (le_of_eq (div-one (max_scaled fmt)))

pub truncated-held : (fmt : Format) (r : Float) → beyond fmt r ≡ false → Held fmt (truncated r)
unfolding truncated beyond
truncated-held fmt nan e = let o : ◌≡◌ {A = ℕ} 0 1 = cc in absurd (omega arith)
truncated-held fmt (inf s) e = let o : ◌≡◌ {A = ℕ} 0 1 = cc in absurd (omega arith)
truncated-held fmt (fin s m e) h = signed-mag s (m * up e / down e) (2 ^ hbits (word fmt)) (lt_of_le_of_lt (under_limit fmt s m e h) (max-held fmt))

cond-some : (t : Bool) (y z : ℤ) → cond t none (some y) ≡ some z → (t ≡ false) × (y ≡ z)
cond-some true y z e = let o : ◌≡◌ {A = ℕ} 0 1 = cc in absurd (omega arith)
cond-some false y z e = (refl, cc)

-- where a value is no exception
pub tried-is : (fmt : Format) (p : Pair) (b : ℕ) → exception fmt p b ≡ false → tried fmt p b ≡ some (whole fmt (scaled fmt p (of_bits fmt b)))
unfolding tried
tried-is fmt p b e = ap (λ (t : Bool). cond t none (some (whole fmt (scaled fmt p (of_bits fmt b))))) e

-- and where it is one: exactly there it has no whole number
pub tried-none : (fmt : Format) (p : Pair) (b : ℕ) → exception fmt p b ≡ true → tried fmt p b ≡ none
unfolding tried
tried-none fmt p b e = ap (λ (t : Bool). cond t none (some (whole fmt (scaled fmt p (of_bits fmt b))))) e

pub none_excepted : (fmt : Format) (p : Pair) (b : ℕ) → tried fmt p b ≡ none → exception fmt p b ≡ true
none_excepted fmt p b e = go (exception fmt p b) refl
  where
    go : (t : Bool) → exception fmt p b ≡ t → exception fmt p b ≡ true
    go true q = q
    go false q = let n = tried-is fmt p b q in let o : ◌≡◌ {A = ℕ} 0 1 = cc in absurd (omega arith)

pub some_kept : (fmt : Format) (p : Pair) (b : ℕ) (z : ℤ) → tried fmt p b ≡ some z → exception fmt p b ≡ false
unfolding tried
some_kept fmt p b z e = (cond-some (exception fmt p b) (whole fmt (scaled fmt p (of_bits fmt b))) z e).0

-- what comes back is told by the last test, whatever the tests before it are and however the whole number w was found
pub kept_back : (fmt : Format) (p : Pair) (b : ℕ) (before : Bool) (w z : ℤ) → cond (before || not (eqb (back fmt p w) b)) none (some w) ≡ some z → (before ≡ false) × (w ≡ z) × (back fmt p z ≡ b)
kept_back fmt p b before w z e =
    let kept : Bool = eqb (back fmt p w) b in
    let c = cond-some (before || not kept) w z e in
    let d = or_false before (not kept) c.0 in
    (d.0, c.1, ap (back fmt p) (sym c.1) ∙ eqb-true (back fmt p w) b (not-false kept d.1))

-- a value that is no exception comes back, and its whole number is held
pub tried-some : (fmt : Format) (p : Pair) (b : ℕ) (z : ℤ) → tried fmt p b ≡ some z → (back fmt p z ≡ b) × Held fmt z
unfolding tried exception whole
tried-some fmt p b z e =
    let x : Float = of_bits fmt b in
    let y : Float = scaled fmt p x in
    let r : Float = rounded fmt y in
    let k = kept_back fmt p b _ (truncated r) z e in
    (k.2, subst (Held fmt) k.1 (truncated-held fmt r (or_false _ _ k.0).1))
