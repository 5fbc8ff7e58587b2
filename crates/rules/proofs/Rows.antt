-- Rows in their order: what passes them, and what it shows that they pass. Assumes nothing.
use mathlib.Core.Path.{◌≡◌, refl, sym, ap, ◌∙◌, subst}
use mathlib.Core.Bool.{Bool, true, false, not, ◌||◌, cond}
use mathlib.Core.List.{List}
use Prim.Native.Nat.{ℕ}
use native.Mathlib.Omega.{arith}
use lib.Dec.{T, eqb}
use lib.IntN.{ℤ, pos, negsuc}
use borrow.Author.Tests.{eqb-true, eq-eqb, not-false}
use Rattle.rules.specs.Verdict.{Point, Rows, row, ◌then◌, Verdict, fine, refuse, first, verdict, settle, done, ◌isnt◌}
use Rattle.rules.specs.Examine.{eq_z}

-- ---- one row, and one after the other

pub row-passes : (a : ℕ) (p : Point) (b : Bool) → b ≡ false → verdict (row a p b) ≡ fine
row-passes a p b e = ap (λ (x : Bool). verdict (row a p x)) e

pub row_fine : (a : ℕ) (p : Point) (b : Bool) → verdict (row a p b) ≡ fine → b ≡ false
row_fine a p true e = let o : ◌≡◌ {A = ℕ} 0 1 = cc in absurd (omega arith)
row_fine a p false e = refl

pub first_passes : (x y : Verdict) → x ≡ fine → y ≡ fine → first x y ≡ fine
first_passes x y p q = ap (λ (z : Verdict). first z y) p ∙ q

pub first_fine : (x y : Verdict) → first x y ≡ fine → (x ≡ fine) × (y ≡ fine)
first_fine fine y e = (refl, e)
first_fine (refuse a p) y e = let o : ◌≡◌ {A = ℕ} 0 1 = cc in absurd (omega arith)

pub then_passes : (x y : Rows) → verdict x ≡ fine → verdict y ≡ fine → verdict (x then y) ≡ fine
then_passes x y p q = first_passes (verdict x) (verdict y) p q

pub then_fine : (x y : Rows) → verdict (x then y) ≡ fine → (verdict x ≡ fine) × (verdict y ≡ fine)
then_fine x y e = first_fine (verdict x) (verdict y) e

-- a row in front of others: its condition is false, and the others pass
pub row_first : (a : ℕ) (p : Point) (b : Bool) (y : Verdict) → first (verdict (row a p b)) y ≡ fine → (b ≡ false) × (y ≡ fine)
row_first a p true y e = let o : ◌≡◌ {A = ℕ} 0 1 = cc in absurd (omega arith)
row_first a p false y e = (refl, e)

pub first-end : (x : Verdict) → first x fine ≡ x
first-end fine = refl
first-end (refuse a p) = refl

pub first-first : (x y z : Verdict) → first (first x y) z ≡ first x (first y z)
first-first fine y z = refl
first-first (refuse a p) y z = refl

-- what follows a refusal is of no account
pub first-as : (x y z : Verdict) → (x ≡ fine → y ≡ z) → first x y ≡ first x z
first-as fine y z e = e refl
first-as (refuse a p) y z e = refl

-- ---- conditions

pub is : (a b : ℕ) → a ≡ b → (a isnt b) ≡ false
is a b e = ap not (eq-eqb a b e)

pub isnt_false : (a b : ℕ) → (a isnt b) ≡ false → a ≡ b
isnt_false a b e = eqb-true a b (not-false (eqb a b) e)

-- whole numbers compared
pub eq_z-refl : (z : ℤ) → eq_z z z ≡ true
eq_z-refl (pos n) = eq-eqb n n refl
eq_z-refl (negsuc n) = eq-eqb n n refl

pub eq_z-true : (a b : ℤ) → eq_z a b ≡ true → a ≡ b
eq_z-true (pos a) (pos b) e = ap pos (eqb-true a b e)
eq_z-true (pos a) (negsuc b) e = absurd (subst T (sym e) tt)
eq_z-true (negsuc a) (pos b) e = absurd (subst T (sym e) tt)
eq_z-true (negsuc a) (negsuc b) e = ap negsuc (eqb-true a b e)

pub same_number : (z : ℤ) → not (eq_z z z) ≡ false
same_number z = ap not (eq_z-refl z)

pub not_other : (a b : ℤ) → not (eq_z a b) ≡ false → a ≡ b
not_other a b e = eq_z-true a b (not-false (eq_z a b) e)

pub neither : (a b : Bool) → a ≡ false → b ≡ false → (a || b) ≡ false
neither a b p q = cc

pub or_false : (a b : Bool) → (a || b) ≡ false → (a ≡ false) × (b ≡ false)
or_false true b e = let o : ◌≡◌ {A = ℕ} 0 1 = cc in absurd (omega arith)
or_false false b e = (refl, e)

-- a choice between equals
pub same-both : {A : Type 0} (t : Bool) (a : A) → cond t a a ≡ a
same-both true a = refl
same-both false a = refl

-- ---- done

pub settle-done : (v : Verdict) (xs ys : List ℕ) → settle v xs ≡ done ys → (v ≡ fine) × (xs ≡ ys)
settle-done fine xs ys e = (refl, cc)
settle-done (refuse a p) xs ys e = let o : ◌≡◌ {A = ℕ} 0 1 = cc in absurd (omega arith)
