-- The record of a vector in progress, one value more. Assumes nothing.
use mathlib.Core.Path.{◌≡◌, refl, sym, ap, ◌∙◌}
use mathlib.Core.Bool.{Bool, true, false, not, cond}
use mathlib.Core.List.{[], ◌∷◌}
use mathlib.Core.Option.{Option, none, some}
use Prim.Native.Nat.{ℕ, ◌+◌, ◌≤◌, ◌<◌}
use native.Mathlib.Nat.{le_refl}
use native.Mathlib.Omega.{arith}
use lib.Dec.{leb, ltb}
use borrow.Author.Tests.{leb-true, leb-false, lt-ltb, le-ltb}
use lib.IntN.{ℤ, pos, negsuc}
use lib.Signed.{le_z, lt_z}
use Rattle.std.specs.Prelude as std
use Rattle.std.specs.Prelude.{Some, None}
use Rattle.std.specs.Int.{int_min, int_max}
use Rattle.std.specs.Option.{unwrap_or}
use Rattle.rules.specs.Vector.{the_stand_in, or_else, lesser}
use Rattle.decimal.specs.Turn.{as_try}
use Rattle.encode.specs.Seen.{Seen, greater, see, see_all, begun, see_more}

-- ---- the smaller and the larger of two numbers

less : (a b : ℕ) → ltb b a ≡ not (leb a b)
less a b = go (leb a b) refl
  where
    go : (t : Bool) → leb a b ≡ t → ltb b a ≡ not (leb a b)
    go true e = le-ltb b a (leb-true a b e) ∙ ap not (sym e)
    go false e = lt-ltb b a (leb-false a b e) ∙ ap not (sym e)

turned : (a b : ℤ) → lt_z b a ≡ not (le_z a b)
turned (pos a) (pos b) = less a b
turned (pos a) (negsuc b) = refl
turned (negsuc a) (pos b) = refl
turned (negsuc a) (negsuc b) = less b a

other_way : {A : Type 0} (t : Bool) (a b : A) → cond (not t) a b ≡ cond t b a
other_way true a b = refl
other_way false a b = refl

min_is : (a b : ℤ) → int_min a b ≡ lesser a b
min_is a b = ap (λ (t : Bool). cond t b a) (turned a b) ∙ other_way (le_z a b) b a

max_is : (a b : ℤ) → int_max a b ≡ greater a b
max_is a b = ap (λ (t : Bool). cond t a b) (turned a b) ∙ other_way (le_z a b) a b

-- ---- one value more

pub see-whole : (s : Seen) (z d lo hi : ℤ) → d ≡ s.stand → lo ≡ int_min s.smallest z → hi ≡ int_max s.largest z
    → record { count = s.count + 1; listed = s.listed; stand = d; smallest = lo; largest = hi } ≡ see s (some z)
see-whole s z d lo hi ed el eh =
    let l : lo ≡ lesser s.smallest z = el ∙ min_is s.smallest z in
    let h : hi ≡ greater s.largest z = eh ∙ max_is s.largest z in
    λ i. record { count = s.count + 1; listed = s.listed; stand = ed i; smallest = l i; largest = h i }

pub see-counts : (s : Seen) (t : Option ℤ) → ((see s t).count ≡ s.count + 1) × ((see s t).listed ≤ s.listed + 1)
see-counts s none = (refl, le_refl (s.listed + 1))
see-counts s (some z) = (refl, omega arith)

-- ---- before a piece: one whole number is there already, or none is

pub begun-some : (s : Seen) (z : ℤ) → s.listed < s.count → s ≡ begun s z
begun-some s z h = ap (λ (b : Bool). cond b s (record { count = s.count; listed = s.listed; stand = z; smallest = z; largest = z })) (sym (lt-ltb s.listed s.count h))

begun-is : (s : Seen) (z : ℤ) → s.count ≤ s.listed → record { count = s.count; listed = s.listed; stand = z; smallest = z; largest = z } ≡ begun s z
begun-is s z h = ap (λ (b : Bool). cond b s (record { count = s.count; listed = s.listed; stand = z; smallest = z; largest = z })) (sym (le-ltb s.listed s.count h))

pub begun-counts : (s : Seen) (z : ℤ) → ((begun s z).count ≡ s.count) × ((begun s z).listed ≡ s.listed)
begun-counts s z = go (ltb s.listed s.count)
  where
    other : Seen
    other = record { count = s.count; listed = s.listed; stand = z; smallest = z; largest = z }

    go : (b : Bool) → ((cond b s other).count ≡ s.count) × ((cond b s other).listed ≡ s.listed)
    go true = (refl, refl)
    go false = (refl, refl)

-- ---- one value, as a piece of its own

stand-in_alone : (t : Option ℤ) → or_else (pos 0) t ≡ the_stand_in (t ∷ [])
unfolding the_stand_in
stand-in_alone none = refl
stand-in_alone (some z) = refl

-- its whole number, or else 0, is the stand-in where there was none before
pub see-begun : (s b : Seen) (t : Option ℤ) (z : ℤ) → z ≡ or_else (pos 0) t → b ≡ begun s z → see b t ≡ see_more s (t ∷ [])
unfolding see_all
see-begun s b t z ez eb = ap (λ (x : Seen). see x t) (eb ∙ ap (begun s) (ez ∙ stand-in_alone t))

-- a value's whole number, or the stand-in
pub or_stand-in : (t : std.Option ℤ) (s : ℤ) → unwrap_or t s ≡ or_else s (as_try t)
or_stand-in None s = refl
or_stand-in (Some z) s = refl

-- with a whole number there already, and as the first one
pub see-one : (s : Seen) (t : Option ℤ) → s.listed < s.count → see s t ≡ see_more s (t ∷ [])
see-one s t h = see-begun s s t (or_else (pos 0) t) refl (begun-some s (or_else (pos 0) t) h)

pub see-first : (s : Seen) (t : std.Option ℤ) (z : ℤ) → s.count ≤ s.listed → z ≡ unwrap_or t (pos 0)
    → see (record { count = s.count; listed = s.listed; stand = z; smallest = z; largest = z }) (as_try t) ≡ see_more s (as_try t ∷ [])
see-first s t z h e = see-begun s _ (as_try t) z (e ∙ or_stand-in t (pos 0)) (begun-is s z h)
