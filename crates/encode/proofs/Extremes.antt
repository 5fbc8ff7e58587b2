-- The smallest and the largest whole number of a vector, over those that have one: stand-ins add nothing, since the list with stand-ins
-- begins with the stand-in. And what the two say of the largest field. Assumes nothing.
use mathlib.Core.Path.{◌≡◌, refl, sym, ap, ◌∙◌, subst}
use mathlib.Core.Bool.{Bool, true, false, cond}
use mathlib.Core.List.{List, [], ◌∷◌, ◌++◌, map}
use mathlib.Core.Option.{Option, none, some}
use Prim.Native.Nat.{ℕ, max}
use native.Mathlib.Omega.{arith}
use lib.IntN.{ℤ, pos, negsuc, nat_abs, ◌-ℤ◌}
use lib.Dec.{T, leb→le}
use lib.Signed.{le_z}
use Rattle.digits.specs.Lists.{Each}
use Rattle.rules.specs.Vector.{the_stand_in, filled, or_else, lesser, least_of, least, fields_of, greatest}
use Rattle.rules.proofs.Rows.{same-both}
use Rattle.rules.proofs.Order.{le_z-refl, le_z-trans, lesser-cases, AtMost, least-below}
use Rattle.rules.proofs.Fields.{field_mono}
use Rattle.encode.specs.Seen.{greater, most_of, most}

-- ---- from m on, over the whole numbers that are there

abbrev pub lowered : ℤ → Option ℤ → ℤ
lowered m none = m
lowered m (some z) = lesser m z

abbrev pub raised : ℤ → Option ℤ → ℤ
raised m none = m
raised m (some z) = greater m z

unfoldable pub lowest : ℤ → List (Option ℤ) → ℤ
lowest m [] = m
lowest m (t ∷ ts) = lowest (lowered m t) ts

unfoldable pub highest : ℤ → List (Option ℤ) → ℤ
highest m [] = m
highest m (t ∷ ts) = highest (raised m t) ts

pub lowest_append : (m : ℤ) (ts us : List (Option ℤ)) → lowest m (ts ++ us) ≡ lowest (lowest m ts) us
unfolding lowest
lowest_append m [] us = refl
lowest_append m (t ∷ ts) us = lowest_append (lowered m t) ts us

pub highest_append : (m : ℤ) (ts us : List (Option ℤ)) → highest m (ts ++ us) ≡ highest (highest m ts) us
unfolding highest
highest_append m [] us = refl
highest_append m (t ∷ ts) us = highest_append (raised m t) ts us

-- ---- two numbers

le_z-anti : (a b : ℤ) → T (le_z a b) → T (le_z b a) → a ≡ b
le_z-anti (pos a) (pos b) h k = let x = leb→le a b h in let y = leb→le b a k in let e : a ≡ b = omega arith in ap pos e
le_z-anti (pos a) (negsuc b) h k = absurd h
le_z-anti (negsuc a) (pos b) h k = absurd k
le_z-anti (negsuc a) (negsuc b) h k = let x = leb→le b a h in let y = leb→le a b k in let e : a ≡ b = omega arith in ap negsuc e

-- `greater a b` is what `lesser a b` is not
greater-cases : (P : ℤ → Type 0) (a b : ℤ) → (T (le_z a b) → P b) → (T (le_z b a) → P a) → P (greater a b)
greater-cases P a b f g = lesser-cases (λ (x : ℤ). P (greater a b)) a b (λ t. subst P (sym (yes_is (le_z a b) t)) (f t)) (λ t. other (le_z a b) refl t)
  where
    yes_is : (x : Bool) → T x → cond x b a ≡ b
    yes_is true t = refl
    yes_is false t = absurd t

    other : (x : Bool) → le_z a b ≡ x → T (le_z b a) → P (greater a b)
    other true e t = subst (λ (x : Bool). P (cond x b a)) (sym e) (f (subst T (sym e) tt))
    other false e t = subst (λ (x : Bool). P (cond x b a)) (sym e) (g t)

lesser-is : (a b : ℤ) → T (le_z a b) → lesser a b ≡ a
lesser-is a b t = lesser-cases (λ (x : ℤ). x ≡ a) a b (λ u. refl) (λ u. le_z-anti b a u t)

greater-is : (a b : ℤ) → T (le_z b a) → greater a b ≡ a
greater-is a b t = greater-cases (λ (x : ℤ). x ≡ a) a b (λ u. le_z-anti b a t u) (λ u. refl)

-- ---- more of them only widen the range

pub lowest_le : (m : ℤ) (ts : List (Option ℤ)) → T (le_z (lowest m ts) m)
unfolding lowest
lowest_le m [] = le_z-refl m
lowest_le m (none ∷ ts) = lowest_le m ts
lowest_le m (some z ∷ ts) = le_z-trans (lowest (lesser m z) ts) (lesser m z) m (lowest_le (lesser m z) ts) (lesser-cases (λ (x : ℤ). T (le_z x m)) m z (λ t. le_z-refl m) (λ t. t))

pub highest_ge : (m : ℤ) (ts : List (Option ℤ)) → T (le_z m (highest m ts))
unfolding highest
highest_ge m [] = le_z-refl m
highest_ge m (none ∷ ts) = highest_ge m ts
highest_ge m (some z ∷ ts) = le_z-trans m (greater m z) (highest (greater m z) ts) (greater-cases (λ (x : ℤ). T (le_z m x)) m z (λ t. t) (λ t. le_z-refl m)) (highest_ge (greater m z) ts)

-- ---- an exception's stand-in s lowers and raises nothing, once s was seen

low-skip : (s a : ℤ) (ts : List (Option ℤ)) → T (le_z a s) → lowest a ts ≡ least_of a (map (or_else s) ts)
unfolding lowest least_of
low-skip s a [] h = refl
low-skip s a (none ∷ ts) h = low-skip s a ts h ∙ ap (λ (x : ℤ). least_of x (map (or_else s) ts)) (sym (lesser-is a s h))
low-skip s a (some y ∷ ts) h = low-skip s (lesser a y) ts (lesser-cases (λ (x : ℤ). T (le_z x s)) a y (λ t. h) (λ t. le_z-trans y a s t h))

high-skip : (s a : ℤ) (ts : List (Option ℤ)) → T (le_z s a) → highest a ts ≡ most_of a (map (or_else s) ts)
unfolding highest most_of
high-skip s a [] h = refl
high-skip s a (none ∷ ts) h = high-skip s a ts h ∙ ap (λ (x : ℤ). most_of x (map (or_else s) ts)) (sym (greater-is a s h))
high-skip s a (some y ∷ ts) h = high-skip s (greater a y) ts (greater-cases (λ (x : ℤ). T (le_z s x)) a y (λ t. le_z-trans s a y h t) (λ t. h))

-- the list with stand-ins begins with the stand-in
least-head : (ts : List (Option ℤ)) → least_of (the_stand_in ts) (filled ts) ≡ least (filled ts)
unfolding least_of least the_stand_in
least-head [] = refl
least-head (none ∷ ts) = ap (λ (x : ℤ). least_of x (map (or_else (the_stand_in ts)) ts)) (same-both (le_z (the_stand_in ts) (the_stand_in ts)) (the_stand_in ts))
least-head (some z ∷ ts) = ap (λ (x : ℤ). least_of x (map (or_else z) ts)) (same-both (le_z z z) z)

most-head : (ts : List (Option ℤ)) → most_of (the_stand_in ts) (filled ts) ≡ most (filled ts)
unfolding most_of most the_stand_in
most-head [] = refl
most-head (none ∷ ts) = ap (λ (x : ℤ). most_of x (map (or_else (the_stand_in ts)) ts)) (same-both (le_z (the_stand_in ts) (the_stand_in ts)) (the_stand_in ts))
most-head (some z ∷ ts) = ap (λ (x : ℤ). most_of x (map (or_else z) ts)) (same-both (le_z z z) z)

pub lowest_is : (ts : List (Option ℤ)) → lowest (the_stand_in ts) ts ≡ least (filled ts)
lowest_is ts = low-skip (the_stand_in ts) (the_stand_in ts) ts (le_z-refl (the_stand_in ts)) ∙ least-head ts

pub highest_is : (ts : List (Option ℤ)) → highest (the_stand_in ts) ts ≡ most (filled ts)
highest_is ts = high-skip (the_stand_in ts) (the_stand_in ts) ts (le_z-refl (the_stand_in ts)) ∙ most-head ts

-- ---- the largest field is that of the largest whole number

most-above : (m a : ℤ) (zs : List ℤ) → T (le_z m a) → Each (AtMost m) zs → max (nat_abs (a -ℤ m)) (greatest (map (λ (z : ℤ). nat_abs (z -ℤ m)) zs)) ≡ nat_abs (most_of a zs -ℤ m)
unfolding most_of greatest
most-above m a [] h e = omega arith
most-above m a (y ∷ ys) h e =
    let G : ℕ = greatest (map (λ (z : ℤ). nat_abs (z -ℤ m)) ys) in
    let g : nat_abs (greater a y -ℤ m) ≡ max (nat_abs (a -ℤ m)) (nat_abs (y -ℤ m)) =
    greater-cases (λ (x : ℤ). nat_abs (x -ℤ m) ≡ max (nat_abs (a -ℤ m)) (nat_abs (y -ℤ m))) a y (λ t. let q = field_mono m a y h t in omega arith) (λ t. let q = field_mono m y a e.0 t in omega arith) in
    three (nat_abs (a -ℤ m)) (nat_abs (y -ℤ m)) G ∙ ap (λ (x : ℕ). max x G) (sym g)
    ∙ most-above m (greater a y) ys (greater-cases (λ (x : ℤ). T (le_z m x)) a y (λ t. e.0) (λ t. h)) e.1
  where
    three : (a b c : ℕ) → max a (max b c) ≡ max (max a b) c
    three a b c = omega arith

pub most-field : (zs : List ℤ) → nat_abs (most zs -ℤ least zs) ≡ greatest (fields_of zs)
unfolding most least fields_of greatest
most-field [] = refl
most-field (z ∷ zs) = let e : Each (AtMost (least_of z zs)) (z ∷ zs) = least-below (z ∷ zs) in sym (most-above (least_of z zs) z zs e.0 e.1)

most_of-ge : (z : ℤ) (ys : List ℤ) → T (le_z z (most_of z ys))
unfolding most_of
most_of-ge z [] = le_z-refl z
most_of-ge z (y ∷ ys) = le_z-trans z (greater z y) (most_of (greater z y) ys) (greater-cases (λ (x : ℤ). T (le_z z x)) z y (λ t. t) (λ t. le_z-refl z)) (most_of-ge (greater z y) ys)

pub least-most : (zs : List ℤ) → T (le_z (least zs) (most zs))
unfolding most least
least-most [] = tt
least-most (z ∷ zs) = let e : Each (AtMost (least_of z zs)) (z ∷ zs) = least-below (z ∷ zs) in le_z-trans (least_of z zs) z (most_of z zs) e.0 (most_of-ge z zs)
