-- The page with the chosen pairs: they are inside the limits, and no page of the same values and vector size is shorter. And where all values
-- are exceptions with every pair. Assumes nothing.
use mathlib.Core.Path.{◌≡◌, refl, sym, ap, ap₂, ◌∙◌}
use mathlib.Core.Bool.{true}
use mathlib.Core.List.{List, [], ◌∷◌, map}
use mathlib.Core.Option.{Option, none}
use Prim.Native.Nat.{ℕ, zero, suc, ◌+◌, ◌*◌, ◌^◌, ◌≤◌, zero-le}
use native.Mathlib.Nat.{le_of_eq, le_trans}
use native.Mathlib.Omega.{arith}
use lib.ListN.{length, take, drop, replicate, length-replicate}
use lib.Pow.{pow_mono}
use lib.IntN.{ℤ, pos, nat_abs, ◌-ℤ◌}
use lib.Dec.{lit≤}
use lib.Ieee.{Format, binary32, binary64, size}
use Rattle.digits.specs.Lists.{Each}
use Rattle.digits.specs.Digits.{packed_size}
use Rattle.rules.specs.Kind.{min_s, max_s, max_values, max_exponent, word_bytes, meta_bytes, Values}
use Rattle.rules.specs.Decimal.{Pair, exception}
use Rattle.rules.specs.Vector.{tries, the_stand_in, filled, or_else, least_of, least, fields_of, greatest, width_of, places, raw_of, encoded}
use Rattle.rules.specs.Page.{vectors, encoded_all, page_of}
use Rattle.rules.specs.Write.{Allowed, Inside}
use Rattle.rules.specs.Choose.{size_with, first_pair, chosen, chosen_for, chosen_pairs}
use Rattle.rules.proofs.Tries.{tried-none}
use Rattle.rules.proofs.Pages.{total, length-layout}
use Rattle.rules.proofs.Encoded.{length-all, all_fit}
use Rattle.theorems.proofs.Examples.{half, zero_size, half_size}
use Rattle.theorems.proofs.Choosing.{chosen-inside, chosen-smallest, first-chosen}

-- ---- pages

module _ (fmt : Format) (size : ℕ) where
  pub length-chosen : (k : ℕ) (vs : List ℕ) → length (chosen_for fmt size k vs) ≡ k
  unfolding chosen_for
  length-chosen zero vs = refl
  length-chosen (suc k) vs = ap suc (length-chosen k (drop size vs))

  pub chosen-allowed : (k : ℕ) (vs : List ℕ) → Each (Allowed fmt) (chosen_for fmt size k vs)
  unfolding chosen_for
  chosen-allowed zero vs = tt
  chosen-allowed (suc k) vs = (chosen-inside fmt (take size vs), chosen-allowed k (drop size vs))

  -- vector by vector no more bytes than with the pairs ps
  total_least : (ps : List Pair) (vs : List ℕ) → Each (Allowed fmt) ps → total fmt (encoded_all fmt size (chosen_for fmt size (length ps) vs) vs) ≤ total fmt (encoded_all fmt size ps vs)
  unfolding chosen_for encoded_all
  total_least [] vs a = zero-le
  total_least (p ∷ ps) vs a =
      let here = chosen-smallest fmt (take size vs) p a.0 in
      let rest = total_least ps (drop size vs) a.1 in
      omega (arith, here, rest)

module _ (fmt : Format) (s : ℕ) (vs : List ℕ) where
  pub chosen-settings : min_s ≤ s → s ≤ max_s → length vs ≤ max_values → Inside fmt s (chosen_pairs fmt s vs) (length vs)
  chosen-settings low high many = record {
    low = low;
    high = high;
    many = many;
    one_each = length-chosen fmt (2 ^ s) (vectors s (length vs)) vs;
    allowed = chosen-allowed fmt (2 ^ s) (vectors s (length vs)) vs;
  }

  page_size_lem : (ps : List Pair) → s ≤ max_s → Values fmt vs → length (page_of fmt s ps vs) ≡ 8 + (4 * length ps + total fmt (encoded_all fmt (2 ^ s) ps vs))
  unfolding page_of
  page_size_lem ps high ok =
      let small : 2 ^ s ≤ 2 ^ max_s = pow_mono high in
      length-layout fmt s (length vs) (encoded_all fmt (2 ^ s) ps vs) (all_fit fmt (2 ^ s) ps vs small ok)
      ∙ ap (λ (n : ℕ). 8 + (4 * n + total fmt (encoded_all fmt (2 ^ s) ps vs))) (length-all fmt (2 ^ s) ps vs)

  pub chosen-page : (ps : List Pair) → Inside fmt s ps (length vs) → Values fmt vs → length (page_of fmt s (chosen_pairs fmt s vs) vs) ≤ length (page_of fmt s ps vs)
  chosen-page ps i ok =
      let cs = chosen_for fmt (2 ^ s) (length ps) vs in
      let same : chosen_pairs fmt s vs ≡ cs = ap (λ (k : ℕ). chosen_for fmt (2 ^ s) k vs) (sym i.one_each) in
      let mine = ap (λ (l : List Pair). length (page_of fmt s l vs)) same ∙ page_size_lem cs i.high ok in
      let theirs = page_size_lem ps i.high ok in
      let long = length-chosen fmt (2 ^ s) (length ps) vs in
      let less = total_least fmt (2 ^ s) ps vs i.allowed in
      omega (arith, mine, theirs, long, less)

-- ---- only exceptions

abbrev nones : ℕ → List (Option ℤ)
nones n = replicate n none

stand-zero : (n : ℕ) → the_stand_in (nones n) ≡ pos 0
unfolding the_stand_in
stand-zero zero = refl
stand-zero (suc n) = stand-zero n

filled_zero : (n : ℕ) (z : ℤ) → map (or_else z) (nones n) ≡ replicate n z
filled_zero zero z = refl
filled_zero (suc n) z = ap (λ (l : List ℤ). z ∷ l) (filled_zero n z)

least_zero : (n : ℕ) → least_of (pos 0) (replicate n (pos 0)) ≡ pos 0
unfolding least_of
least_zero zero = refl
least_zero (suc n) = least_zero n

greatest-zero : (n : ℕ) → greatest (map (λ (z : ℤ). nat_abs (z -ℤ pos 0)) (replicate n (pos 0))) ≡ 0
unfolding greatest
greatest-zero zero = refl
greatest-zero (suc n) = let h = greatest-zero n in omega (arith, h)

width-zero : (n : ℕ) → width_of (fields_of (replicate n (pos 0))) ≡ 0
unfolding width_of fields_of least greatest size
width-zero zero = refl
width-zero (suc n) =
    ap (λ (m : ℤ). width_of (map (λ (z : ℤ). nat_abs (z -ℤ m)) (replicate (suc n) (pos 0)))) (least_zero n)
    ∙ ap size (greatest-zero (suc n))

all_listed : (i n : ℕ) → length (places i (nones n)) ≡ n
unfolding places
all_listed i zero = refl
all_listed i (suc n) = ap suc (all_listed (suc i) n)

tries-none : (fmt : Format) (p : Pair) (vs : List ℕ) → Each (λ (v : ℕ). exception fmt p v ≡ true) vs → tries fmt p vs ≡ nones (length vs)
tries-none fmt p [] h = refl
tries-none fmt p (v ∷ vs) h = ap₂ (λ (t : Option ℤ) (ts : List (Option ℤ)). t ∷ ts) (tried-none fmt p v h.0) (tries-none fmt p vs h.1)

module _ (fmt : Format) (vs : List ℕ) where
  -- then the size does not depend on the pair
  excepted_size : (p : Pair) → Each (λ (v : ℕ). exception fmt p v ≡ true) vs → size_with fmt vs p ≡ meta_bytes fmt + (packed_size (length vs) 0 + length vs * (2 + word_bytes fmt))
  unfolding encoded raw_of
  excepted_size p h =
      let n = length vs in
      let zs : filled (nones n) ≡ replicate n (pos 0) = filled_zero n (the_stand_in (nones n)) ∙ ap (replicate n) (stand-zero n) in
      let w : width_of (fields_of (filled (nones n))) ≡ 0 = ap (λ (l : List ℤ). width_of (fields_of l)) zs ∙ width-zero n in
      let c : length (filled (nones n)) ≡ n = ap length zs ∙ length-replicate n (pos 0) in
      ap (λ (ts : List (Option ℤ)). meta_bytes fmt + (packed_size (length (filled ts)) (width_of (fields_of (filled ts))) + length (places 0 ts) * (2 + word_bytes fmt))) (tries-none fmt p vs h)
      ∙ ap₂ (λ (k m : ℕ). meta_bytes fmt + (packed_size m k + length (places 0 (nones n)) * (2 + word_bytes fmt))) w c
      ∙ ap (λ (k : ℕ). meta_bytes fmt + (packed_size n 0 + k * (2 + word_bytes fmt))) (all_listed 0 n)

  pub only_exceptions : ((p : Pair) → Allowed fmt p → Each (λ (v : ℕ). exception fmt p v ≡ true) vs) → chosen fmt vs ≡ first_pair
  only_exceptions h = first-chosen fmt vs (λ p a. le_of_eq (excepted_size first_pair (h first_pair (record { exponent = zero-le; factor = zero-le })) ∙ sym (excepted_size p (h p a))))

-- ---- 0.0 and 0.5 take different exponents

module _ (fmt : Format) where
  pub zero_exponent : (chosen fmt (0 ∷ [])).exponent ≡ 0
  zero_exponent = ap (λ (p : Pair). p.exponent) (first-chosen fmt (0 ∷ []) (λ p a. le_trans (le_of_eq (zero_size fmt)) (omega arith)))

  pub half_exponent : (chosen fmt (half fmt ∷ [])).exponent ≡ 0 → ⊥
  half_exponent e =
      let p = chosen fmt (half fmt ∷ []) in
      let f : p.factor ≡ 0 = let a = (chosen-inside fmt (half fmt ∷ [])).factor in omega (arith, a, e) in
      let first : p ≡ first_pair = λ i. record { exponent = e i; factor = f i } in
      let least = chosen-smallest fmt (half fmt ∷ []) (record { exponent = 1; factor = 0 }) (record { exponent = one_allowed fmt; factor = zero-le }) in
      let same = ap (size_with fmt (half fmt ∷ [])) first in
      omega (arith, least, same, half_size fmt)
    where
      one_allowed : (fmt : Format) → 1 ≤ max_exponent fmt
      one_allowed binary32 = lit≤ tt
      one_allowed binary64 = lit≤ tt
