-- What reading gives, of any vector and any bytes: how many values, that each is of the kind's width, and that listed values may be put
-- one by one. Assumes nothing.
use mathlib.Core.Path.{◌≡◌, refl, sym, ap, ap₂, ◌∙◌}
use mathlib.Core.Bool.{Bool, true, false, cond}
use Prim.Native.Nat.{ℕ, zero, suc, ◌+◌, ◌-◌, ◌*◌, ◌%◌, ◌^◌, ◌<◌}
use native.Mathlib.Nat.{suc_inj, div-eq_of_lt}
use native.Mathlib.Omega.{arith}
use mathlib.Core.List.{List, [], ◌∷◌, map, zip_with}
use mathlib.Core.Option.{Option, none, some}
use lib.ListN.{length, drop, length-append, length-map}
use lib.Dec.{eqb}
use lib.IntN.{ℤ, pos, ◌+ℤ◌}
use lib.Pow.{pow_pos}
use lib.Ieee.{Format, binary32, binary64, Float, mul, of_int, top}
use lib.Ieee.Bits.{to_bits-lt}
use lib.Ieee.Fits.{mul-fits}
use mir.Val.{to_z}
use Rattle.digits.specs.Lists.{Each, join}
use Rattle.digits.specs.Digits.{number}
use Rattle.digits.proofs.Lists.{each_append}
use Rattle.digits.proofs.Laws.{length_to}
use Rattle.digits.proofs.Rows.{length-numbers}
use Rattle.rules.specs.Kind.{word, word_bits, Values}
use Rattle.rules.specs.Decimal.{Pair, back, power, neg_power}
use Rattle.rules.specs.Vector.{Raw, or_else, fields, wholes, stored, marks, marked, decoded}
use Rattle.rules.specs.Page.{s_of, count_of, vectors_of, offsets_of, body_of, raw_from, raws_from, raws_of}
use Rattle.rules.specs.Read.{values_of}
use Rattle.rules.proofs.Fields.{sum_of_words}
use Rattle.rules.proofs.Tries.{Held}
use Rattle.rules.proofs.Pages.{Cut}
use Rattle.rules.proofs.Reading.{Rising}
use Rattle.rules.proofs.Marks.{replaced, marked-replaced}
use Rattle.rules.proofs.Encoded.{ceil, ceil_more}

-- ---- how many

pub fields-count : (r : Raw) → length (fields r) ≡ r.count
unfolding fields
fields-count r = length_to (2 ^ r.width) r.count (number r.packed)

pub wholes-count : (fmt : Format) (r : Raw) → length (wholes fmt r) ≡ r.count
unfolding wholes
wholes-count fmt r = length-map (fields r) _ ∙ fields-count r

pub length-marks : (ps xs : List ℕ) (i n : ℕ) → length (marks ps xs i n) ≡ n
unfolding marks
length-marks ps xs i zero = refl
length-marks ps xs i (suc n) = ap suc (length-marks ps xs (suc i) n)

pub marked-count : (r : Raw) → length (marked r) ≡ r.count
unfolding marked
marked-count r = length-marks r.positions r.exceptions 0 r.count

length-zip : (zs : List ℤ) (ms : List (Option ℕ)) (f : ℤ → Option ℕ → ℕ) → length zs ≡ length ms → length (zip_with f zs ms) ≡ length zs
unfolding zip_with
length-zip [] ms f e = refl
length-zip (z ∷ zs) [] f e = absurd (omega (arith, e))
length-zip (z ∷ zs) (m ∷ ms) f e = ap suc (length-zip zs ms f (suc_inj e))

pub decoded-count : (fmt : Format) (r : Raw) → length (decoded fmt r) ≡ r.count
unfolding decoded
decoded-count fmt r = length-zip (wholes fmt r) (marked r) _ (wholes-count fmt r ∙ sym (marked-count r)) ∙ wholes-count fmt r

-- vectors that a column of `left` values is cut into give that many
pub joined_count : (fmt : Format) (size left : ℕ) (rs : List Raw) → Cut size left rs → length (join (map (decoded fmt) rs)) ≡ left
joined_count fmt size left [] c = sym c
joined_count fmt size left (r ∷ rs) c =
    let a = decoded-count fmt r ∙ c.0 in
    let b = joined_count fmt size (left - size) rs c.2 in
    length-append (decoded fmt r) (join (map (decoded fmt) rs)) ∙ omega (arith, a, b)

-- one vector is read for each offset, and as many offsets as vectors cut the column
pub length-raws : (fmt : Format) (size left : ℕ) (os bs : List ℕ) → length (raws_from fmt size left os bs) ≡ length os
unfolding raws_from
length-raws fmt size left [] bs = refl
length-raws fmt size left (o ∷ os) bs = ap suc (length-raws fmt size (left - size) os _)

pub cut_raws : (fmt : Format) (size left : ℕ) (os bs : List ℕ) → 0 < size → length os ≡ ceil size left → Cut size left (raws_from fmt size left os bs)
unfolding raws_from raw_from ceil
cut_raws fmt size zero [] bs z e = refl
cut_raws fmt size (suc n) [] bs z e = let c = ceil_more size (suc n) z (omega arith) in absurd (omega (arith, e, c))
cut_raws fmt size zero (o ∷ os) bs z e = let c : ceil size zero ≡ 0 = div-eq_of_lt (omega arith) in absurd (omega (arith, e, c))
cut_raws fmt size (suc n) (o ∷ os) bs z e = (refl, omega arith, cut_raws fmt size (suc n - size) os _ z (suc_inj (e ∙ ceil_more size (suc n) z (omega arith))))

module _ (fmt : Format) (bs : List ℕ) where
  pub raws_count : length (raws_of fmt bs) ≡ vectors_of bs
  unfolding raws_of offsets_of
  raws_count = length-raws fmt (2 ^ s_of bs) (count_of bs) (offsets_of bs) (body_of bs) ∙ length-numbers 4 (vectors_of bs) (drop 8 bs)

  pub raws_cut : Cut (2 ^ s_of bs) (count_of bs) (raws_of fmt bs)
  unfolding raws_of offsets_of ceil
  raws_cut = cut_raws fmt (2 ^ s_of bs) (count_of bs) (offsets_of bs) (body_of bs) (pow_pos (s_of bs)) (length-numbers 4 (vectors_of bs) (drop 8 bs))

  -- of any bytes, the values are as many as the header says
  pub values-count : length (values_of fmt bs) ≡ count_of bs
  unfolding values_of
  values-count = joined_count fmt (2 ^ s_of bs) (count_of bs) (raws_of fmt bs) raws_cut

-- ---- of the kind's width

top-word : (fmt : Format) → 2 * top fmt ≡ 2 ^ word_bits fmt
top-word binary32 = refl
top-word binary64 = refl

pub back-value : (fmt : Format) (p : Pair) (z : ℤ) → back fmt p z < 2 ^ word_bits fmt
unfolding back
back-value fmt p z =
    let x : Float = mul fmt (of_int fmt z) (power fmt p.factor) in
    rw (← top-word fmt) (to_bits-lt fmt (mul fmt x (neg_power fmt p.exponent)) (mul-fits fmt x (neg_power fmt p.exponent)))

abbrev Stored : Format → Option ℕ → Type 0
Stored fmt none = Unit
Stored fmt (some x) = x < 2 ^ word_bits fmt

stored-value : (fmt : Format) (ps xs : List ℕ) (i : ℕ) → Values fmt xs → Stored fmt (stored ps xs i)
unfolding stored
stored-value fmt [] xs i h = tt
stored-value fmt (p ∷ ps) [] i h = tt
stored-value fmt (p ∷ ps) (x ∷ xs) i h = go (eqb i p) (stored ps xs i) (stored-value fmt ps xs i h.1)
  where
    go : (b : Bool) (o : Option ℕ) → Stored fmt o → Stored fmt (cond b (some x) o)
    go true o k = h.0
    go false o k = k

marks-value : (fmt : Format) (ps xs : List ℕ) (i n : ℕ) → Values fmt xs → Each (Stored fmt) (marks ps xs i n)
unfolding marks
marks-value fmt ps xs i zero h = tt
marks-value fmt ps xs i (suc n) h = (stored-value fmt ps xs i h, marks-value fmt ps xs (suc i) n h)

zip_value : (fmt : Format) (p : Pair) (zs : List ℤ) (ms : List (Option ℕ)) → Each (Stored fmt) ms → Values fmt (zip_with (λ (z : ℤ) (m : Option ℕ). or_else (back fmt p z) m) zs ms)
unfolding zip_with
zip_value fmt p [] ms h = tt
zip_value fmt p (z ∷ zs) [] h = tt
zip_value fmt p (z ∷ zs) (none ∷ ms) h = (back-value fmt p z, zip_value fmt p zs ms h.1)
zip_value fmt p (z ∷ zs) (some x ∷ ms) h = (h.0, zip_value fmt p zs ms h.1)

pub decoded-values : (fmt : Format) (r : Raw) → Values fmt r.exceptions → Values fmt (decoded fmt r)
unfolding decoded marked
decoded-values fmt r h = zip_value fmt r.pair (wholes fmt r) (marked r) (marks-value fmt r.positions r.exceptions 0 r.count h)

pub joined_values : (fmt : Format) (rs : List Raw) → Each (λ (r : Raw). Values fmt r.exceptions) rs → Values fmt (join (map (decoded fmt) rs))
joined_values fmt [] h = tt
joined_values fmt (r ∷ rs) h =
    each_append (λ (v : ℕ). v < 2 ^ word_bits fmt) (decoded fmt r) (join (map (decoded fmt) rs)) (decoded-values fmt r h.0) (joined_values fmt rs h.1)

-- ---- the words' sums, read as signed: the whole numbers, where the signed range holds those

pub words_summed : (fmt : Format) (r : Raw) → r.frame < 2 ^ word_bits fmt → Each (Held fmt) (wholes fmt r)
    → map (λ (d : ℕ). to_z (word fmt) ((r.frame + d) % 2 ^ word_bits fmt)) (fields r) ≡ wholes fmt r
unfolding wholes
words_summed fmt r framed held = go (fields r) held
  where
    go : (ds : List ℕ) → Each (Held fmt) (map (λ (d : ℕ). to_z (word fmt) r.frame +ℤ pos d) ds)
        → map (λ (d : ℕ). to_z (word fmt) ((r.frame + d) % 2 ^ word_bits fmt)) ds ≡ map (λ (d : ℕ). to_z (word fmt) r.frame +ℤ pos d) ds
    go [] h = refl
    go (d ∷ ds) h = ap₂ (λ (z : ℤ) (zs : List ℤ). z ∷ zs) (sum_of_words (word fmt) r.frame d framed h.0) (go ds h.1)

-- ---- as code makes them: all are brought back, then the listed ones are put one by one

pub decoded-replaced : (fmt : Format) (r : Raw) → Rising r.count 0 r.positions → length r.positions ≡ length r.exceptions
    → decoded fmt r ≡ replaced r.positions r.exceptions (map (back fmt r.pair) (wholes fmt r))
unfolding decoded marked
decoded-replaced fmt r h e = marked-replaced (back fmt r.pair) (wholes fmt r) r.positions r.exceptions r.count (wholes-count fmt r) h e
