-- What became of reading with row 17 (docs/OLDER-PAGES.md): to any bytes the reader and the reading of one vector answer and give what they
-- did when sums wrapped, or they refuse by 17. Assumes nothing.
use Prim.Native.Nat.{ℕ, ◌+◌, ◌^◌, ◌<◌}
use mathlib.Core.Path.{◌≡◌, refl, sym, ap, ap₂, ◌∙◌}
use mathlib.Core.Logic.{◌⊎◌, inl, inr}
use mathlib.Core.Bool.{Bool, true, false, cond}
use mathlib.Core.List.{List, [], ◌∷◌, ◌++◌, map, zip_with}
use mathlib.Core.Option.{Option}
use lib.ListN.{drop}
use lib.Dec.{eqb}
use lib.IntN.{ℤ}
use lib.Ieee.{Format, binary32}
use borrow.Author.Tests.{eqb-true}
use Rattle.digits.specs.Lists.{Each, join}
use Rattle.rules.specs.Kind.{word_bits, meta_bytes, Bytes}
use Rattle.rules.specs.Decimal.{back}
use Rattle.rules.specs.Vector.{Raw, or_else, wholes, marked, decoded}
use Rattle.rules.specs.Page.{meta_at, raw_from, raws_of}
use Rattle.rules.specs.Verdict.{Point, Rows, no_rows, row, ◌then◌, Verdict, fine, refuse, first, verdict, in_vector_at, done, refused, call, settle}
use Rattle.rules.specs.Read.{read_rows, values_of, read_of}
use Rattle.rules.specs.ReadVector.{values_in, span_of, part_from, read_vector_rows, vector_values, read_vector_of}
use Rattle.rules.specs.Recordings.{hex, all_rules}
use Rattle.rules.specs.Wrapped.{all_wrapped, wrapped_wholes, wrapped_decoded, without, wrapped_read_of, wrapped_read_vector_of}
use Rattle.rules.proofs.Tries.{Held}
use Rattle.rules.proofs.Pages.{Fit}
use Rattle.rules.proofs.Reading.{Sound, read_fine}
use Rattle.rules.proofs.ReadingVector.{chosen-fine}
use Rattle.rules.proofs.Encoded.{power-word}
use Rattle.rules.proofs.Decoded.{words_summed}
use Rattle.theorems.proofs.Accepted.{bytes_drop, vector-fit, raws_fit, raws_sound}

-- ---- rows less those of one number

-- they come to the same, or a row of that number is the first
module _ (a : ℕ) where
  abbrev Less : Verdict → Verdict → Type 0
  Less v w = (v ≡ w) ⊎ ((p : Point) × (v ≡ refuse a p))

  one_less : (b : ℕ) (p : Point) (c t : Bool) → eqb a b ≡ t → Less (verdict (row b p c)) (verdict (cond t no_rows (row b p c)))
  one_less b p c false e = inl refl
  one_less b p false true e = inl refl
  one_less b p true true e = inr (p, ap (λ (x : ℕ). refuse x p) (sym (eqb-true a b e)))

  both_less : (v v' w w' : Verdict) → Less v v' → Less w w' → Less (first v w) (first v' w')
  both_less v v' w w' (inr (p, e)) l = inr (p, ap (λ (x : Verdict). first x w) e)
  both_less v v' w w' (inl e) (inl f) = inl (ap₂ first e f)
  both_less fine v' w w' (inl e) (inr (p, f)) = inr (p, f)
  both_less (refuse b q) v' w w' (inl e) (inr f) = inl (ap (λ (x : Verdict). first x w') e)

  less : (rows : Rows) → Less (verdict rows) (verdict (without a rows))
  less no_rows = inl refl
  less (row b p c) = one_less b p c (eqb a b) refl
  less (x then y) = both_less (verdict x) (verdict (without a x)) (verdict y) (verdict (without a y)) (less x) (less y)

-- so a call that gives xs, where it gave ys, is what it was or refuses by 17, if xs are ys where all its rows pass
kept : (rows : Rows) (xs ys : List ℕ) → (verdict rows ≡ fine → xs ≡ ys) → (call rows xs ≡ call (without 17 rows) ys) ⊎ ((p : Point) × (call rows xs ≡ refused 17 p))
kept rows xs ys same = go (verdict rows) refl (less 17 rows)
  where
    go : (v : Verdict) → verdict rows ≡ v → Less 17 (verdict rows) (verdict (without 17 rows)) → (call rows xs ≡ call (without 17 rows) ys) ⊎ ((p : Point) × (call rows xs ≡ refused 17 p))
    go v is (inr (p, e)) = inr (p, ap (λ (x : Verdict). settle x xs) e)
    go fine is (inl e) = inl (ap (λ (l : List ℕ). settle (verdict rows) l) (same is) ∙ ap (λ (x : Verdict). settle x ys) e)
    go (refuse b q) is (inl e) = inl (ap (λ (x : Verdict). settle x xs) is ∙ sym (ap (λ (x : Verdict). settle x ys) (sym e ∙ is)))

-- ---- values

vector-same : (fmt : Format) (r : Raw) → r.frame < 2 ^ word_bits fmt → Each (Held fmt) (wholes fmt r) → decoded fmt r ≡ wrapped_decoded fmt r
unfolding decoded wrapped_decoded wrapped_wholes
vector-same fmt r framed held = ap (λ (zs : List ℤ). zip_with (λ (z : ℤ) (m : Option ℕ). or_else (back fmt r.pair z) m) zs (marked r)) (sym (words_summed fmt r framed held))

vectors-same : (fmt : Format) (rs : List Raw) → Each (Fit fmt) rs → Each (Sound fmt) rs → join (map (decoded fmt) rs) ≡ join (map (wrapped_decoded fmt) rs)
vectors-same fmt [] f s = refl
vectors-same fmt (r ∷ rs) f s =
    ap₂ (λ (x y : List ℕ). x ++ y) (vector-same fmt r (rw (power-word fmt) at f.0.frame) s.0.held) (vectors-same fmt rs f.1 s.1)

-- ---- the two calls

pub reading_is_kept : (fmt : Format) (room : ℕ) (bs : List ℕ) → Bytes bs → (read_of fmt room bs ≡ wrapped_read_of fmt room bs) ⊎ ((p : Point) × (read_of fmt room bs ≡ refused 17 p))
unfolding read_of wrapped_read_of values_of
reading_is_kept fmt room bs h =
    let rs : List Raw = raws_of fmt bs in
    kept (read_rows fmt room bs) (join (map (decoded fmt) rs)) (join (map (wrapped_decoded fmt) rs)) (λ ok. let page = (read_fine fmt room bs ok).0 in vectors-same fmt rs (raws_fit fmt bs h page) (raws_sound fmt bs h page))

pub vector_reading_is_kept : (fmt : Format) (v room : ℕ) (bs : List ℕ) → Bytes bs
    → (read_vector_of fmt v room bs ≡ wrapped_read_vector_of fmt v room bs) ⊎ ((p : Point) × (read_vector_of fmt v room bs ≡ refused 17 p))
unfolding read_vector_of wrapped_read_vector_of vector_values raw_from
vector_reading_is_kept fmt v room bs h =
    let part = part_from bs (span_of bs v) in
    let r : Raw = raw_from fmt (values_in bs v) (meta_at fmt part) (drop (meta_bytes fmt) part) in
    kept (read_vector_rows fmt v room bs) (decoded fmt r) (wrapped_decoded fmt r)
    (λ ok.
    let passed = (chosen-fine fmt v room bs ok).alone.passes in
    let fit = vector-fit fmt (values_in bs v) part (bytes_drop (8 + (span_of bs v).from) bs h) passed in
    vector-same fmt r (rw (power-word fmt) at fit.frame) passed.held)

-- ---- the first page that docs/OLDER-PAGES.md shows of this: it gave a price and its negative, and is refused now

abbrev negative_page : List ℕ
negative_page = hex 4 0x01_00_00_03 ++ (hex 4 0x02_00_00_00 ++ (hex 4 0x04_00_00_00 ++ (hex 4 0x02_00_00_00 ++ hex 6 0xFF_FF_FF_7F_01_02)))

pub the_page_shown : (wrapped_read_of binary32 2 negative_page ≡ done (0x4BA3D70A ∷ 0xCBA3D70A ∷ [])) × (read_of binary32 2 negative_page ≡ refused 17 (in_vector_at 0 1))
unfolding all_rules all_wrapped
the_page_shown = (refl, refl)
