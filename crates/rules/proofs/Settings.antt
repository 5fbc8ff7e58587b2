-- The writer's settings: its rows 5, 6, 16, 9 and 10 mean exactly "outside the limits"; and pairs as bytes. Assumes nothing.
use mathlib.Core.Path.{◌≡◌, refl, sym, ap, ap₂, ◌∙◌}
use mathlib.Core.Bool.{◌||◌}
use Prim.Native.Nat.{ℕ, zero, suc, ◌+◌, ◌*◌, ◌≤◌, ◌<◌}
use native.Mathlib.Numerals.{add-one}
use native.Mathlib.Omega.{arith}
use mathlib.Core.List.{List, [], ◌∷◌}
use lib.ListN.{length, get_or, drop, length-drop}
use lib.Seq.{drop-cons}
use lib.Ieee.{Format}
use borrow.Author.Tests.{ltb-false, le-ltb}
use Rattle.digits.specs.Lists.{Each}
use Rattle.rules.specs.Kind.{min_s, max_s, max_values, max_exponent}
use Rattle.rules.specs.Decimal.{Pair}
use Rattle.rules.specs.Page.{vectors}
use Rattle.rules.specs.Verdict.{fine, verdict, the_page, in_vector, ◌below◌, ◌above◌, ◌isnt◌}
use Rattle.rules.specs.Write.{pairs_of, pair_bytes, Allowed, Inside, pairs_rows, settings_rows}
use Rattle.rules.proofs.Rows.{row_first, is, isnt_false, or_false}

-- ---- pairs as bytes

pub pairs_back : (ps : List Pair) → pairs_of (pair_bytes ps) ≡ ps
unfolding pairs_of pair_bytes
pairs_back [] = refl
pairs_back (p ∷ ps) = ap (λ (x : List Pair). p ∷ x) (pairs_back ps)

pub length-pair_bytes : (ps : List Pair) → length (pair_bytes ps) ≡ 2 * length ps
unfolding pair_bytes
length-pair_bytes [] = refl
length-pair_bytes (p ∷ ps) = omega (arith, length-pair_bytes ps)

-- an even count of bytes is that many pairs, and the bytes are theirs
pub length_pairs : (bs : List ℕ) (n : ℕ) → length bs ≡ 2 * n → length (pairs_of bs) ≡ n
unfolding pairs_of
length_pairs [] n e = omega (arith, e)
length_pairs (e ∷ []) n q = absurd (omega (arith, q))
length_pairs (e ∷ f ∷ bs) zero q = absurd (omega (arith, q))
length_pairs (e ∷ f ∷ bs) (suc n) q = ap suc (length_pairs bs n (omega (arith, q)))

pub bytes_back : (bs : List ℕ) (n : ℕ) → length bs ≡ 2 * n → pair_bytes (pairs_of bs) ≡ bs
unfolding pairs_of pair_bytes
bytes_back [] n e = refl
bytes_back (e ∷ []) n q = absurd (omega (arith, q))
bytes_back (e ∷ f ∷ bs) zero q = absurd (omega (arith, q))
bytes_back (e ∷ f ∷ bs) (suc n) q = ap (λ (x : List ℕ). e ∷ f ∷ x) (bytes_back bs n (omega (arith, q)))

-- the pair at byte j, and those behind it
pub pairs_next : (bs : List ℕ) (j : ℕ) → j + 1 < length bs → pairs_of (drop j bs) ≡ record { exponent = get_or bs j 0; factor = get_or bs (j + 1) 0 } ∷ pairs_of (drop (j + 2) bs)
unfolding pairs_of
pairs_next bs j h =
    let two : drop j bs ≡ get_or bs j 0 ∷ get_or bs (suc j) 0 ∷ drop (suc (suc j)) bs = drop-cons bs j 0 (omega arith) ∙ ap (λ (l : List ℕ). get_or bs j 0 ∷ l) (drop-cons bs (suc j) 0 (omega arith)) in
    let e : suc (suc j) ≡ j + 2 = omega arith in
    ap pairs_of two ∙ ap₂ (λ (x y : ℕ). record { exponent = get_or bs j 0; factor = get_or bs x 0 } ∷ pairs_of (drop y bs)) (sym (add-one j)) e

-- less than two bytes are no pair
pub pairs_none : (bs : List ℕ) (j : ℕ) → length bs ≤ j + 1 → pairs_of (drop j bs) ≡ []
unfolding pairs_of
pairs_none bs j h = short (drop j bs) (rw length-drop (omega arith))
  where
    short : (l : List ℕ) → length l ≤ 1 → pairs_of l ≡ []
    short [] k = refl
    short (x ∷ []) k = refl
    short (x ∷ y ∷ l) k = absurd (omega arith)

-- ---- the rows

pub pairs_pass : (fmt : Format) (v : ℕ) (ps : List Pair) → Each (Allowed fmt) ps → verdict (pairs_rows fmt v ps) ≡ fine
unfolding pairs_rows
pairs_pass fmt v [] a = refl
pairs_pass fmt v (p ∷ ps) a =
    rw (le-ltb (max_exponent fmt) p.exponent a.0.exponent, le-ltb p.exponent p.factor a.0.factor) (pairs_pass fmt (suc v) ps a.1)

pub pairs_fine : (fmt : Format) (v : ℕ) (ps : List Pair) → verdict (pairs_rows fmt v ps) ≡ fine → Each (Allowed fmt) ps
unfolding pairs_rows
pairs_fine fmt v [] e = tt
pairs_fine fmt v (p ∷ ps) e =
    let a = row_first 9 (in_vector v) (p.exponent above max_exponent fmt) _ e in
    let b = row_first 10 (in_vector v) (p.factor above p.exponent) _ a.1 in
    (record { exponent = ltb-false (max_exponent fmt) p.exponent a.0; factor = ltb-false p.exponent p.factor b.0 }, pairs_fine fmt (suc v) ps b.1)

module _ (fmt : Format) (s : ℕ) (pairs vs : List ℕ) where
  abbrev n : ℕ
  n = length vs

  -- two bytes for each vector, and inside the limits
  pub settings-pass : length pairs ≡ 2 * vectors s n → Inside fmt s (pairs_of pairs) n → verdict (settings_rows fmt s pairs vs) ≡ fine
  unfolding settings_rows
  settings-pass e i =
      rw (le-ltb s min_s i.low, le-ltb max_s s i.high, le-ltb max_values n i.many, is (length pairs) (2 * vectors s n) e) (pairs_pass fmt 0 (pairs_of pairs) i.allowed)

  pub settings-fine : verdict (settings_rows fmt s pairs vs) ≡ fine → (length pairs ≡ 2 * vectors s n) × Inside fmt s (pairs_of pairs) n
  unfolding settings_rows
  settings-fine ok =
      let a5 = row_first 5 the_page (s below min_s || s above max_s) _ ok in
      let a6 = row_first 6 the_page (n above max_values) _ a5.1 in
      let a16 = row_first 16 the_page (length pairs isnt 2 * vectors s n) _ a6.1 in
      let t5 = or_false (s below min_s) (s above max_s) a5.0 in
      let e : length pairs ≡ 2 * vectors s n = isnt_false (length pairs) (2 * vectors s n) a16.0 in (
        e,
        record {
          low = ltb-false s min_s t5.0;
          high = ltb-false max_s s t5.1;
          many = ltb-false max_values n a6.0;
          one_each = length_pairs pairs (vectors s n) e;
          allowed = pairs_fine fmt 0 (pairs_of pairs) a16.1;
        },
      )
