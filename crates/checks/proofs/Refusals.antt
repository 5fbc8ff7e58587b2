-- Which row refuses: for each group of rows, the first that does once those before it have passed; and one group of rows after another.
-- Assumes nothing.
use mathlib.Core.Path.{◌≡◌, sym, ap, ◌∙◌}
use mathlib.Core.List.{List, ◌∷◌}
use mathlib.Core.Bool.{◌||◌}
use Prim.Native.Nat.{ℕ, suc, ◌+◌, ◌*◌, ◌≤◌, ◌<◌}
use lib.ListN.{length}
use lib.Ieee.{Format}
use borrow.Author.Tests.{lt-ltb, le-ltb, eq-eqb, ne_eqb}
use Rattle.std.specs.Prelude.{Result, Ok, Err}
use Rattle.std.specs.Result.{result_and, IsErrAnd}
use Rattle.std.proofs.lemmas.Result.{err_from_is_err_and}
use Rattle.rules.specs.Kind.{min_s, max_s, max_values, max_exponent, word_bits, meta_bytes}
use Rattle.rules.specs.Page.{version_of, mode_of, encoding_of, s_of, count_of, vectors_of, vector_size, meta_at}
use Rattle.rules.specs.Page as page
use Rattle.rules.specs.Verdict.{Rows, row, ◌then◌, Verdict, fine, refuse, first, verdict, settle, answer, after, the_page, in_vector, ◌above◌, ◌below◌, ◌isnt◌}
use Rattle.rules.specs.Read.{head_rows, offsets_row, meta_rows, payload_rows, Cursor, here, vector_rows}
use Rattle.rules.specs.Coded.{as_pair}
use Rattle.rules.specs.Decimal as rule
use Rattle.rules.specs.Write.{pairs_rows}
use Rattle.checks.specs.declared.check.Refusal.{Refusal}
use Rattle.rules.specs.declared.Pair.{Pair}
use Rattle.rules.proofs.Rows.{first-first}
use Rattle.checks.specs.Forms.{answered, as_verdict, as_meta, pair_rows}
use Rattle.checks.specs.declared.vector.Meta.{Meta}

-- ---- one check after another

-- the first of two that refuses
pub both-are : (s r q : Result Unit Refusal) {x y : Verdict} → s ≡ result_and r q → as_verdict r ≡ x → as_verdict q ≡ y → as_verdict s ≡ first x y
both-are s (Ok u) q {y = y} h e f = ap as_verdict h ∙ f ∙ ap (λ (z : Verdict). first z y) e
both-are s (Err a) q {y = y} h e f = ap as_verdict h ∙ ap (λ (z : Verdict). first z y) e

-- a check that passes, or that refuses, and `?` hands its refusal on
module _ (r : Result Unit Refusal) {x : Verdict} (e : as_verdict r ≡ x) where
  pub check_fine : {u : Unit} → r ≡ Ok u → x ≡ fine
  check_fine f = sym e ∙ ap as_verdict f

  -- the first of two groups refuses; or it passes, and the second decides
  pub stops : (s : Result Unit Refusal) (a : Refusal) (y : Verdict) → r ≡ Err a → IsErrAnd s (λ b. b ≡ a) → as_verdict s ≡ first x y
  stops s a y f h =
      let p = err_from_is_err_and s h in
      rw (p.1, p.2) (ap (λ (z : Verdict). first z y) (ap as_verdict (sym f) ∙ e))

  pub goes_on : {u : Unit} (q : Result Unit Refusal) (y : Verdict) → r ≡ Ok u → as_verdict q ≡ y → as_verdict q ≡ first x y
  goes_on q y f g = g ∙ ap (λ (z : Verdict). first z y) (sym (check_fine f))

  pub continues : {u : Unit} (y z : Verdict) → r ≡ Ok u → z ≡ first x y → z ≡ y
  continues y z f h = h ∙ ap (λ (k : Verdict). first k y) (check_fine f)

-- what a call answers and leaves where its rows refuse
module _ (a : Refusal) (v : Verdict) (xs : List ℕ) (e : as_verdict (Err a) ≡ v) where
  pub refused-answer : answered (Err a) ≡ answer (settle v xs)
  refused-answer = ap (λ (x : Verdict). answer (settle x xs)) e

  pub refused-after : (out : List ℕ) → out ≡ after (settle v xs) out
  refused-after out = ap (λ (x : Verdict). after (settle x xs) out) e

-- ---- rows 1 to 6, and 7 for the offsets

module _ (bs : List ℕ) where
  pub no1 : length bs < 8 → refuse 1 the_page ≡ verdict (head_rows bs)
  unfolding head_rows
  no1 h = rw (lt-ltb (length bs) 8 h)

  module _ (p1 : 8 ≤ length bs) where
    pub no2 : (version_of bs ≡ 1 → ⊥) → refuse 2 the_page ≡ verdict (head_rows bs)
    unfolding head_rows
    no2 h = rw (le-ltb (length bs) 8 p1, ne_eqb (version_of bs) 1 h)

    module _ (p2 : version_of bs ≡ 1) where
      pub no3 : (mode_of bs ≡ 0 → ⊥) → refuse 3 the_page ≡ verdict (head_rows bs)
      unfolding head_rows
      no3 h = rw (le-ltb (length bs) 8 p1, eq-eqb (version_of bs) 1 p2, ne_eqb (mode_of bs) 0 h)

      module _ (p3 : mode_of bs ≡ 0) where
        pub no4 : (encoding_of bs ≡ 0 → ⊥) → refuse 4 the_page ≡ verdict (head_rows bs)
        unfolding head_rows
        no4 h = rw (le-ltb (length bs) 8 p1, eq-eqb (version_of bs) 1 p2, eq-eqb (mode_of bs) 0 p3, ne_eqb (encoding_of bs) 0 h)

        module _ (p4 : encoding_of bs ≡ 0) where
          from5 : verdict (head_rows bs) ≡ verdict (row 5 the_page (s_of bs below min_s || s_of bs above max_s) then row 6 the_page (count_of bs above max_values))
          unfolding head_rows
          from5 = rw (le-ltb (length bs) 8 p1, eq-eqb (version_of bs) 1 p2, eq-eqb (mode_of bs) 0 p3, eq-eqb (encoding_of bs) 0 p4)

          pub no5_low : s_of bs < min_s → refuse 5 the_page ≡ verdict (head_rows bs)
          no5_low h = rw (from5, lt-ltb (s_of bs) min_s h)

          pub no5_high : min_s ≤ s_of bs → max_s < s_of bs → refuse 5 the_page ≡ verdict (head_rows bs)
          no5_high l h = rw (from5, le-ltb (s_of bs) min_s l, lt-ltb max_s (s_of bs) h)

          module _ (low : min_s ≤ s_of bs) (high : s_of bs ≤ max_s) where
            pub no6 : max_values < count_of bs → refuse 6 the_page ≡ verdict (head_rows bs)
            no6 h = rw (from5, le-ltb (s_of bs) min_s low, le-ltb max_s (s_of bs) high, lt-ltb max_values (count_of bs) h)

            pub head_passes : count_of bs ≤ max_values → fine ≡ verdict (head_rows bs)
            head_passes h = rw (from5, le-ltb (s_of bs) min_s low, le-ltb max_s (s_of bs) high, le-ltb max_values (count_of bs) h)

  pub no7_offsets : length bs < 8 + 4 * vectors_of bs → refuse 7 the_page ≡ verdict (offsets_row bs)
  unfolding offsets_row
  no7_offsets h = rw (lt-ltb (length bs) (8 + 4 * vectors_of bs) h)

  pub offsets-pass : 8 + 4 * vectors_of bs ≤ length bs → fine ≡ verdict (offsets_row bs)
  unfolding offsets_row
  offsets-pass h = rw (le-ltb (length bs) (8 + 4 * vectors_of bs) h)

-- ---- rows 9 and 10

module _ (fmt : Format) (v : ℕ) (p : Pair) where
  pub no9 : max_exponent fmt < p.exponent.0 → refuse 9 (in_vector v) ≡ verdict (pair_rows fmt v p)
  no9 h = rw (lt-ltb (max_exponent fmt) p.exponent.0 h)

  pub no10 : p.exponent.0 ≤ max_exponent fmt → p.exponent.0 < p.factor.0 → refuse 10 (in_vector v) ≡ verdict (pair_rows fmt v p)
  no10 h k = rw (le-ltb (max_exponent fmt) p.exponent.0 h, lt-ltb p.exponent.0 p.factor.0 k)

  pub pair-passes : p.exponent.0 ≤ max_exponent fmt → p.factor.0 ≤ p.exponent.0 → fine ≡ verdict (pair_rows fmt v p)
  pair-passes h k = rw (le-ltb (max_exponent fmt) p.exponent.0 h, le-ltb p.exponent.0 p.factor.0 k)

-- the writer's: those of the first pair, then those of the others
pub pairs_turn : (fmt : Format) (v : ℕ) (p : Pair) (ps : List rule.Pair)
    → verdict (pairs_rows fmt v (as_pair p ∷ ps)) ≡ verdict (pair_rows fmt v p then pairs_rows fmt (suc v) ps)
unfolding pairs_rows
pairs_turn fmt v p ps =
    sym (first-first (verdict (row 9 (in_vector v) (p.exponent.0 above max_exponent fmt))) (verdict (row 10 (in_vector v) (p.factor.0 above p.exponent.0))) (verdict (pairs_rows fmt (suc v) ps)))

-- ---- 7 for metadata, 9 to 12, 7 for data: k is the metadata as the code holds it

abbrev behind-pair : Format → ℕ → ℕ → Meta → List ℕ → Rows
behind-pair fmt v n k bs =
    row 11 (in_vector v) (k.listed above n)
    then row 12 (in_vector v) (k.width above word_bits fmt)
    then row 7 (in_vector v) (length bs below vector_size fmt n (as_meta k))

module _ (fmt : Format) (v n : ℕ) (bs : List ℕ) where
  pub no7_meta : length bs < meta_bytes fmt → refuse 7 (in_vector v) ≡ verdict (meta_rows fmt v n (meta_at fmt bs) bs)
  unfolding meta_rows
  no7_meta h = rw (lt-ltb (length bs) (meta_bytes fmt) h)

  module _ (k : Meta) (e : as_meta k ≡ meta_at fmt bs) (p7 : meta_bytes fmt ≤ length bs) where
    pub from9 : verdict (meta_rows fmt v n (meta_at fmt bs) bs) ≡ first (verdict (pair_rows fmt v k.pair)) (verdict (behind-pair fmt v n k bs))
    unfolding meta_rows
    from9 =
        ap (λ (m : page.Meta). verdict (meta_rows fmt v n m bs)) (sym e)
        ∙ rw (le-ltb (length bs) (meta_bytes fmt) p7) (sym (first-first (verdict (row 9 (in_vector v) (k.pair.exponent.0 above max_exponent fmt))) (verdict (row 10 (in_vector v) (k.pair.factor.0 above k.pair.exponent.0))) (verdict (behind-pair fmt v n k bs))))

    module _ (p9 : verdict (pair_rows fmt v k.pair) ≡ fine) where
      from11 : verdict (meta_rows fmt v n (meta_at fmt bs) bs) ≡ verdict (behind-pair fmt v n k bs)
      from11 = from9 ∙ ap (λ (z : Verdict). first z (verdict (behind-pair fmt v n k bs))) p9

      pub no11 : n < k.listed → refuse 11 (in_vector v) ≡ verdict (meta_rows fmt v n (meta_at fmt bs) bs)
      no11 h = rw (from11, lt-ltb n k.listed h)

      module _ (p11 : k.listed ≤ n) where
        pub no12 : word_bits fmt < k.width → refuse 12 (in_vector v) ≡ verdict (meta_rows fmt v n (meta_at fmt bs) bs)
        no12 h = rw (from11, le-ltb n k.listed p11, lt-ltb (word_bits fmt) k.width h)

        module _ (p12 : k.width ≤ word_bits fmt) where
          pub no7_data : length bs < vector_size fmt n (as_meta k) → refuse 7 (in_vector v) ≡ verdict (meta_rows fmt v n (meta_at fmt bs) bs)
          no7_data h = rw (from11, le-ltb n k.listed p11, le-ltb (word_bits fmt) k.width p12, lt-ltb (length bs) (vector_size fmt n (as_meta k)) h)

          pub meta_passes : vector_size fmt n (as_meta k) ≤ length bs → fine ≡ verdict (meta_rows fmt v n (meta_at fmt bs) bs)
          meta_passes h = rw (from11, le-ltb n k.listed p11, le-ltb (word_bits fmt) k.width p12, le-ltb (length bs) (vector_size fmt n (as_meta k)) h)

-- ---- 8, then the vector's other rows: n is its count of values

pub no8 : (v o laid : ℕ) → (o ≡ laid → ⊥) → refuse 8 (in_vector v) ≡ verdict (row 8 (in_vector v) (o isnt laid))
no8 v o laid h = rw (ne_eqb o laid h)

pub offset-passes : (v o laid : ℕ) → o ≡ laid → fine ≡ verdict (row 8 (in_vector v) (o isnt laid))
offset-passes v o laid h = rw (eq-eqb o laid h)

pub vector-is : (fmt : Format) (size : ℕ) (c : Cursor) (o n : ℕ) (m : page.Meta) (bs : List ℕ) → n ≡ here size c
    → first (first (verdict (row 8 (in_vector c.vector) (o isnt c.offset))) (verdict (meta_rows fmt c.vector n m bs))) (verdict (payload_rows fmt c.vector n m bs)) ≡ verdict (vector_rows fmt size c o m bs)
unfolding vector_rows
vector-is fmt size c o n m bs e =
    first-first (verdict (row 8 (in_vector c.vector) (o isnt c.offset))) (verdict (meta_rows fmt c.vector n m bs)) (verdict (payload_rows fmt c.vector n m bs))
    ∙ ap (λ (x : ℕ). first (verdict (row 8 (in_vector c.vector) (o isnt c.offset))) (first (verdict (meta_rows fmt c.vector x m bs)) (verdict (payload_rows fmt c.vector x m bs)))) e
