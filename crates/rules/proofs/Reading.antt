-- The reader's rows, both ways: what passes them, and what it shows that they pass. Assumes nothing.
use mathlib.Core.Path.{◌≡◌, refl, ap, ◌∙◌}
use mathlib.Core.Bool.{not, ◌||◌}
use Prim.Native.Nat.{ℕ, suc, ◌+◌, ◌-◌, ◌*◌, ◌^◌, ◌<◌, ◌≤◌}
use native.Mathlib.Omega.{arith}
use mathlib.Core.List.{List, [], ◌∷◌, ◌++◌}
use lib.ListN.{length, drop, length-append}
use lib.IntN.{ℤ}
use lib.Signed.{mag}
use lib.Ieee.{Format}
use mir.Val.{hbits}
use borrow.Author.Tests.{ltb-true, ltb-false, lt-ltb, le-ltb, not-false}
use Rattle.digits.specs.Lists.{Each}
use Rattle.rules.specs.Kind.{min_s, max_s, max_values, meta_bytes, max_exponent, word, word_bits}
use Rattle.rules.specs.Vector.{Raw, wholes}
use Rattle.rules.specs.Page.{Meta, meta_of, vector_bytes, vector_size, size_of, starts, bodies, header, layout, vectors, raw_from, version_of, mode_of, encoding_of, s_of, count_of, vectors_of, offsets_of, body_of}
use Rattle.rules.specs.Verdict.{fine, verdict, row, the_page, in_vector, in_vector_at, ◌below◌, ◌above◌, ◌isnt◌}
use Rattle.rules.specs.Read.{head_rows, offsets_row, meta_rows, Listed, positions_rows, out_of_range, sums_rows, payload_rows, Cursor, here, start, vector_rows, vectors_rows, page_rows, read_rows}
use Rattle.rules.proofs.Rows.{row-passes, row_fine, row_first, first_passes, first_fine, is, isnt_false, neither, or_false}
use Rattle.rules.proofs.Tries.{Held}
use Rattle.rules.proofs.Pages.{Fit, Cut, length-vector, length-layout, front-meta, front-raw, front-drop, s_back, count-back, offsets-back, body_back}

-- ---- positions

-- each is at least `low` and above the one before, and below n
abbrev pub Rising : ℕ → ℕ → List ℕ → Type 0
Rising n low [] = Unit
Rising n low (p ∷ ps) = (low ≤ p) × (p < n) × Rising n (suc p) ps

pub positions-pass : (v n : ℕ) (k : Listed) (ps : List ℕ) → Rising n k.low ps → verdict (positions_rows v n k ps) ≡ fine
unfolding positions_rows
positions-pass v n k [] h = refl
positions-pass v n k (p ∷ ps) h =
    first_passes (verdict (row 13 (in_vector_at v k.index) (not (p below n) || p below k.low))) _
    (row-passes 13 (in_vector_at v k.index) (not (p below n) || p below k.low) (neither (not (p below n)) (p below k.low) (ap not (lt-ltb p n h.1)) (le-ltb p k.low h.0)))
    (positions-pass v n (record { index = suc k.index; low = suc p }) ps h.2)

pub positions-fine : (v n : ℕ) (k : Listed) (ps : List ℕ) → verdict (positions_rows v n k ps) ≡ fine → Rising n k.low ps
unfolding positions_rows
positions-fine v n k [] e = tt
positions-fine v n k (p ∷ ps) e =
    let c = row_first 13 (in_vector_at v k.index) (not (p below n) || p below k.low) _ e in
    let t = or_false (not (p below n)) (p below k.low) c.0 in
    (ltb-false p k.low t.1, ltb-true p n (not-false (p below n) t.0), positions-fine v n (record { index = suc k.index; low = suc p }) ps c.1)

-- ---- sums

pub sums-pass : (fmt : Format) (v i : ℕ) (zs : List ℤ) → Each (Held fmt) zs → verdict (sums_rows fmt v i zs) ≡ fine
unfolding sums_rows
sums-pass fmt v i [] h = refl
sums-pass fmt v i (z ∷ zs) h =
    first_passes (verdict (row 17 (in_vector_at v i) (out_of_range fmt z))) _
    (row-passes 17 (in_vector_at v i) (out_of_range fmt z) (ap not (lt-ltb (mag z) (2 ^ hbits (word fmt)) h.0))) (sums-pass fmt v (suc i) zs h.1)

pub sums-fine : (fmt : Format) (v i : ℕ) (zs : List ℤ) → verdict (sums_rows fmt v i zs) ≡ fine → Each (Held fmt) zs
unfolding sums_rows
sums-fine fmt v i [] e = tt
sums-fine fmt v i (z ∷ zs) e =
    let c = row_first 17 (in_vector_at v i) (out_of_range fmt z) _ e in
    (ltb-true (mag z) (2 ^ hbits (word fmt)) (not-false (mag z below 2 ^ hbits (word fmt)) c.0), sums-fine fmt v (suc i) zs c.1)

-- ---- one vector

-- what the reader asks of a vector
pub record Sound (fmt : Format) (r : Raw) : Type 0 where
  pub exponent : r.pair.exponent ≤ max_exponent fmt
  pub factor : r.pair.factor ≤ r.pair.exponent
  pub few : length r.positions ≤ r.count
  pub width : r.width ≤ word_bits fmt
  pub rising : Rising r.count 0 r.positions
  pub held : Each (Held fmt) (wholes fmt r)

-- a vector that was laid out passes
module _ (fmt : Format) (v : ℕ) (r : Raw) (rest : List ℕ) (f : Fit fmt r) (s : Sound fmt r) where
  long : length (vector_bytes fmt r ++ rest) ≡ size_of fmt r + length rest
  long = length-append (vector_bytes fmt r) rest ∙ ap (λ (x : ℕ). x + length rest) (length-vector fmt r f)

  pub meta_passes : verdict (meta_rows fmt v r.count (meta_of r) (vector_bytes fmt r ++ rest)) ≡ fine
  unfolding meta_rows
  meta_passes =
      let l = long in
      let bs = vector_bytes fmt r ++ rest in
      rw (
        le-ltb (length bs) (meta_bytes fmt) (omega arith),
        le-ltb (max_exponent fmt) r.pair.exponent s.exponent,
        le-ltb r.pair.exponent r.pair.factor s.factor,
        le-ltb r.count (length r.positions) s.few,
        le-ltb (word_bits fmt) r.width s.width,
        le-ltb (length bs) (size_of fmt r) (omega arith),
      )

  pub payload-passes : verdict (payload_rows fmt v r.count (meta_of r) (vector_bytes fmt r ++ rest)) ≡ fine
  unfolding payload_rows
  payload-passes =
      rw (front-raw fmt r rest f)
      (first_passes (verdict (positions_rows v r.count (record { index = 0; low = 0 }) r.positions)) _
      (positions-pass v r.count (record { index = 0; low = 0 }) r.positions s.rising) (sums-pass fmt v 0 (wholes fmt r) s.held))

-- what it shows that a vector's rows pass: the one door from "fine" to facts, a field a row. First the rows before 13
pub record MetaPassed (fmt : Format) (n : ℕ) (m : Meta) (bs : List ℕ) : Type 0 where
  pub room : meta_bytes fmt ≤ length bs
  pub exponent : m.pair.exponent ≤ max_exponent fmt
  pub factor : m.pair.factor ≤ m.pair.exponent
  pub few : m.listed ≤ n
  pub narrow : m.width ≤ word_bits fmt
  pub whole : vector_size fmt n m ≤ length bs

pub meta_fine : (fmt : Format) (v n : ℕ) (m : Meta) (bs : List ℕ) → verdict (meta_rows fmt v n m bs) ≡ fine → MetaPassed fmt n m bs
unfolding meta_rows
meta_fine fmt v n m bs ok =
    let a7 = row_first 7 (in_vector v) (length bs below meta_bytes fmt) _ ok in
    let a9 = row_first 9 (in_vector v) (m.pair.exponent above max_exponent fmt) _ a7.1 in
    let a10 = row_first 10 (in_vector v) (m.pair.factor above m.pair.exponent) _ a9.1 in
    let a11 = row_first 11 (in_vector v) (m.listed above n) _ a10.1 in
    let a12 = row_first 12 (in_vector v) (m.width above word_bits fmt) _ a11.1 in
    record {
      room = ltb-false (length bs) (meta_bytes fmt) a7.0;
      exponent = ltb-false (max_exponent fmt) m.pair.exponent a9.0;
      factor = ltb-false m.pair.exponent m.pair.factor a10.0;
      few = ltb-false n m.listed a11.0;
      narrow = ltb-false (word_bits fmt) m.width a12.0;
      whole = ltb-false (length bs) (vector_size fmt n m) (row_fine 7 (in_vector v) (length bs below vector_size fmt n m) a12.1);
    }

pub record Passed (fmt : Format) (n : ℕ) (m : Meta) (bs : List ℕ) : Type 0 where
  pub room : meta_bytes fmt ≤ length bs
  pub exponent : m.pair.exponent ≤ max_exponent fmt
  pub factor : m.pair.factor ≤ m.pair.exponent
  pub few : m.listed ≤ n
  pub narrow : m.width ≤ word_bits fmt
  pub whole : vector_size fmt n m ≤ length bs
  pub rising : Rising n 0 (raw_from fmt n m (drop (meta_bytes fmt) bs)).positions
  pub held : Each (Held fmt) (wholes fmt (raw_from fmt n m (drop (meta_bytes fmt) bs)))

pub passed : (fmt : Format) (v n : ℕ) (m : Meta) (bs : List ℕ) → verdict (meta_rows fmt v n m bs) ≡ fine → verdict (payload_rows fmt v n m bs) ≡ fine → Passed fmt n m bs
unfolding payload_rows
passed fmt v n m bs ok filled =
    let p = meta_fine fmt v n m bs ok in
    let r = raw_from fmt n m (drop (meta_bytes fmt) bs) in
    let a = first_fine (verdict (positions_rows v n (record { index = 0; low = 0 }) r.positions)) _ filled in
    record {
      room = p.room;
      exponent = p.exponent;
      factor = p.factor;
      few = p.few;
      narrow = p.narrow;
      whole = p.whole;
      rising = positions-fine v n (record { index = 0; low = 0 }) r.positions a.0;
      held = sums-fine fmt v 0 (wholes fmt r) a.1;
    }

pub vector-fine : (fmt : Format) (size : ℕ) (c : Cursor) (o : ℕ) (m : Meta) (bs : List ℕ) → verdict (vector_rows fmt size c o m bs) ≡ fine → (o ≡ c.offset) × Passed fmt (here size c) m bs
unfolding vector_rows
vector-fine fmt size c o m bs ok =
    let a = row_first 8 (in_vector c.vector) (o isnt c.offset) _ ok in
    let b = first_fine (verdict (meta_rows fmt c.vector (here size c) m bs)) _ a.1 in
    (isnt_false o c.offset a.0, passed fmt c.vector (here size c) m bs b.0 b.1)

-- ---- all vectors

pub vectors-pass : (fmt : Format) (size : ℕ) (c : Cursor) (rs : List Raw) → Cut size c.left rs → Each (Fit fmt) rs → Each (Sound fmt) rs
    → verdict (vectors_rows fmt size c (starts fmt c.offset rs) (bodies fmt rs)) ≡ fine
unfolding vectors_rows vector_rows starts bodies
vectors-pass fmt size c [] k f s = refl
vectors-pass fmt size c (r ∷ rs) k f s =
    rw (
      front-meta fmt r (bodies fmt rs) f.0,
      ← k.0,
      is c.offset c.offset refl,
      meta_passes fmt c.vector r (bodies fmt rs) f.0 s.0,
      payload-passes fmt c.vector r (bodies fmt rs) f.0 s.0,
      front-drop fmt r (bodies fmt rs) f.0,
    )
    (vectors-pass fmt size (record { vector = suc c.vector; offset = c.offset + size_of fmt r; left = c.left - size }) rs k.2 f.1 s.1)

-- ---- the page

-- what rows 1 to 6 show
pub record Header (bs : List ℕ) : Type 0 where
  pub eight : 8 ≤ length bs
  pub version : version_of bs ≡ 1
  pub mode : mode_of bs ≡ 0
  pub encoding : encoding_of bs ≡ 0
  pub low : min_s ≤ s_of bs
  pub high : s_of bs ≤ max_s
  pub many : count_of bs ≤ max_values

pub header-fine : (bs : List ℕ) → verdict (head_rows bs) ≡ fine → Header bs
unfolding head_rows
header-fine bs ok =
    let s : ℕ = s_of bs in
    let a1 = row_first 1 the_page (length bs below 8) _ ok in
    let a2 = row_first 2 the_page (version_of bs isnt 1) _ a1.1 in
    let a3 = row_first 3 the_page (mode_of bs isnt 0) _ a2.1 in
    let a4 = row_first 4 the_page (encoding_of bs isnt 0) _ a3.1 in
    let a5 = row_first 5 the_page (s below min_s || s above max_s) _ a4.1 in
    let t5 = or_false (s below min_s) (s above max_s) a5.0 in
    record {
      eight = ltb-false (length bs) 8 a1.0;
      version = isnt_false (version_of bs) 1 a2.0;
      mode = isnt_false (mode_of bs) 0 a3.0;
      encoding = isnt_false (encoding_of bs) 0 a4.0;
      low = ltb-false s min_s t5.0;
      high = ltb-false max_s s t5.1;
      many = ltb-false max_values (count_of bs) (row_fine 6 the_page (count_of bs above max_values) a5.1);
    }

pub offsets-fine : (bs : List ℕ) → verdict (offsets_row bs) ≡ fine → 8 + 4 * vectors_of bs ≤ length bs
unfolding offsets_row
offsets-fine bs ok = ltb-false (length bs) (8 + 4 * vectors_of bs) (row_fine 7 the_page (length bs below 8 + 4 * vectors_of bs) ok)

-- what rows 1 to 7 show
pub record Head (bs : List ℕ) : Type 0 where
  pub eight : 8 ≤ length bs
  pub version : version_of bs ≡ 1
  pub mode : mode_of bs ≡ 0
  pub encoding : encoding_of bs ≡ 0
  pub low : min_s ≤ s_of bs
  pub high : s_of bs ≤ max_s
  pub many : count_of bs ≤ max_values
  pub offsets : 8 + 4 * vectors_of bs ≤ length bs

pub head_fine : (bs : List ℕ) → verdict (head_rows bs) ≡ fine → verdict (offsets_row bs) ≡ fine → Head bs
head_fine bs ok o =
    let h = header-fine bs ok in
    record { eight = h.eight; version = h.version; mode = h.mode; encoding = h.encoding; low = h.low; high = h.high; many = h.many; offsets = offsets-fine bs o }

-- a page that was laid out passes
module _ (fmt : Format) (s n : ℕ) (rs : List Raw) (low : min_s ≤ s) (high : s ≤ max_s) (many : n ≤ max_values) (v : vectors s n ≡ length rs)
    (k : Each (λ (o : ℕ). o < 256 ^ 4) (starts fmt (4 * length rs) rs)) (c : Cut (2 ^ s) n rs) (f : Each (Fit fmt) rs) (w : Each (Sound fmt) rs) where
  small : n < 256 ^ 4
  small = omega arith

  first-bytes : (version_of (layout fmt s n rs) ≡ 1) × (mode_of (layout fmt s n rs) ≡ 0) × (encoding_of (layout fmt s n rs) ≡ 0)
  unfolding layout header
  first-bytes = (refl, refl, refl)

  pub head_passes : verdict (head_rows (layout fmt s n rs)) ≡ fine
  unfolding head_rows
  head_passes =
      rw (
        first-bytes.0,
        first-bytes.1,
        first-bytes.2,
        s_back fmt s n rs,
        count-back fmt s n rs small,
        le-ltb (length (layout fmt s n rs)) 8 (rw (length-layout fmt s n rs f) (omega arith)),
        le-ltb s min_s low,
        le-ltb max_s s high,
        le-ltb max_values n many,
      )

  pub offsets-pass : verdict (offsets_row (layout fmt s n rs)) ≡ fine
  unfolding offsets_row
  offsets-pass =
      rw (s_back fmt s n rs, count-back fmt s n rs small, v, le-ltb (length (layout fmt s n rs)) (8 + 4 * length rs) (rw (length-layout fmt s n rs f) (omega arith)))

  pub page_passes : verdict (page_rows fmt (layout fmt s n rs)) ≡ fine
  unfolding page_rows
  page_passes =
      rw (head_passes, offsets-pass, s_back fmt s n rs, count-back fmt s n rs small, v, offsets-back fmt s n rs small v k, body_back fmt s n rs small v)
      (vectors-pass fmt (2 ^ s) (record { vector = 0; offset = 4 * length rs; left = n }) rs c f w)

-- a page that passes has a header that passes
pub page_header : (fmt : Format) (bs : List ℕ) → verdict (page_rows fmt bs) ≡ fine → verdict (head_rows bs) ≡ fine
unfolding page_rows
page_header fmt bs ok = (first_fine (verdict (head_rows bs)) _ ok).0

-- the two halves of what a page that passes shows
pub page_fine : (fmt : Format) (bs : List ℕ) → verdict (page_rows fmt bs) ≡ fine → Head bs × (verdict (vectors_rows fmt (2 ^ s_of bs) (start bs) (offsets_of bs) (body_of bs)) ≡ fine)
unfolding page_rows
page_fine fmt bs ok =
    let a = first_fine (verdict (head_rows bs)) _ ok in
    let b = first_fine (verdict (offsets_row bs)) _ a.1 in
    (head_fine bs a.0 b.0, b.1)

-- what the reader's rows show, 15 included
pub read_fine : (fmt : Format) (room : ℕ) (bs : List ℕ) → verdict (read_rows fmt room bs) ≡ fine → (verdict (page_rows fmt bs) ≡ fine) × (count_of bs ≤ room)
unfolding read_rows
read_fine fmt room bs ok =
    let a = first_fine (verdict (page_rows fmt bs)) _ ok in
    (a.0, ltb-false room (count_of bs) (row_fine 15 the_page (room below count_of bs) a.1))
