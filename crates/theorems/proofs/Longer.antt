-- A byte list longer than any page is refused, and its first bytes decide by which row: so a file need not be read further. Assumes nothing.
use mathlib.Core.Path.{◌≡◌, refl, sym, ap, ap₂, ◌∙◌}
use Prim.Native.Nat.{ℕ, zero, suc, ◌+◌, ◌-◌, ◌*◌, ◌/◌, ◌^◌, ◌<◌, ◌≤◌, min, zero-le}
use native.Mathlib.Nat.{le_trans, le_of_eq, le_of_lt, lt_of_le_of_lt, lt_of_lt_of_le, lt_of_not-le, suc-mul, mul-add, mul_comm, mul-le-mul_left, mul-le-mul_right, div-lt_iff_lt-mul}
use native.Mathlib.Decide.{dec_le}
use native.Mathlib.Omega.{arith}
use mathlib.Core.Bool.{false}
use mathlib.Core.List.{List, [], ◌∷◌, ◌++◌}
use lib.ListN.{length, take, drop, get_or, length-append, length-drop, take-append-drop, get_or-append}
use lib.Seq.{take_all, length-take-le, take-append-le, drop-append-le}
use lib.Ieee.{Format, binary32, binary64}
use lib.Dec.{lit<}
use lib.Pow.{pow_pos, pow_mono}
use borrow.Author.Tests.{ltb-false, lt-ltb, le-ltb}
use Rattle.digits.specs.Digits.{number, numbers, packed_size}
use Rattle.digits.proofs.Rows.{length-numbers}
use Rattle.rules.specs.Kind.{min_s, max_values, max_exponent, word_bits, word_bytes, meta_bytes, Values}
use Rattle.rules.specs.Decimal.{Pair}
use Rattle.rules.specs.Vector.{Raw, wholes}
use Rattle.rules.specs.Page.{Meta, vectors, vector_size, page_of, s_of, count_of, vectors_of, offsets_of, body_of, meta_at, raw_from, raws_of}
use Rattle.rules.specs.Verdict.{◌then◌, Verdict, fine, refuse, first, verdict, row, the_page, in_vector, ◌below◌, ◌above◌, ◌isnt◌, settle, answer, after}
use Rattle.rules.specs.Read.{head_rows, offsets_row, meta_rows, positions_rows, sums_rows, payload_rows, Cursor, here, next, start, vector_rows, vectors_rows, page_rows, values_of, read_of, read_rows}
use Rattle.rules.specs.Examine.{all_rules_rows, examine_rows, examine_of}
use Rattle.rules.specs.Write.{Inside, bound}
use Rattle.rules.proofs.Rows.{row_fine, first_fine, first-as}
use Rattle.rules.proofs.Encoded.{page_fits}
use Rattle.rules.proofs.Reading.{meta_fine, Passed, vector-fine, Header, header-fine, page_fine}

-- ---- no page is longer: the bound of the most values in the shortest vectors

unfoldable pub longest : Format → ℕ
longest fmt = bound fmt min_s max_values

pub longest_32 : longest binary32 ≡ 190472
unfolding longest bound
longest_32 = refl

pub longest_64 : longest binary64 ≡ 329736
unfolding longest bound
longest_64 = refl

-- no s and count inside the limits ask for more
few : (s n : ℕ) → min_s ≤ s → n ≤ max_values → vectors s n ≤ 2048
few s n l h =
    let p : 2 ^ min_s ≤ 2 ^ s = pow_mono l in
    let d : vectors s n < 2049 = (div-lt_iff_lt-mul (pow_pos s)).1 (omega arith) in
    omega arith

bound-most : (fmt : Format) (s n : ℕ) → min_s ≤ s → n ≤ max_values → bound fmt s n ≤ longest fmt
unfolding longest bound
bound-most binary32 s n l h = let v = few s n l h in omega arith
bound-most binary64 s n l h = let v = few s n l h in omega arith

-- so the file tool's room takes whatever measuring answers
pub no_page_is_longer : (fmt : Format) (s : ℕ) (ps : List Pair) (vs : List ℕ) → Inside fmt s ps (length vs) → Values fmt vs → length (page_of fmt s ps vs) ≤ longest fmt
no_page_is_longer fmt s ps vs i ok = le_trans (page_fits fmt s ps vs i ok) (bound-most fmt s (length vs) i.low i.many)

-- ---- numbers at the front of a list are those of any list that begins with it

number_same : (at k : ℕ) (xs ys : List ℕ) → at + k ≤ length xs → number (take k (drop at (xs ++ ys))) ≡ number (take k (drop at xs))
number_same at k xs ys h =
    let a : drop at (xs ++ ys) ≡ drop at xs ++ ys = drop-append-le at xs ys (omega arith) in
    let b : take k (drop at xs ++ ys) ≡ take k (drop at xs) = take-append-le k (drop at xs) ys (rw length-drop (omega arith)) in
    ap number (ap (take k) a ∙ b)

numbers-same : (k c : ℕ) (xs ys : List ℕ) → c * k ≤ length xs → numbers k c (xs ++ ys) ≡ numbers k c xs
unfolding numbers
numbers-same k zero xs ys h = refl
numbers-same k (suc c) xs ys h =
    let e = suc-mul c k in
    let a : take k (xs ++ ys) ≡ take k xs = take-append-le k xs ys (omega arith) in
    let b : drop k (xs ++ ys) ≡ drop k xs ++ ys = drop-append-le k xs ys (omega arith) in
    let c' : numbers k c (drop k xs ++ ys) ≡ numbers k c (drop k xs) = numbers-same k c (drop k xs) ys (rw length-drop (omega arith)) in
    ap₂ (λ (x : ℕ) (l : List ℕ). x ∷ l) (ap number a) (ap (numbers k c) b ∙ c')

at_front : (xs ys : List ℕ) (i : ℕ) → i < length xs → get_or (xs ++ ys) i 0 ≡ get_or xs i 0
at_front xs ys i h = get_or-append xs ys 0 i h

longer : (xs ys : List ℕ) → length xs ≤ length (xs ++ ys)
longer xs ys = rw length-append (omega arith)

-- ---- one vector: `most` is what it has at most

pub meta_same : (fmt : Format) (part behind : List ℕ) → meta_bytes fmt ≤ length part → meta_at fmt (part ++ behind) ≡ meta_at fmt part
unfolding meta_at
meta_same fmt part behind l =
    let e = at_front part behind 0 (omega arith) in
    let f = at_front part behind 1 (omega arith) in
    let c = number_same 2 2 part behind (omega arith) in
    let r = number_same 4 (word_bytes fmt) part behind (omega arith) in
    let w = at_front part behind (4 + word_bytes fmt) (omega arith) in
    λ i. record { pair = record { exponent = e i; factor = f i }; listed = c i; frame = r i; width = w i }

-- what is read of a vector stands in as many bytes as it has
pub raw_same : (fmt : Format) (n : ℕ) (m : Meta) (part behind : List ℕ) → vector_size fmt n m ≤ length part
    → raw_from fmt n m (drop (meta_bytes fmt) (part ++ behind)) ≡ raw_from fmt n m (drop (meta_bytes fmt) part)
unfolding raw_from
raw_same fmt n m part behind s =
    let k : ℕ = packed_size n m.width in
    let payload : List ℕ = drop (meta_bytes fmt) part in
    let lists : List ℕ = drop k payload in
    let stored : List ℕ = drop (m.listed * 2) lists in
    let e = mul-add m.listed 2 (word_bytes fmt) in
    let lp = length-drop (meta_bytes fmt) part in
    let ll = length-drop k payload in
    let ls = length-drop (m.listed * 2) lists in
    let a : drop (meta_bytes fmt) (part ++ behind) ≡ payload ++ behind = drop-append-le (meta_bytes fmt) part behind (omega arith) in
    let b : drop k (payload ++ behind) ≡ lists ++ behind = drop-append-le k payload behind (omega arith) in
    let c : drop (m.listed * 2) (lists ++ behind) ≡ stored ++ behind = drop-append-le (m.listed * 2) lists behind (omega arith) in
    let packed : take k (payload ++ behind) ≡ take k payload = take-append-le k payload behind (omega arith) in
    let positions : numbers 2 m.listed (lists ++ behind) ≡ numbers 2 m.listed lists = numbers-same 2 m.listed lists behind (omega arith) in
    let exceptions : numbers (word_bytes fmt) m.listed (stored ++ behind) ≡ numbers (word_bytes fmt) m.listed stored = numbers-same (word_bytes fmt) m.listed stored behind (omega arith) in
    rw (a, b, c, packed, positions, exceptions)

abbrev most : Format → ℕ → ℕ
most fmt n = meta_bytes fmt + n * (2 * word_bytes fmt + 2)

word-bytes : (fmt : Format) → word_bits fmt ≡ word_bytes fmt * 8
word-bytes binary32 = refl
word-bytes binary64 = refl

size-most : (fmt : Format) (n : ℕ) (m : Meta) → m.listed ≤ n → m.width ≤ word_bits fmt → vector_size fmt n m ≤ most fmt n
size-most fmt n m f h =
    let w : n * m.width ≤ n * (word_bytes fmt * 8) = mul-le-mul_left n (le_trans h (le_of_eq (word-bytes fmt))) in
    let l : m.listed * (2 + word_bytes fmt) ≤ n * (2 + word_bytes fmt) = mul-le-mul_right (2 + word_bytes fmt) f in
    whole (n * m.width) (word_bytes fmt) (m.listed * (2 + word_bytes fmt)) w l
  where
    whole : (x b y : ℕ) → x ≤ n * (b * 8) → y ≤ n * (2 + b) → 5 + b + ((x + 7) / 8 + y) ≤ 5 + b + n * (2 * b + 2)
    whole x b y h k = omega arith

-- its rows, where there are as many bytes: 7 does not refuse, and all that the others look at stands in these bytes
module _ (fmt : Format) (v n : ℕ) (m : Meta) (part behind : List ℕ) (long : most fmt n ≤ length part) where
  meta_rows_same : verdict (meta_rows fmt v n m (part ++ behind)) ≡ verdict (meta_rows fmt v n m part)
  unfolding meta_rows
  meta_rows_same =
      let l = longer part behind in
      let a : (length (part ++ behind) below meta_bytes fmt) ≡ (length part below meta_bytes fmt) =
      le-ltb (length (part ++ behind)) (meta_bytes fmt) (omega arith) ∙ sym (le-ltb (length part) (meta_bytes fmt) (omega arith)) in
      rw a
      (first-as (verdict (row 7 (in_vector v) (length part below meta_bytes fmt))) _ _
      (λ _. first-as (verdict (row 9 (in_vector v) (m.pair.exponent above max_exponent fmt))) _ _
      (λ _. first-as (verdict (row 10 (in_vector v) (m.pair.factor above m.pair.exponent))) _ _
      (λ _. first-as (verdict (row 11 (in_vector v) (m.listed above n))) _ _
      (λ r11. first-as (verdict (row 12 (in_vector v) (m.width above word_bits fmt))) _ _
      (λ r12. data_same (row_fine 11 (in_vector v) (m.listed above n) r11) (row_fine 12 (in_vector v) (m.width above word_bits fmt) r12)))))))
    where
      data_same : (m.listed above n) ≡ false → (m.width above word_bits fmt) ≡ false
          → verdict (row 7 (in_vector v) (length (part ++ behind) below vector_size fmt n m)) ≡ verdict (row 7 (in_vector v) (length part below vector_size fmt n m))
      data_same f h =
          let s : vector_size fmt n m ≤ length part = le_trans (size-most fmt n m (ltb-false n m.listed f) (ltb-false (word_bits fmt) m.width h)) long in
          rw (le-ltb (length (part ++ behind)) (vector_size fmt n m) (le_trans s (longer part behind)), le-ltb (length part) (vector_size fmt n m) s)

  payload_rows_same : vector_size fmt n m ≤ length part → verdict (payload_rows fmt v n m (part ++ behind)) ≡ verdict (payload_rows fmt v n m part)
  unfolding payload_rows
  payload_rows_same s =
      ap (λ (r : Raw). verdict (positions_rows v n (record { index = 0; low = 0 }) r.positions then sums_rows fmt v 0 (wholes fmt r))) (raw_same fmt n m part behind s)

vector_rows_same : (fmt : Format) (size : ℕ) (c : Cursor) (o : ℕ) (m : Meta) (part behind : List ℕ) → most fmt (here size c) ≤ length part
    → verdict (vector_rows fmt size c o m (part ++ behind)) ≡ verdict (vector_rows fmt size c o m part)
unfolding vector_rows
vector_rows_same fmt size c o m part behind long =
    let v : ℕ = c.vector in
    let n : ℕ = here size c in
    let r8 : Verdict = verdict (row 8 (in_vector v) (o isnt c.offset)) in
    let l : Verdict = verdict (payload_rows fmt v n m (part ++ behind)) in
    ap (λ (x : Verdict). first r8 (first x l)) (meta_rows_same fmt v n m part behind long)
    ∙ ap (first r8) (first-as (verdict (meta_rows fmt v n m part)) l (verdict (payload_rows fmt v n m part)) (λ e. payload_rows_same fmt v n m part behind long (meta_fine fmt v n m part e).whole))

-- ---- all vectors

-- what `many` vectors of `left` values have at most
abbrev all_most : Format → ℕ → ℕ → ℕ
all_most fmt many left = many * meta_bytes fmt + left * (2 * word_bytes fmt + 2)

-- what is left for the vectors behind one of n values and x bytes, of p bytes in all
module _ (m k size left n x l p : ℕ) (e : n ≡ min size left) (h : x ≤ m + n * k) where
  both : (n + (left - size)) * k ≡ left * k
  both = ap (λ (y : ℕ). y * k) (omega arith)

  rest_long : suc l * m + left * k < p → l * m + (left - size) * k < p - x
  rest_long g = let q = both in omega arith

  rest_short : p - x ≤ l * m + (left - size) * k → p ≤ suc l * m + left * k
  rest_short g = let q = both in omega arith

-- there is room for the first
first-long : (m k l size left p : ℕ) → suc l * m + left * k < p → m + min size left * k ≤ p
first-long m k l size left p h = let q : min size left * k ≤ left * k = mul-le-mul_right k (omega arith) in omega arith

-- and, where it passes, for those behind it
rest_room : (fmt : Format) (size : ℕ) (c : Cursor) (many : ℕ) (m : Meta) (part : List ℕ) → Passed fmt (here size c) m part → all_most fmt (suc many) c.left < length part
    → all_most fmt many (c.left - size) < length (drop (vector_size fmt (here size c) m) part)
rest_room fmt size c many m part p long =
    let n : ℕ = here size c in
    rw length-drop
    (rest_long (meta_bytes fmt) (2 * word_bytes fmt + 2) size c.left n (vector_size fmt n m) many (length part) refl (size-most fmt n m p.few p.narrow) long)

vectors-same : (fmt : Format) (size : ℕ) (c : Cursor) (os part behind : List ℕ) → all_most fmt (length os) c.left < length part
    → verdict (vectors_rows fmt size c os (part ++ behind)) ≡ verdict (vectors_rows fmt size c os part)
unfolding vectors_rows
vectors-same fmt size c [] part behind long =
    let p : 0 < length part = lt_of_le_of_lt zero-le long in
    rw (lt-ltb 0 (length (part ++ behind)) (lt_of_lt_of_le p (longer part behind)), lt-ltb 0 (length part) p)
vectors-same fmt size c (o ∷ os) part behind long =
    let m : Meta = meta_at fmt part in
    let s : ℕ = vector_size fmt (here size c) m in
    let rest : List ℕ → Verdict = λ bs. verdict (vectors_rows fmt size (next fmt size c m) os bs) in
    let ih = vectors-same fmt size (next fmt size c m) os (drop s part) behind in
    let room : most fmt (here size c) ≤ length part = first-long (meta_bytes fmt) (2 * word_bytes fmt + 2) (length os) size c.left (length part) long in
    rw (meta_same fmt part behind (omega arith))
    (ap (λ (x : Verdict). first x (rest (drop s (part ++ behind)))) (vector_rows_same fmt size c o m part behind room)
    ∙ first-as (verdict (vector_rows fmt size c o m part)) (rest (drop s (part ++ behind))) (rest (drop s part))
    (λ e. let p = (vector-fine fmt size c o m part e).1 in ap rest (drop-append-le s part behind p.whole) ∙ ih (rest_room fmt size c (length os) m part p long)))

vectors-short : (fmt : Format) (size : ℕ) (c : Cursor) (os part : List ℕ) → verdict (vectors_rows fmt size c os part) ≡ fine → length part ≤ all_most fmt (length os) c.left
unfolding vectors_rows
vectors-short fmt size c [] part ok = le_trans (ltb-false 0 (length part) (row_fine 14 the_page (length part above 0) ok)) zero-le
vectors-short fmt size c (o ∷ os) part ok =
    let n : ℕ = here size c in
    let m : Meta = meta_at fmt part in
    let s : ℕ = vector_size fmt n m in
    let a = first_fine (verdict (vector_rows fmt size c o m part)) _ ok in
    let p = (vector-fine fmt size c o m part a.0).1 in
    let ih = vectors-short fmt size (next fmt size c m) os (drop s part) a.1 in
    rest_short (meta_bytes fmt) (2 * word_bytes fmt + 2) size c.left n s (length os) (length part) refl (size-most fmt n m p.few p.narrow) (rw length-drop at ih)

-- ---- the page

body-short : (fmt : Format) (bs : List ℕ) → length (body_of bs) ≤ all_most fmt (length (offsets_of bs)) (count_of bs) → length bs ≤ bound fmt (s_of bs) (count_of bs)
unfolding body_of offsets_of bound
body-short fmt bs h =
    let g = rw (length-drop, length-numbers) at h in
    sum (vectors_of bs) (meta_bytes fmt) (count_of bs * (2 * word_bytes fmt + 2)) (length bs) g
  where
    sum : (v m c l : ℕ) → l - (8 + 4 * v) ≤ v * m + c → l ≤ 8 + v * (4 + m) + c
    sum v m c l h = omega arith

-- a page that passes is no longer than that
pub passing_is_short : (fmt : Format) (bs : List ℕ) → verdict (page_rows fmt bs) ≡ fine → length bs ≤ longest fmt
passing_is_short fmt bs ok =
    let p = page_fine fmt bs ok in
    let h = p.0 in
    le_trans (body-short fmt bs (vectors-short fmt (2 ^ s_of bs) (start bs) (offsets_of bs) (body_of bs) p.1)) (bound-most fmt (s_of bs) (count_of bs) h.low h.many)

-- the parts of a page, where the bytes in front hold them
module _ (front behind : List ℕ) (eight : 8 ≤ length front) where
  s_same : s_of (front ++ behind) ≡ s_of front
  s_same = at_front front behind 3 (omega arith)

  count_same : count_of (front ++ behind) ≡ count_of front
  unfolding count_of
  count_same = number_same 4 4 front behind eight

  head_same : verdict (head_rows (front ++ behind)) ≡ verdict (head_rows front)
  unfolding head_rows
  head_same =
      let l : 8 ≤ length (front ++ behind) = le_trans eight (longer front behind) in
      rw (
        le-ltb (length (front ++ behind)) 8 l,
        le-ltb (length front) 8 eight,
        at_front front behind 0 (omega arith),
        at_front front behind 1 (omega arith),
        at_front front behind 2 (omega arith),
        s_same,
        count_same,
      )

  module _ (table : 8 + 4 * vectors_of front ≤ length front) where
    offsets_row_same : verdict (offsets_row (front ++ behind)) ≡ verdict (offsets_row front)
    unfolding offsets_row
    offsets_row_same =
        rw (s_same, count_same, le-ltb (length (front ++ behind)) (8 + 4 * vectors_of front) (le_trans table (longer front behind)), le-ltb (length front) (8 + 4 * vectors_of front) table)

    offsets-same : offsets_of (front ++ behind) ≡ offsets_of front
    unfolding offsets_of
    offsets-same =
        let v : ℕ = vectors_of front in
        let k : 4 * v ≡ v * 4 = mul_comm 4 v in
        let a : drop 8 (front ++ behind) ≡ drop 8 front ++ behind = drop-append-le 8 front behind eight in
        let b : numbers 4 v (drop 8 front ++ behind) ≡ numbers 4 v (drop 8 front) = numbers-same 4 v (drop 8 front) behind (rw length-drop (omega arith)) in
        rw (s_same, count_same) (ap (numbers 4 v) a ∙ b)

    body_same : body_of (front ++ behind) ≡ body_of front ++ behind
    unfolding body_of
    body_same = rw (s_same, count_same) (drop-append-le (8 + 4 * vectors_of front) front behind table)

-- ---- what is longer than any page

-- the rows behind those of the header
abbrev behind-header : Format → List ℕ → Verdict
behind-header fmt bs = first (verdict (offsets_row bs)) (verdict (vectors_rows fmt (2 ^ s_of bs) (start bs) (offsets_of bs) (body_of bs)))

module _ (fmt : Format) (front : List ℕ) (long : longest fmt < length front) where
  eight : 8 ≤ length front
  unfolding longest bound
  eight = omega arith

  -- a header that passes asks for fewer bytes than there are
  module _ (h : Header front) where
    inside : bound fmt (s_of front) (count_of front) < length front
    inside = lt_of_le_of_lt (bound-most fmt (s_of front) (count_of front) h.low h.many) long

    table : 8 + 4 * vectors_of front ≤ length front
    unfolding bound
    table = let i = inside in omega arith

    body-long : all_most fmt (length (offsets_of front)) (count_of front) < length (body_of front)
    unfolding bound offsets_of body_of
    body-long = rw (length-numbers, length-drop) (less (vectors_of front) (meta_bytes fmt) (count_of front * (2 * word_bytes fmt + 2)) (length front) inside)
      where
        less : (v m c l : ℕ) → 8 + v * (4 + m) + c < l → v * m + c < l - (8 + 4 * v)
        less v m c l h = omega arith

    behind_header_same : (behind : List ℕ) → behind-header fmt (front ++ behind) ≡ behind-header fmt front
    behind_header_same behind =
        rw (
          offsets_row_same front behind eight table,
          offsets-same front behind eight table,
          body_same front behind eight table,
          s_same front behind eight,
          count_same front behind eight,
        )
        (ap (first (verdict (offsets_row front))) (vectors-same fmt (2 ^ s_of front) (start front) (offsets_of front) (body_of front) behind body-long))

-- rows 1 to 14 or 17 refuse it, and its first bytes decide by which
pub longer_is_refused : (fmt : Format) (bs : List ℕ) → longest fmt < length bs → verdict (page_rows fmt bs) ≡ fine → ⊥
longer_is_refused fmt bs long ok = let h = passing_is_short fmt bs ok in omega arith

pub first_bytes_decide : (fmt : Format) (front behind : List ℕ) → longest fmt < length front → verdict (page_rows fmt (front ++ behind)) ≡ verdict (page_rows fmt front)
unfolding page_rows
first_bytes_decide fmt front behind long =
    rw (head_same front behind (eight fmt front long))
    (first-as (verdict (head_rows front)) _ _ (λ e. behind_header_same fmt front long (header-fine front e) behind))

-- ---- whole calls: what is checked behind those rows, and what is given where all pass, is of no account where they refuse

same-refusal : (v u w : Verdict) (xs ys : List ℕ) → (v ≡ fine → ⊥) → settle (first v u) xs ≡ settle (first v w) ys
same-refusal fine u w xs ys f = absurd (f refl)
same-refusal (refuse a p) u w xs ys f = refl

leaves_all : (v u : Verdict) (xs out : List ℕ) → (v ≡ fine → ⊥) → after (settle (first v u) xs) out ≡ out
leaves_all fine u xs out f = absurd (f refl)
leaves_all (refuse a p) u xs out f = refl

pub first_bytes_examined : (fmt : Format) (front behind : List ℕ) → longest fmt < length front → examine_of fmt (front ++ behind) ≡ examine_of fmt front
unfolding examine_of examine_rows
first_bytes_examined fmt front behind long =
    let u : Verdict = verdict (all_rules_rows fmt 0 (raws_of fmt (front ++ behind))) in
    ap (λ (v : Verdict). settle (first v u) (values_of fmt (front ++ behind))) (first_bytes_decide fmt front behind long)
    ∙ same-refusal (verdict (page_rows fmt front)) u _ _ _ (longer_is_refused fmt front long)

pub first_bytes_read : (fmt : Format) (room : ℕ) (front behind : List ℕ) → longest fmt < length front → read_of fmt room (front ++ behind) ≡ read_of fmt room front
unfolding read_of read_rows
first_bytes_read fmt room front behind long =
    let u : Verdict = verdict (row 15 the_page (room below count_of (front ++ behind))) in
    ap (λ (v : Verdict). settle (first v u) (values_of fmt (front ++ behind))) (first_bytes_decide fmt front behind long)
    ∙ same-refusal (verdict (page_rows fmt front)) u _ _ _ (longer_is_refused fmt front long)

-- the reader leaves the output as it came
pub longer_leaves_all : (fmt : Format) (room : ℕ) (bs out : List ℕ) → longest fmt < length bs → after (read_of fmt room bs) out ≡ out
unfolding read_of read_rows
longer_leaves_all fmt room bs out long =
    leaves_all (verdict (page_rows fmt bs)) (verdict (row 15 the_page (room below count_of bs))) (values_of fmt bs) out (longer_is_refused fmt bs long)

-- ==== Of a list whose front alone is longer than any page: the answers are the front's, and nothing is written

pub examiner_answers_as_front : (fmt : Format) (front behind : List ℕ) → longest fmt < length front → answer (examine_of fmt (front ++ behind)) ≡ answer (examine_of fmt front)
examiner_answers_as_front fmt front behind long = ap answer (first_bytes_examined fmt front behind long)

pub reader_answers_as_front : (fmt : Format) (room : ℕ) (front behind out : List ℕ) → longest fmt < length front
    → (answer (read_of fmt room (front ++ behind)) ≡ answer (read_of fmt room front)) × (after (read_of fmt room (front ++ behind)) out ≡ out) × (after (read_of fmt room front) out ≡ out)
reader_answers_as_front fmt room front behind out long = (
  ap answer (first_bytes_read fmt room front behind long),
  longer_leaves_all fmt room (front ++ behind) out (lt_of_lt_of_le long (longer front behind)),
  longer_leaves_all fmt room front out long,
)

-- ==== Of any list: its first k bytes, k above the longest page, give what the whole list gives

pub front_decides : {A : Type 0} (f : List ℕ → A) (k : ℕ) (bs : List ℕ) → (k ≤ length bs → f (take k bs ++ drop k bs) ≡ f (take k bs)) → f (take k bs) ≡ f bs
front_decides f k bs h = elim (dec_le k (length bs)) [
  | yes l ↦ sym (h l) ∙ ap f (take-append-drop k bs)
  | no l ↦ ap f (take_all k bs (le_of_lt (lt_of_not-le l)))
]

front_long : (fmt : Format) (k : ℕ) (bs : List ℕ) → longest fmt < k → k ≤ length bs → longest fmt < length (take k bs)
front_long fmt k bs h l = rw (length-take-le k bs l) h

pub enough_to_check : (fmt : Format) (k : ℕ) (bs : List ℕ) → longest fmt < k → verdict (page_rows fmt (take k bs)) ≡ verdict (page_rows fmt bs)
enough_to_check fmt k bs h = front_decides (λ (x : List ℕ). verdict (page_rows fmt x)) k bs (λ l. first_bytes_decide fmt (take k bs) (drop k bs) (front_long fmt k bs h l))

pub enough_to_examine : (fmt : Format) (k : ℕ) (bs : List ℕ) → longest fmt < k → examine_of fmt (take k bs) ≡ examine_of fmt bs
enough_to_examine fmt k bs h = front_decides (examine_of fmt) k bs (λ l. first_bytes_examined fmt (take k bs) (drop k bs) (front_long fmt k bs h l))

pub enough_to_read : (fmt : Format) (room k : ℕ) (bs : List ℕ) → longest fmt < k → read_of fmt room (take k bs) ≡ read_of fmt room bs
enough_to_read fmt room k bs h = front_decides (read_of fmt room) k bs (λ l. first_bytes_read fmt room (take k bs) (drop k bs) (front_long fmt k bs h l))

-- 329,737, as many as the file tool takes, is such a k for both kinds
pub tool_reads_enough : (fmt : Format) → longest fmt < 329737
tool_reads_enough binary32 = rw longest_32 (lit< tt)
tool_reads_enough binary64 = rw longest_64 (lit< tt)
