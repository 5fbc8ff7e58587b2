-- The reader: the order of its checks, and what it gives. Assumes nothing.
use Rattle.std.specs.Prelude.{ℕ, suc, ◌+◌, ◌-◌, ◌*◌, ◌^◌, min, Bool, not, ◌||◌, List, [], ◌∷◌, map, length, drop, ℤ}
use Rattle.std.specs.Int.Signed.{mag}
use Rattle.std.specs.Float.{Format}
use mir.Val.{hbits}
use Rattle.digits.specs.Lists.{join}
use Rattle.rules.specs.Kind.{min_s, max_s, max_values, max_exponent, word, word_bits, meta_bytes}
use Rattle.rules.specs.Vector.{wholes, decoded}
use Rattle.rules.specs.Page.{vector_size, version_of, mode_of, encoding_of, s_of, count_of, vectors_of, offsets_of, body_of, Meta, meta_at, raw_from, raws_of}
use Rattle.rules.specs.Verdict.{Rows, no_rows, row, ◌then◌, the_page, in_vector, in_vector_at, ◌below◌, ◌above◌, ◌isnt◌, Result, call}

-- ---- of the page

-- 1 to 6
unfoldable pub head_rows : List ℕ → Rows
head_rows bs =
    row 1 the_page (length bs below 8)
    then row 2 the_page (version_of bs isnt 1)
    then row 3 the_page (mode_of bs isnt 0)
    then row 4 the_page (encoding_of bs isnt 0)
    then row 5 the_page (s_of bs below min_s || s_of bs above max_s)
    then row 6 the_page (count_of bs above max_values)

-- 7 for the offsets
unfoldable pub offsets_row : List ℕ → Rows
offsets_row bs = row 7 the_page (length bs below 8 + 4 * vectors_of bs)

-- ---- of one vector: number v, of n values, at the front of bs, its metadata read as m

-- 7 for metadata, 9 to 12, 7 for data
unfoldable pub meta_rows : Format → ℕ → ℕ → Meta → List ℕ → Rows
meta_rows fmt v n m bs =
    row 7 (in_vector v) (length bs below meta_bytes fmt)
    then row 9 (in_vector v) (m.pair.exponent above max_exponent fmt)
    then row 10 (in_vector v) (m.pair.factor above m.pair.exponent)
    then row 11 (in_vector v) (m.listed above n)
    then row 12 (in_vector v) (m.width above word_bits fmt)
    then row 7 (in_vector v) (length bs below vector_size fmt n m)

-- how far a list of positions has come: the next one's index in the list, and the least that it may be, one above the one before
pub record Listed : Type 0 where
  pub index : ℕ
  pub low : ℕ

-- 13: a position not below the vector's count n, or not above the one before; place: its index in the list
unfoldable pub positions_rows : ℕ → ℕ → Listed → List ℕ → Rows
positions_rows v n k [] = no_rows
positions_rows v n k (p ∷ ps) =
    row 13 (in_vector_at v k.index) (not (p below n) || p below k.low)
    then positions_rows v n (record { index = suc k.index; low = suc p }) ps

-- 17: frame plus field leaves the kind's signed range, -2 ^ (W - 1) to 2 ^ (W - 1) - 1 (`mag` counts from 0 up and from -1 down); place: its
-- position, counted from i, listed or not
abbrev pub out_of_range : Format → ℤ → Bool
out_of_range fmt z = not (mag z below 2 ^ hbits (word fmt))

unfoldable pub sums_rows : Format → ℕ → ℕ → List ℤ → Rows
sums_rows fmt v i [] = no_rows
sums_rows fmt v i (z ∷ zs) = row 17 (in_vector_at v i) (out_of_range fmt z) then sums_rows fmt v (suc i) zs

-- 13, 17
unfoldable pub payload_rows : Format → ℕ → ℕ → Meta → List ℕ → Rows
payload_rows fmt v n m bs =
    let r = raw_from fmt n m (drop (meta_bytes fmt) bs) in
    positions_rows v n (record { index = 0; low = 0 }) r.positions
    then sums_rows fmt v 0 (wholes fmt r)

-- ---- of all vectors

-- how far the layout has come: the next vector's number, its offset, and how many values are left for it and those behind it
pub record Cursor : Type 0 where
  pub vector : ℕ
  pub offset : ℕ
  pub left : ℕ

-- every vector is full but perhaps the last
abbrev pub here : ℕ → Cursor → ℕ
here size c = min size c.left

abbrev pub next : Format → ℕ → Cursor → Meta → Cursor
next fmt size c m = record { vector = suc c.vector; offset = c.offset + vector_size fmt (here size c) m; left = c.left - size }

-- 8, 7 for metadata, 9 to 12, 7 for data, 13, 17; o is the offset that the page has for this vector
unfoldable pub vector_rows : Format → ℕ → Cursor → ℕ → Meta → List ℕ → Rows
vector_rows fmt size c o m bs =
    row 8 (in_vector c.vector) (o isnt c.offset)
    then meta_rows fmt c.vector (here size c) m bs
    then payload_rows fmt c.vector (here size c) m bs

-- each vector in turn; then 14
unfoldable pub vectors_rows : Format → ℕ → Cursor → List ℕ → List ℕ → Rows
vectors_rows fmt size c [] bs = row 14 the_page (length bs above 0)
vectors_rows fmt size c (o ∷ os) bs =
    let m = meta_at fmt bs in
    vector_rows fmt size c o m bs then vectors_rows fmt size (next fmt size c m) os (drop (vector_size fmt (here size c) m) bs)

-- the first vector has number 0 and stands behind the offsets
abbrev pub start : List ℕ → Cursor
start bs = record { vector = 0; offset = 4 * vectors_of bs; left = count_of bs }

-- 1 to 13, 17, 14
unfoldable pub page_rows : Format → List ℕ → Rows
page_rows fmt bs =
    head_rows bs
    then offsets_row bs
    then vectors_rows fmt (2 ^ s_of bs) (start bs) (offsets_of bs) (body_of bs)

-- ---- the reader, lent an output of `room` values

unfoldable pub values_of : Format → List ℕ → List ℕ
values_of fmt bs = join (map (decoded fmt) (raws_of fmt bs))

-- the page's rows, then 15
unfoldable pub read_rows : Format → ℕ → List ℕ → Rows
read_rows fmt room bs = page_rows fmt bs then row 15 the_page (room below count_of bs)

unfoldable pub read_of : Format → ℕ → List ℕ → Result
read_of fmt room bs = call (read_rows fmt room bs) (values_of fmt bs)

-- to unfold this is to unfold all of the above
unfoldable pub all_read : Unit {0}
unfolding head_rows offsets_row meta_rows positions_rows sums_rows payload_rows vector_rows vectors_rows page_rows values_of read_rows read_of
all_read = tt
