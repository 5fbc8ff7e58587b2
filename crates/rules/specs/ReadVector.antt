-- The reading of one vector by its number: where the page's own offsets say that it lies, the order of its checks, and what it gives. The
-- rows of the vector itself are the reader's. Assumes nothing.
use Rattle.std.specs.Prelude.{ℕ, suc, ◌+◌, ◌-◌, ◌*◌, ◌^◌, min, not, cond, List, length, drop, get_or}
use Rattle.std.specs.Float.{Format}
use Rattle.rules.specs.Kind.{meta_bytes}
use Rattle.rules.specs.Vector.{decoded}
use Rattle.rules.specs.Page.{vector_size, s_of, count_of, vectors_of, offsets_of, Meta, meta_at, raw_from}
use Rattle.rules.specs.Verdict.{Rows, row, ◌then◌, the_page, in_vector, ◌below◌, ◌isnt◌, Result, call}
use Rattle.rules.specs.Read.{head_rows, offsets_row, meta_rows, payload_rows}

-- ---- where vector v lies

-- how many values it holds: every vector is full but perhaps the last
abbrev pub values_in : List ℕ → ℕ → ℕ
values_in bs v = min (2 ^ s_of bs) (count_of bs - v * 2 ^ s_of bs)

-- measured from byte 8, as offsets are
pub record Span : Type 0 where
  pub from : ℕ
  pub to : ℕ

-- from its stored offset to the next stored one, or for the last vector to the page's end
unfoldable pub span_of : List ℕ → ℕ → Span
span_of bs v = record {
  from = get_or (offsets_of bs) v 0;
  to = cond (suc v below vectors_of bs) (get_or (offsets_of bs) (suc v) 0) (length bs - 8);
}

-- the page from its stored offset on: nothing, if that is past the end
abbrev pub part_from : List ℕ → Span → List ℕ
part_from bs l = drop (8 + l.from) bs

-- ---- its rows

-- 1 to 6, 30, 7 for the offsets
unfoldable pub number_rows : ℕ → List ℕ → Rows
number_rows v bs =
    head_rows bs
    then row 30 the_page (not (v below vectors_of bs))
    then offsets_row bs

-- of the vector alone, at the front of bs, where `low` is the end of the offsets: 8 if it starts before that, 7 for metadata, 9 to 12, 7 for
-- data, 8 again if it ends anywhere else than its span does, 13, 17
unfoldable pub alone_rows : Format → ℕ → ℕ → ℕ → Span → Meta → List ℕ → Rows
alone_rows fmt v n low l m bs =
    row 8 (in_vector v) (l.from below low)
    then meta_rows fmt v n m bs
    then row 8 (in_vector v) (l.from + vector_size fmt n m isnt l.to)
    then payload_rows fmt v n m bs

-- then 15
unfoldable pub read_vector_rows : Format → ℕ → ℕ → List ℕ → Rows
read_vector_rows fmt v room bs =
    let part = part_from bs (span_of bs v) in
    number_rows v bs
    then alone_rows fmt v (values_in bs v) (4 * vectors_of bs) (span_of bs v) (meta_at fmt part) part
    then row 15 the_page (room below values_in bs v)

-- ---- what it gives: the values of the vector that stands there, by the reading rule

unfoldable pub vector_values : Format → ℕ → List ℕ → List ℕ
vector_values fmt v bs =
    let part = part_from bs (span_of bs v) in
    decoded fmt (raw_from fmt (values_in bs v) (meta_at fmt part) (drop (meta_bytes fmt) part))

unfoldable pub read_vector_of : Format → ℕ → ℕ → List ℕ → Result
read_vector_of fmt v room bs = call (read_vector_rows fmt v room bs) (vector_values fmt v bs)

-- to unfold this is to unfold all of the above
unfoldable pub all_read_vector : Unit {0}
unfolding span_of number_rows alone_rows read_vector_rows vector_values read_vector_of
all_read_vector = tt
