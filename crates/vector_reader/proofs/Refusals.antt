-- Which row refuses: for each group of rows, the first that does once those before it have passed; and one group of rows after another.
-- Assumes nothing.
use mathlib.Core.Path.{◌≡◌, ap, ap₂, ◌∙◌}
use mathlib.Core.List.{List}
use Prim.Native.Nat.{ℕ, ◌+◌, ◌*◌, ◌≤◌, ◌<◌, min}
use lib.ListN.{length}
use lib.Ieee.{Format}
use borrow.Author.Tests.{lt-ltb, le-ltb, eq-eqb, ne_eqb}
use Rattle.std.specs.Prelude.{Result, Ok, Err}
use Rattle.std.specs.Result.{IsErrAnd}
use Rattle.digits.proofs.Lists.{lent}
use Rattle.rules.specs.Page.{vectors_of, vector_size, meta_at}
use Rattle.rules.specs.Verdict.{Rows, fine, refuse, verdict, the_page, in_vector}
use Rattle.rules.specs.Read.{head_rows, offsets_row, meta_rows, payload_rows}
use Rattle.rules.specs.ReadVector.{values_in, Span, span_of, part_from, number_rows, alone_rows, read_vector_rows}
use Rattle.checks.specs.declared.check.Refusal.{Refusal}
use Rattle.rules.proofs.Reading.{MetaPassed, meta_fine}
use Rattle.checks.specs.Forms.{as_verdict, as_meta, FoundMeta}
use Rattle.checks.specs.declared.vector.Meta.{Meta}
use Rattle.checks.proofs.Refusals.{check_fine, stops}
use Rattle.vector_reader.proofs.Spans.{part_is}

-- ---- rows 1 to 6, 30, 7 for the offsets

module _ (v : ℕ) (bs : List ℕ) where
  pub number-stops : (head : Result Unit Refusal) → as_verdict head ≡ verdict (head_rows bs) → (s : Result Unit Refusal) (a : Refusal) → head ≡ Err a → IsErrAnd s (λ b. b ≡ a)
      → as_verdict s ≡ verdict (number_rows v bs)
  unfolding number_rows
  number-stops head e s a f h = stops head e s a _ f h

  module _ (ok : verdict (head_rows bs) ≡ fine) where
    pub no30 : vectors_of bs ≤ v → refuse 30 the_page ≡ verdict (number_rows v bs)
    unfolding number_rows
    no30 h = rw (ok, le-ltb v (vectors_of bs) h)

    pub number_goes_on : v < vectors_of bs → verdict (offsets_row bs) ≡ verdict (number_rows v bs)
    unfolding number_rows
    number_goes_on h = rw (ok, lt-ltb v (vectors_of bs) h)

-- ---- of the vector alone

module _ (fmt : Format) (v n low : ℕ) (l : Span) (bs : List ℕ) where
  pub starts-early : l.from < low → refuse 8 (in_vector v) ≡ verdict (alone_rows fmt v n low l (meta_at fmt bs) bs)
  unfolding alone_rows
  starts-early h = rw (lt-ltb l.from low h)

  module _ (late : low ≤ l.from) (r : Result Unit Refusal) (e : as_verdict r ≡ verdict (meta_rows fmt v n (meta_at fmt bs) bs)) where
    pub alone-stops : (s : Result Unit Refusal) (a : Refusal) → r ≡ Err a → IsErrAnd s (λ b. b ≡ a) → as_verdict s ≡ verdict (alone_rows fmt v n low l (meta_at fmt bs) bs)
    unfolding alone_rows
    alone-stops s a f h = rw (le-ltb l.from low late) (stops r e s a _ f h)

-- it starts behind the offsets, and the rows of its metadata pass
pub record Described (fmt : Format) (v n low : ℕ) (l : Span) (bs : List ℕ) : Type 0 where
  pub late : low ≤ l.from
  pub described : verdict (meta_rows fmt v n (meta_at fmt bs) bs) ≡ fine

-- so it is where the check of the metadata gave fine
pub described_at : (fmt : Format) (v n low : ℕ) (l : Span) (bs : List ℕ) → low ≤ l.from → (r : Result Unit Refusal) → as_verdict r ≡ verdict (meta_rows fmt v n (meta_at fmt bs) bs)
    → {u : Unit} → r ≡ Ok u → Described fmt v n low l bs
described_at fmt v n low l bs late r e f = record { late = late; described = check_fine r e f }

-- the size that the code's metadata gives
pub size_at : (fmt : Format) (n : ℕ) (bs : List ℕ) (m : Meta) (k : ℕ) → FoundMeta fmt bs m → k ≡ vector_size fmt n (as_meta m) → k ≡ vector_size fmt n (meta_at fmt bs)
size_at fmt n bs m k found e = e ∙ ap (vector_size fmt n) found.meta_is

module _ {fmt : Format} {v n low : ℕ} {l : Span} {bs : List ℕ} (q : Described fmt v n low l bs) where
  pub meta_passes : MetaPassed fmt n (meta_at fmt bs) bs
  meta_passes = meta_fine fmt v n (meta_at fmt bs) bs q.described

  module _ {k : ℕ} (ek : k ≡ vector_size fmt n (meta_at fmt bs)) where
    pub ends_elsewhere : (l.from + k ≡ l.to → ⊥) → refuse 8 (in_vector v) ≡ verdict (alone_rows fmt v n low l (meta_at fmt bs) bs)
    unfolding alone_rows
    ends_elsewhere h = rw (le-ltb l.from low q.late, q.described, ← ek, ne_eqb (l.from + k) l.to h)

    pub alone_goes_on : l.from + k ≡ l.to → verdict (payload_rows fmt v n (meta_at fmt bs) bs) ≡ verdict (alone_rows fmt v n low l (meta_at fmt bs) bs)
    unfolding alone_rows
    alone_goes_on h = rw (le-ltb l.from low q.late, q.described, ← ek, eq-eqb (l.from + k) l.to h)

-- ---- all rows

module _ (fmt : Format) (v : ℕ) (bs : List ℕ) where
  -- the vector's bytes, and its rows, where the page says that it lies
  abbrev pub there : List ℕ
  there = part_from bs (span_of bs v)

  abbrev pub its_rows : Rows
  its_rows = alone_rows fmt v (values_in bs v) (4 * vectors_of bs) (span_of bs v) (meta_at fmt there) there

  -- they were asked of a span, a count, an end of the offsets and a part of the page that are these
  rows_are : (l : Span) (n low : ℕ) (part : List ℕ) → l ≡ span_of bs v → n ≡ values_in bs v → low ≡ 4 * vectors_of bs → part ≡ part_from bs l
      → verdict (alone_rows fmt v n low l (meta_at fmt part) part) ≡ verdict its_rows
  rows_are l n low part el en eo ep =
      ap (λ (x : List ℕ). verdict (alone_rows fmt v n low l (meta_at fmt x) x)) (ep ∙ ap (part_from bs) el)
      ∙ ap (λ (x : Span). verdict (alone_rows fmt v n low x (meta_at fmt there) there)) el
      ∙ ap₂ (λ (x y : ℕ). verdict (alone_rows fmt v x y (span_of bs v) (meta_at fmt there) there)) en eo

  pub read_stops : (room : ℕ) (number : Result Unit Refusal) → as_verdict number ≡ verdict (number_rows v bs) → (s : Result Unit Refusal) (a : Refusal) → number ≡ Err a
      → IsErrAnd s (λ b. b ≡ a) → as_verdict s ≡ verdict (read_vector_rows fmt v room bs)
  unfolding read_vector_rows
  read_stops room number e s a f h = stops number e s a _ f h

  -- the rows of the number pass, and those of the vector alone were asked where the page says that it lies
  pub record Asked (n : ℕ) (alone : Result Unit Refusal) : Type 0 where
    pub numbered : verdict (number_rows v bs) ≡ fine
    pub count-is : n ≡ values_in bs v
    pub asked : as_verdict alone ≡ verdict its_rows

  pub asked_at : (number : Result Unit Refusal) → as_verdict number ≡ verdict (number_rows v bs) → {u : Unit} → number ≡ Ok u
      → (l : Span) (n many start : ℕ) → l ≡ span_of bs v → n ≡ values_in bs v → many ≡ vectors_of bs → start ≡ min (length bs) (8 + l.from)
      → (alone : Result Unit Refusal) → as_verdict alone ≡ verdict (alone_rows fmt v n (4 * many) l (meta_at fmt (lent start bs)) (lent start bs)) → Asked n alone
  asked_at number e f l n many start el en em es alone ea =
      record {
        numbered = check_fine number e f;
        count-is = en;
        asked = ea ∙ rows_are l n (4 * many) (lent start bs) el en (ap (λ (x : ℕ). 4 * x) em) (part_is l.from start bs es);
      }

module _ {fmt : Format} {v : ℕ} {bs : List ℕ} {n : ℕ} {alone : Result Unit Refusal} (q : Asked fmt v bs n alone) (room : ℕ) where
  pub vector-stops : (s : Result Unit Refusal) (a : Refusal) → alone ≡ Err a → IsErrAnd s (λ b. b ≡ a) → as_verdict s ≡ verdict (read_vector_rows fmt v room bs)
  unfolding read_vector_rows
  vector-stops s a f h = rw q.numbered (stops alone q.asked s a _ f h)

  module _ {u : Unit} (sound : alone ≡ Ok u) where
    pub no15 : room < n → refuse 15 the_page ≡ verdict (read_vector_rows fmt v room bs)
    unfolding read_vector_rows
    no15 h = rw (q.numbered, check_fine alone q.asked sound, ← q.count-is, lt-ltb room n h)

    pub read_passes : n ≤ room → fine ≡ verdict (read_vector_rows fmt v room bs)
    unfolding read_vector_rows
    read_passes h = rw (q.numbered, check_fine alone q.asked sound, ← q.count-is, le-ltb room n h)
