-- The rows of one vector's reading: what it shows that they pass; where the vector lies, in the page's bytes; and how many values it gives.
-- Assumes nothing.
use mathlib.Core.Path.{◌≡◌, ap, ap₂, ◌∙◌}
use mathlib.Core.Bool.{not}
use Prim.Native.Nat.{ℕ, suc, ◌+◌, ◌-◌, ◌*◌, ◌^◌, ◌<◌, ◌≤◌}
use native.Mathlib.Nat.{le_trans, mul-le-mul_right, suc-mul, div-mul-le_self}
use native.Mathlib.Omega.{arith}
use mathlib.Core.List.{List}
use lib.ListN.{length, take, drop, get_or}
use lib.Seq.{drop-drop}
use lib.Pow.{pow_pos}
use lib.Ieee.{Format}
use borrow.Author.Tests.{ltb-true, ltb-false, lt-ltb, le-ltb, not-false}
use Rattle.digits.specs.Digits.{number}
use Rattle.digits.proofs.Rows.{get_or-numbers}
use Rattle.rules.specs.Kind.{meta_bytes}
use Rattle.rules.specs.Page.{Meta, vector_size, meta_at, raw_from, s_of, count_of, vectors_of, offsets_of}
use Rattle.rules.specs.Verdict.{fine, verdict, the_page, in_vector, ◌below◌, ◌isnt◌}
use Rattle.rules.specs.Read.{head_rows, meta_rows}
use Rattle.rules.specs.ReadVector.{values_in, Span, span_of, part_from, number_rows, alone_rows, read_vector_rows, vector_values}
use Rattle.rules.proofs.Rows.{row_fine, row_first, first_fine, isnt_false}
use Rattle.rules.proofs.Reading.{Head, head_fine, Passed, passed}
use Rattle.rules.proofs.Encoded.{ceil}
use Rattle.rules.proofs.Decoded.{decoded-count}

-- ---- rows 1 to 6, 30, 7 for the offsets

-- what they show: the head of the page, and that there is a vector of this number
pub record Numbered (v : ℕ) (bs : List ℕ) : Type 0 where
  pub header : verdict (head_rows bs) ≡ fine
  pub head : Head bs
  pub there : v < vectors_of bs

pub number-fine : (v : ℕ) (bs : List ℕ) → verdict (number_rows v bs) ≡ fine → Numbered v bs
unfolding number_rows
number-fine v bs ok =
    let a = first_fine (verdict (head_rows bs)) _ ok in
    let b = row_first 30 the_page (not (v below vectors_of bs)) _ a.1 in
    record { header = a.0; head = head_fine bs a.0 b.1; there = ltb-true v (vectors_of bs) (not-false (v below vectors_of bs) b.0) }

-- a vector that is there has values: the full ones before it leave some for it
vectors-before : (size n v : ℕ) → 0 < size → v < ceil size n → v * size < n
unfolding ceil
vectors-before size n v z h =
    let m : suc v * size ≤ n + (size - 1) = le_trans (mul-le-mul_right size h) (div-mul-le_self (n + (size - 1)) size) in
    let e = suc-mul v size in
    omega arith

pub values-before : (v : ℕ) (bs : List ℕ) → v < vectors_of bs → v * 2 ^ s_of bs < count_of bs
unfolding ceil
values-before v bs h = vectors-before (2 ^ s_of bs) (count_of bs) v (pow_pos (s_of bs)) h

-- ---- the span, in the page's bytes

offset-bytes : (v : ℕ) (bs : List ℕ) → v < vectors_of bs → get_or (offsets_of bs) v 0 ≡ number (take 4 (drop (8 + 4 * v) bs))
unfolding offsets_of
offset-bytes v bs h = get_or-numbers 4 (vectors_of bs) (drop 8 bs) v h ∙ ap (λ (x : List ℕ). number (take 4 x)) (drop-drop (4 * v) 8 bs)

module _ (v : ℕ) (bs : List ℕ) where
  pub span_from : v < vectors_of bs → (span_of bs v).from ≡ number (take 4 (drop (8 + 4 * v) bs))
  unfolding span_of
  span_from h = offset-bytes v bs h

  pub span_to : suc v < vectors_of bs → (span_of bs v).to ≡ number (take 4 (drop (8 + 4 * suc v) bs))
  unfolding span_of
  span_to h = rw (lt-ltb (suc v) (vectors_of bs) h) (offset-bytes (suc v) bs h)

  pub span_last : vectors_of bs ≤ suc v → (span_of bs v).to ≡ length bs - 8
  unfolding span_of
  span_last h = rw (le-ltb (suc v) (vectors_of bs) h)

  pub span_is : (l : Span) → l.from ≡ (span_of bs v).from → l.to ≡ (span_of bs v).to → l ≡ span_of bs v
  span_is l ef et = ap₂ (λ (x y : ℕ). record { from = x; to = y }) ef et

-- ---- the vector alone, and all rows

-- what the rows of the vector alone show
pub record Alone (fmt : Format) (n low : ℕ) (l : Span) (m : Meta) (bs : List ℕ) : Type 0 where
  pub behind-offsets : low ≤ l.from
  pub ends : l.from + vector_size fmt n m ≡ l.to
  pub passes : Passed fmt n m bs

pub alone-fine : (fmt : Format) (v n low : ℕ) (l : Span) (m : Meta) (bs : List ℕ) → verdict (alone_rows fmt v n low l m bs) ≡ fine → Alone fmt n low l m bs
unfolding alone_rows
alone-fine fmt v n low l m bs ok =
    let a = row_first 8 (in_vector v) (l.from below low) _ ok in
    let b = first_fine (verdict (meta_rows fmt v n m bs)) _ a.1 in
    let c = row_first 8 (in_vector v) (l.from + vector_size fmt n m isnt l.to) _ b.1 in
    record { behind-offsets = ltb-false l.from low a.0; ends = isnt_false (l.from + vector_size fmt n m) l.to c.0; passes = passed fmt v n m bs b.0 c.1 }

-- what all rows show
pub record Chosen (fmt : Format) (v room : ℕ) (bs : List ℕ) : Type 0 where
  pub numbered : verdict (number_rows v bs) ≡ fine
  pub alone : Alone fmt (values_in bs v) (4 * vectors_of bs) (span_of bs v) (meta_at fmt (part_from bs (span_of bs v))) (part_from bs (span_of bs v))
  pub roomy : values_in bs v ≤ room

pub chosen-fine : (fmt : Format) (v room : ℕ) (bs : List ℕ) → verdict (read_vector_rows fmt v room bs) ≡ fine → Chosen fmt v room bs
unfolding read_vector_rows
chosen-fine fmt v room bs ok =
    let part = part_from bs (span_of bs v) in
    let a = first_fine (verdict (number_rows v bs)) _ ok in
    let b = first_fine (verdict (alone_rows fmt v (values_in bs v) (4 * vectors_of bs) (span_of bs v) (meta_at fmt part) part)) _ a.1 in
    record {
      numbered = a.0;
      alone = alone-fine fmt v (values_in bs v) (4 * vectors_of bs) (span_of bs v) (meta_at fmt part) part b.0;
      roomy = ltb-false room (values_in bs v) (row_fine 15 the_page (room below values_in bs v) b.1);
    }

-- ---- what it gives: of any bytes, as many values as the vector holds

pub vector_values_count : (fmt : Format) (v : ℕ) (bs : List ℕ) → length (vector_values fmt v bs) ≡ values_in bs v
unfolding vector_values raw_from
vector_values_count fmt v bs =
    let part = part_from bs (span_of bs v) in
    decoded-count fmt (raw_from fmt (values_in bs v) (meta_at fmt part) (drop (meta_bytes fmt) part))
