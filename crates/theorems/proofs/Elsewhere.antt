-- What the reading of one vector looks at: the header, its two offsets, its own bytes and the page's length. Two byte lists that agree there
-- get the same answer, whatever they hold elsewhere. Assumes nothing.
use mathlib.Core.Path.{◌≡◌, sym, ap, ap₂, ◌∙◌}
use Prim.Native.Nat.{ℕ, zero, suc, ◌+◌, ◌-◌, ◌*◌, ◌<◌, ◌≤◌}
use native.Mathlib.Omega.{arith}
use mathlib.Core.List.{List, [], ◌∷◌, ◌++◌}
use lib.ListN.{length, take, drop, get_or, length-drop}
use lib.Seq.{get_or-take, take-nil, length-take-le}
use lib.Ieee.{Format}
use Rattle.digits.specs.Digits.{number}
use Rattle.rules.specs.Kind.{meta_bytes}
use Rattle.rules.specs.Vector.{Raw, wholes, decoded}
use Rattle.rules.specs.Page.{Meta, vector_size, meta_at, raw_from, s_of, count_of, vectors_of}
use Rattle.rules.specs.Verdict.{Rows, row, ◌then◌, in_vector, ◌below◌, ◌isnt◌, verdict, settle}
use Rattle.rules.specs.Read.{head_rows, offsets_row, meta_rows, positions_rows, sums_rows, payload_rows}
use Rattle.rules.specs.ReadVector.{values_in, Span, span_of, number_rows, alone_rows, read_vector_rows, vector_values, read_vector_of}
use Rattle.rules.specs.Demands.{vector_at, Alike}
use Rattle.theorems.proofs.Longer.{meta_same, raw_same, front_decides}

-- ---- the header

drop-take : (n m : ℕ) (l : List ℕ) → drop n (take (n + m) l) ≡ take m (drop n l)
drop-take zero m l = let e : 0 + m ≡ m = omega arith in ap (λ (x : ℕ). take x l) e
drop-take (suc n) m [] = let e : suc n + m ≡ suc (n + m) = omega arith in ap (λ (x : ℕ). drop (suc n) (take x [])) e ∙ sym (take-nil m)
drop-take (suc n) m (x ∷ l) = let e : suc n + m ≡ suc (n + m) = omega arith in ap (λ (k : ℕ). drop (suc n) (take k (x ∷ l))) e ∙ drop-take n m l

module _ (bs cs : List ℕ) (same : take 8 bs ≡ take 8 cs) where
  byte_same : (i : ℕ) → i < 8 → get_or bs i 0 ≡ get_or cs i 0
  byte_same i h = sym (get_or-take 8 bs i 0 h) ∙ ap (λ (l : List ℕ). get_or l i 0) same ∙ get_or-take 8 cs i 0 h

  count_same : count_of bs ≡ count_of cs
  unfolding count_of
  count_same = ap number (sym (drop-take 4 4 bs) ∙ ap (drop 4) same ∙ drop-take 4 4 cs)

  head_same : length bs ≡ length cs → head_rows bs ≡ head_rows cs
  unfolding head_rows
  head_same long = rw (long, byte_same 0 (omega arith), byte_same 1 (omega arith), byte_same 2 (omega arith), byte_same 3 (omega arith), count_same)

-- ---- the vector: what is read of it stands in as many bytes as it has

module _ (fmt : Format) (n : ℕ) (m : Meta) (part other : List ℕ) (same : take (vector_size fmt n m) part ≡ take (vector_size fmt n m) other) where
  abbrev k : ℕ
  k = vector_size fmt n m

  -- what any k bytes decide, these k bytes decide
  front : {A : Type 0} (f : List ℕ → A) → ((l : List ℕ) → k ≤ length l → f (take k l ++ drop k l) ≡ f (take k l)) → f part ≡ f other
  front f h = sym (front_decides f k part (h part)) ∙ ap f same ∙ front_decides f k other (h other)

  part_meta : meta_at fmt part ≡ meta_at fmt other
  part_meta = front (meta_at fmt) (λ l h. meta_same fmt (take k l) (drop k l) (omega (arith, length-take-le k l h)))

  part_raw : raw_from fmt n m (drop (meta_bytes fmt) part) ≡ raw_from fmt n m (drop (meta_bytes fmt) other)
  part_raw = front (λ l. raw_from fmt n m (drop (meta_bytes fmt) l)) (λ l h. raw_same fmt n m (take k l) (drop k l) (omega (arith, length-take-le k l h)))

  part_payload : (v : ℕ) → payload_rows fmt v n m part ≡ payload_rows fmt v n m other
  unfolding payload_rows
  part_payload v = ap (λ (r : Raw). positions_rows v n (record { index = 0; low = 0 }) r.positions then sums_rows fmt v 0 (wholes fmt r)) part_raw

meta_rows_same : (fmt : Format) (v n : ℕ) (m : Meta) (part other : List ℕ) → length part ≡ length other → meta_rows fmt v n m part ≡ meta_rows fmt v n m other
unfolding meta_rows
meta_rows_same fmt v n m part other long = rw long

-- ---- the call

module _ (fmt : Format) (v : ℕ) (bs cs : List ℕ) (q : Alike fmt v bs cs) where
  abbrev n : ℕ
  n = values_in bs v

  abbrev m : Meta
  m = meta_at fmt (vector_at bs v)

  s_same : s_of bs ≡ s_of cs
  s_same = byte_same bs cs q.header 3 (omega arith)

  many-same : vectors_of bs ≡ vectors_of cs
  many-same = rw (s_same, count_same bs cs q.header)

  values_same : values_in bs v ≡ values_in cs v
  values_same = rw (s_same, count_same bs cs q.header)

  meta_is : m ≡ meta_at fmt (vector_at cs v)
  meta_is = part_meta fmt n m (vector_at bs v) (vector_at cs v) q.vector

  at_long : length (vector_at bs v) ≡ length (vector_at cs v)
  at_long = length-drop (8 + (span_of bs v).from) bs ∙ ap₂ (λ (x : ℕ) (l : Span). x - (8 + l.from)) q.long q.offsets ∙ sym (length-drop (8 + (span_of cs v).from) cs)

  number_same : number_rows v bs ≡ number_rows v cs
  unfolding number_rows offsets_row
  number_same = rw (head_same bs cs q.header q.long, many-same, q.long)

  alone-same : alone_rows fmt v n (4 * vectors_of bs) (span_of bs v) m (vector_at bs v) ≡ alone_rows fmt v (values_in cs v) (4 * vectors_of cs) (span_of cs v) (meta_at fmt (vector_at cs v)) (vector_at cs v)
  unfolding alone_rows
  alone-same =
      ap₂ (λ (a b : Rows). row 8 (in_vector v) ((span_of bs v).from below 4 * vectors_of bs) then a then row 8 (in_vector v) ((span_of bs v).from + vector_size fmt n m isnt (span_of bs v).to) then b)
      (meta_rows_same fmt v n m (vector_at bs v) (vector_at cs v) at_long) (part_payload fmt n m (vector_at bs v) (vector_at cs v) q.vector v)
      ∙ ap₂ (λ (l : Span) (x : ℕ). alone_rows fmt v n (4 * x) l m (vector_at cs v)) q.offsets many-same
      ∙ ap₂ (λ (x : ℕ) (y : Meta). alone_rows fmt v x (4 * vectors_of cs) (span_of cs v) y (vector_at cs v)) values_same meta_is

  rows_same : (room : ℕ) → read_vector_rows fmt v room bs ≡ read_vector_rows fmt v room cs
  unfolding read_vector_rows
  rows_same room = rw (number_same, alone-same, values_same)

  values-are : vector_values fmt v bs ≡ vector_values fmt v cs
  unfolding vector_values
  values-are = ap (decoded fmt) (part_raw fmt n m (vector_at bs v) (vector_at cs v) q.vector ∙ ap₂ (λ (x : ℕ) (y : Meta). raw_from fmt x y (drop (meta_bytes fmt) (vector_at cs v))) values_same meta_is)

  pub elsewhere_does_not_matter : (room : ℕ) → read_vector_of fmt v room bs ≡ read_vector_of fmt v room cs
  unfolding read_vector_of
  elsewhere_does_not_matter room = ap₂ (λ (x : Rows) (y : List ℕ). settle (verdict x) y) (rows_same room) values-are
