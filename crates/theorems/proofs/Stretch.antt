-- One vector of a page that the reader accepts: it lies where the offsets say, its own rows pass, and its values are a stretch of the page's.
-- Assumes nothing.
use mathlib.Core.Path.{◌≡◌, refl, sym, ap, ◌∙◌}
use mathlib.Core.List.{List, [], ◌∷◌, ◌++◌, map, append-nil}
use Prim.Native.Nat.{ℕ, zero, suc, ◌+◌, ◌-◌, ◌*◌, ◌^◌, ◌<◌, ◌≤◌, min}
use native.Mathlib.Nat.{suc-mul, zero-mul, le_of_suc-le-suc, lt_of_not-le}
use native.Mathlib.Decide.{dec_le}
use native.Mathlib.Omega.{arith}
use lib.ListN.{length, take, drop, get_or, length-append, length-drop, drop_of_length-le}
use lib.Seq.{drop-drop, take_at, take_all, drop-append-add}
use lib.Ieee.{Format}
use borrow.Author.Tests.{ltb-false, lt-ltb, le-ltb}
use Rattle.digits.specs.Lists.{join}
use Rattle.digits.proofs.Rows.{length-numbers}
use Rattle.rules.specs.Kind.{meta_bytes}
use Rattle.rules.specs.Vector.{Raw, decoded}
use Rattle.rules.specs.Page.{Meta, vector_size, meta_at, raw_from, raws_from, raws_of, s_of, count_of, vectors_of, offsets_of, body_of}
use Rattle.rules.specs.Verdict.{fine, verdict, the_page, in_vector, ◌above◌, ◌isnt◌, done}
use Rattle.rules.specs.Read.{offsets_row, meta_rows, payload_rows, Cursor, here, next, start, vector_rows, vectors_rows, page_rows, values_of, read_of}
use Rattle.rules.specs.ReadVector.{values_in, span_of, part_from, number_rows, alone_rows, read_vector_rows, vector_values, read_vector_of}
use Rattle.rules.proofs.Pages.{Cut}
use Rattle.rules.proofs.Rows.{row_fine, row_first, first_fine, is, isnt_false}
use Rattle.rules.proofs.Reading.{meta_fine, page_header, page_fine}
use Rattle.rules.proofs.ReadingVector.{span_last}
use Rattle.rules.proofs.Decoded.{decoded-count, joined_count, raws_count, raws_cut}
use Rattle.theorems.proofs.Done.{settled, halves}

-- ---- values: the vectors of a column that is cut give it stretch by stretch

module _ (fmt : Format) (size : ℕ) where
  -- the first: all it gives, and no more, lies in the first `size` places
  first-stretch : (left : ℕ) (r : Raw) (rs : List Raw) → Cut size left (r ∷ rs) → take size (join (map (decoded fmt) (r ∷ rs))) ≡ decoded fmt r
  first-stretch left r rs c = go (join (map (decoded fmt) rs)) (decoded-count fmt r ∙ c.0) (joined_count fmt size (left - size) rs c.2)
    where
      go : (rest : List ℕ) → length (decoded fmt r) ≡ min size left → length rest ≡ left - size → take size (decoded fmt r ++ rest) ≡ decoded fmt r
      go rest count many = elim (dec_le size left) [ yes h ↦ take_at (decoded fmt r) rest size (omega (arith, count)) | no h ↦ last (lt_of_not-le h) ]
        where
          last : left < size → take size (decoded fmt r ++ rest) ≡ decoded fmt r
          last h =
              let none : length rest ≡ 0 = many ∙ omega arith in
              let n = length-append (decoded fmt r) rest in
              take_all size (decoded fmt r ++ rest) (omega (arith, count, none, n)) ∙ ap (λ (l : List ℕ). decoded fmt r ++ l) (drop_of_length-le rest {i = 0} (omega (arith, none))) ∙ append-nil (decoded fmt r)

  pub stretch : (left v : ℕ) (rs : List Raw) (d : Raw) → Cut size left rs → v < length rs → take size (drop (v * size) (join (map (decoded fmt) rs))) ≡ decoded fmt (get_or rs v d)
  stretch left v [] d c h = absurd (omega (arith, h))
  stretch left zero (r ∷ rs) d c h = ap (λ (x : ℕ). take size (drop x (join (map (decoded fmt) (r ∷ rs))))) (zero-mul size) ∙ first-stretch left r rs c
  stretch left (suc v) (r ∷ []) d c h = absurd (omega (arith, h))
  stretch left (suc v) (r ∷ (q ∷ rs)) d c h =
      let count : length (decoded fmt r) ≡ size = decoded-count fmt r ∙ c.0 ∙ omega (arith, c.2.1) in
      let place : suc v * size ≡ length (decoded fmt r) + v * size = omega (arith, count, suc-mul v size) in
      ap (λ (x : ℕ). take size (drop x (join (map (decoded fmt) (r ∷ (q ∷ rs)))))) place
      ∙ ap (take size) (drop-append-add (decoded fmt r) (join (map (decoded fmt) (q ∷ rs))) (v * size))
      ∙ stretch (left - size) v (q ∷ rs) d c.2 (le_of_suc-le-suc h)

-- ---- rows: where the vector at place v of the offsets lies, once the rows of all vectors pass

-- part is the bytes of vector number w from its offset on, and n its count of values: its own rows pass, it ends at the next offset or with the
-- last byte, and it is what the reader reads at its place
pub record Lies (fmt : Format) (size : ℕ) (c : Cursor) (os bs : List ℕ) (v w n : ℕ) (part : List ℕ) (d : Raw) : Type 0 where
  pub meta : verdict (meta_rows fmt w n (meta_at fmt part) part) ≡ fine
  pub payload : verdict (payload_rows fmt w n (meta_at fmt part) part) ≡ fine
  pub ends_next : suc v < length os → get_or os v 0 + vector_size fmt n (meta_at fmt part) ≡ get_or os (suc v) 0
  pub ends_last : length os ≤ suc v → get_or os v 0 + vector_size fmt n (meta_at fmt part) ≡ c.offset + length bs
  pub raw : get_or (raws_from fmt size c.left os bs) v d ≡ raw_from fmt n (meta_at fmt part) (drop (meta_bytes fmt) part)

module _ (fmt : Format) (size : ℕ) (d : Raw) where
  -- each vector lies behind the cursor
  pub lies_behind : (c : Cursor) (os bs : List ℕ) (v : ℕ) → v < length os → verdict (vectors_rows fmt size c os bs) ≡ fine → c.offset ≤ get_or os v 0
  unfolding vectors_rows vector_rows
  lies_behind c [] bs v h ok = absurd (omega (arith, h))
  lies_behind c (o ∷ os) bs zero h ok =
      let a = first_fine (verdict (vector_rows fmt size c o (meta_at fmt bs) bs)) _ ok in
      omega (arith, isnt_false o c.offset (row_first 8 (in_vector c.vector) (o isnt c.offset) _ a.0).0)
  lies_behind c (o ∷ os) bs (suc v) h ok =
      let m = meta_at fmt bs in
      let a = first_fine (verdict (vector_rows fmt size c o m bs)) _ ok in
      let b = lies_behind (next fmt size c m) os (drop (vector_size fmt (here size c) m) bs) v (le_of_suc-le-suc h) a.1 in
      omega (arith, b)

  -- the first vector, and what lies behind it
  module _ (c : Cursor) (o : ℕ) (bs : List ℕ) where
    abbrev m : Meta
    m = meta_at fmt bs

    abbrev k : ℕ
    k = vector_size fmt (here size c) m

    passing : (os : List ℕ) → verdict (vectors_rows fmt size c (o ∷ os) bs) ≡ fine
        → (o ≡ c.offset) × (verdict (meta_rows fmt c.vector (here size c) m bs) ≡ fine) × (verdict (payload_rows fmt c.vector (here size c) m bs) ≡ fine)
        × (verdict (vectors_rows fmt size (next fmt size c m) os (drop k bs)) ≡ fine)
    unfolding vectors_rows vector_rows
    passing os ok =
        let a = first_fine (verdict (vector_rows fmt size c o m bs)) _ ok in
        let b = row_first 8 (in_vector c.vector) (o isnt c.offset) _ a.0 in
        let e = first_fine (verdict (meta_rows fmt c.vector (here size c) m bs)) _ b.1 in
        (isnt_false o c.offset b.0, e.0, e.1, a.1)

    inside : (os : List ℕ) → verdict (vectors_rows fmt size c (o ∷ os) bs) ≡ fine → k ≤ length bs
    inside os ok = (meta_fine fmt c.vector (here size c) m bs (passing os ok).1).whole

  module _ (c : Cursor) (o : ℕ) (bs : List ℕ) where
    -- the next vector stands at its end, or nothing does
    first_next : (os : List ℕ) → verdict (vectors_rows fmt size c (o ∷ os) bs) ≡ fine → 1 < length (o ∷ os) → o + k c o bs ≡ get_or (o ∷ os) 1 0
    first_next [] ok h = absurd (omega (arith, h))
    first_next (q ∷ os) ok h =
        let p = passing c o bs (q ∷ os) ok in
        omega (arith, p.0, (passing (next fmt size c (m c o bs)) q (drop (k c o bs) bs) os p.3).0)

    first-last : (os : List ℕ) → verdict (vectors_rows fmt size c (o ∷ os) bs) ≡ fine → length (o ∷ os) ≤ 1 → o + k c o bs ≡ c.offset + length bs
    unfolding vectors_rows
    first-last [] ok h =
        let p = passing c o bs [] ok in
        let none = ltb-false 0 (length (drop (k c o bs) bs)) (row_fine 14 the_page (length (drop (k c o bs) bs) above 0) p.3) in
        omega (arith, p.0, none, length-drop (k c o bs) bs, inside c o bs [] ok)
    first-last (q ∷ os) ok h = absurd (omega (arith, h))

    first-lies : (os : List ℕ) → verdict (vectors_rows fmt size c (o ∷ os) bs) ≡ fine → Lies fmt size c (o ∷ os) bs 0 c.vector (here size c) bs d
    unfolding raws_from
    first-lies os ok = record { meta = (passing c o bs os ok).1; payload = (passing c o bs os ok).2; ends_next = first_next os ok; ends_last = first-last os ok; raw = refl }

  pub lies : (c : Cursor) (os bs : List ℕ) (v w n : ℕ) (part : List ℕ) → w ≡ c.vector + v → n ≡ min size (c.left - v * size) → part ≡ drop (get_or os v 0 - c.offset) bs
      → v < length os → verdict (vectors_rows fmt size c os bs) ≡ fine → Lies fmt size c os bs v w n part d
  unfolding raws_from
  lies c [] bs v w n part ew en ep h ok = absurd (omega (arith, h))
  lies c (o ∷ os) bs zero w n part ew en ep h ok =
      let count : n ≡ here size c = en ∙ omega (arith, zero-mul size) in
      let none : o - c.offset ≡ 0 = omega (arith, (passing c o bs os ok).0) in
      let there : part ≡ bs = ep ∙ ap (λ (x : ℕ). drop x bs) none in
      let number : w ≡ c.vector = omega (arith, ew) in
      rw (count, there, number) (first-lies c o bs os ok)
  lies c (o ∷ os) bs (suc v) w n part ew en ep h ok =
      let p = passing c o bs os ok in
      let k : ℕ = vector_size fmt (here size c) (meta_at fmt bs) in
      let low = lies_behind (next fmt size c (meta_at fmt bs)) os (drop k bs) v (le_of_suc-le-suc h) p.3 in
      let place : get_or os v 0 - c.offset ≡ k + (get_or os v 0 - (c.offset + k)) = omega (arith, low) in
      let there : part ≡ drop (get_or os v 0 - (c.offset + k)) (drop k bs) = ep ∙ ap (λ (x : ℕ). drop x bs) place ∙ sym (drop-drop (get_or os v 0 - (c.offset + k)) k bs) in
      let u = lies (next fmt size c (meta_at fmt bs)) os (drop k bs) v w n part (omega (arith, ew)) (en ∙ omega (arith, suc-mul v size)) there (le_of_suc-le-suc h) p.3 in
      record {
        meta = u.meta;
        payload = u.payload;
        ends_next = λ l. u.ends_next (le_of_suc-le-suc l);
        ends_last = λ l. u.ends_last (le_of_suc-le-suc l) ∙ omega (arith, length-drop k bs, inside c o bs os ok);
        raw = u.raw;
      }

-- ---- the page

module _ (fmt : Format) (room : ℕ) (bs vs : List ℕ) (e : read_of fmt room bs ≡ done vs) (v : ℕ) (there : v < vectors_of bs) where
  abbrev size : ℕ
  size = 2 ^ s_of bs

  -- the span's bytes, as the reader comes to them from the first vector on
  part_is : 4 * vectors_of bs ≤ get_or (offsets_of bs) v 0 → part_from bs (span_of bs v) ≡ drop (get_or (offsets_of bs) v 0 - 4 * vectors_of bs) (body_of bs)
  unfolding span_of body_of
  part_is low =
      let o : ℕ = get_or (offsets_of bs) v 0 in
      let place : 8 + o ≡ 8 + 4 * vectors_of bs + (o - 4 * vectors_of bs) = omega (arith, low) in
      ap (λ (x : ℕ). drop x bs) place ∙ sym (drop-drop (o - 4 * vectors_of bs) (8 + 4 * vectors_of bs) bs)

  passes : verdict (page_rows fmt bs) ≡ fine
  passes = (halves fmt room bs vs e).0

  among-offsets : v < length (offsets_of bs)
  unfolding offsets_of
  among-offsets = omega (arith, there, length-numbers 4 (vectors_of bs) (drop 8 bs))

  -- any vector stands for one that there is not
  none : Raw
  none = raw_from fmt 0 (meta_at fmt []) []

  behind : 4 * vectors_of bs ≤ get_or (offsets_of bs) v 0
  behind = lies_behind fmt size none (start bs) (offsets_of bs) (body_of bs) v among-offsets (page_fine fmt bs passes).1

  it_lies : Lies fmt size (start bs) (offsets_of bs) (body_of bs) v v (values_in bs v) (part_from bs (span_of bs v)) none
  it_lies = lies fmt size none (start bs) (offsets_of bs) (body_of bs) v v (values_in bs v) (part_from bs (span_of bs v)) (omega arith) refl (part_is behind) among-offsets (page_fine fmt bs passes).1

  starts-behind : 4 * vectors_of bs ≤ (span_of bs v).from
  unfolding span_of
  starts-behind = behind

  ends : (span_of bs v).from + vector_size fmt (values_in bs v) (meta_at fmt (part_from bs (span_of bs v))) ≡ (span_of bs v).to
  unfolding span_of offsets_of body_of
  ends = elim (dec_le (vectors_of bs) (suc v)) [ yes h ↦ at_end h | no h ↦ before (lt_of_not-le h) ]
    where
      many : length (offsets_of bs) ≡ vectors_of bs
      many = length-numbers 4 (vectors_of bs) (drop 8 bs)

      at_end : vectors_of bs ≤ suc v → (span_of bs v).from + vector_size fmt (values_in bs v) (meta_at fmt (part_from bs (span_of bs v))) ≡ (span_of bs v).to
      at_end h =
          let room = (page_fine fmt bs passes).0.offsets in
          it_lies.ends_last (omega (arith, many, h)) ∙ omega (arith, length-drop (8 + 4 * vectors_of bs) bs, room) ∙ sym (span_last v bs h)

      before : suc v < vectors_of bs → (span_of bs v).from + vector_size fmt (values_in bs v) (meta_at fmt (part_from bs (span_of bs v))) ≡ (span_of bs v).to
      before h = it_lies.ends_next (omega (arith, many, h)) ∙ sym (rw (lt-ltb (suc v) (vectors_of bs) h))

  offsets-pass : verdict (offsets_row bs) ≡ fine
  unfolding offsets_row
  offsets-pass = rw (le-ltb (length bs) (8 + 4 * vectors_of bs) (page_fine fmt bs passes).0.offsets)

  vector-passes : (lent : ℕ) → values_in bs v ≤ lent → verdict (read_vector_rows fmt v lent bs) ≡ fine
  unfolding read_vector_rows number_rows alone_rows
  vector-passes lent fits =
      let part = part_from bs (span_of bs v) in
      rw (
        page_header fmt bs passes,
        lt-ltb v (vectors_of bs) there,
        offsets-pass,
        le-ltb (span_of bs v).from (4 * vectors_of bs) starts-behind,
        it_lies.meta,
        is ((span_of bs v).from + vector_size fmt (values_in bs v) (meta_at fmt part)) (span_of bs v).to ends,
        it_lies.payload,
        le-ltb lent (values_in bs v) fits,
      )

  values-are : vector_values fmt v bs ≡ take size (drop (v * size) vs)
  unfolding vector_values values_of raws_of
  values-are =
      ap (decoded fmt) (sym it_lies.raw)
      ∙ sym (stretch fmt size (count_of bs) v (raws_of fmt bs) none (raws_cut fmt bs) (omega (arith, there, raws_count fmt bs)))
      ∙ ap (λ (l : List ℕ). take size (drop (v * size) l)) (settled fmt room bs vs e).1

  -- given room, exactly that stretch of what the reader gives
  pub vector_is_stretch : (lent : ℕ) → values_in bs v ≤ lent → read_vector_of fmt v lent bs ≡ done (take size (drop (v * size) vs))
  unfolding read_vector_of
  vector_is_stretch lent fits = rw (vector-passes lent fits) (ap done values-are)
