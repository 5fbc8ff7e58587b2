-- Bytes that the reader accepts are the layout of what it reads. Assumes nothing.
use mathlib.Core.Path.{◌≡◌, refl, sym, ap, ap₂, ◌∙◌}
use Prim.Native.Nat.{ℕ, suc, ◌+◌, ◌-◌, ◌*◌, ◌^◌, ◌<◌, ◌≤◌}
use native.Mathlib.Nat.{mul_comm}
use native.Mathlib.Omega.{arith}
use mathlib.Core.List.{List, [], ◌∷◌, ◌++◌, append_assoc}
use lib.ListN.{length, take, drop, get_or, length-drop, take-append-drop}
use lib.Seq.{take-add, length-take-le, drop-drop}
use lib.Ieee.{Format}
use borrow.Author.Tests.{ltb-false}
use Rattle.digits.specs.Lists.{Each}
use Rattle.digits.specs.Digits.{les, packed_size}
use Rattle.digits.proofs.Lists.{front_at, each_take, each_drop, each_map}
use Rattle.digits.proofs.Rows.{front-le, front-lt, length-numbers, les-numbers, numbers-lt}
use Rattle.rules.specs.Kind.{word_bytes, meta_bytes, Bytes, Values}
use Rattle.rules.specs.Vector.{Raw}
use Rattle.rules.specs.Page.{Meta, meta_of, metadata, payload, vector_bytes, vector_size, size_of, starts, bodies, header, layout, meta_at, raw_from, raws_from, raws_of, s_of, count_of, vectors_of, offsets_of, body_of}
use Rattle.rules.specs.Verdict.{fine, verdict, the_page, ◌above◌}
use Rattle.rules.specs.Read.{Cursor, here, next, start, vector_rows, vectors_rows, page_rows, values_of}
use Rattle.rules.proofs.Rows.{row_fine, first_fine}
use Rattle.rules.proofs.Pages.{Fit}
use Rattle.rules.proofs.Reading.{Sound, Passed, vector-fine, Head, page_fine}
use Rattle.rules.proofs.Encoded.{power-word}
use Rattle.rules.proofs.Decoded.{raws_count, joined_values}

bytes_take : (n : ℕ) (bs : List ℕ) → Bytes bs → Bytes (take n bs)
bytes_take = each_take (λ (b : ℕ). b < 256)

pub bytes_drop : (n : ℕ) (bs : List ℕ) → Bytes bs → Bytes (drop n bs)
bytes_drop = each_drop (λ (b : ℕ). b < 256)

-- ---- one vector

one : (bs : List ℕ) → 1 ≤ length bs → take 1 bs ≡ get_or bs 0 0 ∷ []
one [] l = absurd (omega (arith, l))
one (b ∷ bs) l = refl

two : (bs : List ℕ) → 2 ≤ length bs → take 2 bs ≡ get_or bs 0 0 ∷ get_or bs 1 0 ∷ []
two [] l = absurd (omega (arith, l))
two (a ∷ []) l = absurd (omega (arith, l))
two (a ∷ b ∷ bs) l = refl

module _ (fmt : Format) (bs : List ℕ) (h : Bytes bs) (l : meta_bytes fmt ≤ length bs) where
  meta_at_lem : metadata fmt (meta_at fmt bs) ≡ take (meta_bytes fmt) bs
  unfolding metadata meta_at
  meta_at_lem =
      let b : ℕ = word_bytes fmt in
      let a = two bs (omega arith) in
      let c = front-le 2 (drop 2 bs) (rw length-drop (omega arith)) (bytes_drop 2 bs h) in
      let f = front-le b (drop 4 bs) (rw length-drop (omega arith)) (bytes_drop 4 bs h) in
      let w : take 1 (drop (4 + b) bs) ≡ get_or bs (4 + b) 0 ∷ [] = one (drop (4 + b) bs) (rw length-drop (omega arith)) ∙ ap (λ (x : ℕ). x ∷ []) (front_at (4 + b) bs) in
      let s4 : take (4 + (b + 1)) bs ≡ take 4 bs ++ take (b + 1) (drop 4 bs) = take-add 4 (b + 1) bs in
      let s2 : take 4 bs ≡ take 2 bs ++ take 2 (drop 2 bs) = take-add 2 2 bs in
      let sb : take (b + 1) (drop 4 bs) ≡ take b (drop 4 bs) ++ take 1 (drop b (drop 4 bs)) = take-add b 1 (drop 4 bs) in
      let q : 4 + (b + 1) ≡ meta_bytes fmt = omega arith in
      ap₂ (λ (x y : List ℕ). get_or bs 0 0 ∷ get_or bs 1 0 ∷ (x ++ y)) c (ap₂ (λ (x y : List ℕ). x ++ y) f (sym w))
      ∙ ap (λ (x : List ℕ). x ++ (take 2 (drop 2 bs) ++ (take b (drop 4 bs) ++ take 1 (drop (4 + b) bs)))) (sym a)
      ∙ sym (append_assoc (take 2 bs) (take 2 (drop 2 bs)) (take b (drop 4 bs) ++ take 1 (drop (4 + b) bs)))
      ∙ ap₂ (λ (x y : List ℕ). x ++ y) (sym s2) (ap (λ (x : List ℕ). take b (drop 4 bs) ++ take 1 x) (sym (drop-drop b 4 bs)) ∙ sym sb)
      ∙ sym s4 ∙ ap (λ (n : ℕ). take n bs) q

  meta_listed : (meta_at fmt bs).listed < 256 ^ 2
  unfolding meta_at
  meta_listed = front-lt 2 (drop 2 bs) (rw length-drop (omega arith)) (bytes_drop 2 bs h)

  meta_frame : (meta_at fmt bs).frame < 256 ^ word_bytes fmt
  unfolding meta_at
  meta_frame = front-lt (word_bytes fmt) (drop 4 bs) (rw length-drop (omega arith)) (bytes_drop 4 bs h)

module _ (fmt : Format) (n : ℕ) (m : Meta) (bs : List ℕ) (h : Bytes bs) (l : packed_size n m.width + m.listed * (2 + word_bytes fmt) ≤ length bs) where
  abbrev packed-bytes : ℕ
  packed-bytes = packed_size n m.width

  abbrev after : List ℕ
  after = drop packed-bytes bs

  room-2 : m.listed * 2 ≤ length after
  room-2 = rw length-drop (omega arith)

  room-w : m.listed * word_bytes fmt ≤ length (drop (m.listed * 2) after)
  room-w = simp length-drop (omega arith)

  payload-at : payload fmt (raw_from fmt n m bs) ≡ take (packed-bytes + m.listed * (2 + word_bytes fmt)) bs
  unfolding payload raw_from
  payload-at =
      let e : m.listed * 2 + m.listed * word_bytes fmt ≡ m.listed * (2 + word_bytes fmt) = omega arith in
      ap (λ (x : List ℕ). take packed-bytes bs ++ x)
      (ap₂ (λ (x y : List ℕ). x ++ y) (les-numbers 2 m.listed after room-2 (bytes_drop packed-bytes bs h))
      (les-numbers (word_bytes fmt) m.listed (drop (m.listed * 2) after) room-w (bytes_drop (m.listed * 2) after (bytes_drop packed-bytes bs h)))
      ∙ sym (take-add (m.listed * 2) (m.listed * word_bytes fmt) after) ∙ ap (λ (k : ℕ). take k after) e)
      ∙ sym (take-add packed-bytes (m.listed * (2 + word_bytes fmt)) bs)

  meta_of_lem : meta_of (raw_from fmt n m bs) ≡ m
  unfolding raw_from
  meta_of_lem = λ i. record { pair = m.pair; listed = length-numbers 2 m.listed after i; frame = m.frame; width = m.width }

  raw_fit : m.listed < 256 ^ 2 → m.frame < 256 ^ word_bytes fmt → Fit fmt (raw_from fmt n m bs)
  unfolding raw_from
  raw_fit a b = record {
    listed = rw length-numbers a;
    frame = b;
    packed = length-take-le packed-bytes bs (omega arith);
    positions = numbers-lt 2 m.listed after room-2 (bytes_drop packed-bytes bs h);
    paired = length-numbers (word_bytes fmt) m.listed (drop (m.listed * 2) after) ∙ sym (length-numbers 2 m.listed after);
    exceptions = numbers-lt (word_bytes fmt) m.listed (drop (m.listed * 2) after) room-w (bytes_drop (m.listed * 2) after (bytes_drop packed-bytes bs h));
  }

  raw_packed : Bytes (raw_from fmt n m bs).packed
  unfolding raw_from
  raw_packed = bytes_take packed-bytes bs h

-- what the reader's rows show of one vector
module _ (fmt : Format) (n : ℕ) (bs : List ℕ) (h : Bytes bs) (ok : Passed fmt n (meta_at fmt bs) bs) where
  abbrev m : Meta
  m = meta_at fmt bs

  abbrev r : Raw
  r = raw_from fmt n m (drop (meta_bytes fmt) bs)

  data_room : packed_size n m.width + m.listed * (2 + word_bytes fmt) ≤ length (drop (meta_bytes fmt) bs)
  data_room = let w = ok.whole in rw length-drop (omega arith)

  pub vector-fit : Fit fmt r
  vector-fit = raw_fit fmt n m (drop (meta_bytes fmt) bs) (bytes_drop (meta_bytes fmt) bs h) data_room (meta_listed fmt bs h ok.room) (meta_frame fmt bs h ok.room)

  vector-sound : Sound fmt r
  unfolding raw_from
  vector-sound = record { exponent = ok.exponent; factor = ok.factor; few = rw length-numbers ok.few; width = ok.narrow; rising = ok.rising; held = ok.held }

  vector-packed : Bytes r.packed
  vector-packed = raw_packed fmt n m (drop (meta_bytes fmt) bs) (bytes_drop (meta_bytes fmt) bs h) data_room

  vector-size : size_of fmt r ≡ vector_size fmt n m
  unfolding raw_from
  vector-size = rw length-numbers

  vector-at : vector_bytes fmt r ≡ take (vector_size fmt n m) bs
  unfolding vector_bytes
  vector-at =
      ap₂ (λ (x y : List ℕ). x ++ y)
      (ap (metadata fmt) (meta_of_lem fmt n m (drop (meta_bytes fmt) bs) (bytes_drop (meta_bytes fmt) bs h) data_room) ∙ meta_at_lem fmt bs h ok.room)
      (payload-at fmt n m (drop (meta_bytes fmt) bs) (bytes_drop (meta_bytes fmt) bs h) data_room)
      ∙ sym (take-add (meta_bytes fmt) (packed_size n m.width + m.listed * (2 + word_bytes fmt)) bs)

-- ---- all vectors

-- the vectors read from bs, at these offsets, are what bs lays out
pub record LaidOut (fmt : Format) (size : ℕ) (c : Cursor) (os bs : List ℕ) : Type 0 where
  pub bytes : bodies fmt (raws_from fmt size c.left os bs) ≡ bs
  pub offsets : starts fmt c.offset (raws_from fmt size c.left os bs) ≡ os
  pub fit : Each (Fit fmt) (raws_from fmt size c.left os bs)
  pub sound : Each (Sound fmt) (raws_from fmt size c.left os bs)
  pub packed : Each (λ (r : Raw). Bytes r.packed) (raws_from fmt size c.left os bs)

vectors-fine : (fmt : Format) (size : ℕ) (c : Cursor) (os bs : List ℕ) → Bytes bs → verdict (vectors_rows fmt size c os bs) ≡ fine → LaidOut fmt size c os bs
unfolding vectors_rows raws_from bodies starts
vectors-fine fmt size c [] [] h ok = record { bytes = refl; offsets = refl; fit = tt; sound = tt; packed = tt }
vectors-fine fmt size c [] (b ∷ bs) h ok =
    absurd (let t = ltb-false 0 (suc (length bs)) (row_fine 14 the_page (suc (length bs) above 0) ok) in omega arith)
vectors-fine fmt size c (o ∷ os) bs h ok =
    let n : ℕ = here size c in
    let m : Meta = meta_at fmt bs in
    let rest : List ℕ = drop (vector_size fmt n m) bs in
    let a = first_fine (verdict (vector_rows fmt size c o m bs)) (verdict (vectors_rows fmt size (next fmt size c m) os rest)) ok in
    let v = vector-fine fmt size c o m bs a.0 in
    let ih = vectors-fine fmt size (next fmt size c m) os rest (bytes_drop (vector_size fmt n m) bs h) a.1 in
    record {
      bytes = ap₂ (λ (x y : List ℕ). x ++ y) (vector-at fmt n bs h v.1) ih.bytes ∙ take-append-drop (vector_size fmt n m) bs;
      offsets = ap₂ (λ (x : ℕ) (y : List ℕ). x ∷ y) (sym v.0) (ap (λ (k : ℕ). starts fmt (c.offset + k) (raws_from fmt size (c.left - size) os rest)) (vector-size fmt n bs h v.1) ∙ ih.offsets);
      fit = (vector-fit fmt n bs h v.1, ih.fit);
      sound = (vector-sound fmt n bs h v.1, ih.sound);
      packed = (vector-packed fmt n bs h v.1, ih.packed);
    }

-- ---- the page

four : (bs : List ℕ) → 4 ≤ length bs → take 4 bs ≡ get_or bs 0 0 ∷ get_or bs 1 0 ∷ get_or bs 2 0 ∷ get_or bs 3 0 ∷ []
four [] l = absurd (omega (arith, l))
four (a ∷ []) l = absurd (omega (arith, l))
four (a ∷ b ∷ []) l = absurd (omega (arith, l))
four (a ∷ b ∷ c ∷ []) l = absurd (omega (arith, l))
four (a ∷ b ∷ c ∷ d ∷ bs) l = refl

module _ (fmt : Format) (bs : List ℕ) (h : Bytes bs) (ok : verdict (page_rows fmt bs) ≡ fine) where
  abbrev rs : List Raw
  rs = raws_of fmt bs

  pub head : Head bs
  head = (page_fine fmt bs ok).0

  pub laid_out : LaidOut fmt (2 ^ s_of bs) (start bs) (offsets_of bs) (body_of bs)
  unfolding body_of
  laid_out = vectors-fine fmt (2 ^ s_of bs) (start bs) (offsets_of bs) (body_of bs) (bytes_drop (8 + 4 * vectors_of bs) bs h) (page_fine fmt bs ok).1

  pub raws_sound : Each (Sound fmt) rs
  unfolding raws_of
  raws_sound = laid_out.sound

  pub raws_fit : Each (Fit fmt) rs
  unfolding raws_of
  raws_fit = laid_out.fit

  pub raws_packed : Each (λ (r : Raw). Bytes r.packed) rs
  unfolding raws_of
  raws_packed = laid_out.packed

  -- each value that is read is of the kind's width
  pub read_values : Values fmt (values_of fmt bs)
  unfolding values_of
  read_values = joined_values fmt rs (each_map (Fit fmt) (λ (r : Raw). Values fmt r.exceptions) (λ r f. rw (power-word fmt) at f.exceptions) rs raws_fit)

  head_bytes : header (s_of bs) (count_of bs) ≡ take 8 bs
  unfolding header count_of
  head_bytes =
      let l = head.eight in
      let f = front-le 4 (drop 4 bs) (rw length-drop (omega arith)) (bytes_drop 4 bs h) in
      let a : take 4 bs ≡ 1 ∷ 0 ∷ 0 ∷ s_of bs ∷ [] = rw (four bs (omega arith), head.version, head.mode, head.encoding) in
      ap (λ (x : List ℕ). 1 ∷ 0 ∷ 0 ∷ s_of bs ∷ x) f
      ∙ ap (λ (x : List ℕ). x ++ take 4 (drop 4 bs)) (sym a)
      ∙ sym (take-add 4 4 bs)

  pub page_is : layout fmt (s_of bs) (count_of bs) rs ≡ bs
  unfolding layout raws_of offsets_of body_of
  page_is =
      let v : ℕ = vectors_of bs in
      let o = head.offsets in
      let k : 4 * v ≡ v * 4 = mul_comm 4 v in
      let p : les 4 (offsets_of bs) ≡ take (4 * v) (drop 8 bs) = les-numbers 4 v (drop 8 bs) (rw length-drop (omega arith)) (bytes_drop 8 bs h) ∙ ap (λ (x : ℕ). take x (drop 8 bs)) (sym k) in
      let q : starts fmt (4 * length rs) rs ≡ offsets_of bs = ap (λ (x : ℕ). starts fmt (4 * x) rs) (raws_count fmt bs) ∙ laid_out.offsets in
      ap₂ (λ (x y : List ℕ). x ++ y) head_bytes
      (ap₂ (λ (x y : List ℕ). x ++ y) (ap (les 4) q ∙ p) (laid_out.bytes ∙ sym (drop-drop (4 * v) 8 bs)) ∙ take-append-drop (4 * v) (drop 8 bs))
      ∙ take-append-drop 8 bs
