-- One turn of the reader's loop over the vectors, over the kind: how far it has come, and what it has made by then. The output's words are
-- spoken of as numbers. Assumes nothing.
use mathlib.Core.Path.{◌≡◌, refl, sym, ap, ap₂, ◌∙◌, subst}
use mathlib.Core.List.{List, [], ◌++◌, map}
use Prim.Native.Nat.{ℕ, ◌+◌, ◌-◌, ◌*◌, ◌^◌, ◌≤◌, ◌<◌, min}
use native.Mathlib.Omega.{arith}
use lib.ListN.{length, take, drop, length-drop, length-take}
use lib.Seq.{drop-drop}
use lib.Ieee.{Format}
use borrow.Rule.Slice.PartMut.{put_mid}
use Rattle.digits.specs.Lists.{join, over, put_at}
use Rattle.digits.proofs.Lists.{lent, lent_is}
use Rattle.digits.proofs.Stream.{Stream, stream_start, stream_as, stream_room, stream_wrote, stream_end}
use Rattle.bits.specs.Words.{WordLaws}
use Rattle.bits.proofs.WordLists.{length-numbers, put_mid-numbers}
use Rattle.rules.specs.Kind.{meta_bytes, max_s}
use Rattle.rules.specs.Vector.{Raw, decoded}
use Rattle.rules.specs.Page.{s_of, count_of, vectors_of, vector_size, meta_at, raw_from}
use Rattle.rules.specs.Verdict.{fine, verdict}
use Rattle.rules.specs.Read.{head_rows, read_rows, values_of}
use Rattle.rules.proofs.Reading.{Passed, Head, page_header, page_fine, read_fine}
use Rattle.rules.proofs.Decoded.{decoded-count, values-count}
use Rattle.checks.specs.Forms.{FoundMeta, as_meta}
use Rattle.checks.specs.declared.vector.Meta.{Meta}
use Rattle.checks.proofs.Turns.{vectors-left, vectors_passed_start, raws_left, raws_turn, raws_start, raws_end, vector-passed, vectors-passed, ends_inside}
use Rattle.decode.specs.Readable.{Readable, values_at}

-- where the reader's rows pass, so do rows 1 to 6, and what they and 7 show holds
module _ (fmt : Format) (room : ℕ) (bs : List ℕ) (ok : verdict (read_rows fmt room bs) ≡ fine) where
  pub reader_head : Head bs
  reader_head = (page_fine fmt bs (read_fine fmt room bs ok).0).0

  pub reader_header : verdict (head_rows bs) ≡ fine
  reader_header = page_header fmt bs (read_fine fmt room bs ok).0

-- the values of the vectors from number v on, the next of which is at offset `at` and has its share of `left` values
abbrev pub values-left : Format → List ℕ → ℕ → ℕ → ℕ → ℕ → ℕ → List ℕ
values-left fmt page size many v at left = join (map (decoded fmt) (raws_left fmt page size many v at left))

-- the vectors before number v are read, to the places before `start`; the rows of the others pass
pub record Reading {A : Type 0} (as-numbers : List A → List ℕ) (fmt : Format) (page : List ℕ) (size many : ℕ) (out₀ : List A) (v at left start : ℕ) (out : List A) : Type 0 where
  pub room : length (values_of fmt page) ≤ length (as-numbers out₀)
  pub within : v ≤ many
  pub inside : 8 + at ≤ length page
  pub passes : verdict (vectors-left fmt page size many v at left) ≡ fine
  pub stream : Stream (values_of fmt page) (values-left fmt page size many v at left) (as-numbers out) (as-numbers out₀) start

module _ (fmt : Format) (page : List ℕ) (size many left : ℕ) (es : size ≡ 2 ^ s_of page) (em : many ≡ vectors_of page) (el : left ≡ count_of page) where
  all_left : values_of fmt page ≡ values-left fmt page size many 0 (4 * many) left
  unfolding values_of
  all_left = ap (λ (rs : List Raw). join (map (decoded fmt) rs)) (raws_start fmt page size many left es em el)

  pub reading_start : {A : Type 0} {as-number : A → ℕ} {as-numbers : List A → List ℕ} → WordLaws as-number as-numbers → (out : List A) → verdict (read_rows fmt (length out) page) ≡ fine
      → Reading as-numbers fmt page size many out 0 (4 * many) left 0 out
  reading_start {as-numbers = as-numbers} laws out ok =
      let r = read_fine fmt (length out) page ok in
      let p = page_fine fmt page r.0 in
      record {
        room = omega (arith, values-count fmt page, length-numbers laws out, r.1);
        within = omega arith;
        inside = omega (arith, em, p.0.offsets);
        passes = vectors_passed_start fmt page size many left es em el r.0;
        stream = stream_as (values-left fmt page size many 0 (4 * many) left) all_left (stream_start (values_of fmt page) (as-numbers out));
      }

module _ {A : Type 0} {as-number : A → ℕ} {as-numbers : List A → List ℕ} (laws : WordLaws as-number as-numbers)
    {fmt : Format} {page : List ℕ} {size many : ℕ} {out₀ : List A} {v at left start : ℕ} {out : List A} (u : Reading as-numbers fmt page size many out₀ v at left start out) where
  -- the next vector: it has n values, and the part of the page from its start on is lent
  module _ (n : ℕ) (more : v < many) (en : n ≡ min size left) where
    abbrev part : List ℕ
    part = lent (8 + at) page

    ep : part ≡ drop (8 + at) page
    ep = lent_is (8 + at) page

    next-passed : Passed fmt n (meta_at fmt part) part
    next-passed = vector-passed fmt page part size many v at left n _ more ep en refl u.passes

    -- the code's kind is the output's
    pub next-meta : {f : Format} → f ≡ fmt → meta_bytes f ≤ length part
    next-meta ef = rw ef next-passed.room

    values-next : (k : ℕ) → k ≡ vector_size fmt n (meta_at fmt part)
        → values-left fmt page size many v at left ≡ values_at fmt n part ++ values-left fmt page size many (v + 1) (at + k) (left - n)
    values-next k ek = ap (λ (rs : List Raw). join (map (decoded fmt) rs)) (raws_turn fmt page part size many v at left n k more ep en ek)

    values-many : length (values_at fmt n part) ≡ n
    unfolding raw_from
    values-many = decoded-count fmt (raw_from fmt n (meta_at fmt part) (drop (meta_bytes fmt) part))

    pub next-room : start + n ≤ length out
    next-room =
        let r = values-left fmt page size many (v + 1) (at + vector_size fmt n (meta_at fmt part)) (left - n) in
        omega (arith, values-many, length-numbers laws out, stream_room (values_of fmt page) (values_at fmt n part) r (as-numbers out) (as-numbers out₀) start u.room (stream_as (values_at fmt n part ++ r) (values-next _ refl) u.stream))

    -- as many places as it has values are lent
    abbrev lent_out : List A
    lent_out = take (start + n - start) (drop start out)

    lent_many : length lent_out ≡ n
    lent_many = let r = next-room in rw (length-take, length-drop) (omega arith)

    pub next-readable : {f : Format} → f ≡ fmt → (m : Meta) → FoundMeta f part m → size ≤ 2 ^ max_s → Readable fmt (length lent_out) part m
    next-readable ef m found h =
        let l = lent_many in
        record {
          few = omega (arith, en, l);
          found = subst (λ (x : Format). FoundMeta x part m) ef found;
          passed = subst (λ (x : ℕ). Passed fmt x (meta_at fmt part) part) (sym l) next-passed;
        }

    -- the size that the code's metadata gives is the vector's
    module _ {f g : Format} (ef : f ≡ fmt) (eg : g ≡ fmt) (m : Meta) (found : FoundMeta f part m) (k : ℕ) (sized : k ≡ vector_size g n (as_meta m)) where
      ek : k ≡ vector_size fmt n (meta_at fmt part)
      ek = sized ∙ ap (λ (x : Format). vector_size x n (as_meta m)) eg ∙ ap (vector_size fmt n) (subst (λ (x : Format). as_meta m ≡ meta_at x part) ef found.meta_is)

      next-inside : 8 + (at + k) ≤ length page
      next-inside = ends_inside page part at k ep u.inside (omega (arith, ek, next-passed.whole))

      pub reading_next : (last : List A) → as-numbers last ≡ values_at fmt (length lent_out) part
          → Reading as-numbers fmt page size many out₀ (v + 1) (at + k) (left - n) (start + n) (put_mid start (start + n - start) out last)
      reading_next last e =
          let w = values_at fmt n part in
          let rest = values-left fmt page size many (v + 1) (at + k) (left - n) in
          let ns = as-numbers out in
          let c : start + n - start ≡ n = omega arith in
          let put : as-numbers (put_mid start (start + n - start) out last) ≡ put_at start w ns =
          put_mid-numbers laws start (start + n - start) out last
          ∙ ap₂ (λ (x : List ℕ) (y : ℕ). take start ns ++ (x ++ drop y (drop start ns))) (e ∙ ap (λ (x : ℕ). values_at fmt x part) lent_many) (c ∙ sym values-many)
          ∙ ap (λ (x : List ℕ). take start ns ++ (w ++ x)) (drop-drop (length w) start ns) in
          record {
            room = u.room;
            within = omega arith;
            inside = next-inside;
            passes = vectors-passed fmt page part size many v at left n k more ep en ek u.passes;
            stream = stream_wrote (values_of fmt page) w rest ns (as-numbers out₀) (as-numbers (put_mid start (start + n - start) out last)) start (start + n) u.room (stream_as (w ++ rest) (values-next k ek) u.stream) (ap (λ (x : ℕ). start + x) (sym values-many)) put;
          }

  pub reading_end : many ≤ v → as-numbers out ≡ over (values_of fmt page) (as-numbers out₀)
  reading_end h =
      let none : values-left fmt page size many v at left ≡ [] = ap (λ (rs : List Raw). join (map (decoded fmt) rs)) (raws_end fmt page size many v at left h) in
      let e = stream_end (values_of fmt page) (values-left fmt page size many v at left) (as-numbers out) (as-numbers out₀) start none u.stream in
      e.1 ∙ ap (λ (x : ℕ). values_of fmt page ++ drop x (as-numbers out₀)) e.0
