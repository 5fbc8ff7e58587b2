-- When writer, reader, the reading of one vector and the examiner are done, and what that shows. Assumes nothing.
use mathlib.Core.Path.{◌≡◌, refl, sym, ap, ◌∙◌, subst}
use mathlib.Core.Logic.{◌↔◌}
use Prim.Native.Nat.{ℕ, ◌+◌, ◌*◌, ◌≤◌, ◌<◌}
use native.Mathlib.Nat.{le_trans, le_of_eq, lt_of_not-le}
use native.Mathlib.Omega.{arith}
use mathlib.Core.List.{List}
use lib.ListN.{length}
use lib.Dec.{T}
use lib.Ieee.{Format}
use borrow.Author.Tests.{lt-ltb, ltb-false, le-ltb}
use Rattle.rules.specs.Kind.{Bytes, Values}
use Rattle.rules.specs.Page.{vectors, page_of, count_of, raws_of}
use Rattle.rules.specs.Verdict.{Verdict, fine, refuse, first, verdict, row, the_page, ◌below◌, done, refused}
use Rattle.rules.specs.Read.{page_rows, values_of, read_rows, read_of}
use Rattle.rules.specs.ReadVector.{values_in, span_of, part_from, read_vector_rows, vector_values, read_vector_of}
use Rattle.rules.specs.Examine.{all_rules_rows, examine_rows, examine_of}
use Rattle.rules.specs.Write.{pairs_of, Inside, settings_rows, page_size, write_rows, write_of}
use Rattle.rules.specs.Calls.{among, given_by_measuring}
use Rattle.rules.proofs.Rows.{row_fine, first_fine, settle-done}
use Rattle.rules.proofs.Encoded.{power-word}
use Rattle.rules.proofs.Settings.{settings-pass, settings-fine}
use Rattle.rules.proofs.Decoded.{values-count, decoded-values}
use Rattle.rules.proofs.ReadingVector.{chosen-fine, vector_values_count}
use Rattle.theorems.proofs.Ordered.{number-given}
use Rattle.theorems.proofs.GivenBy.{measuring_numbered}
use Rattle.theorems.proofs.Called.{settle-refused}
use Rattle.theorems.proofs.Accepted.{bytes_drop, vector-fit, read_values}

-- ---- the writer

module _ (fmt : Format) (s : ℕ) (pairs vs : List ℕ) (room : ℕ) where
  abbrev page : List ℕ
  page = page_of fmt s (pairs_of pairs) vs

  abbrev Settled : Type 0
  Settled = (length pairs ≡ 2 * vectors s (length vs)) × Inside fmt s (pairs_of pairs) (length vs) × (page_size fmt s pairs vs ≤ room)

  when_fine : verdict (write_rows fmt s pairs vs room) ≡ fine → Settled
  unfolding write_rows
  when_fine e =
      let a = first_fine (verdict (settings_rows fmt s pairs vs)) _ e in
      let b = settings-fine fmt s pairs vs a.0 in
      (b.0, b.1, ltb-false room (page_size fmt s pairs vs) (row_fine 15 the_page (room below page_size fmt s pairs vs) a.1))

  pub writer_done : (write_of fmt s pairs vs room ≡ done page) ↔ Settled
  unfolding write_of write_rows
  writer_done = (
    (λ e. when_fine (settle-done (verdict (write_rows fmt s pairs vs room)) page page e).0),
    (λ h. rw (settings-pass fmt s pairs vs h.0 h.1, le-ltb room (page_size fmt s pairs vs) h.2)),
  )

  -- 15 is none of the settings' rows
  too_short_settings : write_of fmt s pairs vs room ≡ refused 15 the_page → verdict (settings_rows fmt s pairs vs) ≡ fine
  unfolding write_of write_rows
  too_short_settings e =
      no_15 (verdict (settings_rows fmt s pairs vs)) refl (settle-refused (verdict (write_rows fmt s pairs vs room)) page 15 the_page e)
    where
      no_15 : (v : Verdict) → verdict (settings_rows fmt s pairs vs) ≡ v → first v (verdict (row 15 the_page (room below page_size fmt s pairs vs))) ≡ refuse 15 the_page → verdict (settings_rows fmt s pairs vs) ≡ fine
      no_15 fine is e = is
      no_15 (refuse a p) is e =
          let a-is : a ≡ 15 = cc in
          absurd (subst (λ (n : ℕ). T (among n given_by_measuring)) a-is (number-given given_by_measuring (settings_rows fmt s pairs vs) a p (measuring_numbered fmt s pairs vs) is))

  pub writer_too_short : (write_of fmt s pairs vs room ≡ refused 15 the_page) ↔ ((verdict (settings_rows fmt s pairs vs) ≡ fine) × (room < page_size fmt s pairs vs))
  unfolding write_of write_rows
  writer_too_short = (
    (λ e. let i = settings-fine fmt s pairs vs (too_short_settings e) in (too_short_settings e, lt_of_not-le (λ fits. done_not_refused e (writer_done.1 (i.0, i.1, fits))))),
    (λ h. rw (h.0, lt-ltb room (page_size fmt s pairs vs) h.1)),
  )
    where
      done_not_refused : write_of fmt s pairs vs room ≡ refused 15 the_page → write_of fmt s pairs vs room ≡ done page → ⊥
      done_not_refused e d = let o : ◌≡◌ {A = ℕ} 0 1 = cc in absurd (omega arith)

  pub page_when_done : (bs : List ℕ) → write_of fmt s pairs vs room ≡ done bs → Inside fmt s (pairs_of pairs) (length vs) × (bs ≡ page)
  unfolding write_of
  page_when_done bs e =
      let d = settle-done (verdict (write_rows fmt s pairs vs room)) page bs e in
      ((when_fine d.0).1, sym d.1)

-- there is room for what it gives
pub writer_room : (fmt : Format) (s : ℕ) (pairs vs : List ℕ) (room : ℕ) (bs : List ℕ) → write_of fmt s pairs vs room ≡ done bs → length bs ≤ room
unfolding write_of
writer_room fmt s pairs vs room bs e =
    let d = settle-done (verdict (write_rows fmt s pairs vs room)) (page_of fmt s (pairs_of pairs) vs) bs e in
    let h = when_fine fmt s pairs vs room d.0 in
    subst (λ (x : List ℕ). length x ≤ room) d.1 h.2

-- ---- the reader

module _ (fmt : Format) (room : ℕ) (bs vs : List ℕ) (e : read_of fmt room bs ≡ done vs) where
  pub settled : (verdict (read_rows fmt room bs) ≡ fine) × (values_of fmt bs ≡ vs)
  unfolding read_of
  settled = settle-done (verdict (read_rows fmt room bs)) (values_of fmt bs) vs e

  pub halves : (verdict (page_rows fmt bs) ≡ fine) × (verdict (row 15 the_page (room below count_of bs)) ≡ fine)
  unfolding read_rows
  halves = first_fine (verdict (page_rows fmt bs)) (verdict (row 15 the_page (room below count_of bs))) settled.0

  pub read_done : length vs ≡ count_of bs
  read_done = ap length (sym settled.1) ∙ values-count fmt bs

  pub read_values_done : Bytes bs → Values fmt vs
  read_values_done h = subst (Values fmt) settled.1 (read_values fmt bs h halves.0)

  fits_room : length vs ≤ room
  fits_room = le_trans (le_of_eq read_done) (ltb-false room (count_of bs) (row_fine 15 the_page (room below count_of bs) halves.1))

pub reader_room : (fmt : Format) (bs : List ℕ) (room : ℕ) (vs : List ℕ) → read_of fmt room bs ≡ done vs → length vs ≤ room
reader_room fmt bs room vs e = fits_room fmt room bs vs e

-- ---- one vector

module _ (fmt : Format) (v room : ℕ) (bs vs : List ℕ) (e : read_vector_of fmt v room bs ≡ done vs) where
  given : (verdict (read_vector_rows fmt v room bs) ≡ fine) × (vector_values fmt v bs ≡ vs)
  unfolding read_vector_of
  given = settle-done (verdict (read_vector_rows fmt v room bs)) (vector_values fmt v bs) vs e

  pub vector-done : length vs ≡ values_in bs v
  vector-done = ap length (sym given.1) ∙ vector_values_count fmt v bs

  -- its exceptions are all there, so each is a word of the kind
  pub vector_values_done : Bytes bs → Values fmt vs
  unfolding vector_values
  vector_values_done h =
      let part = part_from bs (span_of bs v) in
      let fit = vector-fit fmt (values_in bs v) part (bytes_drop (8 + (span_of bs v).from) bs h) (chosen-fine fmt v room bs given.0).alone.passes in
      subst (Values fmt) given.1 (decoded-values fmt _ (rw (power-word fmt) at fit.exceptions))

pub vector_reader_room : (fmt : Format) (v : ℕ) (bs : List ℕ) (room : ℕ) (vs : List ℕ) → read_vector_of fmt v room bs ≡ done vs → length vs ≤ room
vector_reader_room fmt v bs room vs e = le_trans (le_of_eq (vector-done fmt v room bs vs e)) (chosen-fine fmt v room bs (given fmt v room bs vs e).0).roomy

-- ---- the examiner: what it accepts is read

pub examined_reads : (fmt : Format) (bs vs : List ℕ) (room : ℕ) → examine_of fmt bs ≡ done vs → length vs ≤ room → read_of fmt room bs ≡ done vs
unfolding examine_of examine_rows read_of read_rows
examined_reads fmt bs vs room e h =
    let d = settle-done (verdict (examine_rows fmt bs)) (values_of fmt bs) vs e in
    let a = first_fine (verdict (page_rows fmt bs)) (verdict (all_rules_rows fmt 0 (raws_of fmt bs))) d.0 in
    let n : count_of bs ≤ room = le_trans (le_of_eq (sym (values-count fmt bs) ∙ ap length d.1)) h in
    rw (a.0, le-ltb room (count_of bs) n) (ap done d.1)

pub examined_count : (fmt : Format) (bs vs : List ℕ) → examine_of fmt bs ≡ done vs → length vs ≡ count_of bs
unfolding examine_of
examined_count fmt bs vs e = ap length (sym (settle-done (verdict (examine_rows fmt bs)) (values_of fmt bs) vs e).1) ∙ values-count fmt bs
