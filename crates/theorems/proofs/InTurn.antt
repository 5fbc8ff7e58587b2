-- The calls themselves, one after the other: what is measured is just what writing takes, what is written is accepted, what is accepted is
-- read, what was read is written again to the same bytes, each vector of what was read is read alone, and no pairs measure less than those
-- chosen for each vector. Each call is known by its record alone, lent its buffers as the last one left them. Assumes nothing.
use mathlib.Core.Path.{◌≡◌, refl, sym, ap, ap₂, ◌∙◌, subst}
use mathlib.Core.List.{List, [], ◌∷◌, ◌++◌, append-nil}
use mathlib.Core.Logic.{inl, inr}
use Prim.Native.Nat.{ℕ, ◌*◌, ◌^◌, ◌<◌, ◌≤◌}
use lib.ListN.{length, take, drop, length-take, length-drop, drop_of_length-le}
use lib.Pow.{pow_pos, pow_mono}
use native.Mathlib.Omega.{arith}
use lib.Dec.{T}
use native.Mathlib.Nat.{le_of_eq}
use lib.Seq.{take-append_seam}
use lib.Ieee.{Format}
use Rattle.digits.specs.Lists.{over}
use Rattle.rules.specs.Kind.{min_s, max_s, max_values, Bytes, Values}
use Rattle.rules.specs.Decimal.{Pair}
use Rattle.rules.specs.Page.{vectors, page_of, s_of, vectors_of}
use Rattle.rules.specs.Verdict.{Verdict, fine, verdict, the_page, Result, done, answer, after, done_with, refusal}
use Rattle.rules.specs.Read.{read_of}
use Rattle.rules.specs.ReadVector.{values_in, read_vector_of}
use Rattle.rules.specs.Examine.{examine_of}
use Rattle.rules.specs.Write.{pairs_of, pair_bytes, Inside, PageOf, settings_rows, page_size, write_of}
use Rattle.rules.specs.Choose.{chosen, chosen_for, chosen_pairs, choice, choose_of}
use Rattle.rules.specs.Calls.{Chosen, measured, measure_of, Measured, Written, Read, ReadVector, Examined, among, given_by_measuring, given_by_writer, given_by_reader, given_by_examiner}
use Rattle.rules.specs.declared.Answer.{Answer}
use Rattle.rules.specs.declared.Choice.{Choice}
use Rattle.rules.proofs.Encoded.{Covers, ceil, covers}
use Rattle.rules.proofs.Settings.{pairs_back, length-pair_bytes, settings-pass, settings-fine}
use Rattle.theorems.proofs.Ordered.{passes_fine}
use Rattle.theorems.proofs.Called.{done_when_zero}
use Rattle.theorems.proofs.Done.{writer_done, page_when_done}
use Rattle.theorems.proofs.OnePage.{page_is_accepted}
use Rattle.theorems.proofs.Demands.{row_31_means, chosen_pairs_are_inside, no_page_is_shorter, measuring_answers, writer_asks_for_the_page, writer_answers, reader_answers, examiner_answers, demand_3, one_vector_is_its_stretch}

-- a call that is done has its output in front
module _ (r : Result) (xs out : List ℕ) (e : r ≡ done xs) (a : Answer) (is : a ≡ answer r) (end : List ℕ) (left : end ≡ after r out) where
  answer_is_done : a ≡ done_with (length xs)
  answer_is_done = is ∙ ap answer e

  end_is : end ≡ over xs out
  end_is = left ∙ ap (λ (x : Result). after x out) e

  front-is : take a.place end ≡ xs
  front-is = ap₂ (λ (n : ℕ) (l : List ℕ). take n l) (ap (λ (x : Answer). x.place) answer_is_done) end_is ∙ take-append_seam xs (drop (length xs) out)

module _ (fmt : Format) where
  -- measure, then write
  module _ (values : List ℕ) (s : ℕ) (pairs : List ℕ) (m : Answer) (measured : Measured fmt values s pairs m) (zero : m.number ≡ 0) where
    -- the settings were inside the limits, and the place is the page's size
    measured-size : (verdict (settings_rows fmt s pairs values) ≡ fine) × (m ≡ done_with (page_size fmt s pairs values))
    measured-size = elim (measuring_answers fmt s pairs values) [
      | inl q ↦ (let none : q.0 ≡ 0 = sym (ap (λ (x : Answer). x.number) (measured.answer_is ∙ q.4)) ∙ zero in absurd (subst (λ (a : ℕ). T (among a given_by_measuring)) none q.3))
      | inr q ↦ (passes_fine (settings_rows fmt s pairs values) q.0, measured.answer_is ∙ q.1)
    ]

    module _ (out : List ℕ) (w : Answer) (end : List ℕ) (written : Written fmt values s pairs out w end) where
      abbrev page : List ℕ
      page = page_of fmt s (pairs_of pairs) values

      -- into just as many bytes: the same answer, and the page is all that the output holds
      pub measure_then_write : length out ≡ m.place → (w ≡ m) × (end ≡ page)
      measure_then_write fills =
          let long : length out ≡ length page = fills ∙ ap (λ (x : Answer). x.place) measured-size.1 in
          let given = (writer_done fmt s pairs values (length out)).1 ((settings-fine fmt s pairs values measured-size.0).0, (settings-fine fmt s pairs values measured-size.0).1, le_of_eq (sym long)) in (
            answer_is_done _ page out given w written.answer_is end written.output_is ∙ sym measured-size.1,
            end_is _ page out given w written.answer_is end written.output_is ∙ ap (λ (l : List ℕ). page ++ l) (drop_of_length-le out {i = length page} (le_of_eq long)) ∙ append-nil page,
          )

      -- into fewer: 15, and the output as it came
      pub measure_then_refuse : length out < m.place → (w ≡ refusal 15 the_page) × (end ≡ out)
      measure_then_refuse short =
          let less = subst (λ (n : ℕ). length out < n) (ap (λ (x : Answer). x.place) measured-size.1) short in
          let given = (writer_asks_for_the_page fmt s pairs values (length out)).1 (measured-size.0, less) in
          (written.answer_is ∙ ap answer given, written.output_is ∙ ap (λ (r : Result). after r out) given)

  -- write, then examine the bytes written: done, with the count of the values
  pub write_then_examine : (values : List ℕ) (s : ℕ) (pairs out : List ℕ) (w : Answer) (end : List ℕ) (x : Answer) → Values fmt values
      → Written fmt values s pairs out w end → w.number ≡ 0 → Examined fmt (take w.place end) x → x ≡ done_with (length values)
  write_then_examine values s pairs out w end x ok written zero examined =
      let r = write_of fmt s pairs values (length out) in
      let d = done_when_zero r given_by_writer tt (writer_answers fmt s pairs values (length out)).of_the_table w written.answer_is zero in
      let page = page_when_done fmt s pairs values (length out) d.0 d.1 in
      let bytes : take w.place end ≡ page_of fmt s (pairs_of pairs) values = front-is r d.0 out d.1 w written.answer_is end written.output_is ∙ page.1 in
      examined.answer_is ∙ ap (λ (bs : List ℕ). answer (examine_of fmt bs)) bytes ∙ ap answer (page_is_accepted fmt s (pairs_of pairs) values page.0 ok)

  -- examine a page, then read it
  module _ (page out : List ℕ) (x r : Answer) (end : List ℕ) (bytes : Bytes page) (examined : Examined fmt page x) (zero : x.number ≡ 0) (read : Read fmt page out r end) (room : x.place ≤ length out) where
    -- the values that the page holds are read, to the front of the output
    pub examine_then_read : (vs : List ℕ) × (s : ℕ) × (ps : List Pair) × PageOf fmt page s ps vs × (r ≡ done_with (length vs)) × (end ≡ over vs out)
    examine_then_read =
        let d = done_when_zero (examine_of fmt page) given_by_examiner tt (examiner_answers fmt page).of_the_table x examined.answer_is zero in
        let vs = d.0 in
        let holds = ((demand_3 fmt page bytes).accepts vs).0 d.1 in
        let fits : length vs ≤ length out = subst (λ (n : ℕ). n ≤ length out) (ap (λ (a : Answer). a.place) (examined.answer_is ∙ ap answer d.1)) room in
        let given : read_of fmt (length out) page ≡ done vs = (demand_3 fmt page bytes).reads vs (length out) d.1 fits in
        (vs, holds.0, holds.1, holds.2, answer_is_done (read_of fmt (length out) page) vs out given r read.answer_is end read.output_is, end_is (read_of fmt (length out) page) vs out given r read.answer_is end read.output_is)

    -- with the page's own s and pairs, what was read is written again to the same bytes, into as many bytes or more
    pub read_then_write : (s : ℕ) × (pairs : List ℕ) × ((free : List ℕ) (w : Answer) (left : List ℕ) → length page ≤ length free
        → Written fmt (take r.place end) s pairs free w left → (w ≡ done_with (length page)) × (take w.place left ≡ page))
    read_then_write =
        let t = examine_then_read in
        again t.0 t.1 t.2 t.3 t.4 t.5
      where
        again : (vs : List ℕ) (s : ℕ) (ps : List Pair) → PageOf fmt page s ps vs → r ≡ done_with (length vs) → end ≡ over vs out
            → (s : ℕ) × (pairs : List ℕ) × ((free : List ℕ) (w : Answer) (left : List ℕ) → length page ≤ length free
            → Written fmt (take r.place end) s pairs free w left → (w ≡ done_with (length page)) × (take w.place left ≡ page))
        again vs s ps holds er ee = (
          s,
          pair_bytes ps,
          λ free w left fits written.
              let place : r.place ≡ length vs = ap (λ (a : Answer). a.place) er in
              let values : take r.place end ≡ vs = ap₂ (λ (n : ℕ) (l : List ℕ). take n l) place ee ∙ take-append_seam vs (drop (length vs) out) in
              let same : Written fmt vs s (pair_bytes ps) free w left = subst (λ (l : List ℕ). Written fmt l s (pair_bytes ps) free w left) values written in
              let pairs = pairs_back ps in
              let long : length (pair_bytes ps) ≡ 2 * length ps = length-pair_bytes ps in
              let given = (writer_done fmt s (pair_bytes ps) vs (length free)).1 (long ∙ ap (λ (n : ℕ). 2 * n) holds.inside.one_each, subst (λ (l : List Pair). Inside fmt s l (length vs)) (sym pairs) holds.inside, subst (λ (n : ℕ). n ≤ length free) (ap length (holds.page_is ∙ ap (λ (l : List Pair). page_of fmt s l vs) (sym pairs))) fits) in
              let given-page : write_of fmt s (pair_bytes ps) vs (length free) ≡ done page = given ∙ ap (λ (l : List Pair). done (page_of fmt s l vs)) pairs ∙ ap done (sym holds.page_is) in
              let result = write_of fmt s (pair_bytes ps) vs (length free) in
              (answer_is_done result page free given-page w same.answer_is left same.output_is, front-is result page free given-page w same.answer_is left same.output_is),
        )

  -- read a page, then one of its vectors: that vector's stretch of what was read
  pub read_then_read_vector : (page out : List ℕ) (r : Answer) (end : List ℕ) (v : ℕ) (free : List ℕ) (q : Answer) (left : List ℕ) → Read fmt page out r end → r.number ≡ 0
      → ReadVector fmt page v free q left → v < vectors_of page → values_in page v ≤ length free → take q.place left ≡ take (2 ^ s_of page) (drop (v * 2 ^ s_of page) (take r.place end))
  read_then_read_vector page out r end v free q left read zero picked there fits =
      let d = done_when_zero (read_of fmt (length out) page) given_by_reader tt (reader_answers fmt (length out) page).of_the_table r read.answer_is zero in
      let whole : take r.place end ≡ d.0 = front-is (read_of fmt (length out) page) d.0 out d.1 r read.answer_is end read.output_is in
      front-is (read_vector_of fmt v (length free) page) _ free (one_vector_is_its_stretch fmt (length out) page d.0 d.1 v there (length free) fits) q picked.answer_is left picked.output_is
      ∙ ap (λ (l : List ℕ). take (2 ^ s_of page) (drop (v * 2 ^ s_of page) l)) (sym whole)

-- choose for each vector of a column, then measure or write with the pairs chosen

-- the choices for a column's vectors, each of `size` values, one after the other
abbrev pub ChosenEach : Format → ℕ → List Choice → List ℕ → Type 0
ChosenEach fmt size [] vs = Unit
ChosenEach fmt size (c ∷ cs) vs = Chosen fmt (take size vs) c × ChosenEach fmt size cs (drop size vs)

-- their pairs, as they are lent to the writer
abbrev pub pairs_in : List Choice → List ℕ
pairs_in [] = []
pairs_in (c ∷ cs) = c.exponent ∷ c.factor ∷ pairs_in cs

module _ (fmt : Format) (size : ℕ) (some : 0 < size) (small : size ≤ 2 ^ max_s) where
  -- a vector of a column is never empty, so none of them is refused
  pairs_chosen : (cs : List Choice) (vs : List ℕ) → ChosenEach fmt size cs vs → Covers size (length vs) (chosen_for fmt size (length cs) vs)
      → pairs_in cs ≡ pair_bytes (chosen_for fmt size (length cs) vs)
  unfolding chosen_for pair_bytes choose_of
  pairs_chosen [] vs h k = refl
  pairs_chosen (c ∷ cs) vs h k =
      let first = take size vs in
      let there : 1 ≤ length first = rw length-take (omega (arith, k.0, some)) in
      let fits : length first ≤ 2 ^ max_s = rw length-take (omega (arith, small)) in
      let c-is : c ≡ choice fine (length first) (chosen fmt first) = h.0.choice_is ∙ ap (λ (v : Verdict). choice v (length first) (chosen fmt first)) ((row_31_means first).1 (there, fits)) in
      let rest = pairs_chosen cs (drop size vs) h.1 (rw length-drop k.1) in
      ap₂ (λ (d : Choice) (l : List ℕ). d.exponent ∷ d.factor ∷ l) c-is rest

module _ (fmt : Format) (values : List ℕ) (s : ℕ) (cs : List Choice) (low : min_s ≤ s) (high : s ≤ max_s) (many : length values ≤ max_values)
    (one_each : length cs ≡ vectors s (length values)) (chosen-each : ChosenEach fmt (2 ^ s) cs values) where
  abbrev best : List Pair
  best = chosen_pairs fmt s values

  pairs_are : pairs_in cs ≡ pair_bytes best
  unfolding ceil
  pairs_are =
      let same : chosen_for fmt (2 ^ s) (length cs) values ≡ best = ap (λ (k : ℕ). chosen_for fmt (2 ^ s) k values) one_each in
      let whole : Covers (2 ^ s) (length values) best = covers (2 ^ s) (length values) best (pow_pos s) (chosen_pairs_are_inside fmt s values low high many).one_each in
      pairs_chosen fmt (2 ^ s) (pow_pos s) (pow_mono high) cs values chosen-each (subst (Covers (2 ^ s) (length values)) (sym same) whole) ∙ ap pair_bytes same

  -- they are taken, and the page is measured that has them
  pub choose_then_measure : (m : Answer) → Measured fmt values s (pairs_in cs) m → m ≡ done_with (length (page_of fmt s best values))
  unfolding measure_of
  choose_then_measure m h =
      let inside : Inside fmt s (pairs_of (pair_bytes best)) (length values) = subst (λ (ps : List Pair). Inside fmt s ps (length values)) (sym (pairs_back best)) (chosen_pairs_are_inside fmt s values low high many) in
      let two_each : length (pair_bytes best) ≡ 2 * vectors s (length values) = length-pair_bytes best ∙ ap (λ (n : ℕ). 2 * n) (chosen_pairs_are_inside fmt s values low high many).one_each in
      h.answer_is ∙ ap (λ (bs : List ℕ). measure_of fmt s bs values) pairs_are
      ∙ ap (λ (v : Verdict). measured v (page_size fmt s (pair_bytes best) values)) (settings-pass fmt s (pair_bytes best) values two_each inside)
      ∙ ap (λ (ps : List Pair). done_with (length (page_of fmt s ps values))) (pairs_back best)

  -- and no other pairs that the writer takes measure less
  pub none_measures_less : Values fmt values → (m : Answer) → Measured fmt values s (pairs_in cs) m → (other : List ℕ) (n : Answer) → Measured fmt values s other n → n.number ≡ 0 → m.place ≤ n.place
  none_measures_less ok m mine other n theirs zero =
      let size = measured-size fmt values s other n theirs zero in
      let shorter = no_page_is_shorter fmt s values (pairs_of other) (settings-fine fmt s other values size.0).1 ok in
      let a = ap (λ (x : Answer). x.place) (choose_then_measure m mine) in
      let b = ap (λ (x : Answer). x.place) size.1 in
      omega (arith, shorter, a, b)
