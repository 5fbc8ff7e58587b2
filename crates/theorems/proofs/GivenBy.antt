-- Document 01's "Given by" column: each call's rows have numbers of its list. Assumes nothing.
use mathlib.Core.Path.{◌≡◌, sym, subst}
use mathlib.Core.Bool.{Bool, true, false, ◌||◌}
use mathlib.Core.List.{List, [], ◌∷◌}
use mathlib.Core.Option.{Option}
use Prim.Native.Nat.{ℕ, suc, ◌^◌}
use lib.Dec.{T, eqb, eqb→eq}
use lib.ListN.{drop}
use lib.IntN.{ℤ}
use lib.Ieee.{Format}
use Rattle.digits.specs.Lists.{Each}
use Rattle.rules.specs.Decimal.{Pair}
use Rattle.rules.specs.Vector.{Raw, wholes, marked}
use Rattle.rules.specs.Page.{Meta, meta_at, raws_of, s_of, offsets_of, body_of, vector_size}
use Rattle.rules.specs.Read.{head_rows, offsets_row, meta_rows, Listed, positions_rows, sums_rows, payload_rows, Cursor, here, next, start, vector_rows, vectors_rows, page_rows, read_rows}
use Rattle.rules.specs.ReadVector.{number_rows, alone_rows, read_vector_rows}
use Rattle.rules.specs.Examine.{first_rows, rules_rows, all_rules_rows, examine_rows, strays, needless, unfilled, stand_in_of}
use Rattle.rules.specs.Write.{pairs_rows, settings_rows, pairs_of, write_rows}
use Rattle.rules.specs.Choose.{choose_rows}
use Rattle.rules.specs.Calls.{among, given_by_chooser, given_by_measuring, given_by_writer, given_by_reader, given_by_vector_reader, given_by_examiner}
use Rattle.theorems.proofs.Ordered.{Numbered}

-- ---- the reader's rows 1 to 13 and 17, then 14, for any list that has these numbers

abbrev layout_rows : List ℕ
layout_rows = 1 ∷ 2 ∷ 3 ∷ 4 ∷ 5 ∷ 6 ∷ 7 ∷ 8 ∷ 9 ∷ 10 ∷ 11 ∷ 12 ∷ 13 ∷ 17 ∷ []

-- a number of one list is a number of another that has all of it
within : (ms ns : List ℕ) → Each (λ (a : ℕ). T (among a ns)) ms → (a : ℕ) → T (among a ms) → T (among a ns)
within [] ns h a t = absurd t
within (b ∷ ms) ns h a t = go (eqb a b) (eqb→eq a b) (within ms ns h.1 a) t
  where
    go : (e : Bool) → (T e → a ≡ b) → (T (among a ms) → T (among a ns)) → T (e || among a ms) → T (among a ns)
    go true f g t = subst (λ (x : ℕ). T (among x ns)) (sym (f tt)) h.0
    go false f g t = g t

module _ (ns : List ℕ) (has : (a : ℕ) → T (among a layout_rows) → T (among a ns)) where
  positions-numbered : (v n : ℕ) (k : Listed) (ps : List ℕ) → Numbered ns (positions_rows v n k ps)
  unfolding positions_rows
  positions-numbered v n k [] = tt
  positions-numbered v n k (p ∷ ps) = (has 13 tt, positions-numbered v n (record { index = suc k.index; low = suc p }) ps)

  sums-numbered : (fmt : Format) (v i : ℕ) (zs : List ℤ) → Numbered ns (sums_rows fmt v i zs)
  unfolding sums_rows
  sums-numbered fmt v i [] = tt
  sums-numbered fmt v i (z ∷ zs) = (has 17 tt, sums-numbered fmt v (suc i) zs)

  payload-numbered : (fmt : Format) (v n : ℕ) (m : Meta) (bs : List ℕ) → Numbered ns (payload_rows fmt v n m bs)
  unfolding payload_rows
  payload-numbered fmt v n m bs = (positions-numbered v n (record { index = 0; low = 0 }) _, sums-numbered fmt v 0 _)

  meta_numbered : (fmt : Format) (v n : ℕ) (m : Meta) (bs : List ℕ) → Numbered ns (meta_rows fmt v n m bs)
  unfolding meta_rows
  meta_numbered fmt v n m bs = (has 7 tt, (has 9 tt, (has 10 tt, (has 11 tt, (has 12 tt, has 7 tt)))))

  head_numbered : (bs : List ℕ) → Numbered ns (head_rows bs)
  unfolding head_rows
  head_numbered bs = (has 1 tt, (has 2 tt, (has 3 tt, (has 4 tt, (has 5 tt, has 6 tt)))))

  offsets-numbered : (bs : List ℕ) → Numbered ns (offsets_row bs)
  unfolding offsets_row
  offsets-numbered bs = has 7 tt

  vector-numbered : (fmt : Format) (size : ℕ) (c : Cursor) (o : ℕ) (m : Meta) (bs : List ℕ) → Numbered ns (vector_rows fmt size c o m bs)
  unfolding vector_rows
  vector-numbered fmt size c o m bs = (has 8 tt, (meta_numbered fmt c.vector (here size c) m bs, payload-numbered fmt c.vector (here size c) m bs))

  module _ (has-14 : T (among 14 ns)) where
    vectors-numbered : (fmt : Format) (size : ℕ) (c : Cursor) (os bs : List ℕ) → Numbered ns (vectors_rows fmt size c os bs)
    unfolding vectors_rows
    vectors-numbered fmt size c [] bs = has-14
    vectors-numbered fmt size c (o ∷ os) bs =
        let m = meta_at fmt bs in
        (vector-numbered fmt size c o m bs, vectors-numbered fmt size (next fmt size c m) os (drop (vector_size fmt (here size c) m) bs))

    page_numbered : (fmt : Format) (bs : List ℕ) → Numbered ns (page_rows fmt bs)
    unfolding page_rows
    page_numbered fmt bs = (head_numbered bs, (offsets-numbered bs, vectors-numbered fmt (2 ^ s_of bs) (start bs) (offsets_of bs) (body_of bs)))

-- ---- each call

pub reader_numbered : (fmt : Format) (room : ℕ) (bs : List ℕ) → Numbered given_by_reader (read_rows fmt room bs)
unfolding read_rows
reader_numbered fmt room bs = (page_numbered given_by_reader (within layout_rows given_by_reader (tt, (tt, (tt, (tt, (tt, (tt, (tt, (tt, (tt, (tt, (tt, (tt, (tt, (tt, tt))))))))))))))) tt fmt bs, tt)

pub vector_reader_numbered : (fmt : Format) (v room : ℕ) (bs : List ℕ) → Numbered given_by_vector_reader (read_vector_rows fmt v room bs)
unfolding read_vector_rows number_rows alone_rows
vector_reader_numbered fmt v room bs =
    let ns = given_by_vector_reader in
    let has = within layout_rows ns (tt, (tt, (tt, (tt, (tt, (tt, (tt, (tt, (tt, (tt, (tt, (tt, (tt, (tt, tt)))))))))))))) in
    ((head_numbered ns has bs, (tt, offsets-numbered ns has bs)), ((tt, (meta_numbered ns has fmt v _ _ _, (tt, payload-numbered ns has fmt v _ _ _))), tt))

first-numbered : (ns : List ℕ) (a : ℕ) → T (among a ns) → (v : ℕ) (at-fault : ℤ → Option ℕ → Bool) (i : ℕ) (zs : List ℤ) (ms : List (Option ℕ)) → Numbered ns (first_rows a v at-fault i zs ms)
unfolding first_rows
first-numbered ns a h v at-fault i [] ms = tt
first-numbered ns a h v at-fault i (z ∷ zs) [] = tt
first-numbered ns a h v at-fault i (z ∷ zs) (m ∷ ms) = (h, first-numbered ns a h v at-fault (suc i) zs ms)

rules_numbered : (fmt : Format) (v : ℕ) (r : Raw) → Numbered given_by_examiner (rules_rows fmt v r)
unfolding rules_rows
rules_numbered fmt v r =
    let zs = wholes fmt r in
    let ms = marked r in
    let n = given_by_examiner in
    (tt, (first-numbered n 21 tt v (strays fmt r.pair) 0 zs ms, (first-numbered n 22 tt v (needless fmt r.pair) 0 zs ms, (first-numbered n 23 tt v (unfilled (stand_in_of zs ms)) 0 zs ms, tt))))

all_rules_numbered : (fmt : Format) (v : ℕ) (rs : List Raw) → Numbered given_by_examiner (all_rules_rows fmt v rs)
unfolding all_rules_rows
all_rules_numbered fmt v [] = tt
all_rules_numbered fmt v (r ∷ rs) = (rules_numbered fmt v r, all_rules_numbered fmt (suc v) rs)

pub examiner_numbered : (fmt : Format) (bs : List ℕ) → Numbered given_by_examiner (examine_rows fmt bs)
unfolding examine_rows
examiner_numbered fmt bs = (page_numbered given_by_examiner (within layout_rows given_by_examiner (tt, (tt, (tt, (tt, (tt, (tt, (tt, (tt, (tt, (tt, (tt, (tt, (tt, (tt, tt))))))))))))))) tt fmt bs, all_rules_numbered fmt 0 (raws_of fmt bs))

pairs_numbered : (ns : List ℕ) → T (among 9 ns) → T (among 10 ns) → (fmt : Format) (v : ℕ) (ps : List Pair) → Numbered ns (pairs_rows fmt v ps)
unfolding pairs_rows
pairs_numbered ns h9 h10 fmt v [] = tt
pairs_numbered ns h9 h10 fmt v (p ∷ ps) = (h9, (h10, pairs_numbered ns h9 h10 fmt (suc v) ps))

pub measuring_numbered : (fmt : Format) (s : ℕ) (pairs vs : List ℕ) → Numbered given_by_measuring (settings_rows fmt s pairs vs)
unfolding settings_rows
measuring_numbered fmt s pairs vs = (tt, (tt, (tt, pairs_numbered given_by_measuring tt tt fmt 0 (pairs_of pairs))))

pub writer_numbered : (fmt : Format) (s : ℕ) (pairs vs : List ℕ) (room : ℕ) → Numbered given_by_writer (write_rows fmt s pairs vs room)
unfolding write_rows settings_rows
writer_numbered fmt s pairs vs room = ((tt, (tt, (tt, pairs_numbered given_by_writer tt tt fmt 0 (pairs_of pairs)))), tt)

pub chooser_numbered : (vs : List ℕ) → Numbered given_by_chooser (choose_rows vs)
unfolding choose_rows
chooser_numbered vs = tt
