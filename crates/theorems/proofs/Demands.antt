-- The demands on the library, in full, each proved of the written rules (crates/rules/specs): the page that a customer reads. The code's
-- contracts cite the same rules, so what holds of the rules holds of the calls. Assumes nothing.
use mathlib.Core.Path.{◌≡◌, sym, ap, ap₂, ◌∙◌, subst}
use mathlib.Core.Logic.{◌↔◌, ◌⊎◌}
use mathlib.Core.Bool.{Bool, true, false, not, cond}
use mathlib.Core.Option.{none, some}
use Prim.Native.Nat.{ℕ, suc, ◌+◌, ◌*◌, ◌^◌, ◌<◌, ◌≤◌}
use mathlib.Core.List.{List, [], ◌∷◌}
use lib.ListN.{length, get_or, take, drop, replicate}
use lib.Dec.{T}
use lib.IntN.{ℤ, pos, nat_abs}
use lib.Signed.{mag, non_neg}
use lib.Ieee.{Format, binary32, binary64, Float, fin, up, down, add, sub, mul, of_int, of_bits, is_nan, nan_bits, fits, unlike}
use lib.Ieee.Exact.{HasValue}
use lib.Ieee.Scale.{finite}
use mir.Val.{hbits}
use Rattle.digits.specs.Lists.{Each}
use Rattle.digits.proofs.Lists.{each_map}
use Rattle.digits.specs.Digits.{bit, bit_of}
use Rattle.rules.specs.Kind.{min_s, max_s, max_values, word, max_exponent, rounding_constant, Bytes, Values}
use Rattle.rules.specs.Decimal.{Pair, power, neg_power, scaled, signed, truncated, whole, back, exception}
use Rattle.rules.specs.Floats.{NearestEven, RoundedOnce, sum_size, sum_sign, Small, NearestToInverse, AsNear, brought_back}
use Rattle.rules.specs.Vector.{Raw, tries, filled, fields_of, width_of, encoded, fields, wholes, stored}
use Rattle.rules.specs.Page.{vectors, page_of, s_of, count_of, vectors_of, body_of, meta_at, raws_of}
use Rattle.rules.specs.Verdict.{Point, Verdict, the_page, fine, refuse, verdict, ordered, Passes, FirstTrue, done, refused, done_with, refusal, Result, answer, after}
use Rattle.rules.specs.Read.{read_rows, values_of, read_of}
use Rattle.rules.specs.ReadVector.{values_in, read_vector_rows, vector_values, read_vector_of}
use Rattle.rules.specs.Examine.{unused_set, examine_rows, examine_of}
use Rattle.rules.specs.Write.{pairs_of, Allowed, Inside, settings_rows, page_size, bound, write_rows, write_of}
use Rattle.rules.specs.Choose.{all_pairs, size_with, first_pair, chosen, chosen_pairs, choose_rows, choice, choose_of}
use Rattle.rules.specs.Calls.{measured, measure_of, Measured, Written, Read, ReadVector, Examined, Chosen, among, given_by_chooser, given_by_measuring, given_by_writer, given_by_reader, given_by_vector_reader, given_by_examiner}
use Rattle.rules.specs.Demands.{Answers, Leaves, Examines, FirstOfSmallest, Alike}
use Rattle.rules.specs.declared.Answer.{Answer}
use Rattle.rules.specs.declared.Choice.{Choice}
use Rattle.rules.proofs.Order.{width-holds, width-fewest}
use Rattle.rules.proofs.Reading.{Sound}
use Rattle.rules.proofs.Settings.{settings-pass, settings-fine}
use Rattle.rules.proofs.Powers as Powers
use native.Mathlib.Omega.{arith}
use Rattle.theorems.proofs.Called.{answers, leaves, verdict-gives, place_when_done}
use Rattle.theorems.proofs.Examples.{nothing, nothing_written, nothing_read, nothing-accepted, no_bytes_refused, zero_page, roomy, roomy_below, zero_written, zero_read, zero_vector_read, zero_lists_none, half}
use Rattle.theorems.proofs.GivenBy.{chooser_numbered, measuring_numbered, writer_numbered, reader_numbered, vector_reader_numbered, examiner_numbered}
use Rattle.theorems.proofs.RoundTrip.{written-length, round_trip}
use Rattle.theorems.proofs.Done.{examined_count, halves, writer_done, writer_too_short, page_when_done, writer_room, reader_room, read_done, read_values_done, vector-done, vector_values_done, vector_reader_room, examined_reads}
use Rattle.theorems.proofs.Accepted.{raws_sound}
use Rattle.theorems.proofs.Stretch.{vector_is_stretch}
use Rattle.theorems.proofs.Elsewhere.{elsewhere_does_not_matter}
use Rattle.theorems.proofs.Listing.{listed-exactly}
use Rattle.theorems.proofs.Bits.{encoded-bit, fields-bit, unused_exactly}
use Rattle.theorems.proofs.OnePage.{accepted_is_page, page_is_accepted, one_page}
use Rattle.theorems.proofs.Choosing.{vector-fine, pairs_32, pairs_64, tried-inside, of_every_pair, chosen-exactly}
use Rattle.theorems.proofs.Shortest.{only_exceptions, chosen-settings, chosen-page, zero_exponent, half_exponent}
use Rattle.theorems.proofs.Rounding as Rounding
use Rattle.theorems.proofs.Fast as Fast
use Rattle.theorems.proofs.Nearest as Nearest

-- ==== Demand 1: every call ends with an answer of document 01's table; a refusal comes exactly where its row is the first in the call's
-- order that says so, and then everything lent is as it came

pub writer_answers : (fmt : Format) (s : ℕ) (pairs vs : List ℕ) (room : ℕ) → Answers (write_of fmt s pairs vs room) (write_rows fmt s pairs vs room) given_by_writer (page_of fmt s (pairs_of pairs) vs)
unfolding write_of
writer_answers fmt s pairs vs room = answers (write_rows fmt s pairs vs room) given_by_writer (page_of fmt s (pairs_of pairs) vs) (writer_numbered fmt s pairs vs room)

pub reader_answers : (fmt : Format) (room : ℕ) (bs : List ℕ) → Answers (read_of fmt room bs) (read_rows fmt room bs) given_by_reader (values_of fmt bs)
unfolding read_of
reader_answers fmt room bs = answers (read_rows fmt room bs) given_by_reader (values_of fmt bs) (reader_numbered fmt room bs)

pub vector_reader_answers : (fmt : Format) (v room : ℕ) (bs : List ℕ) → Answers (read_vector_of fmt v room bs) (read_vector_rows fmt v room bs) given_by_vector_reader (vector_values fmt v bs)
unfolding read_vector_of
vector_reader_answers fmt v room bs = answers (read_vector_rows fmt v room bs) given_by_vector_reader (vector_values fmt v bs) (vector_reader_numbered fmt v room bs)

pub examiner_answers : (fmt : Format) (bs : List ℕ) → Answers (examine_of fmt bs) (examine_rows fmt bs) given_by_examiner (values_of fmt bs)
unfolding examine_of
examiner_answers fmt bs = answers (examine_rows fmt bs) given_by_examiner (values_of fmt bs) (examiner_numbered fmt bs)

-- measuring lends nothing to write to: the first of its rows that says so, or the page's size
pub measuring_answers : (fmt : Format) (s : ℕ) (pairs vs : List ℕ)
    → ((a : ℕ) × (p : Point) × FirstTrue (ordered (settings_rows fmt s pairs vs)) a p × T (among a given_by_measuring) × (measure_of fmt s pairs vs ≡ refusal a p))
    ⊎ (Each Passes (ordered (settings_rows fmt s pairs vs)) × (measure_of fmt s pairs vs ≡ done_with (page_size fmt s pairs vs)))
unfolding measure_of
measuring_answers fmt s pairs vs = verdict-gives (settings_rows fmt s pairs vs) given_by_measuring (λ (v : Verdict). measured v (page_size fmt s pairs vs)) (measuring_numbered fmt s pairs vs)

-- what writer and readers leave of the lent output
pub writer_leaves : (fmt : Format) (s : ℕ) (pairs vs out : List ℕ) → Leaves (write_of fmt s pairs vs (length out)) out
writer_leaves fmt s pairs vs out = leaves (write_of fmt s pairs vs (length out)) out (writer_room fmt s pairs vs (length out))

pub reader_leaves : (fmt : Format) (bs out : List ℕ) → Leaves (read_of fmt (length out) bs) out
reader_leaves fmt bs out = leaves (read_of fmt (length out) bs) out (reader_room fmt bs (length out))

pub vector_reader_leaves : (fmt : Format) (v : ℕ) (bs out : List ℕ) → Leaves (read_vector_of fmt v (length out) bs) out
vector_reader_leaves fmt v bs out = leaves (read_vector_of fmt v (length out) bs) out (vector_reader_room fmt v bs (length out))

-- ==== The writer is done exactly where the settings are inside the limits and the output is no shorter than the page; then it gives the page

pub writer_is_done : (fmt : Format) (s : ℕ) (pairs vs : List ℕ) (room : ℕ)
    → (write_of fmt s pairs vs room ≡ done (page_of fmt s (pairs_of pairs) vs))
    ↔ ((length pairs ≡ 2 * vectors s (length vs)) × Inside fmt s (pairs_of pairs) (length vs) × (page_size fmt s pairs vs ≤ room))
writer_is_done fmt s pairs vs room = writer_done fmt s pairs vs room

-- row 15: exactly where no other row refuses and the output is shorter than the page
pub writer_asks_for_the_page : (fmt : Format) (s : ℕ) (pairs vs : List ℕ) (room : ℕ)
    → (write_of fmt s pairs vs room ≡ refused 15 the_page) ↔ ((verdict (settings_rows fmt s pairs vs) ≡ fine) × (room < page_size fmt s pairs vs))
writer_asks_for_the_page = writer_too_short

-- document 01's bound is an upper limit of the page's size
pub the_page_fits : (fmt : Format) (s : ℕ) (ps : List Pair) (vs : List ℕ) → Inside fmt s ps (length vs) → Values fmt vs → length (page_of fmt s ps vs) ≤ bound fmt s (length vs)
the_page_fits = written-length

-- so an output of that length is never too short
pub the_bound_is_enough : (fmt : Format) (s : ℕ) (pairs vs : List ℕ) (room : ℕ) → Values fmt vs → bound fmt s (length vs) ≤ room → write_of fmt s pairs vs room ≡ refused 15 the_page → ⊥
the_bound_is_enough fmt s pairs vs room ok h e =
    let short = (writer_too_short fmt s pairs vs room).0 e in
    let fits = written-length fmt s (pairs_of pairs) vs (settings-fine fmt s pairs vs short.0).1 ok in
    omega (arith, short.1, fits, h)

-- rows 5, 6, 16, 9 and 10 mean exactly: not two bytes for each vector, or settings outside the limits
pub settings_rows_mean : (fmt : Format) (s : ℕ) (pairs vs : List ℕ)
    → (verdict (settings_rows fmt s pairs vs) ≡ fine) ↔ ((length pairs ≡ 2 * vectors s (length vs)) × Inside fmt s (pairs_of pairs) (length vs))
settings_rows_mean fmt s pairs vs = (settings-fine fmt s pairs vs, λ h. settings-pass fmt s pairs vs h.0 h.1)

-- ==== Demand 2: a written page reads back to every bit; a value is an exception exactly where the rule says so; bits lie where document 01
-- says

pub written_reads_back : (fmt : Format) (s : ℕ) (pairs vs page : List ℕ) (room : ℕ) → Values fmt vs → write_of fmt s pairs vs room ≡ done page
    → (lent : ℕ) → length vs ≤ lent → read_of fmt lent page ≡ done vs
written_reads_back fmt s pairs vs page room ok e lent h =
    let d = page_when_done fmt s pairs vs room page e in
    subst (λ (bs : List ℕ). read_of fmt lent bs ≡ done vs) (sym d.1) (round_trip fmt s (pairs_of pairs) vs d.0 ok lent h)

-- of any page that the reader accepts: as many values as the header says, each of the kind's width
pub read_count : (fmt : Format) (room : ℕ) (bs vs : List ℕ) → read_of fmt room bs ≡ done vs → length vs ≡ count_of bs
read_count fmt room bs vs e = read_done fmt room bs vs e

pub read_width : (fmt : Format) (room : ℕ) (bs vs : List ℕ) → Bytes bs → read_of fmt room bs ≡ done vs → Values fmt vs
read_width fmt room bs vs h e = read_values_done fmt room bs vs e h

-- and the kind's signed range holds frame plus field at every position of every vector, listed or not (row 17)
pub read_sums_are_held : (fmt : Format) (room : ℕ) (bs vs : List ℕ) → Bytes bs → read_of fmt room bs ≡ done vs
    → Each (λ (r : Raw). Each (λ (z : ℤ). mag z < 2 ^ hbits (word fmt)) (wholes fmt r)) (raws_of fmt bs)
read_sums_are_held fmt room bs vs h e = each_map (Sound fmt) (λ (r : Raw). Each (λ (z : ℤ). mag z < 2 ^ hbits (word fmt)) (wholes fmt r)) (λ r s. s.held) (raws_of fmt bs) (raws_sound fmt bs h (halves fmt room bs vs e).0)

-- one vector by its number, of any bytes: as many values as that vector holds, each of the kind's width
pub read_vector_count : (fmt : Format) (v room : ℕ) (bs vs : List ℕ) → read_vector_of fmt v room bs ≡ done vs → length vs ≡ values_in bs v
read_vector_count fmt v room bs vs e = vector-done fmt v room bs vs e

pub read_vector_width : (fmt : Format) (v room : ℕ) (bs vs : List ℕ) → Bytes bs → read_vector_of fmt v room bs ≡ done vs → Values fmt vs
read_vector_width fmt v room bs vs h e = vector_values_done fmt v room bs vs e h

-- on any page that the reader accepts, each of its vectors is given alone, given room: exactly its stretch of the whole answer
pub one_vector_is_its_stretch : (fmt : Format) (room : ℕ) (bs vs : List ℕ) → read_of fmt room bs ≡ done vs → (v : ℕ) → v < vectors_of bs → (lent : ℕ) → values_in bs v ≤ lent
    → read_vector_of fmt v lent bs ≡ done (take (2 ^ s_of bs) (drop (v * 2 ^ s_of bs) vs))
one_vector_is_its_stretch fmt room bs vs e v there lent fits = vector_is_stretch fmt room bs vs e v there lent fits

-- and what lies elsewhere does not matter: the header, two offsets, the vector's own bytes and the page's length decide all
pub one_vector_looks_nowhere_else : (fmt : Format) (v room : ℕ) (bs cs : List ℕ) → Alike fmt v bs cs → read_vector_of fmt v room bs ≡ read_vector_of fmt v room cs
one_vector_looks_nowhere_else fmt v room bs cs q = elsewhere_does_not_matter fmt v bs cs q room

-- a position of a written vector has its value's own bits stored where the value is an exception, and nothing anywhere else
pub exceptions-exactly : (fmt : Format) (p : Pair) (vs : List ℕ) (i : ℕ) → i < length vs
    → stored (encoded fmt p vs).positions (encoded fmt p vs).exceptions i ≡ cond (exception fmt p (get_or vs i 0)) (some (get_or vs i 0)) none
exceptions-exactly = listed-exactly

-- written: bit j of field i is bit i * width + j of the packed part
pub written-bits : (fmt : Format) (p : Pair) (vs : List ℕ) (i j : ℕ) → j < (encoded fmt p vs).width
    → bit_of (encoded fmt p vs).packed (i * (encoded fmt p vs).width + j) ≡ bit (get_or (fields_of (filled (tries fmt p vs))) i 0) j
written-bits = encoded-bit

-- read: so it is of any packed bytes, also where an unused bit is 1
pub read_bits : (r : Raw) → Bytes r.packed → (i j : ℕ) → i < r.count → j < r.width → bit (get_or (fields r) i 0) j ≡ bit_of r.packed (i * r.width + j)
read_bits = fields-bit

-- row 20 is true exactly where a bit past the last field is 1
pub row_20_means : (r : Raw) → Bytes r.packed
    → (unused_set r ≡ true) ↔ ((k : ℕ) × (r.count * r.width ≤ k) × (k < 8 * length r.packed) × (bit_of r.packed k ≡ 1))
row_20_means = unused_exactly

-- the width holds every field, and no fewer bits do
pub width_is_fewest : (fs : List ℕ) → Each (λ (f : ℕ). f < 2 ^ width_of fs) fs × ((w : ℕ) → Each (λ (f : ℕ). f < 2 ^ w) fs → width_of fs ≤ w)
width_is_fewest fs = (width-holds fs, width-fewest fs)

-- ---- the numbers behind it, over whole numbers

-- 10^0 to 10^E are exact
pub powers_are_exact : (fmt : Format) (k : ℕ) → k ≤ max_exponent fmt → HasValue (power fmt k) false (10 ^ k) 1
powers_are_exact = Powers.power-exact

-- 10^-k is the nearest float: twice the error is below one unit; and no other float of the kind is as near
pub negative_powers_are_nearest : (fmt : Format) (k : ℕ) → k ≤ max_exponent fmt → NearestToInverse fmt (neg_power fmt k) (10 ^ k)
negative_powers_are_nearest = Powers.neg_power-nearest

pub no_other_is_as_near : (fmt : Format) (k : ℕ) → k ≤ max_exponent fmt → (y : Float) → T (fits fmt y) → T (finite y) → AsNear (10 ^ k) y (neg_power fmt k) → y ≡ neg_power fmt k
no_other_is_as_near = Nearest.neg_power_only_nearest

-- a multiplication of finite floats is the exact product, rounded once; so is a whole number as a float
pub products_are_rounded_once : (fmt : Format) (s t : Bool) (m n : ℕ) (e d : ℤ)
    → RoundedOnce fmt (unlike s t) (m * up e * (n * up d)) (down e * down d) (mul fmt (fin s m e) (fin t n d))
products_are_rounded_once = Rounding.product_once

pub whole_numbers_are_rounded_once : (fmt : Format) (z : ℤ) → RoundedOnce fmt (not (non_neg z)) (nat_abs z) 1 (of_int fmt z)
whole_numbers_are_rounded_once = Rounding.of_int-once

-- and a sum; a difference is a sum with the other sign
pub sums_are_rounded_once : (fmt : Format) (s t : Bool) (m n : ℕ) (e d : ℤ)
    → RoundedOnce fmt (sum_sign s (m * up e * down d) t (n * up d * down e)) (sum_size s (m * up e * down d) t (n * up d * down e)) (down e * down d) (add fmt (fin s m e) (fin t n d))
sums_are_rounded_once = Rounding.add_once

pub differences_are_sums : (fmt : Format) (x : Float) (t : Bool) (n : ℕ) (d : ℤ) → sub fmt x (fin t n d) ≡ add fmt x (fin (not t) n d)
differences_are_sums = Rounding.sub_is

-- the constant is a float of the kind
pub the_constant_is_exact : (fmt : Format) → HasValue (of_int fmt (pos (rounding_constant fmt))) false (rounding_constant fmt) 1
the_constant_is_exact = Fast.constant_exact

-- without its fraction a finite float is the next whole number toward zero
pub fractions_are_dropped : (s : Bool) (m : ℕ) (e : ℤ) → (n : ℕ) × (truncated (fin s m e) ≡ signed s n) × (n * down e ≤ m * up e) × (m * up e < suc n * down e)
fractions_are_dropped = Rounding.truncated-under

-- the whole number of a small float is the nearest, ties to even, and nothing else is
pub small_wholes_are_nearest : (fmt : Format) (s : Bool) (m : ℕ) (e : ℤ) → Small fmt (fin s m e) → (n : ℕ) × (whole fmt (fin s m e) ≡ signed s n) × NearestEven (m * up e) (down e) n
small_wholes_are_nearest = Fast.small_nearest

pub nothing_else_is_nearest : (fmt : Format) (s : Bool) (m : ℕ) (e : ℤ) (n : ℕ) → Small fmt (fin s m e) → NearestEven (m * up e) (down e) n → whole fmt (fin s m e) ≡ signed s n
nothing_else_is_nearest = Fast.small_only

-- inside the limits: only a NaN scales to a NaN; nothing comes back as a NaN, nor as an infinity; and its bits are those of the float
pub scaled_is_no_nan : (fmt : Format) (p : Pair) → Allowed fmt p → (b : ℕ) → nan_bits fmt b ≡ false → is_nan (scaled fmt p (of_bits fmt b)) ≡ false
scaled_is_no_nan = Powers.scaled_bits_no_nan

pub back_is_no_nan : (fmt : Format) (p : Pair) → Allowed fmt p → (z : ℤ) → nan_bits fmt (back fmt p z) ≡ false
back_is_no_nan = Powers.back_no_nan_bits

pub back_is_finite : (fmt : Format) (p : Pair) → Allowed fmt p → (z : ℤ) → mag z < 2 ^ hbits (word fmt) → T (finite (brought_back fmt p z))
back_is_finite = Powers.back-finite

pub back_is_its_float : (fmt : Format) (p : Pair) (z : ℤ) → of_bits fmt (back fmt p z) ≡ brought_back fmt p z
back_is_its_float = Powers.back-bits

-- ==== Demand 3: the examiner accepts a byte string exactly where some list of values with settings inside the limits has it as its page;
-- there is one such list and one such choice only, and reading gives that list

pub demand_3 : (fmt : Format) (bs : List ℕ) → Bytes bs → Examines fmt bs
demand_3 fmt bs h = record {
  accepts = λ vs. ((λ e. (_, _, accepted_is_page fmt bs vs h e)), (λ q. subst (λ (x : List ℕ). examine_of fmt x ≡ done vs) (sym q.2.page_is) (page_is_accepted fmt q.0 q.1 vs q.2.inside q.2.values)));
  one_only = λ s s' ps ps' vs vs' a b. one_page fmt s s' ps ps' vs vs' a.inside a.values b.inside b.values (sym a.page_is ∙ b.page_is);
  reads = examined_reads fmt bs;
}

-- ==== Choosing a pair (document 02, T-04): of all pairs inside the limits the first of those with the fewest bytes, whatever was left early

-- nothing is lent to write to: row 31 with the pair 0, 0, or the count of values and the pair
pub chooser_answers : (fmt : Format) (vs : List ℕ)
    → ((a : ℕ) × (p : Point) × FirstTrue (ordered (choose_rows vs)) a p × T (among a given_by_chooser) × (choose_of fmt vs ≡ choice (refuse a p) (length vs) (chosen fmt vs)))
    ⊎ (Each Passes (ordered (choose_rows vs)) × (choose_of fmt vs ≡ choice fine (length vs) (chosen fmt vs)))
unfolding choose_of
chooser_answers fmt vs = verdict-gives (choose_rows vs) given_by_chooser (λ (v : Verdict). choice v (length vs) (chosen fmt vs)) (chooser_numbered vs)

-- row 31 means exactly: no values, or more than a vector holds
pub row_31_means : (vs : List ℕ) → (verdict (choose_rows vs) ≡ fine) ↔ ((1 ≤ length vs) × (length vs ≤ 2 ^ max_s))
row_31_means = vector-fine

-- 66 pairs are tried or 190, and they are exactly those inside the limits
pub pairs_are_counted : (length (all_pairs binary32) ≡ 66) × (length (all_pairs binary64) ≡ 190)
pairs_are_counted = (pairs_32, pairs_64)

pub every_pair_is_tried : (fmt : Format) (P : Pair → Type 0) → Each P (all_pairs fmt) ↔ ((p : Pair) → Allowed fmt p → P p)
every_pair_is_tried fmt P = ((λ h. of_every_pair P fmt h), (λ h. each_map (Allowed fmt) P h (all_pairs fmt) (tried-inside fmt)))

-- what is chosen is the first of the smallest, and nothing else is
pub chosen_is_first_of_smallest : (fmt : Format) (vs : List ℕ) (p : Pair) → p ≡ chosen fmt vs ↔ FirstOfSmallest (size_with fmt vs) (all_pairs fmt) p
chosen_is_first_of_smallest = chosen-exactly

-- 0, 0 where all values are exceptions, whatever the pair
pub only_exceptions_choose_the_first : (fmt : Format) (vs : List ℕ) → ((p : Pair) → Allowed fmt p → Each (λ (v : ℕ). exception fmt p v ≡ true) vs) → chosen fmt vs ≡ first_pair
only_exceptions_choose_the_first = only_exceptions

-- the writer takes the pairs chosen for each vector, and no other pairs make a shorter page with the same s
pub chosen_pairs_are_inside : (fmt : Format) (s : ℕ) (vs : List ℕ) → min_s ≤ s → s ≤ max_s → length vs ≤ max_values → Inside fmt s (chosen_pairs fmt s vs) (length vs)
chosen_pairs_are_inside = chosen-settings

pub no_page_is_shorter : (fmt : Format) (s : ℕ) (vs : List ℕ) (ps : List Pair) → Inside fmt s ps (length vs) → Values fmt vs → length (page_of fmt s (chosen_pairs fmt s vs) vs) ≤ length (page_of fmt s ps vs)
no_page_is_shorter = chosen-page

-- ==== Pinned: any two results that a call's record allows are equal

pub measured-pinned : (fmt : Format) (values : List ℕ) (s : ℕ) (pairs : List ℕ) (r r' : Answer) → Measured fmt values s pairs r → Measured fmt values s pairs r' → r ≡ r'
measured-pinned fmt values s pairs r r' a b = a.answer_is ∙ sym b.answer_is

pub written-pinned : (fmt : Format) (values : List ℕ) (s : ℕ) (pairs out : List ℕ) (r r' : Answer) (end end' : List ℕ)
    → Written fmt values s pairs out r end → Written fmt values s pairs out r' end' → (r ≡ r') × (end ≡ end')
written-pinned fmt values s pairs out r r' end end' a b = (a.answer_is ∙ sym b.answer_is, a.output_is ∙ sym b.output_is)

pub read_pinned : (fmt : Format) (page out : List ℕ) (r r' : Answer) (end end' : List ℕ) → Read fmt page out r end → Read fmt page out r' end' → (r ≡ r') × (end ≡ end')
read_pinned fmt page out r r' end end' a b = (a.answer_is ∙ sym b.answer_is, a.output_is ∙ sym b.output_is)

pub read_vector_pinned : (fmt : Format) (page : List ℕ) (v : ℕ) (out : List ℕ) (r r' : Answer) (end end' : List ℕ)
    → ReadVector fmt page v out r end → ReadVector fmt page v out r' end' → (r ≡ r') × (end ≡ end')
read_vector_pinned fmt page v out r r' end end' a b = (a.answer_is ∙ sym b.answer_is, a.output_is ∙ sym b.output_is)

pub examined_pinned : (fmt : Format) (page : List ℕ) (r r' : Answer) → Examined fmt page r → Examined fmt page r' → r ≡ r'
examined_pinned fmt page r r' a b = a.answer_is ∙ sym b.answer_is

pub chosen-pinned : (fmt : Format) (values : List ℕ) (r r' : Choice) → Chosen fmt values r → Chosen fmt values r' → r ≡ r'
chosen-pinned fmt values r r' a b = a.choice_is ∙ sym b.choice_is

-- ==== Shut out by name (document 01, "How tightly answers are pinned"): no call that keeps its record is one of these wrong programs

-- a writer: what it answers and leaves, of the values, s, the pairs and the output lent to it; and so on
abbrev pub Writer : Type 0
Writer = List ℕ → ℕ → List ℕ → List ℕ → Answer × List ℕ

abbrev pub Reader : Type 0
Reader = List ℕ → List ℕ → Answer × List ℕ

abbrev pub VectorReader : Type 0
VectorReader = List ℕ → ℕ → List ℕ → Answer × List ℕ

abbrev pub Examiner : Type 0
Examiner = List ℕ → Answer

abbrev pub Chooser : Type 0
Chooser = List ℕ → Choice

module _ (fmt : Format) where
  abbrev pub GoodWriter : Writer → Type 0
  GoodWriter W = (values : List ℕ) (s : ℕ) (pairs out : List ℕ) → Written fmt values s pairs out (W values s pairs out).0 (W values s pairs out).1

  abbrev pub GoodReader : Reader → Type 0
  GoodReader R = (page out : List ℕ) → Read fmt page out (R page out).0 (R page out).1

  abbrev pub GoodVectorReader : VectorReader → Type 0
  GoodVectorReader R = (page : List ℕ) (v : ℕ) (out : List ℕ) → ReadVector fmt page v out (R page v out).0 (R page v out).1

  abbrev pub GoodExaminer : Examiner → Type 0
  GoodExaminer X = (page : List ℕ) → Examined fmt page (X page)

  abbrev pub GoodChooser : Chooser → Type 0
  GoodChooser C = (values : List ℕ) → Chosen fmt values (C values)

  -- one that refuses everything
  pub not_a_writer_that_refuses_everything : (W : Writer) → GoodWriter W → ((values : List ℕ) (s : ℕ) (pairs out : List ℕ) → (W values s pairs out).0.number ≡ 0 → ⊥) → ⊥
  not_a_writer_that_refuses_everything W good bad =
      bad [] 10 [] (replicate 8 0) (ap (λ (r : Answer). r.number) ((good [] 10 [] (replicate 8 0)).answer_is ∙ ap answer (nothing_written fmt)))

  pub not_a_reader_that_refuses_everything : (R : Reader) → GoodReader R → ((page out : List ℕ) → (R page out).0.number ≡ 0 → ⊥) → ⊥
  not_a_reader_that_refuses_everything R good bad = bad nothing [] (ap (λ (r : Answer). r.number) ((good nothing []).answer_is ∙ ap answer (nothing_read fmt)))

  pub not_a_vector_reader_that_refuses_everything : (R : VectorReader) → GoodVectorReader R → ((page : List ℕ) (v : ℕ) (out : List ℕ) → (R page v out).0.number ≡ 0 → ⊥) → ⊥
  not_a_vector_reader_that_refuses_everything R good bad =
      bad (zero_page fmt) 0 (1 ∷ []) (ap (λ (r : Answer). r.number) ((good (zero_page fmt) 0 (1 ∷ [])).answer_is ∙ ap answer (zero_vector_read fmt)))

  -- a writer that asks for the bound, though the page would fit
  pub not_a_writer_that_asks_for_the_bound : (W : Writer) → GoodWriter W → ((values : List ℕ) (s : ℕ) (pairs out : List ℕ) → length out < bound fmt s (length values) → (W values s pairs out).0.number ≡ 15) → ⊥
  not_a_writer_that_asks_for_the_bound W good bad =
      let e : ◌≡◌ {A = ℕ} 0 15 = sym (ap (λ (r : Answer). r.number) ((good (0 ∷ []) 3 (0 ∷ 0 ∷ []) roomy).answer_is ∙ ap answer (zero_written fmt))) ∙ bad (0 ∷ []) 3 (0 ∷ 0 ∷ []) roomy (roomy_below fmt) in
      omega arith

  -- an examiner that accepts everything, or nothing
  pub not_an_examiner_that_accepts_everything : (X : Examiner) → GoodExaminer X → ((page : List ℕ) → (X page).number ≡ 0) → ⊥
  not_an_examiner_that_accepts_everything X good bad =
      let e : ◌≡◌ {A = ℕ} 0 1 = sym (bad []) ∙ ap (λ (r : Answer). r.number) ((good []).answer_is ∙ ap answer (no_bytes_refused fmt)) in
      omega arith

  pub not_an_examiner_that_accepts_nothing : (X : Examiner) → GoodExaminer X → ((page : List ℕ) → (X page).number ≡ 0 → ⊥) → ⊥
  not_an_examiner_that_accepts_nothing X good bad = bad nothing (ap (λ (r : Answer). r.number) ((good nothing).answer_is ∙ ap answer (nothing-accepted fmt)))

  -- a writer that makes every value an exception: the page of a single value would list one
  pub not_a_writer_that_excepts_every_value : (W : Writer) → GoodWriter W → ((v : ℕ) → (meta_at fmt (body_of (W (v ∷ []) 3 (0 ∷ 0 ∷ []) roomy).1)).listed ≡ 1) → ⊥
  not_a_writer_that_excepts_every_value W good bad =
      let left : (W (0 ∷ []) 3 (0 ∷ 0 ∷ []) roomy).1 ≡ after (done (zero_page fmt)) roomy = (good (0 ∷ []) 3 (0 ∷ 0 ∷ []) roomy).output_is ∙ ap (λ (r : Result). after r roomy) (zero_written fmt) in
      let e : ◌≡◌ {A = ℕ} 0 1 = sym (zero_lists_none fmt) ∙ ap (λ (bs : List ℕ). (meta_at fmt (body_of bs)).listed) (sym left) ∙ bad 0 in
      omega arith

  -- a reader that gives one fixed list, or leaves the output alone
  pub not_a_reader_of_one_list : (R : Reader) → GoodReader R → (fixed : List ℕ) → ((page out : List ℕ) → (R page out).0.number ≡ 0 → take (R page out).0.place (R page out).1 ≡ fixed) → ⊥
  not_a_reader_of_one_list R good fixed bad =
      let a = good nothing [] in
      let b = good (zero_page fmt) (1 ∷ []) in
      let ra = a.answer_is ∙ ap answer (nothing_read fmt) in
      let rb = b.answer_is ∙ ap answer (zero_read fmt) in
      let none-given : [] ≡ fixed = sym (ap₂ (λ (r : Answer) (l : List ℕ). take r.place l) ra (a.output_is ∙ ap (λ (x : Result). after x []) (nothing_read fmt))) ∙ bad nothing [] (ap (λ (r : Answer). r.number) ra) in
      let one-given : 0 ∷ [] ≡ fixed = sym (ap₂ (λ (r : Answer) (l : List ℕ). take r.place l) rb (b.output_is ∙ ap (λ (x : Result). after x (1 ∷ [])) (zero_read fmt))) ∙ bad (zero_page fmt) (1 ∷ []) (ap (λ (r : Answer). r.number) rb) in
      let e : ◌≡◌ {A = ℕ} 0 1 = ap length (none-given ∙ sym one-given) in
      omega arith

  one_is_not_zero : ◌≡◌ {A = List ℕ} (0 ∷ []) (1 ∷ []) → ⊥
  one_is_not_zero e = let o : ◌≡◌ {A = ℕ} 0 1 = ap (λ (l : List ℕ). get_or l 0 0) e in omega arith

  pub not_a_reader_that_leaves_the_output_alone : (R : Reader) → GoodReader R → ((page out : List ℕ) → (R page out).1 ≡ out) → ⊥
  not_a_reader_that_leaves_the_output_alone R good bad =
      one_is_not_zero (sym ((good (zero_page fmt) (1 ∷ [])).output_is ∙ ap (λ (x : Result). after x (1 ∷ [])) (zero_read fmt)) ∙ bad (zero_page fmt) (1 ∷ []))

  pub not_a_vector_reader_that_leaves_the_output_alone : (R : VectorReader) → GoodVectorReader R → ((page : List ℕ) (v : ℕ) (out : List ℕ) → (R page v out).1 ≡ out) → ⊥
  not_a_vector_reader_that_leaves_the_output_alone R good bad =
      one_is_not_zero (sym ((good (zero_page fmt) 0 (1 ∷ [])).output_is ∙ ap (λ (x : Result). after x (1 ∷ [])) (zero_vector_read fmt)) ∙ bad (zero_page fmt) 0 (1 ∷ []))

  -- a chooser of one fixed pair
  pub not_a_chooser_of_one_pair : (C : Chooser) → GoodChooser C → (e : ℕ) → ((values : List ℕ) → (C values).answer.number ≡ 0 → (C values).exponent ≡ e) → ⊥
  unfolding choose_of choose_rows
  not_a_chooser_of_one_pair C good e bad =
      let zero = (good (0 ∷ [])).choice_is in
      let other = (good (half fmt ∷ [])).choice_is in
      let first : (chosen fmt (0 ∷ [])).exponent ≡ e = sym (ap (λ (c : Choice). c.exponent) zero) ∙ bad (0 ∷ []) (ap (λ (c : Choice). c.answer.number) zero) in
      let second : (chosen fmt (half fmt ∷ [])).exponent ≡ e = sym (ap (λ (c : Choice). c.exponent) other) ∙ bad (half fmt ∷ []) (ap (λ (c : Choice). c.answer.number) other) in
      half_exponent fmt (second ∙ sym first ∙ zero_exponent fmt)

  -- a done with an invented count: done's place is the page's length, the header's count, or the vector's
  pub writer_counts : (values : List ℕ) (s : ℕ) (pairs out : List ℕ) (r : Answer) (end : List ℕ) → Written fmt values s pairs out r end → r.number ≡ 0
      → r.place ≡ length (page_of fmt s (pairs_of pairs) values)
  writer_counts values s pairs out r end w e =
      place_when_done (write_of fmt s pairs values (length out)) given_by_writer tt (writer_answers fmt s pairs values (length out)).of_the_table r w.answer_is e
      (λ bs q. ap length (page_when_done fmt s pairs values (length out) bs q).1)

  pub reader_counts : (page out : List ℕ) (r : Answer) (end : List ℕ) → Read fmt page out r end → r.number ≡ 0 → r.place ≡ count_of page
  reader_counts page out r end w e =
      place_when_done (read_of fmt (length out) page) given_by_reader tt (reader_answers fmt (length out) page).of_the_table r w.answer_is e (read_done fmt (length out) page)

  pub vector_reader_counts : (page : List ℕ) (v : ℕ) (out : List ℕ) (r : Answer) (end : List ℕ) → ReadVector fmt page v out r end → r.number ≡ 0 → r.place ≡ values_in page v
  vector_reader_counts page v out r end w e =
      place_when_done (read_vector_of fmt v (length out) page) given_by_vector_reader tt (vector_reader_answers fmt v (length out) page).of_the_table r w.answer_is e (vector-done fmt v (length out) page)

  pub examiner_counts : (page : List ℕ) (r : Answer) → Examined fmt page r → r.number ≡ 0 → r.place ≡ count_of page
  examiner_counts page r w e = place_when_done (examine_of fmt page) given_by_examiner tt (examiner_answers fmt page).of_the_table r w.answer_is e (examined_count fmt page)
