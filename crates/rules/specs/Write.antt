-- The writer: its checks in order, the size of the page that it gives, and an upper limit of that. Pairs are lent as bytes. Assumes
-- nothing.
use Rattle.std.specs.Prelude.{ℕ, suc, ◌+◌, ◌*◌, ◌≤◌, ◌≡◌, ◌||◌, List, [], ◌∷◌, length}
use Rattle.std.specs.Float.{Format}
use Rattle.digits.specs.Lists.{Each}
use Rattle.rules.specs.Kind.{min_s, max_s, max_values, max_exponent, word_bytes, meta_bytes, Values}
use Rattle.rules.specs.Decimal.{Pair}
use Rattle.rules.specs.Page.{vectors, page_of}
use Rattle.rules.specs.Verdict.{Rows, no_rows, row, ◌then◌, the_page, in_vector, ◌below◌, ◌above◌, ◌isnt◌, Result, call}

-- ---- settings

-- the pairs are lent as one byte list: exponent, then factor, for each vector
unfoldable pub pairs_of : List ℕ → List Pair
pairs_of [] = []
pairs_of (e ∷ []) = []
pairs_of (e ∷ f ∷ bs) = record { exponent = e; factor = f } ∷ pairs_of bs

unfoldable pub pair_bytes : List Pair → List ℕ
pair_bytes [] = []
pair_bytes (p ∷ ps) = p.exponent ∷ p.factor ∷ pair_bytes ps

-- a pair inside the limits
pub record Allowed (fmt : Format) (p : Pair) : Type 0 where
  pub exponent : p.exponent ≤ max_exponent fmt
  pub factor : p.factor ≤ p.exponent

-- settings inside the limits, for a column of n values
pub record Inside (fmt : Format) (s : ℕ) (ps : List Pair) (n : ℕ) : Type 0 where
  pub low : min_s ≤ s
  pub high : s ≤ max_s
  pub many : n ≤ max_values
  pub one_each : length ps ≡ vectors s n
  pub allowed : Each (Allowed fmt) ps

-- bs is the page of the values vs, with s and the pairs ps, which are inside the limits
pub record PageOf (fmt : Format) (bs : List ℕ) (s : ℕ) (ps : List Pair) (vs : List ℕ) : Type 0 where
  pub inside : Inside fmt s ps (length vs)
  pub values : Values fmt vs
  pub page_is : bs ≡ page_of fmt s ps vs

-- ---- the checks

-- 9 and 10, vector by vector from number v
unfoldable pub pairs_rows : Format → ℕ → List Pair → Rows
pairs_rows fmt v [] = no_rows
pairs_rows fmt v (p ∷ ps) =
    row 9 (in_vector v) (p.exponent above max_exponent fmt)
    then row 10 (in_vector v) (p.factor above p.exponent)
    then pairs_rows fmt (suc v) ps

-- 5, 6, 16, then 9 and 10; an odd count of bytes is never two for each vector
unfoldable pub settings_rows : Format → ℕ → List ℕ → List ℕ → Rows
settings_rows fmt s pairs vs =
    row 5 the_page (s below min_s || s above max_s)
    then row 6 the_page (length vs above max_values)
    then row 16 the_page (length pairs isnt 2 * vectors s (length vs))
    then pairs_rows fmt 0 (pairs_of pairs)

-- ---- how long a page is

-- the bytes of the page of these values with these settings: what measuring gives, and what the writer asks for
abbrev pub page_size : Format → ℕ → List ℕ → List ℕ → ℕ
page_size fmt s pairs vs = length (page_of fmt s (pairs_of pairs) vs)

-- document 01's bound: no page of n values is longer, whatever they are (004, section 9.3)
unfoldable pub bound : Format → ℕ → ℕ → ℕ
bound fmt s n = 8 + vectors s n * (4 + meta_bytes fmt) + n * (2 * word_bytes fmt + 2)

-- ---- the writer, lent an output of `room` bytes

-- 5, 6, 16, 9 and 10, then 15
unfoldable pub write_rows : Format → ℕ → List ℕ → List ℕ → ℕ → Rows
write_rows fmt s pairs vs room = settings_rows fmt s pairs vs then row 15 the_page (room below page_size fmt s pairs vs)

unfoldable pub write_of : Format → ℕ → List ℕ → List ℕ → ℕ → Result
write_of fmt s pairs vs room = call (write_rows fmt s pairs vs room) (page_of fmt s (pairs_of pairs) vs)

-- to unfold this is to unfold all of the above
unfoldable pub all_write : Unit {0}
unfolding pairs_of pair_bytes pairs_rows settings_rows bound write_rows write_of
all_write = tt
