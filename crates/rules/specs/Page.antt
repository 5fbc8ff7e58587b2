-- The page, byte by byte (document 01; 004, section 2): how it is laid out, and how the parts of any bytes are read. Assumes nothing.
use Rattle.std.specs.Prelude.{ℕ, ◌+◌, ◌-◌, ◌*◌, ◌/◌, ◌^◌, min, List, [], ◌∷◌, ◌++◌, length, take, drop, get_or}
use Rattle.std.specs.Float.{Format}
use Rattle.digits.specs.Digits.{le, les, number, numbers, packed_size}
use Rattle.rules.specs.Kind.{word_bytes, meta_bytes}
use Rattle.rules.specs.Decimal.{Pair}
use Rattle.rules.specs.Vector.{Raw, encoded}

-- ---- laid out

-- version 1, mode 0, integer encoding 0, s, the count of values
unfoldable pub header : ℕ → ℕ → List ℕ
header s n = 1 ∷ 0 ∷ 0 ∷ s ∷ le 4 n

-- the count of vectors of 2 ^ s values that n values make: divided, rounded up
abbrev pub vectors : ℕ → ℕ → ℕ
vectors s n = (n + (2 ^ s - 1)) / 2 ^ s

-- a vector's metadata
pub record Meta : Type 0 where
  pub pair : Pair
  pub listed : ℕ
  pub frame : ℕ
  pub width : ℕ

abbrev pub meta_of : Raw → Meta
meta_of r = record { pair = r.pair; listed = length r.positions; frame = r.frame; width = r.width }

-- exponent, factor, count of exceptions, frame, width
unfoldable pub metadata : Format → Meta → List ℕ
metadata fmt m = m.pair.exponent ∷ m.pair.factor ∷ (le 2 m.listed ++ (le (word_bytes fmt) m.frame ++ (m.width ∷ [])))

-- packed fields, then exception positions, then the exceptions' bit patterns
unfoldable pub payload : Format → Raw → List ℕ
payload fmt r = r.packed ++ (les 2 r.positions ++ les (word_bytes fmt) r.exceptions)

unfoldable pub vector_bytes : Format → Raw → List ℕ
vector_bytes fmt r = metadata fmt (meta_of r) ++ payload fmt r

-- how many bytes a vector of n values with this metadata has
abbrev pub vector_size : Format → ℕ → Meta → ℕ
vector_size fmt n m = meta_bytes fmt + (packed_size n m.width + m.listed * (2 + word_bytes fmt))

abbrev pub size_of : Format → Raw → ℕ
size_of fmt r = vector_size fmt r.count (meta_of r)

-- each next offset is the previous plus the previous vector's size
unfoldable pub starts : Format → ℕ → List Raw → List ℕ
starts fmt at [] = []
starts fmt at (r ∷ rs) = at ∷ starts fmt (at + size_of fmt r) rs

unfoldable pub bodies : Format → List Raw → List ℕ
bodies fmt [] = []
bodies fmt (r ∷ rs) = vector_bytes fmt r ++ bodies fmt rs

-- a page of n values in the vectors rs; offsets are measured from byte 8, and the first is 4 times the count of vectors
unfoldable pub layout : Format → ℕ → ℕ → List Raw → List ℕ
layout fmt s n rs = header s n ++ (les 4 (starts fmt (4 * length rs) rs) ++ bodies fmt rs)

-- the values cut into vectors, one for each pair: `take` gives what is left where that is less
unfoldable pub encoded_all : Format → ℕ → List Pair → List ℕ → List Raw
encoded_all fmt size [] vs = []
encoded_all fmt size (p ∷ ps) vs = encoded fmt p (take size vs) ∷ encoded_all fmt size ps (drop size vs)

-- the page of the values vs with vector size 2 ^ s and the pairs ps
unfoldable pub page_of : Format → ℕ → List Pair → List ℕ → List ℕ
page_of fmt s ps vs = layout fmt s (length vs) (encoded_all fmt (2 ^ s) ps vs)

-- ---- read: the parts of some bytes. Each is a number or a list, whatever the bytes are

abbrev pub version_of : List ℕ → ℕ
version_of bs = get_or bs 0 0

abbrev pub mode_of : List ℕ → ℕ
mode_of bs = get_or bs 1 0

abbrev pub encoding_of : List ℕ → ℕ
encoding_of bs = get_or bs 2 0

abbrev pub s_of : List ℕ → ℕ
s_of bs = get_or bs 3 0

unfoldable pub count_of : List ℕ → ℕ
count_of bs = number (take 4 (drop 4 bs))

abbrev pub vectors_of : List ℕ → ℕ
vectors_of bs = vectors (s_of bs) (count_of bs)

-- the offsets, and what stands behind them
unfoldable pub offsets_of : List ℕ → List ℕ
offsets_of bs = numbers 4 (vectors_of bs) (drop 8 bs)

unfoldable pub body_of : List ℕ → List ℕ
body_of bs = drop (8 + 4 * vectors_of bs) bs

-- the metadata at the front of some bytes
unfoldable pub meta_at : Format → List ℕ → Meta
meta_at fmt bs = record {
  pair = record { exponent = get_or bs 0 0; factor = get_or bs 1 0 };
  listed = number (take 2 (drop 2 bs));
  frame = number (take (word_bytes fmt) (drop 4 bs));
  width = get_or bs (4 + word_bytes fmt) 0;
}

-- the vector of n values with this metadata whose payload is at the front of some bytes
unfoldable pub raw_from : Format → ℕ → Meta → List ℕ → Raw
raw_from fmt n m bs =
    let behind = drop (packed_size n m.width) bs in
    record {
      count = n;
      pair = m.pair;
      frame = m.frame;
      width = m.width;
      packed = take (packed_size n m.width) bs;
      positions = numbers 2 m.listed behind;
      exceptions = numbers (word_bytes fmt) m.listed (drop (m.listed * 2) behind);
    }

-- the vectors of `left` values, one for each offset, each behind the one before. What an offset says is not used: row 8 has refused
-- every page on which it says anything else than this
unfoldable pub raws_from : Format → ℕ → ℕ → List ℕ → List ℕ → List Raw
raws_from fmt size left [] bs = []
raws_from fmt size left (o ∷ os) bs =
    let n = min size left in
    let m = meta_at fmt bs in
    raw_from fmt n m (drop (meta_bytes fmt) bs) ∷ raws_from fmt size (left - size) os (drop (vector_size fmt n m) bs)

unfoldable pub raws_of : Format → List ℕ → List Raw
raws_of fmt bs = raws_from fmt (2 ^ s_of bs) (count_of bs) (offsets_of bs) (body_of bs)

-- to unfold this is to unfold all of the above
unfoldable pub all_page : Unit {0}
unfolding header metadata payload vector_bytes starts bodies layout encoded_all page_of count_of offsets_of body_of meta_at raw_from raws_from raws_of
all_page = tt
