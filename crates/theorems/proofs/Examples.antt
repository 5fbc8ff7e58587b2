-- Two small pages, computed: the page of no values, and the page of the one value zero. Assumes nothing.
use mathlib.Core.Path.{◌≡◌, refl}
use Prim.Native.Nat.{ℕ, ◌<◌}
use mathlib.Core.List.{List, [], ◌∷◌, ◌++◌}
use lib.ListN.{replicate}
use lib.Dec.{lit<}
use lib.Ieee.{Format, binary32, binary64}
use Rattle.digits.specs.Digits.{every_digit}
use Rattle.rules.specs.Kind.{word_bytes, meta_bytes}
use Rattle.rules.specs.Decimal.{all_decimal}
use Rattle.rules.specs.Vector.{all_vector}
use Rattle.rules.specs.Page.{body_of, meta_at, all_page}
use Rattle.rules.specs.Verdict.{the_page, done, refused, after}
use Rattle.rules.specs.Read.{read_of, all_read}
use Rattle.rules.specs.ReadVector.{read_vector_of, all_read_vector}
use Rattle.rules.specs.Examine.{examine_of, all_examine}
use Rattle.rules.specs.Write.{bound, write_of, all_write}
use Rattle.rules.specs.Choose.{size_with, first_pair}

-- R3: the header alone
abbrev pub nothing : List ℕ
nothing = 1 ∷ 0 ∷ 0 ∷ 10 ∷ 0 ∷ 0 ∷ 0 ∷ 0 ∷ []

pub nothing_written : (fmt : Format) → write_of fmt 10 [] [] 8 ≡ done nothing
unfolding every_digit all_decimal all_vector all_page all_write
nothing_written binary32 = refl
nothing_written binary64 = refl

pub nothing_read : (fmt : Format) → read_of fmt 0 nothing ≡ done []
unfolding every_digit all_decimal all_vector all_page all_read
nothing_read binary32 = refl
nothing_read binary64 = refl

pub nothing-accepted : (fmt : Format) → examine_of fmt nothing ≡ done []
unfolding every_digit all_decimal all_vector all_page all_read all_examine
nothing-accepted binary32 = refl
nothing-accepted binary64 = refl

-- no bytes at all
pub no_bytes_refused : (fmt : Format) → examine_of fmt [] ≡ refused 1 the_page
unfolding every_digit all_decimal all_vector all_page all_read all_examine
no_bytes_refused binary32 = refl
no_bytes_refused binary64 = refl

-- the value 0.0 at s 3, exponent 0, factor 0: frame 0, width 0, and no exception
abbrev pub zero_page : Format → List ℕ
zero_page fmt = 1 ∷ 0 ∷ 0 ∷ 3 ∷ 1 ∷ 0 ∷ 0 ∷ 0 ∷ 4 ∷ 0 ∷ 0 ∷ 0 ∷ replicate 5 0 ++ replicate (word_bytes fmt) 0

-- the output that it is lent: longer than the page, and shorter than the bound
abbrev pub roomy : List ℕ
roomy = replicate 30 0

pub roomy_below : (fmt : Format) → 30 < bound fmt 3 1
unfolding bound
roomy_below binary32 = lit< tt
roomy_below binary64 = lit< tt

pub zero_written : (fmt : Format) → write_of fmt 3 (0 ∷ 0 ∷ []) (0 ∷ []) 30 ≡ done (zero_page fmt)
unfolding every_digit all_decimal all_vector all_page all_write
zero_written binary32 = refl
zero_written binary64 = refl

pub zero_read : (fmt : Format) → read_of fmt 1 (zero_page fmt) ≡ done (0 ∷ [])
unfolding every_digit all_decimal all_vector all_page all_read
zero_read binary32 = refl
zero_read binary64 = refl

-- its only vector, read alone
pub zero_vector_read : (fmt : Format) → read_vector_of fmt 0 1 (zero_page fmt) ≡ done (0 ∷ [])
unfolding every_digit all_decimal all_vector all_page all_read all_read_vector
zero_vector_read binary32 = refl
zero_vector_read binary64 = refl

-- the count of exceptions in what the writer leaves
pub zero_lists_none : (fmt : Format) → (meta_at fmt (body_of (after (done (zero_page fmt)) roomy))).listed ≡ 0
unfolding every_digit all_page
zero_lists_none binary32 = refl
zero_lists_none binary64 = refl

-- for 0.0 no vector is shorter than with 0, 0; for 0.5, which has no whole number with exponent 0, one is
abbrev pub half : Format → ℕ
half binary32 = 0x3F000000
half binary64 = 0x3FE0000000000000

pub zero_size : (fmt : Format) → size_with fmt (0 ∷ []) first_pair ≡ meta_bytes fmt
unfolding every_digit all_decimal all_vector
zero_size binary32 = refl
zero_size binary64 = refl

pub half_size : (fmt : Format) → size_with fmt (half fmt ∷ []) (record { exponent = 1; factor = 0 }) < size_with fmt (half fmt ∷ []) first_pair
unfolding every_digit all_decimal all_vector
half_size binary32 = lit< tt
half_size binary64 = lit< tt
