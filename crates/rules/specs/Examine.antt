-- The examiner: the reader's checks without 15, then rows 20 to 24: the first vector at fault, in it the lowest row, in that the first
-- position. Assumes nothing.
use Rattle.std.specs.Prelude.{ℕ, suc, ◌*◌, ◌^◌, Bool, true, false, not, ◌||◌, eqb, ℤ, pos, negsuc}
use mathlib.Core.List.{List, [], ◌∷◌, zip_with}
use Rattle.std.proofs.Math.Option.{Option, none, some}
use Rattle.std.specs.Float.{Format}
use Rattle.std.proofs.Common.{of_z}
use Rattle.digits.specs.Digits.{number}
use Rattle.rules.specs.Kind.{word}
use Rattle.rules.specs.Decimal.{Pair, exception, tried, back}
use Rattle.rules.specs.Vector.{Raw, the_stand_in, least, width_of, fields, wholes, marked}
use Rattle.rules.specs.Page.{raws_of}
use Rattle.rules.specs.Verdict.{Rows, no_rows, row, ◌then◌, in_vector, in_vector_at, ◌below◌, ◌isnt◌, Result, call}
use Rattle.rules.specs.Read.{page_rows, values_of}

abbrev pub eq_z : ℤ → ℤ → Bool
eq_z (pos a) (pos b) = eqb a b
eq_z (pos a) (negsuc b) = false
eq_z (negsuc a) (pos b) = false
eq_z (negsuc a) (negsuc b) = eqb a b

-- ---- the rows' conditions. A position has its whole number z and, where it is listed, the bits stored for it

-- 20: an unused packed bit is 1: the packed part is a number of more bits than the fields have
abbrev pub unused_set : Raw → Bool
unused_set r = not (number r.packed below 2 ^ (r.count * r.width))

-- 21: an unlisted whole number comes back as a value that is an exception, or that turns into another whole number
abbrev pub is_other : ℤ → Option ℤ → Bool
is_other z none = true
is_other z (some y) = not (eq_z z y)

abbrev pub strays : Format → Pair → ℤ → Option ℕ → Bool
strays fmt p z none = is_other z (tried fmt p (back fmt p z))
strays fmt p z (some b) = false

-- 22: a listed value is no exception
abbrev pub needless : Format → Pair → ℤ → Option ℕ → Bool
needless fmt p z none = false
needless fmt p z (some b) = not (exception fmt p b)

-- 23: a listed position doesn't hold the stand-in d
abbrev pub unfilled : ℤ → ℤ → Option ℕ → Bool
unfilled d z none = false
unfilled d z (some b) = not (eq_z z d)

-- the stand-in of a vector as it is read: the first unlisted whole number, or 0 if all are listed
abbrev pub unlisted : ℤ → Option ℕ → Option ℤ
unlisted z none = some z
unlisted z (some b) = none

abbrev pub stand_in_of : List ℤ → List (Option ℕ) → ℤ
stand_in_of zs ms = the_stand_in (zip_with unlisted zs ms)

-- 24: frame not the smallest, or width not the fewest bits
abbrev pub frame_off : Format → Raw → Bool
frame_off fmt r = r.frame isnt of_z (word fmt) (least (wholes fmt r))

abbrev pub width_off : Raw → Bool
width_off r = r.width isnt width_of (fields r)

-- ---- in their order

-- row a at the first position, counted from i, at which the condition is true
unfoldable pub first_rows : ℕ → ℕ → (ℤ → Option ℕ → Bool) → ℕ → List ℤ → List (Option ℕ) → Rows
first_rows a v at-fault i [] ms = no_rows
first_rows a v at-fault i (z ∷ zs) [] = no_rows
first_rows a v at-fault i (z ∷ zs) (m ∷ ms) = row a (in_vector_at v i) (at-fault z m) then first_rows a v at-fault (suc i) zs ms

-- 20 to 24 for vector v
unfoldable pub rules_rows : Format → ℕ → Raw → Rows
rules_rows fmt v r =
    let zs = wholes fmt r in
    let ms = marked r in
    row 20 (in_vector v) (unused_set r)
    then first_rows 21 v (strays fmt r.pair) 0 zs ms
    then first_rows 22 v (needless fmt r.pair) 0 zs ms
    then first_rows 23 v (unfilled (stand_in_of zs ms)) 0 zs ms
    then row 24 (in_vector v) (frame_off fmt r || width_off r)

unfoldable pub all_rules_rows : Format → ℕ → List Raw → Rows
all_rules_rows fmt v [] = no_rows
all_rules_rows fmt v (r ∷ rs) = rules_rows fmt v r then all_rules_rows fmt (suc v) rs

-- the page's rows, then 20 to 24
unfoldable pub examine_rows : Format → List ℕ → Rows
examine_rows fmt bs = page_rows fmt bs then all_rules_rows fmt 0 (raws_of fmt bs)

-- the examiner: done stands for the page's values
unfoldable pub examine_of : Format → List ℕ → Result
examine_of fmt bs = call (examine_rows fmt bs) (values_of fmt bs)

-- to unfold this is to unfold all of the above
unfoldable pub all_examine : Unit {0}
unfolding first_rows rules_rows all_rules_rows examine_rows examine_of
all_examine = tt
