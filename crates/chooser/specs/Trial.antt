-- What a vector has at least, when not all of its values were seen. Assumes nothing.
use Rattle.std.specs.Prelude.{ℕ}
use Rattle.encode.specs.Seen.{Seen}

-- the record of a vector of n values, as if those that were not seen cost nothing: each has the stand-in
abbrev pub rest_free : ℕ → Seen → Seen
rest_free n s = record { count = n; listed = s.listed; stand = s.stand; smallest = s.smallest; largest = s.largest }
