-- The record of a vector in progress: what a scan keeps of the values seen so far, one value at a time, and what it comes to. The code's
-- struct stands for it. Assumes nothing.
use Rattle.std.specs.Prelude.{ℕ, ◌+◌, ◌*◌, ◌≤◌, ◌<◌, ◌^◌, cond, List, [], ◌∷◌, length, ltb, ℤ, pos, ◌-ℤ◌, nat_abs, ◌≤ℤ◌}
use Rattle.std.proofs.Math.Option.{Option, none, some}
use Rattle.std.specs.Int.Signed.{le_z}
use Rattle.std.specs.Float.{Format}
use Rattle.std.specs.Float.Ieee.{size}
use Rattle.digits.specs.Digits.{packed_size}
use Rattle.rules.specs.Kind.{word_bits, word_bytes, meta_bytes}
use Rattle.rules.specs.Vector.{the_stand_in, filled, lesser, least, places}
use Rattle.encode.specs.Vectors.{Short}
use Rattle.encode.specs.declared.scan.Seen as code

-- counts of values and of exceptions; the stand-in, the smallest and the largest whole number, all three 0 while only exceptions were seen
pub record Seen : Type 0 where
  pub count : ℕ
  pub listed : ℕ
  pub stand : ℤ
  pub smallest : ℤ
  pub largest : ℤ

abbrev pub nothing : Seen
nothing = record { count = 0; listed = 0; stand = pos 0; smallest = pos 0; largest = pos 0 }

abbrev pub as_seen : code.Seen → Seen
as_seen r = record { count = r.count; listed = r.listed; stand = r.stand_in; smallest = r.smallest; largest = r.largest }

-- ---- what it is of some values: `least` has a twin here, since the rules know the largest field but not the largest whole number

abbrev pub greater : ℤ → ℤ → ℤ
greater a b = cond (le_z a b) b a

unfoldable pub most_of : ℤ → List ℤ → ℤ
most_of z [] = z
most_of z (y ∷ ys) = most_of (greater z y) ys

unfoldable pub most : List ℤ → ℤ
most [] = pos 0
most (z ∷ zs) = most_of z zs

unfoldable pub seen_of : List (Option ℤ) → Seen
seen_of ts = record { count = length ts; listed = length (places 0 ts); stand = the_stand_in ts; smallest = least (filled ts); largest = most (filled ts) }

-- ---- one value more

abbrev pub see : Seen → Option ℤ → Seen
see s none = record { count = s.count + 1; listed = s.listed + 1; stand = s.stand; smallest = s.smallest; largest = s.largest }
see s (some z) = record { count = s.count + 1; listed = s.listed; stand = s.stand; smallest = lesser s.smallest z; largest = greater s.largest z }

unfoldable pub see_all : Seen → List (Option ℤ) → Seen
see_all s [] = s
see_all s (t ∷ ts) = see_all (see s t) ts

-- the stand-in z of the values to come, where no value so far had a whole number
abbrev pub begun : Seen → ℤ → Seen
begun s z = cond (ltb s.listed s.count) s (record { count = s.count; listed = s.listed; stand = z; smallest = z; largest = z })

-- a piece more
abbrev pub see_more : Seen → List (Option ℤ) → Seen
see_more s ts = see_all (begun s (the_stand_in ts)) ts

-- ---- what it says of the vector's size

-- what every record of a vector keeps; the kind's word holds the largest field
pub record Kept (fmt : Format) (s : Seen) : Type 0 where
  pub short : Short s.count
  pub few : s.listed ≤ s.count
  pub ordered : s.smallest ≤ℤ s.largest
  pub narrow : nat_abs (s.largest -ℤ s.smallest) < 2 ^ word_bits fmt

abbrev pub width_seen : Seen → ℕ
width_seen s = size (nat_abs (s.largest -ℤ s.smallest))

-- where the packed fields end, and the vector
abbrev pub packed_end : Format → Seen → ℕ
packed_end fmt s = meta_bytes fmt + packed_size s.count (width_seen s)

abbrev pub size_seen : Format → Seen → ℕ
size_seen fmt s = packed_end fmt s + s.listed * (2 + word_bytes fmt)
