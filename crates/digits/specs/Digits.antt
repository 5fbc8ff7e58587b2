-- A list of digits in a base is a number, the lowest digit first: little-endian bytes are digits in base 256, packed fields of width w
-- are digits in base 2 ^ w. Assumes nothing.
use Rattle.std.specs.Prelude.{ℕ, zero, suc, ◌+◌, ◌*◌, ◌/◌, ◌%◌, ◌^◌, ◌<◌, List, [], ◌∷◌, ◌++◌, length, get_or, take, drop}

-- the number that some digits spell
unfoldable pub of_digits : ℕ → List ℕ → ℕ
of_digits b [] = 0
of_digits b (d ∷ ds) = of_digits b ds * b + d

-- the k lowest digits of n
unfoldable pub to_digits : ℕ → ℕ → ℕ → List ℕ
to_digits b zero n = []
to_digits b (suc k) n = n % b ∷ to_digits b k (n / b)

-- each digit is below b (and b is not 0, since `get_or` gives 0 past the end)
abbrev pub Below : ℕ → List ℕ → Type 0
Below b ds = (i : ℕ) → get_or ds i 0 < b

-- ---- little-endian numbers

-- n in k bytes, and the number that some bytes spell
abbrev pub le : ℕ → ℕ → List ℕ
le k n = to_digits 256 k n

abbrev pub number : List ℕ → ℕ
number bs = of_digits 256 bs

-- numbers one after the other, k bytes each, and the first c of them read back
unfoldable pub les : ℕ → List ℕ → List ℕ
les k [] = []
les k (n ∷ ns) = le k n ++ les k ns

unfoldable pub numbers : ℕ → ℕ → List ℕ → List ℕ
numbers k zero bs = []
numbers k (suc c) bs = number (take k bs) ∷ numbers k c (drop k bs)

-- ---- packed fields

-- how many bytes n fields of w bits take: their bits, rounded up
abbrev pub packed_size : ℕ → ℕ → ℕ
packed_size n w = (n * w + 7) / 8

-- the fields fs at width w, packed lowest bit first, and the n fields of width w that some bytes hold
abbrev pub pack : ℕ → List ℕ → List ℕ
pack w fs = to_digits 256 (packed_size (length fs) w) (of_digits (2 ^ w) fs)

abbrev pub unpack : ℕ → ℕ → List ℕ → List ℕ
unpack w n bs = to_digits (2 ^ w) n (of_digits 256 bs)

-- bit j of a number; and bit k of some bytes, bit 0 being the lowest of the first byte
abbrev pub bit : ℕ → ℕ → ℕ
bit n j = n / 2 ^ j % 2

abbrev pub bit_of : List ℕ → ℕ → ℕ
bit_of bs k = bit (get_or bs (k / 8) 0) (k % 8)

-- to unfold this is to unfold all of the above
unfoldable pub every_digit : Unit {0}
unfolding of_digits to_digits les numbers
every_digit = tt
