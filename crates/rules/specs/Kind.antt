-- The limits, each named once: those of a page, and those of the two float kinds (document 01's first table). Assumes nothing.
use Rattle.std.specs.Prelude.{ℕ, ◌+◌, ◌-◌, ◌^◌, ◌<◌, List}
use Rattle.std.specs.Float.{Format, binary32, binary64}
use Rattle.std.specs.Int.{Width, w32, w64}
use mir.Val.{bits, bytes}
use Rattle.digits.specs.Lists.{Each}

-- ---- of a page: a vector holds 2 ^ s values

abbrev pub min_s : ℕ
min_s = 3

abbrev pub max_s : ℕ
max_s = 10

abbrev pub max_values : ℕ
max_values = 16384

-- ---- of a kind: `binary32` and `binary64` are the toolchain's names for the 32-bit and the 64-bit floats

-- largest exponent E
abbrev pub max_exponent : Format → ℕ
max_exponent binary32 = 10
max_exponent binary64 = 18

-- largest scaled magnitude L
abbrev pub max_scaled : Format → ℕ
max_scaled binary32 = 2 ^ 31 - 128
max_scaled binary64 = 2 ^ 63 - 1024

-- the constant that rounding adds and subtracts: a half more than the smallest float whose neighbours are whole numbers, 2^23 or 2^52
abbrev pub rounding_constant : Format → ℕ
rounding_constant binary32 = 12582912
rounding_constant binary64 = 6755399441055744

-- the machine word of the kind; its bits are the largest width W, its bytes the size of a value
abbrev pub word : Format → Width
word binary32 = w32
word binary64 = w64

abbrev pub word_bits : Format → ℕ
word_bits fmt = bits (word fmt)

abbrev pub word_bytes : Format → ℕ
word_bytes fmt = bytes (word fmt)

-- metadata per vector: exponent (1), factor (1), count of exceptions (2), frame (a word), width (1)
abbrev pub meta_bytes : Format → ℕ
meta_bytes fmt = 5 + word_bytes fmt

-- ---- what is lent: bytes, and values as bit patterns of the kind

abbrev pub Bytes : List ℕ → Type 0
Bytes bs = Each (λ (b : ℕ). b < 256) bs

abbrev pub Values : Format → List ℕ → Type 0
Values fmt vs = Each (λ (v : ℕ). v < 2 ^ word_bits fmt) vs
